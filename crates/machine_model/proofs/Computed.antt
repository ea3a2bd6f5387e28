-- Definitions computed on small inputs: walks of a small map, hart masks, ranges of remote fences, starts of a hart, and
-- atomic accesses.
use Rattle.std.proofs.Common.{◌≡◌, refl, ℕ, ◌+◌, ◌-◌, ◌*◌, ◌^◌, [], ◌∷◌, ◌++◌, replicate, Option, Some, None, true, false, Bool}
use Rattle.std.specs.Prelude.{◌==◌, if◌then◌else◌}
use Rattle.rv64_priv.specs.State.{Arch}
use Rattle.rv64_priv.specs.declared.state.Hold.{Hold}
use Rattle.rv64_priv.specs.declared.state.Kind.{Kind}
use Rattle.rv64_priv.specs.declared.state.Regime.{Regime}
use Rattle.rv64_priv.specs.Flush.{Full, Pages}
use Rattle.rv64_priv.specs.Walk.{Levels, Walked, Leaf, PageFault, AccessFault, walk_of}
use Rattle.rv64_exec.specs.declared.needs.AmoOp.{AmoOp}
use Rattle.rv64_exec.specs.declared.needs.Need.{Need}
use Rattle.rv64_exec.specs.declared.needs.Answer.{Answer}
use Rattle.step_laws.specs.Words.{first_ram_word}
use Rattle.machine_model.specs.Memory.{write_of}
use Rattle.machine_model.specs.Perform.{perform, surroundings, fault_outcome}
use Rattle.machine_model.specs.Sbi.{Call, Gives, Begins, named, are_there, bits_of, fence_range, sbi_of, invalid_parameter, invalid_address, already_available}
use Rattle.machine_model.specs.declared.mode.Mode.TheVariants.{Started}
use Rattle.machine_model.specs.State.{Setup, State, Hart, hart, mode_of, initial, reset}
use Rattle.machine_model.specs.Change.{state_after, awaited}
use Rattle.machine_model.specs.Event.{Outcome, Start, only}

-- THE MAP

-- a root at 0x80010000 with a table, a table outside RAM and an identity of 1 GiB; a leaf of 2 MiB and one at no multiple of
-- it; pages of which one is the user's and one has a reserved bit
abbrev map : Levels
map level pa =
    if pa == 0x80010000 then 0x20004401 else if pa == 0x80010008 then 0x1c000001 else if pa == 0x80010010 then 0x200000cf else
    if pa == 0x80011000 then 0x20004801 else if pa == 0x80011008 then 0x200800c7 else if pa == 0x80011010 then 0x200804c7 else
    if pa == 0x80012008 then 0x200080c7 else if pa == 0x80012018 then 0x200080d7 else if pa == 0x80012020 then 0x00400000200080c7 else 0

abbrev under : (user sum : Bool) → Regime
under user sum = record { satp = 0x8000000000080010; user = user; sum = sum; mxr = false }

abbrev walk : Kind → (user sum : Bool) → ℕ → Walked
walk kind user sum va = walk_of 1024 (under user sum) kind map va

a_page : walk Kind.Load false false 0x1ffc ≡ Leaf 0x200080c7 0x80020000 0
unfolding walk_of
a_page = refl

a_large_page : walk Kind.Store false false 0x203004 ≡ Leaf 0x200800c7 0x80203000 1
unfolding walk_of
a_large_page = refl

the_identity : walk Kind.Fetch false false 0x80000018 ≡ Leaf 0x200000cf 0x80000000 2
unfolding walk_of
the_identity = refl

behind_ram : walk Kind.Load false false 0x80400000 ≡ AccessFault
unfolding walk_of
behind_ram = refl

no_page : walk Kind.Load false false 0x2000 ≡ PageFault
unfolding walk_of
no_page = refl

misaligned : walk Kind.Load false false 0x400000 ≡ PageFault
unfolding walk_of
misaligned = refl

reserved : walk Kind.Load false false 0x4000 ≡ PageFault
unfolding walk_of
reserved = refl

table_outside : walk Kind.Load false false 0x40000000 ≡ AccessFault
unfolding walk_of
table_outside = refl

the_users : walk Kind.Load false false 0x3000 ≡ PageFault
unfolding walk_of
the_users = refl

the_users_with_sum : walk Kind.Load false true 0x3000 ≡ Leaf 0x200080d7 0x80020000 0
unfolding walk_of
the_users_with_sum = refl

its_own : walk Kind.Load true false 0x3000 ≡ Leaf 0x200080d7 0x80020000 0
unfolding walk_of
its_own = refl

not_executable : walk Kind.Fetch false false 0x1000 ≡ PageFault
unfolding walk_of
not_executable = refl

not_canonical : walk Kind.Load false false (2 ^ 38) ≡ PageFault
unfolding walk_of
not_canonical = refl

-- HARTS NAMED BY A MASK

one_named : named 4 8 0 ≡ 3 ∷ []
one_named = refl

from_a_base : named 4 5 1 ≡ 1 ∷ 3 ∷ []
from_a_base = refl

all_named : named 4 0 (2 ^ 64 - 1) ≡ 0 ∷ 1 ∷ 2 ∷ 3 ∷ []
all_named = refl

absent : are_there 4 (named 4 1 9) ≡ false
absent = refl

-- a sum past the last number names no hart
past_all : are_there 4 (named 4 4 (2 ^ 64 - 2)) ≡ false
past_all = refl

bits : bits_of (0 ∷ 2 ∷ []) ≡ 5
bits = refl

-- RANGES OF REMOTE FENCES

both_zero : fence_range 0 0 ≡ Some Full
both_zero = refl

greatest_size : fence_range 4096 (2 ^ 64 - 1) ≡ Some Full
greatest_size = refl

size_zero : fence_range 0x5123 0 ≡ Some (Pages 5 1)
size_zero = refl

two_pages : fence_range 0xfff 2 ≡ Some (Pages 0 2)
two_pages = refl

sixty_four_pages : fence_range 0x1000 (64 * 4096) ≡ Some (Pages 1 64)
sixty_four_pages = refl

one_page_more : fence_range 0x1000 (64 * 4096 + 1) ≡ Some (Pages 1 65)
one_page_more = refl

most_pages : fence_range 0x1000 (512 * 4096) ≡ Some (Pages 1 512)
most_pages = refl

-- 513 pages, by one byte more or by a start within a page
more_pages : fence_range 0x1000 (512 * 4096 + 1) ≡ Some Full
more_pages = refl

more_pages_touched : fence_range 0x1fff (512 * 4096) ≡ Some Full
more_pages_touched = refl

last_page : fence_range (2 ^ 64 - 4096) 4096 ≡ Some (Pages (2 ^ 52 - 1) 1)
last_page = refl

past_the_last : fence_range (2 ^ 64 - 4096) 4097 ≡ None
past_the_last = refl

-- STARTS

abbrev two_harts : Setup
two_harts = record { layout = record { harts = 2; pages = 1024 }; image = λ word. 0; start = 0x80000000; limit = 50000000; script = [] }

-- a hart at a call of HSM start with these arguments
abbrev calling : (a0 a1 a2 : ℕ) → Arch
calling a0 a1 a2 = record (reset 0x80000000) { x = replicate 10 0 ++ a0 ∷ a1 ∷ a2 ∷ 0 ∷ 0 ∷ 0 ∷ 0 ∷ 0x48534D ∷ replicate 14 0 }

abbrev start : (a0 a1 a2 : ℕ) → Call
start a0 a1 a2 = sbi_of two_harts.layout (mode_of (initial two_harts)) (λ word. 0) (calling a0 a1 a2)

started : start 1 0x80000100 7 ≡ Begins 1 0x80000100 7
unfolding sbi_of
started = refl

itself : start 0 0x80000100 7 ≡ Gives already_available 0
unfolding sbi_of
itself = refl

off_four : start 1 0x80000102 7 ≡ Gives invalid_address 0
unfolding sbi_of
off_four = refl

outside : start 1 0x80400000 7 ≡ Gives invalid_address 0
unfolding sbi_of
outside = refl

nobody : start 9 0x80000100 7 ≡ Gives invalid_parameter 0
unfolding sbi_of
nobody = refl

-- the state in which hart 1 is pending, and the hart behind its turn
abbrev pending : State
pending = record (initial two_harts) { harts = hart (initial two_harts) 0 ∷ awaited (record { target = 1; at = 0x80000100; opaque = 7 }) (hart (initial two_harts) 1) ∷ [] }

abbrev begun : Hart
begun = hart (state_after (Start 1 0x80000100 7) pending) 1

begun_at : begun.arch.pc ≡ 0x80000100
begun_at = refl

begun_with : begun.arch.x ≡ replicate 10 0 ++ 1 ∷ 7 ∷ replicate 20 0
begun_with = refl

begun_mode : begun.mode ≡ Started
begun_mode = refl

-- ATOMIC ACCESSES

-- RAM's first word, of two halves
abbrev one_word : Setup
one_word = record two_harts { image = λ word. if word == first_ram_word then 0x1122334480000000 else 0 }

abbrev keeping : Option Hold → State
keeping hold = record (initial one_word) { harts = record (hart (initial one_word) 0) { arch = record (reset 0x80000000) { hold = hold } } ∷ [] }

-- what hart 0 does that holds this, by a walk with this end; by one that leads to RAM's first page; and by one that finds no page
abbrev by : Walked → Option Hold → Need → Outcome
by walk hold need = perform (surroundings one_word (keeping hold)) 0 (hart (keeping hold) 0).arch walk PageFault need

abbrev did : Option Hold → Need → Outcome
did hold need = by (Leaf 0xcf 0x80000000 0) hold need

abbrev lost : Need → Outcome
lost need = by PageFault None need

-- an operation that answered this and left that
abbrev changed : (old new : ℕ) → Outcome
changed old new = record (only (Answer.Value old)) { entry = Some (write_of first_ram_word new ∷ []) }

abbrev held : (pa : ℕ) → Bool → (word : ℕ) → Option Hold
held pa wide word = Some (record { pa = pa; wide = wide; word = word })

-- the low half is negative as a signed number, and answered so
greatest_of_words : did None (Need.Amo 0x80000000 AmoOp.Max false 1) ≡ changed 0xffffffff80000000 0x1122334400000001
unfolding perform
greatest_of_words = refl

greatest_unsigned : did None (Need.Amo 0x80000000 AmoOp.MaxU false 1) ≡ changed 0xffffffff80000000 0x1122334480000000
unfolding perform
greatest_unsigned = refl

least_of_words : did None (Need.Amo 0x80000000 AmoOp.Min false 0x7fffffff) ≡ changed 0xffffffff80000000 0x1122334480000000
unfolding perform
least_of_words = refl

least_unsigned : did None (Need.Amo 0x80000000 AmoOp.MinU false 0xffffffff7fffffff) ≡ changed 0xffffffff80000000 0x112233447fffffff
unfolding perform
least_unsigned = refl

-- of the register an operation on 4 bytes takes the low 32 bits
operand_of_a_word : did None (Need.Amo 0x80000004 AmoOp.Min false 0x180000000) ≡ changed 0x11223344 0x8000000080000000
unfolding perform
operand_of_a_word = refl

a_sum_wraps : did None (Need.Amo 0x80000004 AmoOp.Add false 0xffffffff) ≡ changed 0x11223344 0x1122334380000000
unfolding perform
a_sum_wraps = refl

a_wide_sum : did None (Need.Amo 0x80000000 AmoOp.Add true 0xffffffffffffffff) ≡ changed 0x1122334480000000 0x112233447fffffff
unfolding perform
a_wide_sum = refl

the_least : did None (Need.Amo 0x80000000 AmoOp.Min true 0xffffffffffffffff) ≡ changed 0x1122334480000000 0xffffffffffffffff
unfolding perform
the_least = refl

swapped : did None (Need.Amo 0x80000000 AmoOp.Swap false 0x5566778899aabbcc) ≡ changed 0xffffffff80000000 0x1122334499aabbcc
unfolding perform
swapped = refl

-- an LR of 4 bytes holds all 8 of its word
reserved_half : did None (Need.Lr 0x80000004 false) ≡ only (Answer.LrValue 0x11223344 (record { pa = 0x80000004; wide = false; word = 0x1122334480000000 }))
unfolding perform
reserved_half = refl

reserved_word : did None (Need.Lr 0x80000000 true) ≡ only (Answer.LrValue 0x1122334480000000 (record { pa = 0x80000000; wide = true; word = 0x1122334480000000 }))
unfolding perform
reserved_word = refl

conditional_store : did (held 0x80000000 false 0x1122334480000000) (Need.Sc 0x80000000 false 7) ≡ record (only (Answer.Sc true)) { entry = Some (write_of first_ram_word 0x1122334400000007 ∷ []) }
unfolding perform
conditional_store = refl

hold_of_another_width : did (held 0x80000000 true 0x1122334480000000) (Need.Sc 0x80000000 false 7) ≡ only (Answer.Sc false)
unfolding perform
hold_of_another_width = refl

other_half_changed : did (held 0x80000000 false 0x1122334580000000) (Need.Sc 0x80000000 false 7) ≡ only (Answer.Sc false)
unfolding perform
other_half_changed = refl

hold_of_the_other_half : did (held 0x80000004 false 0x1122334480000000) (Need.Sc 0x80000000 false 7) ≡ only (Answer.Sc false)
unfolding perform
hold_of_the_other_half = refl

no_hold : did None (Need.Sc 0x80000000 true 7) ≡ only (Answer.Sc false)
unfolding perform
no_hold = refl

-- at no multiple of the width, whatever the walk would give
operation_off_eight : did None (Need.Amo 0x80000004 AmoOp.Swap true 7) ≡ fault_outcome 6 0x80000004
unfolding perform
operation_off_eight = refl

reserve_off_four : lost (Need.Lr 0x80000002 false) ≡ fault_outcome 4 0x80000002
unfolding perform
reserve_off_four = refl

conditional_off_four : lost (Need.Sc 0x80000001 false 7) ≡ fault_outcome 6 0x80000001
unfolding perform
conditional_off_four = refl

-- an SC that holds nothing fault_outcome as a store does
conditional_without_page : lost (Need.Sc 0x80000000 false 7) ≡ fault_outcome 15 0x80000000
unfolding perform
conditional_without_page = refl

reserve_without_page : lost (Need.Lr 0x80000000 false) ≡ fault_outcome 13 0x80000000
unfolding perform
reserve_without_page = refl

operation_on_a_device : by (Leaf 0xcf 0x10000000 0) None (Need.Amo 0x80000000 AmoOp.Or false 7) ≡ fault_outcome 7 0x80000000
unfolding perform
operation_on_a_device = refl

reserve_on_a_device : by (Leaf 0xcf 0x10000000 0) None (Need.Lr 0x80000000 false) ≡ fault_outcome 5 0x80000000
unfolding perform
reserve_on_a_device = refl

conditional_on_a_device : by (Leaf 0xcf 0x10000000 0) None (Need.Sc 0x80000000 false 7) ≡ fault_outcome 7 0x80000000
unfolding perform
conditional_on_a_device = refl
