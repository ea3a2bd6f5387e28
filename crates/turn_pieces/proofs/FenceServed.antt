-- A stale translation until another hart's fence: hart 0 goes on by the walk that it made, though hart 1 has cleared the entry since, until
-- it serves the flush that hart 1 asks for; behind that a new walk faults. The log of hart 0 is written by hand, and is a chain of turns.
use Rattle.std.proofs.Common.{◌+◌, ◌*◌, ◌^◌, ℕ, true≢false, [], ◌∷◌, Option, Some, None, refl, sym, ap, subst, inl, inr, arith, pos, negsuc}
use Rattle.std.specs.Prelude.{◌==◌, if◌then◌else◌}
use Rattle.rv64_decode.specs.declared.instruction.Instr.{Instr}
use Rattle.rv64_decode.specs.declared.instruction.Instr.TheVariants.{Lui, Auipc, Addi, Slli, Or as OrRegister, Csrrw, Sd, Ecall}
use Rattle.rv64_decode.specs.Encoding.{encoding_of}
use Rattle.rv64_priv.specs.Flush.{Full}
use Rattle.rv64_priv.specs.Walk.{Walked, walk_of}
use Rattle.rv64_exec.specs.declared.needs.Answer.{Answer}
use Rattle.rv64_exec.specs.Code.{no_code}
use Rattle.rv64_exec.specs.Plan.{need_of}
use Rattle.rv64_exec.specs.Finish.{done}
use Rattle.step_laws.specs.declared.steps.WordOp.TheVariants.{Load, Store, Add, Exchange}
use Rattle.step_laws.specs.Words.{first_ram_word, first_place}
use Rattle.step_laws.specs.Map.{name_of}
use Rattle.machine_model.specs.Past.{this}
use Rattle.machine_model.specs.Event.{Event, Fetch, Exec, Flushes, only}
use Rattle.machine_model.specs.Memory.{Memory, write_of}
use Rattle.machine_model.specs.State.{Setup}
use Rattle.machine_model.specs.Own.{own_executed}
use Rattle.machine_model.specs.Perform.{perform}
use Rattle.machine_model.specs.Sbi.{sbi_of}
use Rattle.machine_model.specs.Walks.{need_held}
use Rattle.machine_model.specs.Lawful.{flushing}
use Rattle.walk_laws.specs.WalkLoads.{reads_of}
use Rattle.turn_pieces.specs.Log.{made, did, Log}
use Rattle.turn_pieces.specs.Kept.{own_part}
use Rattle.turn_pieces.specs.Doing.{IsQuiet}
use Rattle.turn_pieces.specs.Right.{AreFenced}
use Rattle.turn_pieces.specs.Grows.{Grows, stays, makes, does, IsClosed, none, turn, IsChain, whole}
use Rattle.turn_pieces.proofs.Writers.{grows_then}
use Rattle.turn_pieces.proofs.Unmarked.{unmarked}
use Rattle.turn_pieces.proofs.Rows.{step, code}

-- the code of hart 1 from 0x80000040 on, that of hart 0 from 0x80000080 on; the root table's entry of both is at 0x80000010
abbrev pub image : Memory
image x =
    if x == (first_ram_word + 8) then (encoding_of (Auipc 5 (pos 0)) + 2 ^ 32 * encoding_of (Sd 5 0 (negsuc 47))) else
    if x == (first_ram_word + 9) then (encoding_of (Addi 16 0 (pos 1)) + 2 ^ 32 * encoding_of (Lui 17 (pos 0x52464000))) else
    if x == (first_ram_word + 10) then (encoding_of (Addi 17 17 (pos 2047)) + 2 ^ 32 * encoding_of (Addi 17 17 (pos 1604))) else
    if x == (first_ram_word + 11) then (encoding_of (Ecall)) else
    if x == (first_ram_word + 16) then (encoding_of (Lui 17 (pos 0x485000)) + 2 ^ 32 * encoding_of (Addi 17 17 (pos 845))) else
    if x == (first_ram_word + 17) then (encoding_of (Addi 10 0 (pos 1)) + 2 ^ 32 * encoding_of (Auipc 11 (pos 0))) else
    if x == (first_ram_word + 18) then (encoding_of (Addi 11 11 (negsuc 75)) + 2 ^ 32 * encoding_of (Ecall)) else
    if x == (first_ram_word + 19) then (encoding_of (Addi 5 0 (pos 1)) + 2 ^ 32 * encoding_of (Slli 5 5 63)) else
    if x == (first_ram_word + 20) then (encoding_of (Lui 6 (pos 0x80000)) + 2 ^ 32 * encoding_of (OrRegister 5 5 6)) else
    if x == (first_ram_word + 21) then (encoding_of (Csrrw 0 5 0x180) + 2 ^ 32 * encoding_of (Addi 7 0 (pos 1))) else
    if x == (first_ram_word + 22) then (encoding_of (Addi 7 0 (pos 2)) + 2 ^ 32 * encoding_of (Addi 7 0 (pos 3))) else
    if x == (first_ram_word + 2) then 0x200000cf else 0

abbrev pub fencing : Setup
fencing = record { layout = record { harts = 2; pages = 1024 }; image = image; start = 0x80000080; limit = 50000000; script = [] }

abbrev pub fetched : (hart : ℕ) → Instr → Event
fetched h i = Fetch h (Walked.Leaf 0xcf 0x80000000 0) (code i)

pub fetched_quiet : (h : ℕ) (i : Instr) → IsQuiet (fetched h i)
fetched_quiet h i = record { does = record { entry_is = refl; bytes_are = refl; reason_is = refl; starts_is = refl; stops_is = refl }; begins_not = refl }

abbrev pub executed : (hart : ℕ) → Event
executed h = Exec h Walked.PageFault Walked.PageFault (only Answer.Nothing)

pub executed_quiet : (h : ℕ) → IsQuiet (executed h)
executed_quiet h = record { does = record { entry_is = refl; bytes_are = refl; reason_is = refl; starts_is = refl; stops_is = refl }; begins_not = refl }

-- hart 0 starts hart 1
abbrev pub starting : Event
starting = Exec 0 Walked.PageFault Walked.PageFault (record (only (Answer.Pair (pos 0) 0)) { starts = Some (record { target = 1; at = 0x80000040; opaque = 0 }) })

-- hart 1 stores 0 in the entry
abbrev pub cleared : Event
cleared = Exec 1 (Walked.Leaf 0xcf 0x80000000 0) Walked.PageFault (record (only Answer.Nothing) { entry = Some (write_of (first_ram_word + 2) 0 ∷ []) })

-- its remote fence is a success
abbrev pub fenced : Event
fenced = Exec 1 Walked.PageFault Walked.PageFault (only (Answer.Pair (pos 0) 0))

or_zero : Option ℕ → ℕ
or_zero None = 0
or_zero (Some n) = n

abbrev pub start_look : Log
start_look = made (step 0 2 Load 0 0) ∷ []

abbrev pub start_inside : Log
start_inside = made (step 0 1 Load 0 0) ∷ made (step 0 8 Store 1 0) ∷ start_look

abbrev pub start_code_1 : Log
start_code_1 = did (executed 0) ∷ did (fetched 0 (Lui 17 (pos 0x485000))) ∷ made (step 0 (first_ram_word + 16) Load 0 (encoding_of (Lui 17 (pos 0x485000)) + 2 ^ 32 * encoding_of (Addi 17 17 (pos 845)))) ∷ made (step 0 5 Load 0 0) ∷ start_inside

abbrev pub start_code_2 : Log
start_code_2 = did (executed 0) ∷ did (fetched 0 (Addi 17 17 (pos 845))) ∷ made (step 0 (first_ram_word + 16) Load 0 (encoding_of (Lui 17 (pos 0x485000)) + 2 ^ 32 * encoding_of (Addi 17 17 (pos 845)))) ∷ made (step 0 5 Load 0 0) ∷ start_code_1

abbrev pub start_code_3 : Log
start_code_3 = did (executed 0) ∷ did (fetched 0 (Addi 10 0 (pos 1))) ∷ made (step 0 (first_ram_word + 17) Load 0 (encoding_of (Addi 10 0 (pos 1)) + 2 ^ 32 * encoding_of (Auipc 11 (pos 0)))) ∷ made (step 0 5 Load 0 0) ∷ start_code_2

abbrev pub start_code_4 : Log
start_code_4 = did (executed 0) ∷ did (fetched 0 (Auipc 11 (pos 0))) ∷ made (step 0 (first_ram_word + 17) Load 0 (encoding_of (Addi 10 0 (pos 1)) + 2 ^ 32 * encoding_of (Auipc 11 (pos 0)))) ∷ made (step 0 5 Load 0 0) ∷ start_code_3

abbrev pub start_code_5 : Log
start_code_5 = did (executed 0) ∷ did (fetched 0 (Addi 11 11 (negsuc 75))) ∷ made (step 0 (first_ram_word + 18) Load 0 (encoding_of (Addi 11 11 (negsuc 75)) + 2 ^ 32 * encoding_of (Ecall))) ∷ made (step 0 5 Load 0 0) ∷ start_code_4

abbrev pub start_called : Log
start_called = made (step 0 29 (Exchange 1) 3 1) ∷ did (fetched 0 (Ecall)) ∷ made (step 0 (first_ram_word + 18) Load 0 (encoding_of (Addi 11 11 (negsuc 75)) + 2 ^ 32 * encoding_of (Ecall))) ∷ made (step 0 5 Load 0 0) ∷ start_code_5

abbrev pub start_turn : Log
start_turn = made (step 0 8 Store 0 0) ∷ made (step 0 29 Store 2 0) ∷ made (step 0 3 Add 1 1) ∷ made (step 0 31 Store 0 0) ∷ made (step 0 30 Store 0x80000040 0) ∷ did (starting) ∷ start_called

abbrev pub map_look : Log
map_look = made (step 0 2 Load 0 0) ∷ start_turn

abbrev pub map_inside : Log
map_inside = made (step 0 1 Load 0 0) ∷ made (step 0 8 Store 1 0) ∷ map_look

abbrev pub map_code_1 : Log
map_code_1 = did (executed 0) ∷ did (fetched 0 (Addi 5 0 (pos 1))) ∷ made (step 0 (first_ram_word + 19) Load 0 (encoding_of (Addi 5 0 (pos 1)) + 2 ^ 32 * encoding_of (Slli 5 5 63))) ∷ made (step 0 5 Load 0 0) ∷ map_inside

abbrev pub map_code_2 : Log
map_code_2 = did (executed 0) ∷ did (fetched 0 (Slli 5 5 63)) ∷ made (step 0 (first_ram_word + 19) Load 0 (encoding_of (Addi 5 0 (pos 1)) + 2 ^ 32 * encoding_of (Slli 5 5 63))) ∷ made (step 0 5 Load 0 0) ∷ map_code_1

abbrev pub map_code_3 : Log
map_code_3 = did (executed 0) ∷ did (fetched 0 (Lui 6 (pos 0x80000))) ∷ made (step 0 (first_ram_word + 20) Load 0 (encoding_of (Lui 6 (pos 0x80000)) + 2 ^ 32 * encoding_of (OrRegister 5 5 6))) ∷ made (step 0 5 Load 0 0) ∷ map_code_2

abbrev pub map_code_4 : Log
map_code_4 = did (executed 0) ∷ did (fetched 0 (OrRegister 5 5 6)) ∷ made (step 0 (first_ram_word + 20) Load 0 (encoding_of (Lui 6 (pos 0x80000)) + 2 ^ 32 * encoding_of (OrRegister 5 5 6))) ∷ made (step 0 5 Load 0 0) ∷ map_code_3

abbrev pub map_fetched : Log
map_fetched = did (fetched 0 (Csrrw 0 5 0x180)) ∷ made (step 0 (first_ram_word + 21) Load 0 (encoding_of (Csrrw 0 5 0x180) + 2 ^ 32 * encoding_of (Addi 7 0 (pos 1)))) ∷ made (step 0 5 Load 0 0) ∷ map_code_4

abbrev pub mapped : Log
mapped = did (executed 0) ∷ did (Flushes 0 Full) ∷ made (step 0 11 Store 0 0) ∷ made (step 0 11 (Exchange 0) 1 0) ∷ map_fetched

abbrev pub walked : Log
walked = did (executed 0) ∷ did (Fetch 0 (Walked.Leaf 0x200000cf 0x80000000 2) (code (Addi 7 0 (pos 1)))) ∷ made (step 0 (first_ram_word + 21) Load 0 (encoding_of (Csrrw 0 5 0x180) + 2 ^ 32 * encoding_of (Addi 7 0 (pos 1)))) ∷ made (step 0 (first_ram_word + 2) Load 0 0x200000cf) ∷ made (step 0 5 Load 0 0) ∷ mapped

abbrev pub map_turn : Log
map_turn = made (step 0 8 Store 0 0) ∷ walked

abbrev pub stale_look : Log
stale_look = made (step 0 2 Load 0 0) ∷ map_turn

abbrev pub stale_inside : Log
stale_inside = made (step 0 1 Load 0 0) ∷ made (step 0 8 Store 1 0) ∷ stale_look

abbrev pub stale : Log
stale = did (executed 0) ∷ did (Fetch 0 (Walked.Leaf 0x200000cf 0x80000000 2) (code (Addi 7 0 (pos 2)))) ∷ made (step 0 (first_ram_word + 22) Load 0 (encoding_of (Addi 7 0 (pos 2)) + 2 ^ 32 * encoding_of (Addi 7 0 (pos 3)))) ∷ made (step 0 5 Load 0 0) ∷ stale_inside

abbrev pub stale_turn : Log
stale_turn = made (step 0 8 Store 0 0) ∷ stale

abbrev pub serve_look : Log
serve_look = made (step 0 2 Load 0 0) ∷ stale_turn

abbrev pub flushed : Log
flushed = did (Flushes 0 Full) ∷ made (step 0 11 Store 0 0) ∷ made (step 0 11 (Exchange 0) 1 0) ∷ made (step 0 (first_place + 8) Load 0 1) ∷ serve_look

abbrev pub serve_turn : Log
serve_turn = made (step 0 (first_place + 8) Store 0 0) ∷ flushed

abbrev pub anew_look : Log
anew_look = made (step 0 2 Load 0 0) ∷ serve_turn

abbrev pub anew_inside : Log
anew_inside = made (step 0 1 Load 0 0) ∷ made (step 0 8 Store 1 0) ∷ anew_look

abbrev pub faulted : Log
faulted = did (Fetch 0 Walked.PageFault no_code) ∷ made (step 0 (first_ram_word + 2) Load 0 0) ∷ made (step 0 5 Load 0 0) ∷ anew_inside

abbrev pub fault_turn : Log
fault_turn = made (step 0 8 Store 0 0) ∷ faulted

start_inside_grows : Grows fencing 0 start_look start_inside
unfolding name_of need_of done walk_of sbi_of perform own_executed flushing reads_of
start_inside_grows = makes (step 0 1 Load 0 0) (makes (step 0 8 Store 1 0) (stays)
    (record { behind = (tt, refl); acks = tt; draws_last = tt }))
    (record { behind = (tt, refl); acks = tt; draws_last = tt })

start_code_1_grows : Grows fencing 0 start_inside start_code_1
unfolding name_of need_of done walk_of sbi_of perform own_executed flushing reads_of
start_code_1_grows = does (executed 0) (does (fetched 0 (Lui 17 (pos 0x485000))) (makes (step 0 (first_ram_word + 16) Load 0 (encoding_of (Lui 17 (pos 0x485000)) + 2 ^ 32 * encoding_of (Addi 17 17 (pos 845)))) (makes (step 0 5 Load 0 0) (stays)
    (record { behind = (tt, tt); acks = tt; draws_last = tt }))
    (record { behind = (tt, tt); acks = tt; draws_last = tt }))
    (record { own = refl; fit = (omega arith, record { runs = refl; holds_none = refl; not_due = refl; ipi = 0; loaded = (inr (inl ((refl, refl, refl), tt))); quiet = refl; shown = record { finds = λ x. 0; is_end = refl; stood = tt }; fetched = (refl, refl, refl, ((omega arith, (omega arith, omega arith), refl), refl)) }); pays = fetched_quiet 0 (Lui 17 (pos 0x485000)) }))
    (record { own = refl; fit = (omega arith, record { holds = refl; shown = tt; flushed = λ w s. tt; right = λ w s. refl }); pays = executed_quiet 0 })

start_code_2_grows : Grows fencing 0 start_code_1 start_code_2
unfolding name_of need_of done walk_of sbi_of perform own_executed flushing reads_of
start_code_2_grows = does (executed 0) (does (fetched 0 (Addi 17 17 (pos 845))) (makes (step 0 (first_ram_word + 16) Load 0 (encoding_of (Lui 17 (pos 0x485000)) + 2 ^ 32 * encoding_of (Addi 17 17 (pos 845)))) (makes (step 0 5 Load 0 0) (stays)
    (record { behind = (tt, tt); acks = tt; draws_last = tt }))
    (record { behind = (tt, tt); acks = tt; draws_last = tt }))
    (record { own = refl; fit = (omega arith, record { runs = refl; holds_none = refl; not_due = refl; ipi = 0; loaded = (inr (inl ((refl, refl, refl), tt))); quiet = refl; shown = record { finds = λ x. 0; is_end = refl; stood = tt }; fetched = (refl, refl, refl, ((omega arith, omega arith, (omega arith, omega arith)), refl)) }); pays = fetched_quiet 0 (Addi 17 17 (pos 845)) }))
    (record { own = refl; fit = (omega arith, record { holds = refl; shown = tt; flushed = λ w s. tt; right = λ w s. refl }); pays = executed_quiet 0 })

start_code_3_grows : Grows fencing 0 start_code_2 start_code_3
unfolding name_of need_of done walk_of sbi_of perform own_executed flushing reads_of
start_code_3_grows = does (executed 0) (does (fetched 0 (Addi 10 0 (pos 1))) (makes (step 0 (first_ram_word + 17) Load 0 (encoding_of (Addi 10 0 (pos 1)) + 2 ^ 32 * encoding_of (Auipc 11 (pos 0)))) (makes (step 0 5 Load 0 0) (stays)
    (record { behind = (tt, tt); acks = tt; draws_last = tt }))
    (record { behind = (tt, tt); acks = tt; draws_last = tt }))
    (record { own = refl; fit = (omega arith, record { runs = refl; holds_none = refl; not_due = refl; ipi = 0; loaded = (inr (inl ((refl, refl, refl), tt))); quiet = refl; shown = record { finds = λ x. 0; is_end = refl; stood = tt }; fetched = (refl, refl, refl, ((omega arith, omega arith, (omega arith, omega arith)), refl)) }); pays = fetched_quiet 0 (Addi 10 0 (pos 1)) }))
    (record { own = refl; fit = (omega arith, record { holds = refl; shown = tt; flushed = λ w s. tt; right = λ w s. refl }); pays = executed_quiet 0 })

start_code_4_grows : Grows fencing 0 start_code_3 start_code_4
unfolding name_of need_of done walk_of sbi_of perform own_executed flushing reads_of
start_code_4_grows = does (executed 0) (does (fetched 0 (Auipc 11 (pos 0))) (makes (step 0 (first_ram_word + 17) Load 0 (encoding_of (Addi 10 0 (pos 1)) + 2 ^ 32 * encoding_of (Auipc 11 (pos 0)))) (makes (step 0 5 Load 0 0) (stays)
    (record { behind = (tt, tt); acks = tt; draws_last = tt }))
    (record { behind = (tt, tt); acks = tt; draws_last = tt }))
    (record { own = refl; fit = (omega arith, record { runs = refl; holds_none = refl; not_due = refl; ipi = 0; loaded = (inr (inl ((refl, refl, refl), tt))); quiet = refl; shown = record { finds = λ x. 0; is_end = refl; stood = tt }; fetched = (refl, refl, refl, ((omega arith, (omega arith, omega arith), refl), refl)) }); pays = fetched_quiet 0 (Auipc 11 (pos 0)) }))
    (record { own = refl; fit = (omega arith, record { holds = refl; shown = tt; flushed = λ w s. tt; right = λ w s. refl }); pays = executed_quiet 0 })

start_code_5_grows : Grows fencing 0 start_code_4 start_code_5
unfolding name_of need_of done walk_of sbi_of perform own_executed flushing reads_of
start_code_5_grows = does (executed 0) (does (fetched 0 (Addi 11 11 (negsuc 75))) (makes (step 0 (first_ram_word + 18) Load 0 (encoding_of (Addi 11 11 (negsuc 75)) + 2 ^ 32 * encoding_of (Ecall))) (makes (step 0 5 Load 0 0) (stays)
    (record { behind = (tt, tt); acks = tt; draws_last = tt }))
    (record { behind = (tt, tt); acks = tt; draws_last = tt }))
    (record { own = refl; fit = (omega arith, record { runs = refl; holds_none = refl; not_due = refl; ipi = 0; loaded = (inr (inl ((refl, refl, refl), tt))); quiet = refl; shown = record { finds = λ x. 0; is_end = refl; stood = tt }; fetched = (refl, refl, refl, ((omega arith, omega arith, (omega arith, omega arith)), refl)) }); pays = fetched_quiet 0 (Addi 11 11 (negsuc 75)) }))
    (record { own = refl; fit = (omega arith, record { holds = refl; shown = tt; flushed = λ w s. tt; right = λ w s. refl }); pays = executed_quiet 0 })

start_called_grows : Grows fencing 0 start_code_5 start_called
unfolding name_of need_of done walk_of sbi_of perform own_executed flushing reads_of
start_called_grows = makes (step 0 29 (Exchange 1) 3 1) (does (fetched 0 (Ecall)) (makes (step 0 (first_ram_word + 18) Load 0 (encoding_of (Addi 11 11 (negsuc 75)) + 2 ^ 32 * encoding_of (Ecall))) (makes (step 0 5 Load 0 0) (stays)
    (record { behind = (tt, tt); acks = tt; draws_last = tt }))
    (record { behind = (tt, tt); acks = tt; draws_last = tt }))
    (record { own = refl; fit = (omega arith, record { runs = refl; holds_none = refl; not_due = refl; ipi = 0; loaded = (inr (inl ((refl, refl, refl), tt))); quiet = refl; shown = record { finds = λ x. 0; is_end = refl; stood = tt }; fetched = (refl, refl, refl, (tt, refl)) }); pays = fetched_quiet 0 (Ecall) }))
    (record { behind = (tt, λ e. (refl, refl)); acks = tt; draws_last = tt })

start_turn_grows : Grows fencing 0 start_called start_turn
unfolding name_of need_of done walk_of sbi_of perform own_executed flushing reads_of
start_turn_grows = makes (step 0 8 Store 0 0) (makes (step 0 29 Store 2 0) (makes (step 0 3 Add 1 1) (makes (step 0 31 Store 0 0) (makes (step 0 30 Store 0x80000040 0) (does (starting) (stays)
    (record { own = refl; fit = (omega arith, record { holds = refl; shown = tt; flushed = λ w s. subst (AreFenced 0 start_called) (λ i. flushing (record w { layout = sym s.layout i; modes = λ t. sym (s.here.1 1 (omega arith) refl (λ e. absurd (cc (e)))) i }) 0 (own_part fencing 0 start_called).arch (need_held (own_part fencing 0 start_called).arch (own_part fencing 0 start_called).held)) tt; right = λ w s. λ i. perform (record w { layout = sym s.layout i; modes = λ t. sym (s.here.1 1 (omega arith) refl (λ e. absurd (cc (e)))) i }) 0 (own_part fencing 0 start_called).arch Walked.PageFault Walked.PageFault (need_held (own_part fencing 0 start_called).arch (own_part fencing 0 start_called).held) }); pays = record { at = 0x80000040; opaque = 0; pays = record { does = record { entry_is = refl; bytes_are = refl; reason_is = refl; starts_is = refl; stops_is = refl }; begins_not = refl } } }))
    (record { behind = (tt, (0, refl)); acks = tt; draws_last = tt }))
    (record { behind = (tt, (0x80000040, refl)); acks = tt; draws_last = tt }))
    (record { behind = (tt, tt); acks = tt; draws_last = tt }))
    (record { behind = (tt, inl refl); acks = tt; draws_last = tt }))
    (record { behind = (tt, refl); acks = tt; draws_last = tt })

map_inside_grows : Grows fencing 0 map_look map_inside
unfolding name_of need_of done walk_of sbi_of perform own_executed flushing reads_of
map_inside_grows = makes (step 0 1 Load 0 0) (makes (step 0 8 Store 1 0) (stays)
    (record { behind = (tt, refl); acks = tt; draws_last = tt }))
    (record { behind = (tt, refl); acks = tt; draws_last = tt })

map_code_1_grows : Grows fencing 0 map_inside map_code_1
unfolding name_of need_of done walk_of sbi_of perform own_executed flushing reads_of
map_code_1_grows = does (executed 0) (does (fetched 0 (Addi 5 0 (pos 1))) (makes (step 0 (first_ram_word + 19) Load 0 (encoding_of (Addi 5 0 (pos 1)) + 2 ^ 32 * encoding_of (Slli 5 5 63))) (makes (step 0 5 Load 0 0) (stays)
    (record { behind = (tt, tt); acks = tt; draws_last = tt }))
    (record { behind = (tt, tt); acks = tt; draws_last = tt }))
    (record { own = refl; fit = (omega arith, record { runs = refl; holds_none = refl; not_due = refl; ipi = 0; loaded = (inr (inl ((refl, refl, refl), tt))); quiet = refl; shown = record { finds = λ x. 0; is_end = refl; stood = tt }; fetched = (refl, refl, refl, ((omega arith, omega arith, (omega arith, omega arith)), refl)) }); pays = fetched_quiet 0 (Addi 5 0 (pos 1)) }))
    (record { own = refl; fit = (omega arith, record { holds = refl; shown = tt; flushed = λ w s. tt; right = λ w s. refl }); pays = executed_quiet 0 })

map_code_2_grows : Grows fencing 0 map_code_1 map_code_2
unfolding name_of need_of done walk_of sbi_of perform own_executed flushing reads_of
map_code_2_grows = does (executed 0) (does (fetched 0 (Slli 5 5 63)) (makes (step 0 (first_ram_word + 19) Load 0 (encoding_of (Addi 5 0 (pos 1)) + 2 ^ 32 * encoding_of (Slli 5 5 63))) (makes (step 0 5 Load 0 0) (stays)
    (record { behind = (tt, tt); acks = tt; draws_last = tt }))
    (record { behind = (tt, tt); acks = tt; draws_last = tt }))
    (record { own = refl; fit = (omega arith, record { runs = refl; holds_none = refl; not_due = refl; ipi = 0; loaded = (inr (inl ((refl, refl, refl), tt))); quiet = refl; shown = record { finds = λ x. 0; is_end = refl; stood = tt }; fetched = (refl, refl, refl, ((omega arith, omega arith, omega arith), refl)) }); pays = fetched_quiet 0 (Slli 5 5 63) }))
    (record { own = refl; fit = (omega arith, record { holds = refl; shown = tt; flushed = λ w s. tt; right = λ w s. refl }); pays = executed_quiet 0 })

map_code_3_grows : Grows fencing 0 map_code_2 map_code_3
unfolding name_of need_of done walk_of sbi_of perform own_executed flushing reads_of
map_code_3_grows = does (executed 0) (does (fetched 0 (Lui 6 (pos 0x80000))) (makes (step 0 (first_ram_word + 20) Load 0 (encoding_of (Lui 6 (pos 0x80000)) + 2 ^ 32 * encoding_of (OrRegister 5 5 6))) (makes (step 0 5 Load 0 0) (stays)
    (record { behind = (tt, tt); acks = tt; draws_last = tt }))
    (record { behind = (tt, tt); acks = tt; draws_last = tt }))
    (record { own = refl; fit = (omega arith, record { runs = refl; holds_none = refl; not_due = refl; ipi = 0; loaded = (inr (inl ((refl, refl, refl), tt))); quiet = refl; shown = record { finds = λ x. 0; is_end = refl; stood = tt }; fetched = (refl, refl, refl, ((omega arith, (omega arith, omega arith), refl), refl)) }); pays = fetched_quiet 0 (Lui 6 (pos 0x80000)) }))
    (record { own = refl; fit = (omega arith, record { holds = refl; shown = tt; flushed = λ w s. tt; right = λ w s. refl }); pays = executed_quiet 0 })

map_code_4_grows : Grows fencing 0 map_code_3 map_code_4
unfolding name_of need_of done walk_of sbi_of perform own_executed flushing reads_of
map_code_4_grows = does (executed 0) (does (fetched 0 (OrRegister 5 5 6)) (makes (step 0 (first_ram_word + 20) Load 0 (encoding_of (Lui 6 (pos 0x80000)) + 2 ^ 32 * encoding_of (OrRegister 5 5 6))) (makes (step 0 5 Load 0 0) (stays)
    (record { behind = (tt, tt); acks = tt; draws_last = tt }))
    (record { behind = (tt, tt); acks = tt; draws_last = tt }))
    (record { own = refl; fit = (omega arith, record { runs = refl; holds_none = refl; not_due = refl; ipi = 0; loaded = (inr (inl ((refl, refl, refl), tt))); quiet = refl; shown = record { finds = λ x. 0; is_end = refl; stood = tt }; fetched = (refl, refl, refl, ((omega arith, omega arith, omega arith), refl)) }); pays = fetched_quiet 0 (OrRegister 5 5 6) }))
    (record { own = refl; fit = (omega arith, record { holds = refl; shown = tt; flushed = λ w s. tt; right = λ w s. refl }); pays = executed_quiet 0 })

map_fetched_grows : Grows fencing 0 map_code_4 map_fetched
unfolding name_of need_of done walk_of sbi_of perform own_executed flushing reads_of
map_fetched_grows = does (fetched 0 (Csrrw 0 5 0x180)) (makes (step 0 (first_ram_word + 21) Load 0 (encoding_of (Csrrw 0 5 0x180) + 2 ^ 32 * encoding_of (Addi 7 0 (pos 1)))) (makes (step 0 5 Load 0 0) (stays)
    (record { behind = (tt, tt); acks = tt; draws_last = tt }))
    (record { behind = (tt, tt); acks = tt; draws_last = tt }))
    (record { own = refl; fit = (omega arith, record { runs = refl; holds_none = refl; not_due = refl; ipi = 0; loaded = (inr (inl ((refl, refl, refl), tt))); quiet = refl; shown = record { finds = λ x. 0; is_end = refl; stood = tt }; fetched = (refl, refl, refl, ((omega arith, omega arith, omega arith), refl)) }); pays = fetched_quiet 0 (Csrrw 0 5 0x180) })

mapped_grows : Grows fencing 0 map_fetched mapped
unfolding name_of need_of done walk_of sbi_of perform own_executed flushing reads_of
mapped_grows = does (executed 0) (does (Flushes 0 Full) (makes (step 0 11 Store 0 0) (makes (step 0 11 (Exchange 0) 1 0) (stays)
    (record { behind = (tt, tt); acks = tt; draws_last = tt }))
    (record { behind = (tt, tt); acks = tt; draws_last = tt }))
    (record { own = refl; fit = (omega arith, refl); pays = record { does = record { entry_is = refl; bytes_are = refl; reason_is = refl; starts_is = refl; stops_is = refl }; begins_not = refl } }))
    (record { own = refl; fit = (omega arith, record { holds = refl; shown = tt; flushed = λ w s. (((λ e. this refl), (λ ne. absurd (ne refl))), tt); right = λ w s. refl }); pays = executed_quiet 0 })

walked_grows : Grows fencing 0 mapped walked
unfolding name_of need_of done walk_of sbi_of perform own_executed flushing reads_of
walked_grows = does (executed 0) (does (Fetch 0 (Walked.Leaf 0x200000cf 0x80000000 2) (code (Addi 7 0 (pos 1)))) (makes (step 0 (first_ram_word + 21) Load 0 (encoding_of (Csrrw 0 5 0x180) + 2 ^ 32 * encoding_of (Addi 7 0 (pos 1)))) (makes (step 0 (first_ram_word + 2) Load 0 0x200000cf) (makes (step 0 5 Load 0 0) (stays)
    (record { behind = (tt, tt); acks = tt; draws_last = tt }))
    (record { behind = (tt, tt); acks = tt; draws_last = tt }))
    (record { behind = (tt, tt); acks = tt; draws_last = tt }))
    (record { own = refl; fit = (omega arith, record { runs = refl; holds_none = refl; not_due = refl; ipi = 0; loaded = (inr (inr (inl ((refl, refl, refl), tt)))); quiet = refl; shown = record { finds = λ x. 0x200000cf; is_end = refl; stood = (inr (inl ((refl, refl, refl), tt))) }; fetched = (refl, refl, refl, ((omega arith, omega arith, (omega arith, omega arith)), refl)) }); pays = record { does = record { entry_is = refl; bytes_are = refl; reason_is = refl; starts_is = refl; stops_is = refl }; begins_not = refl } }))
    (record { own = refl; fit = (omega arith, record { holds = refl; shown = tt; flushed = λ w s. tt; right = λ w s. refl }); pays = executed_quiet 0 })

map_turn_grows : Grows fencing 0 walked map_turn
unfolding name_of need_of done walk_of sbi_of perform own_executed flushing reads_of
map_turn_grows = makes (step 0 8 Store 0 0) (stays)
    (record { behind = (tt, refl); acks = tt; draws_last = tt })

stale_inside_grows : Grows fencing 0 stale_look stale_inside
unfolding name_of need_of done walk_of sbi_of perform own_executed flushing reads_of
stale_inside_grows = makes (step 0 1 Load 0 0) (makes (step 0 8 Store 1 0) (stays)
    (record { behind = (tt, refl); acks = tt; draws_last = tt }))
    (record { behind = (tt, refl); acks = tt; draws_last = tt })

stale_grows : Grows fencing 0 stale_inside stale
unfolding name_of need_of done walk_of sbi_of perform own_executed flushing reads_of
stale_grows = does (executed 0) (does (Fetch 0 (Walked.Leaf 0x200000cf 0x80000000 2) (code (Addi 7 0 (pos 2)))) (makes (step 0 (first_ram_word + 22) Load 0 (encoding_of (Addi 7 0 (pos 2)) + 2 ^ 32 * encoding_of (Addi 7 0 (pos 3)))) (makes (step 0 5 Load 0 0) (stays)
    (record { behind = (tt, tt); acks = tt; draws_last = tt }))
    (record { behind = (tt, tt); acks = tt; draws_last = tt }))
    (record { own = refl; fit = (omega arith, record { runs = refl; holds_none = refl; not_due = refl; ipi = 0; loaded = (inr (inl ((refl, refl, refl), tt))); quiet = refl; shown = record { finds = λ x. 0x200000cf; is_end = refl; stood = (inr (inr (inr (inr (inr (inr (refl, (refl, (inr (inl ((refl, refl, refl), tt))))))))))) }; fetched = (refl, refl, refl, ((omega arith, omega arith, (omega arith, omega arith)), refl)) }); pays = record { does = record { entry_is = refl; bytes_are = refl; reason_is = refl; starts_is = refl; stops_is = refl }; begins_not = refl } }))
    (record { own = refl; fit = (omega arith, record { holds = refl; shown = tt; flushed = λ w s. tt; right = λ w s. refl }); pays = executed_quiet 0 })

stale_turn_grows : Grows fencing 0 stale stale_turn
unfolding name_of need_of done walk_of sbi_of perform own_executed flushing reads_of
stale_turn_grows = makes (step 0 8 Store 0 0) (stays)
    (record { behind = (tt, refl); acks = tt; draws_last = tt })

flushed_grows : Grows fencing 0 serve_look flushed
unfolding name_of need_of done walk_of sbi_of perform own_executed flushing reads_of
flushed_grows = does (Flushes 0 Full) (makes (step 0 11 Store 0 0) (makes (step 0 11 (Exchange 0) 1 0) (makes (step 0 (first_place + 8) Load 0 1) (stays)
    (record { behind = (tt, tt); acks = tt; draws_last = tt }))
    (record { behind = (tt, tt); acks = tt; draws_last = tt }))
    (record { behind = (tt, tt); acks = tt; draws_last = tt }))
    (record { own = refl; fit = (omega arith, refl); pays = record { does = record { entry_is = refl; bytes_are = refl; reason_is = refl; starts_is = refl; stops_is = refl }; begins_not = refl } })

serve_turn_grows : Grows fencing 0 flushed serve_turn
unfolding or_zero name_of need_of done walk_of sbi_of perform own_executed flushing reads_of
serve_turn_grows = makes (step 0 (first_place + 8) Store 0 0) (stays)
    (record { behind = (tt, tt); acks = λ e q loaded drain. inl (refl, (λ k. absurd (cc (k))), inr ((λ k. absurd (cc (k))), inr ((λ k. absurd (cc (k))), inl (refl, refl, ap or_zero loaded)))); draws_last = tt })

anew_inside_grows : Grows fencing 0 anew_look anew_inside
unfolding name_of need_of done walk_of sbi_of perform own_executed flushing reads_of
anew_inside_grows = makes (step 0 1 Load 0 0) (makes (step 0 8 Store 1 0) (stays)
    (record { behind = (tt, refl); acks = tt; draws_last = tt }))
    (record { behind = (tt, refl); acks = tt; draws_last = tt })

faulted_grows : Grows fencing 0 anew_inside faulted
unfolding name_of need_of done walk_of sbi_of perform own_executed flushing reads_of
faulted_grows = does (Fetch 0 Walked.PageFault no_code) (makes (step 0 (first_ram_word + 2) Load 0 0) (makes (step 0 5 Load 0 0) (stays)
    (record { behind = (tt, tt); acks = tt; draws_last = tt }))
    (record { behind = (tt, tt); acks = tt; draws_last = tt }))
    (record { own = refl; fit = (omega arith, record { runs = refl; holds_none = refl; not_due = refl; ipi = 0; loaded = (inr (inl ((refl, refl, refl), tt))); quiet = refl; shown = record { finds = λ x. 0; is_end = refl; stood = (inl ((refl, refl, refl), tt)) }; fetched = refl }); pays = record { does = record { entry_is = refl; bytes_are = refl; reason_is = refl; starts_is = refl; stops_is = refl }; begins_not = refl } })

fault_turn_grows : Grows fencing 0 faulted fault_turn
unfolding name_of need_of done walk_of sbi_of perform own_executed flushing reads_of
fault_turn_grows = makes (step 0 8 Store 0 0) (stays)
    (record { behind = (tt, refl); acks = tt; draws_last = tt })

start_turn_closed : IsClosed fencing 0 start_turn
unfolding name_of need_of done walk_of sbi_of perform own_executed flushing reads_of
start_turn_closed = record {
  clear = tt;
  none_drawn = refl;
  none_left = refl;
  stops = refl;
  last = λ e. absurd (true≢false (sym e));
  left = refl;
  full = λ e. absurd (cc (e));
  marks = λ page. unmarked fencing 0 page start_turn refl;
  snapshot = λ e. absurd (omega (arith, e));
}

map_turn_closed : IsClosed fencing 0 map_turn
unfolding name_of need_of done walk_of sbi_of perform own_executed flushing reads_of
map_turn_closed = record {
  clear = tt;
  none_drawn = refl;
  none_left = refl;
  stops = refl;
  last = λ e. absurd (true≢false (sym e));
  left = refl;
  full = λ e. absurd (cc (e));
  marks = λ page. unmarked fencing 0 page map_turn refl;
  snapshot = λ e. absurd (omega (arith, e));
}

stale_turn_closed : IsClosed fencing 0 stale_turn
unfolding name_of need_of done walk_of sbi_of perform own_executed flushing reads_of
stale_turn_closed = record {
  clear = tt;
  none_drawn = refl;
  none_left = refl;
  stops = refl;
  last = λ e. absurd (true≢false (sym e));
  left = refl;
  full = λ e. absurd (cc (e));
  marks = λ page. unmarked fencing 0 page stale_turn refl;
  snapshot = λ e. absurd (omega (arith, e));
}

serve_turn_closed : IsClosed fencing 0 serve_turn
unfolding name_of need_of done walk_of sbi_of perform own_executed flushing reads_of
serve_turn_closed = record {
  clear = tt;
  none_drawn = refl;
  none_left = refl;
  stops = refl;
  last = λ e. absurd (true≢false (sym e));
  left = refl;
  full = λ e. absurd (cc (e));
  marks = λ page. unmarked fencing 0 page serve_turn refl;
  snapshot = λ e. absurd (omega (arith, e));
}

fault_turn_closed : IsClosed fencing 0 fault_turn
unfolding name_of need_of done walk_of sbi_of perform own_executed flushing reads_of
fault_turn_closed = record {
  clear = tt;
  none_drawn = refl;
  none_left = refl;
  stops = refl;
  last = λ e. absurd (true≢false (sym e));
  left = refl;
  full = λ e. absurd (cc (e));
  marks = λ page. unmarked fencing 0 page fault_turn refl;
  snapshot = λ e. absurd (omega (arith, e));
}

-- five turns
pub serving_chain : IsChain fencing 0 5 fault_turn
unfolding name_of
serving_chain = whole (turn (turn (turn (turn (turn (none) (record { look = step 0 2 Load 0 0; looks = (refl, refl); once = refl; grows = grows_then fencing 0 start_look start_called (grows_then fencing 0 start_look start_code_5 (grows_then fencing 0 start_look start_code_4 (grows_then fencing 0 start_look start_code_3 (grows_then fencing 0 start_look start_code_2 (grows_then fencing 0 start_look start_code_1 (grows_then fencing 0 start_look start_inside (grows_then fencing 0 start_look start_look (stays) start_inside_grows) start_code_1_grows) start_code_2_grows) start_code_3_grows) start_code_4_grows) start_code_5_grows) start_called_grows) start_turn_grows; closed = start_turn_closed })) (record { look = step 0 2 Load 0 0; looks = (refl, refl); once = refl; grows = grows_then fencing 0 map_look walked (grows_then fencing 0 map_look mapped (grows_then fencing 0 map_look map_fetched (grows_then fencing 0 map_look map_code_4 (grows_then fencing 0 map_look map_code_3 (grows_then fencing 0 map_look map_code_2 (grows_then fencing 0 map_look map_code_1 (grows_then fencing 0 map_look map_inside (grows_then fencing 0 map_look map_look (stays) map_inside_grows) map_code_1_grows) map_code_2_grows) map_code_3_grows) map_code_4_grows) map_fetched_grows) mapped_grows) walked_grows) map_turn_grows; closed = map_turn_closed })) (record { look = step 0 2 Load 0 0; looks = (refl, refl); once = refl; grows = grows_then fencing 0 stale_look stale (grows_then fencing 0 stale_look stale_inside (grows_then fencing 0 stale_look stale_look (stays) stale_inside_grows) stale_grows) stale_turn_grows; closed = stale_turn_closed })) (record { look = step 0 2 Load 0 0; looks = (refl, refl); once = refl; grows = grows_then fencing 0 serve_look flushed (grows_then fencing 0 serve_look serve_look (stays) flushed_grows) serve_turn_grows; closed = serve_turn_closed })) (record { look = step 0 2 Load 0 0; looks = (refl, refl); once = refl; grows = grows_then fencing 0 anew_look faulted (grows_then fencing 0 anew_look anew_inside (grows_then fencing 0 anew_look anew_look (stays) anew_inside_grows) faulted_grows) fault_turn_grows; closed = fault_turn_closed }))
