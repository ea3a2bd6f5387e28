-- A store over two words beside loads of another hart: hart 0 claims the section while hart 1 is inside, which loads the first of the words
-- and leaves; then hart 0 stores, and hart 1 loads both. The log of each is written by hand, and is a chain of turns.
use Rattle.std.proofs.Common.{◌+◌, ◌*◌, ◌^◌, ℕ, true≢false, [], ◌∷◌, Some, refl, sym, ap, subst, inl, inr, arith, pos, negsuc}
use Rattle.std.specs.Prelude.{◌==◌, if◌then◌else◌}
use Rattle.rv64_decode.specs.declared.instruction.Instr.{Instr}
use Rattle.rv64_decode.specs.declared.instruction.Instr.TheVariants.{Lui, Auipc, Addi, Ld, Sd, Ecall}
use Rattle.rv64_decode.specs.Encoding.{encoding_of}
use Rattle.rv64_priv.specs.Flush.{Full}
use Rattle.rv64_priv.specs.Walk.{Walked, walk_of}
use Rattle.rv64_exec.specs.declared.needs.Answer.{Answer}
use Rattle.rv64_exec.specs.Plan.{need_of}
use Rattle.rv64_exec.specs.Finish.{done}
use Rattle.step_laws.specs.declared.steps.WordOp.TheVariants.{Load, Store, Add, Or, Exchange}
use Rattle.step_laws.specs.Words.{first_ram_word, first_dirty_word}
use Rattle.step_laws.specs.Map.{name_of}
use Rattle.machine_model.specs.Event.{Event, Fetch, Exec, Flushes, Start as Begin, only}
use Rattle.machine_model.specs.Memory.{Memory, write_of}
use Rattle.machine_model.specs.State.{Setup}
use Rattle.machine_model.specs.Own.{own_executed}
use Rattle.machine_model.specs.Perform.{perform}
use Rattle.machine_model.specs.Sbi.{sbi_of}
use Rattle.machine_model.specs.Walks.{need_held}
use Rattle.machine_model.specs.Lawful.{flushing}
use Rattle.walk_laws.specs.WalkLoads.{reads_of}
use Rattle.turn_pieces.specs.Log.{made, did, Log}
use Rattle.turn_pieces.specs.Kept.{own_part}
use Rattle.turn_pieces.specs.Doing.{IsQuiet}
use Rattle.turn_pieces.specs.Right.{AreFenced}
use Rattle.turn_pieces.specs.Grows.{Grows, stays, makes, does, IsClosed, none, turn, IsChain, whole}
use Rattle.turn_pieces.proofs.Writers.{grows_then}
use Rattle.turn_pieces.proofs.Unmarked.{unmarked, zero_marked}
use Rattle.turn_pieces.proofs.Rows.{step, code}
use Rattle.turn_pieces.proofs.Wrong.{apart}

-- the code, from 0x80000000 on, of which hart 1 begins at 0x80000028
abbrev pub image : Memory
image x =
    if x == first_ram_word then (encoding_of (Lui 17 (pos 0x485000)) + 2 ^ 32 * encoding_of (Addi 17 17 (pos 845))) else
    if x == (first_ram_word + 1) then (encoding_of (Addi 10 0 (pos 1)) + 2 ^ 32 * encoding_of (Auipc 11 (pos 0))) else
    if x == (first_ram_word + 2) then (encoding_of (Addi 11 11 (pos 28)) + 2 ^ 32 * encoding_of (Ecall)) else
    if x == (first_ram_word + 3) then (encoding_of (Auipc 11 (pos 0)) + 2 ^ 32 * encoding_of (Addi 11 11 (pos 40))) else
    if x == (first_ram_word + 4) then (encoding_of (Addi 10 0 (negsuc 0)) + 2 ^ 32 * encoding_of (Sd 11 10 (pos 4))) else
    if x == (first_ram_word + 5) then (encoding_of (Auipc 11 (pos 0)) + 2 ^ 32 * encoding_of (Addi 11 11 (pos 24))) else
    if x == (first_ram_word + 6) then (encoding_of (Ld 10 11 (pos 0)) + 2 ^ 32 * encoding_of (Ld 12 11 (pos 0))) else
    if x == (first_ram_word + 7) then (encoding_of (Ld 13 11 (pos 8))) else 0

abbrev pub crossing : Setup
crossing = record { layout = record { harts = 2; pages = 1024 }; image = image; start = 0x80000000; limit = 50000000; script = [] }

abbrev pub fetched : (hart : ℕ) → Instr → Event
fetched h i = Fetch h (Walked.Leaf 0xcf 0x80000000 0) (code i)

fetched_quiet : (h : ℕ) (i : Instr) → IsQuiet (fetched h i)
fetched_quiet h i = record { does = record { entry_is = refl; bytes_are = refl; reason_is = refl; starts_is = refl; stops_is = refl }; begins_not = refl }

abbrev pub executed : (hart : ℕ) → Event
executed h = Exec h Walked.PageFault Walked.PageFault (only Answer.Nothing)

executed_quiet : (h : ℕ) → IsQuiet (executed h)
executed_quiet h = record { does = record { entry_is = refl; bytes_are = refl; reason_is = refl; starts_is = refl; stops_is = refl }; begins_not = refl }

-- hart 0 starts hart 1
abbrev pub starting : Event
starting = Exec 0 Walked.PageFault Walked.PageFault (record (only (Answer.Pair (pos 0) 0)) { starts = Some (record { target = 1; at = 0x80000028; opaque = 0 }) })

-- -1 is stored in the upper half of one word and the lower half of the next
abbrev pub crossed : Event
crossed = Exec 0 (Walked.Leaf 0xcf 0x80000000 0) Walked.PageFault
    (record (only Answer.Nothing) { entry = Some (write_of (first_ram_word + 8) 0xffffffff00000000 ∷ write_of (first_ram_word + 9) 0xffffffff ∷ []) })

-- hart 1 loads a word
abbrev pub loaded : (value : ℕ) → Event
loaded value = Exec 1 (Walked.Leaf 0xcf 0x80000000 0) Walked.PageFault (only (Answer.Value value))

abbrev pub start_look : Log
start_look = made (step 0 2 Load 0 0) ∷ []

abbrev pub start_inside : Log
start_inside = made (step 0 1 Load 0 0) ∷ made (step 0 8 Store 1 0) ∷ start_look

abbrev pub start_code_1 : Log
start_code_1 = did (executed 0) ∷ did (fetched 0 (Lui 17 (pos 0x485000))) ∷ made (step 0 first_ram_word Load 0 (encoding_of (Lui 17 (pos 0x485000)) + 2 ^ 32 * encoding_of (Addi 17 17 (pos 845)))) ∷ made (step 0 5 Load 0 0) ∷ start_inside

abbrev pub start_code_2 : Log
start_code_2 = did (executed 0) ∷ did (fetched 0 (Addi 17 17 (pos 845))) ∷ made (step 0 first_ram_word Load 0 (encoding_of (Lui 17 (pos 0x485000)) + 2 ^ 32 * encoding_of (Addi 17 17 (pos 845)))) ∷ made (step 0 5 Load 0 0) ∷ start_code_1

abbrev pub start_code_3 : Log
start_code_3 = did (executed 0) ∷ did (fetched 0 (Addi 10 0 (pos 1))) ∷ made (step 0 (first_ram_word + 1) Load 0 (encoding_of (Addi 10 0 (pos 1)) + 2 ^ 32 * encoding_of (Auipc 11 (pos 0)))) ∷ made (step 0 5 Load 0 0) ∷ start_code_2

abbrev pub start_code_4 : Log
start_code_4 = did (executed 0) ∷ did (fetched 0 (Auipc 11 (pos 0))) ∷ made (step 0 (first_ram_word + 1) Load 0 (encoding_of (Addi 10 0 (pos 1)) + 2 ^ 32 * encoding_of (Auipc 11 (pos 0)))) ∷ made (step 0 5 Load 0 0) ∷ start_code_3

abbrev pub start_code_5 : Log
start_code_5 = did (executed 0) ∷ did (fetched 0 (Addi 11 11 (pos 28))) ∷ made (step 0 (first_ram_word + 2) Load 0 (encoding_of (Addi 11 11 (pos 28)) + 2 ^ 32 * encoding_of (Ecall))) ∷ made (step 0 5 Load 0 0) ∷ start_code_4

abbrev pub start_called : Log
start_called = made (step 0 29 (Exchange 1) 3 1) ∷ did (fetched 0 (Ecall)) ∷ made (step 0 (first_ram_word + 2) Load 0 (encoding_of (Addi 11 11 (pos 28)) + 2 ^ 32 * encoding_of (Ecall))) ∷ made (step 0 5 Load 0 0) ∷ start_code_5

abbrev pub start_turn : Log
start_turn = made (step 0 8 Store 0 0) ∷ made (step 0 29 Store 2 0) ∷ made (step 0 3 Add 1 1) ∷ made (step 0 31 Store 0 0) ∷ made (step 0 30 Store 0x80000028 0) ∷ did (starting) ∷ start_called

abbrev pub ready_look : Log
ready_look = made (step 0 2 Load 0 0) ∷ start_turn

abbrev pub ready_inside : Log
ready_inside = made (step 0 1 Load 0 0) ∷ made (step 0 8 Store 1 0) ∷ ready_look

abbrev pub ready_code_1 : Log
ready_code_1 = did (executed 0) ∷ did (fetched 0 (Auipc 11 (pos 0))) ∷ made (step 0 (first_ram_word + 3) Load 0 (encoding_of (Auipc 11 (pos 0)) + 2 ^ 32 * encoding_of (Addi 11 11 (pos 40)))) ∷ made (step 0 5 Load 0 0) ∷ ready_inside

abbrev pub ready_code_2 : Log
ready_code_2 = did (executed 0) ∷ did (fetched 0 (Addi 11 11 (pos 40))) ∷ made (step 0 (first_ram_word + 3) Load 0 (encoding_of (Auipc 11 (pos 0)) + 2 ^ 32 * encoding_of (Addi 11 11 (pos 40)))) ∷ made (step 0 5 Load 0 0) ∷ ready_code_1

abbrev pub ready_code_3 : Log
ready_code_3 = did (executed 0) ∷ did (fetched 0 (Addi 10 0 (negsuc 0))) ∷ made (step 0 (first_ram_word + 4) Load 0 (encoding_of (Addi 10 0 (negsuc 0)) + 2 ^ 32 * encoding_of (Sd 11 10 (pos 4)))) ∷ made (step 0 5 Load 0 0) ∷ ready_code_2

abbrev pub ready_turn : Log
ready_turn = made (step 0 8 Store 0 0) ∷ ready_code_3

abbrev pub cross_look : Log
cross_look = made (step 0 2 Load 0 0) ∷ ready_turn

abbrev pub claimed : Log
claimed = made (step 0 24 Load 0 1) ∷ made (step 0 1 (Exchange 0) 1 0) ∷ cross_look

abbrev pub in_section : Log
in_section = made (step 0 136 Load 0 0) ∷ made (step 0 24 Load 0 0) ∷ claimed

abbrev pub both_loaded : Log
both_loaded = made (step 0 (first_ram_word + 9) Load 0 0) ∷ made (step 0 (first_ram_word + 8) Load 0 0) ∷ made (step 0 first_dirty_word Or 1 0) ∷ did (fetched 0 (Sd 11 10 (pos 4))) ∷ made (step 0 (first_ram_word + 4) Load 0 (encoding_of (Addi 10 0 (negsuc 0)) + 2 ^ 32 * encoding_of (Sd 11 10 (pos 4)))) ∷ made (step 0 5 Load 0 0) ∷ in_section

abbrev pub both_stored : Log
both_stored = made (step 0 (first_ram_word + 9) Store 0xffffffff 0) ∷ made (step 0 (first_ram_word + 8) Store 0xffffffff00000000 0) ∷ both_loaded

abbrev pub cross_turn : Log
cross_turn = made (step 0 1 Store 0 0) ∷ did (crossed) ∷ both_stored

abbrev pub last_look : Log
last_look = made (step 0 2 Load 0 0) ∷ cross_turn

abbrev pub last_inside : Log
last_inside = made (step 0 1 Load 0 0) ∷ made (step 0 8 Store 1 0) ∷ last_look

abbrev pub last_code : Log
last_code = did (executed 0) ∷ did (fetched 0 (Auipc 11 (pos 0))) ∷ made (step 0 (first_ram_word + 5) Load 0 (encoding_of (Auipc 11 (pos 0)) + 2 ^ 32 * encoding_of (Addi 11 11 (pos 24)))) ∷ made (step 0 5 Load 0 0) ∷ last_inside

abbrev pub last_turn : Log
last_turn = made (step 0 8 Store 0 0) ∷ last_code

start_inside_grows : Grows crossing 0 start_look start_inside
unfolding name_of need_of done walk_of sbi_of perform own_executed flushing reads_of
start_inside_grows = makes (step 0 1 Load 0 0) (makes (step 0 8 Store 1 0) (stays)
    (record { behind = (tt, refl); acks = tt; draws_last = tt }))
    (record { behind = (tt, refl); acks = tt; draws_last = tt })

start_code_1_grows : Grows crossing 0 start_inside start_code_1
unfolding name_of need_of done walk_of sbi_of perform own_executed flushing reads_of
start_code_1_grows = does (executed 0) (does (fetched 0 (Lui 17 (pos 0x485000))) (makes (step 0 first_ram_word Load 0 (encoding_of (Lui 17 (pos 0x485000)) + 2 ^ 32 * encoding_of (Addi 17 17 (pos 845)))) (makes (step 0 5 Load 0 0) (stays)
    (record { behind = (tt, tt); acks = tt; draws_last = tt }))
    (record { behind = (tt, tt); acks = tt; draws_last = tt }))
    (record { own = refl; fit = (omega arith, record { runs = refl; holds_none = refl; not_due = refl; ipi = 0; loaded = (inr (inl ((refl, refl, refl), tt))); quiet = refl; shown = record { finds = λ x. 0; is_end = refl; stood = tt }; fetched = (refl, refl, refl, ((omega arith, (omega arith, omega arith), refl), refl)) }); pays = fetched_quiet 0 (Lui 17 (pos 0x485000)) }))
    (record { own = refl; fit = (omega arith, record { holds = refl; shown = tt; flushed = λ w s. tt; right = λ w s. refl }); pays = executed_quiet 0 })

start_code_2_grows : Grows crossing 0 start_code_1 start_code_2
unfolding name_of need_of done walk_of sbi_of perform own_executed flushing reads_of
start_code_2_grows = does (executed 0) (does (fetched 0 (Addi 17 17 (pos 845))) (makes (step 0 first_ram_word Load 0 (encoding_of (Lui 17 (pos 0x485000)) + 2 ^ 32 * encoding_of (Addi 17 17 (pos 845)))) (makes (step 0 5 Load 0 0) (stays)
    (record { behind = (tt, tt); acks = tt; draws_last = tt }))
    (record { behind = (tt, tt); acks = tt; draws_last = tt }))
    (record { own = refl; fit = (omega arith, record { runs = refl; holds_none = refl; not_due = refl; ipi = 0; loaded = (inr (inl ((refl, refl, refl), tt))); quiet = refl; shown = record { finds = λ x. 0; is_end = refl; stood = tt }; fetched = (refl, refl, refl, ((omega arith, omega arith, (omega arith, omega arith)), refl)) }); pays = fetched_quiet 0 (Addi 17 17 (pos 845)) }))
    (record { own = refl; fit = (omega arith, record { holds = refl; shown = tt; flushed = λ w s. tt; right = λ w s. refl }); pays = executed_quiet 0 })

start_code_3_grows : Grows crossing 0 start_code_2 start_code_3
unfolding name_of need_of done walk_of sbi_of perform own_executed flushing reads_of
start_code_3_grows = does (executed 0) (does (fetched 0 (Addi 10 0 (pos 1))) (makes (step 0 (first_ram_word + 1) Load 0 (encoding_of (Addi 10 0 (pos 1)) + 2 ^ 32 * encoding_of (Auipc 11 (pos 0)))) (makes (step 0 5 Load 0 0) (stays)
    (record { behind = (tt, tt); acks = tt; draws_last = tt }))
    (record { behind = (tt, tt); acks = tt; draws_last = tt }))
    (record { own = refl; fit = (omega arith, record { runs = refl; holds_none = refl; not_due = refl; ipi = 0; loaded = (inr (inl ((refl, refl, refl), tt))); quiet = refl; shown = record { finds = λ x. 0; is_end = refl; stood = tt }; fetched = (refl, refl, refl, ((omega arith, omega arith, (omega arith, omega arith)), refl)) }); pays = fetched_quiet 0 (Addi 10 0 (pos 1)) }))
    (record { own = refl; fit = (omega arith, record { holds = refl; shown = tt; flushed = λ w s. tt; right = λ w s. refl }); pays = executed_quiet 0 })

start_code_4_grows : Grows crossing 0 start_code_3 start_code_4
unfolding name_of need_of done walk_of sbi_of perform own_executed flushing reads_of
start_code_4_grows = does (executed 0) (does (fetched 0 (Auipc 11 (pos 0))) (makes (step 0 (first_ram_word + 1) Load 0 (encoding_of (Addi 10 0 (pos 1)) + 2 ^ 32 * encoding_of (Auipc 11 (pos 0)))) (makes (step 0 5 Load 0 0) (stays)
    (record { behind = (tt, tt); acks = tt; draws_last = tt }))
    (record { behind = (tt, tt); acks = tt; draws_last = tt }))
    (record { own = refl; fit = (omega arith, record { runs = refl; holds_none = refl; not_due = refl; ipi = 0; loaded = (inr (inl ((refl, refl, refl), tt))); quiet = refl; shown = record { finds = λ x. 0; is_end = refl; stood = tt }; fetched = (refl, refl, refl, ((omega arith, (omega arith, omega arith), refl), refl)) }); pays = fetched_quiet 0 (Auipc 11 (pos 0)) }))
    (record { own = refl; fit = (omega arith, record { holds = refl; shown = tt; flushed = λ w s. tt; right = λ w s. refl }); pays = executed_quiet 0 })

start_code_5_grows : Grows crossing 0 start_code_4 start_code_5
unfolding name_of need_of done walk_of sbi_of perform own_executed flushing reads_of
start_code_5_grows = does (executed 0) (does (fetched 0 (Addi 11 11 (pos 28))) (makes (step 0 (first_ram_word + 2) Load 0 (encoding_of (Addi 11 11 (pos 28)) + 2 ^ 32 * encoding_of (Ecall))) (makes (step 0 5 Load 0 0) (stays)
    (record { behind = (tt, tt); acks = tt; draws_last = tt }))
    (record { behind = (tt, tt); acks = tt; draws_last = tt }))
    (record { own = refl; fit = (omega arith, record { runs = refl; holds_none = refl; not_due = refl; ipi = 0; loaded = (inr (inl ((refl, refl, refl), tt))); quiet = refl; shown = record { finds = λ x. 0; is_end = refl; stood = tt }; fetched = (refl, refl, refl, ((omega arith, omega arith, (omega arith, omega arith)), refl)) }); pays = fetched_quiet 0 (Addi 11 11 (pos 28)) }))
    (record { own = refl; fit = (omega arith, record { holds = refl; shown = tt; flushed = λ w s. tt; right = λ w s. refl }); pays = executed_quiet 0 })

start_called_grows : Grows crossing 0 start_code_5 start_called
unfolding name_of need_of done walk_of sbi_of perform own_executed flushing reads_of
start_called_grows = makes (step 0 29 (Exchange 1) 3 1) (does (fetched 0 (Ecall)) (makes (step 0 (first_ram_word + 2) Load 0 (encoding_of (Addi 11 11 (pos 28)) + 2 ^ 32 * encoding_of (Ecall))) (makes (step 0 5 Load 0 0) (stays)
    (record { behind = (tt, tt); acks = tt; draws_last = tt }))
    (record { behind = (tt, tt); acks = tt; draws_last = tt }))
    (record { own = refl; fit = (omega arith, record { runs = refl; holds_none = refl; not_due = refl; ipi = 0; loaded = (inr (inl ((refl, refl, refl), tt))); quiet = refl; shown = record { finds = λ x. 0; is_end = refl; stood = tt }; fetched = (refl, refl, refl, (tt, refl)) }); pays = fetched_quiet 0 (Ecall) }))
    (record { behind = (tt, λ e. (refl, refl)); acks = tt; draws_last = tt })

start_turn_grows : Grows crossing 0 start_called start_turn
unfolding name_of need_of done walk_of sbi_of perform own_executed flushing reads_of
start_turn_grows = makes (step 0 8 Store 0 0) (makes (step 0 29 Store 2 0) (makes (step 0 3 Add 1 1) (makes (step 0 31 Store 0 0) (makes (step 0 30 Store 0x80000028 0) (does (starting) (stays)
    (record { own = refl; fit = (omega arith, record { holds = refl; shown = tt; flushed = λ w s. subst (AreFenced 0 start_called) (λ i. flushing (record w { layout = sym s.layout i; modes = λ t. sym (s.here.1 1 (omega arith) refl (λ e. absurd (cc (e)))) i }) 0 (own_part crossing 0 start_called).arch (need_held (own_part crossing 0 start_called).arch (own_part crossing 0 start_called).held)) tt; right = λ w s. λ i. perform (record w { layout = sym s.layout i; modes = λ t. sym (s.here.1 1 (omega arith) refl (λ e. absurd (cc (e)))) i }) 0 (own_part crossing 0 start_called).arch Walked.PageFault Walked.PageFault (need_held (own_part crossing 0 start_called).arch (own_part crossing 0 start_called).held) }); pays = record { at = 0x80000028; opaque = 0; pays = record { does = record { entry_is = refl; bytes_are = refl; reason_is = refl; starts_is = refl; stops_is = refl }; begins_not = refl } } }))
    (record { behind = (tt, (0, refl)); acks = tt; draws_last = tt }))
    (record { behind = (tt, (0x80000028, refl)); acks = tt; draws_last = tt }))
    (record { behind = (tt, tt); acks = tt; draws_last = tt }))
    (record { behind = (tt, inl refl); acks = tt; draws_last = tt }))
    (record { behind = (tt, refl); acks = tt; draws_last = tt })

ready_inside_grows : Grows crossing 0 ready_look ready_inside
unfolding name_of need_of done walk_of sbi_of perform own_executed flushing reads_of
ready_inside_grows = makes (step 0 1 Load 0 0) (makes (step 0 8 Store 1 0) (stays)
    (record { behind = (tt, refl); acks = tt; draws_last = tt }))
    (record { behind = (tt, refl); acks = tt; draws_last = tt })

ready_code_1_grows : Grows crossing 0 ready_inside ready_code_1
unfolding name_of need_of done walk_of sbi_of perform own_executed flushing reads_of
ready_code_1_grows = does (executed 0) (does (fetched 0 (Auipc 11 (pos 0))) (makes (step 0 (first_ram_word + 3) Load 0 (encoding_of (Auipc 11 (pos 0)) + 2 ^ 32 * encoding_of (Addi 11 11 (pos 40)))) (makes (step 0 5 Load 0 0) (stays)
    (record { behind = (tt, tt); acks = tt; draws_last = tt }))
    (record { behind = (tt, tt); acks = tt; draws_last = tt }))
    (record { own = refl; fit = (omega arith, record { runs = refl; holds_none = refl; not_due = refl; ipi = 0; loaded = (inr (inl ((refl, refl, refl), tt))); quiet = refl; shown = record { finds = λ x. 0; is_end = refl; stood = tt }; fetched = (refl, refl, refl, ((omega arith, (omega arith, omega arith), refl), refl)) }); pays = fetched_quiet 0 (Auipc 11 (pos 0)) }))
    (record { own = refl; fit = (omega arith, record { holds = refl; shown = tt; flushed = λ w s. tt; right = λ w s. refl }); pays = executed_quiet 0 })

ready_code_2_grows : Grows crossing 0 ready_code_1 ready_code_2
unfolding name_of need_of done walk_of sbi_of perform own_executed flushing reads_of
ready_code_2_grows = does (executed 0) (does (fetched 0 (Addi 11 11 (pos 40))) (makes (step 0 (first_ram_word + 3) Load 0 (encoding_of (Auipc 11 (pos 0)) + 2 ^ 32 * encoding_of (Addi 11 11 (pos 40)))) (makes (step 0 5 Load 0 0) (stays)
    (record { behind = (tt, tt); acks = tt; draws_last = tt }))
    (record { behind = (tt, tt); acks = tt; draws_last = tt }))
    (record { own = refl; fit = (omega arith, record { runs = refl; holds_none = refl; not_due = refl; ipi = 0; loaded = (inr (inl ((refl, refl, refl), tt))); quiet = refl; shown = record { finds = λ x. 0; is_end = refl; stood = tt }; fetched = (refl, refl, refl, ((omega arith, omega arith, (omega arith, omega arith)), refl)) }); pays = fetched_quiet 0 (Addi 11 11 (pos 40)) }))
    (record { own = refl; fit = (omega arith, record { holds = refl; shown = tt; flushed = λ w s. tt; right = λ w s. refl }); pays = executed_quiet 0 })

ready_code_3_grows : Grows crossing 0 ready_code_2 ready_code_3
unfolding name_of need_of done walk_of sbi_of perform own_executed flushing reads_of
ready_code_3_grows = does (executed 0) (does (fetched 0 (Addi 10 0 (negsuc 0))) (makes (step 0 (first_ram_word + 4) Load 0 (encoding_of (Addi 10 0 (negsuc 0)) + 2 ^ 32 * encoding_of (Sd 11 10 (pos 4)))) (makes (step 0 5 Load 0 0) (stays)
    (record { behind = (tt, tt); acks = tt; draws_last = tt }))
    (record { behind = (tt, tt); acks = tt; draws_last = tt }))
    (record { own = refl; fit = (omega arith, record { runs = refl; holds_none = refl; not_due = refl; ipi = 0; loaded = (inr (inl ((refl, refl, refl), tt))); quiet = refl; shown = record { finds = λ x. 0; is_end = refl; stood = tt }; fetched = (refl, refl, refl, ((omega arith, omega arith, (omega arith, omega arith)), refl)) }); pays = fetched_quiet 0 (Addi 10 0 (negsuc 0)) }))
    (record { own = refl; fit = (omega arith, record { holds = refl; shown = tt; flushed = λ w s. tt; right = λ w s. refl }); pays = executed_quiet 0 })

ready_turn_grows : Grows crossing 0 ready_code_3 ready_turn
unfolding name_of need_of done walk_of sbi_of perform own_executed flushing reads_of
ready_turn_grows = makes (step 0 8 Store 0 0) (stays)
    (record { behind = (tt, refl); acks = tt; draws_last = tt })

claimed_grows : Grows crossing 0 cross_look claimed
unfolding name_of need_of done walk_of sbi_of perform own_executed flushing reads_of
claimed_grows = makes (step 0 24 Load 0 1) (makes (step 0 1 (Exchange 0) 1 0) (stays)
    (record { behind = (tt, refl); acks = tt; draws_last = tt }))
    (record { behind = (tt, refl); acks = tt; draws_last = tt })

in_section_grows : Grows crossing 0 claimed in_section
unfolding name_of need_of done walk_of sbi_of perform own_executed flushing reads_of
in_section_grows = makes (step 0 136 Load 0 0) (makes (step 0 24 Load 0 0) (stays)
    (record { behind = (tt, refl); acks = tt; draws_last = tt }))
    (record { behind = (tt, refl); acks = tt; draws_last = tt })

both_loaded_grows : Grows crossing 0 in_section both_loaded
unfolding name_of need_of done walk_of sbi_of perform own_executed flushing reads_of
both_loaded_grows = makes (step 0 (first_ram_word + 9) Load 0 0) (makes (step 0 (first_ram_word + 8) Load 0 0) (makes (step 0 first_dirty_word Or 1 0) (does (fetched 0 (Sd 11 10 (pos 4))) (makes (step 0 (first_ram_word + 4) Load 0 (encoding_of (Addi 10 0 (negsuc 0)) + 2 ^ 32 * encoding_of (Sd 11 10 (pos 4)))) (makes (step 0 5 Load 0 0) (stays)
    (record { behind = (tt, tt); acks = tt; draws_last = tt }))
    (record { behind = (tt, tt); acks = tt; draws_last = tt }))
    (record { own = refl; fit = (omega arith, record { runs = refl; holds_none = refl; not_due = refl; ipi = 0; loaded = (inr (inl ((refl, refl, refl), tt))); quiet = refl; shown = record { finds = λ x. 0; is_end = refl; stood = tt }; fetched = (refl, refl, refl, ((omega arith, omega arith, (omega arith, omega arith)), refl)) }); pays = fetched_quiet 0 (Sd 11 10 (pos 4)) }))
    (record { behind = (tt, tt); acks = tt; draws_last = tt }))
    (record { behind = (tt, tt); acks = tt; draws_last = tt }))
    (record { behind = (tt, tt); acks = tt; draws_last = tt })

both_stored_grows : Grows crossing 0 both_loaded both_stored
unfolding name_of need_of done walk_of sbi_of perform own_executed flushing reads_of
both_stored_grows = makes (step 0 (first_ram_word + 9) Store 0xffffffff 0) (makes (step 0 (first_ram_word + 8) Store 0xffffffff00000000 0) (stays)
    (record { behind = (tt, tt); acks = tt; draws_last = tt }))
    (record { behind = ((refl, refl), λ e. apart (first_ram_word + 8) (first_ram_word + 9) refl e); acks = tt; draws_last = tt })

cross_turn_grows : Grows crossing 0 both_stored cross_turn
unfolding name_of need_of done walk_of sbi_of perform own_executed flushing reads_of
cross_turn_grows = makes (step 0 1 Store 0 0) (does (crossed) (stays)
    (record { own = refl; fit = (omega arith, record { holds = refl; shown = record { first_page = record { finds = λ x. 0; is_end = refl; stood = tt }; second_page = λ e. absurd (true≢false (sym e)) }; flushed = λ w s. tt; right = λ w s. λ i. perform (record w { memory = λ k. if k == first_ram_word + 8 then sym (s.section (refl, refl) (first_ram_word + 8) 0 tt refl) i else sym (s.section (refl, refl) (first_ram_word + 9) 0 tt refl) i }) 0 (own_part crossing 0 both_stored).arch (Walked.Leaf 0xcf 0x80000000 0) Walked.PageFault (need_held (own_part crossing 0 both_stored).arch (own_part crossing 0 both_stored).held) }); pays = record { does = record { entry_is = refl; bytes_are = refl; reason_is = refl; starts_is = refl; stops_is = refl }; begins_not = refl } }))
    (record { behind = (tt, refl); acks = tt; draws_last = tt })

last_inside_grows : Grows crossing 0 last_look last_inside
unfolding name_of need_of done walk_of sbi_of perform own_executed flushing reads_of
last_inside_grows = makes (step 0 1 Load 0 0) (makes (step 0 8 Store 1 0) (stays)
    (record { behind = (tt, refl); acks = tt; draws_last = tt }))
    (record { behind = (tt, refl); acks = tt; draws_last = tt })

last_code_grows : Grows crossing 0 last_inside last_code
unfolding name_of need_of done walk_of sbi_of perform own_executed flushing reads_of
last_code_grows = does (executed 0) (does (fetched 0 (Auipc 11 (pos 0))) (makes (step 0 (first_ram_word + 5) Load 0 (encoding_of (Auipc 11 (pos 0)) + 2 ^ 32 * encoding_of (Addi 11 11 (pos 24)))) (makes (step 0 5 Load 0 0) (stays)
    (record { behind = (tt, tt); acks = tt; draws_last = tt }))
    (record { behind = (tt, tt); acks = tt; draws_last = tt }))
    (record { own = refl; fit = (omega arith, record { runs = refl; holds_none = refl; not_due = refl; ipi = 0; loaded = (inr (inl ((refl, refl, refl), tt))); quiet = refl; shown = record { finds = λ x. 0; is_end = refl; stood = tt }; fetched = (refl, refl, refl, ((omega arith, (omega arith, omega arith), refl), refl)) }); pays = fetched_quiet 0 (Auipc 11 (pos 0)) }))
    (record { own = refl; fit = (omega arith, record { holds = refl; shown = tt; flushed = λ w s. tt; right = λ w s. refl }); pays = executed_quiet 0 })

last_turn_grows : Grows crossing 0 last_code last_turn
unfolding name_of need_of done walk_of sbi_of perform own_executed flushing reads_of
last_turn_grows = makes (step 0 8 Store 0 0) (stays)
    (record { behind = (tt, refl); acks = tt; draws_last = tt })

start_turn_closed : IsClosed crossing 0 start_turn
unfolding name_of need_of done walk_of sbi_of perform own_executed flushing reads_of
start_turn_closed = record {
  clear = tt;
  none_drawn = refl;
  none_left = refl;
  stops = refl;
  last = λ e. absurd (true≢false (sym e));
  left = refl;
  full = λ e. absurd (cc (e));
  marks = λ page. unmarked crossing 0 page start_turn refl;
  snapshot = λ e. absurd (omega (arith, e));
}

ready_turn_closed : IsClosed crossing 0 ready_turn
unfolding name_of need_of done walk_of sbi_of perform own_executed flushing reads_of
ready_turn_closed = record {
  clear = tt;
  none_drawn = refl;
  none_left = refl;
  stops = refl;
  last = λ e. absurd (true≢false (sym e));
  left = refl;
  full = λ e. absurd (cc (e));
  marks = λ page. unmarked crossing 0 page ready_turn refl;
  snapshot = λ e. absurd (omega (arith, e));
}

cross_turn_closed : IsClosed crossing 0 cross_turn
unfolding name_of need_of done walk_of sbi_of perform own_executed flushing reads_of
cross_turn_closed = record {
  clear = tt;
  none_drawn = refl;
  none_left = refl;
  stops = refl;
  last = λ e. absurd (true≢false (sym e));
  left = refl;
  full = λ e. absurd (cc (e));
  marks = zero_marked crossing 0 cross_turn refl refl;
  snapshot = λ e. absurd (omega (arith, e));
}

last_turn_closed : IsClosed crossing 0 last_turn
unfolding name_of need_of done walk_of sbi_of perform own_executed flushing reads_of
last_turn_closed = record {
  clear = tt;
  none_drawn = refl;
  none_left = refl;
  stops = refl;
  last = λ e. absurd (true≢false (sym e));
  left = refl;
  full = λ e. absurd (cc (e));
  marks = zero_marked crossing 0 last_turn refl refl;
  snapshot = λ e. absurd (omega (arith, e));
}

-- four turns
pub first_hart_chain : IsChain crossing 0 4 last_turn
unfolding name_of
first_hart_chain = whole (turn (turn (turn (turn (none) (record { look = step 0 2 Load 0 0; looks = (refl, refl); once = refl; grows = grows_then crossing 0 start_look start_called (grows_then crossing 0 start_look start_code_5 (grows_then crossing 0 start_look start_code_4 (grows_then crossing 0 start_look start_code_3 (grows_then crossing 0 start_look start_code_2 (grows_then crossing 0 start_look start_code_1 (grows_then crossing 0 start_look start_inside (grows_then crossing 0 start_look start_look (stays) start_inside_grows) start_code_1_grows) start_code_2_grows) start_code_3_grows) start_code_4_grows) start_code_5_grows) start_called_grows) start_turn_grows; closed = start_turn_closed })) (record { look = step 0 2 Load 0 0; looks = (refl, refl); once = refl; grows = grows_then crossing 0 ready_look ready_code_3 (grows_then crossing 0 ready_look ready_code_2 (grows_then crossing 0 ready_look ready_code_1 (grows_then crossing 0 ready_look ready_inside (grows_then crossing 0 ready_look ready_look (stays) ready_inside_grows) ready_code_1_grows) ready_code_2_grows) ready_code_3_grows) ready_turn_grows; closed = ready_turn_closed })) (record { look = step 0 2 Load 0 0; looks = (refl, refl); once = refl; grows = grows_then crossing 0 cross_look both_stored (grows_then crossing 0 cross_look both_loaded (grows_then crossing 0 cross_look in_section (grows_then crossing 0 cross_look claimed (grows_then crossing 0 cross_look cross_look (stays) claimed_grows) in_section_grows) both_loaded_grows) both_stored_grows) cross_turn_grows; closed = cross_turn_closed })) (record { look = step 0 2 Load 0 0; looks = (refl, refl); once = refl; grows = grows_then crossing 0 last_look last_code (grows_then crossing 0 last_look last_inside (grows_then crossing 0 last_look last_look (stays) last_inside_grows) last_code_grows) last_turn_grows; closed = last_turn_closed }))

abbrev pub begin_look : Log
begin_look = made (step 1 2 Load 0 0) ∷ []

abbrev pub begin_turn : Log
begin_turn = did (Begin 1 0x80000028 0) ∷ made (step 1 29 Store 0 0) ∷ did (Flushes 1 Full) ∷ made (step 1 27 Store 0 0) ∷ made (step 1 31 Load 0 0) ∷ made (step 1 30 Load 0 0x80000028) ∷ made (step 1 27 (Exchange 0) 2 0) ∷ made (step 1 29 Load 0 2) ∷ begin_look

abbrev pub early_look : Log
early_look = made (step 1 2 Load 0 0) ∷ begin_turn

abbrev pub early_inside : Log
early_inside = made (step 1 1 Load 0 0) ∷ made (step 1 24 Store 1 0) ∷ early_look

abbrev pub early_code_1 : Log
early_code_1 = did (executed 1) ∷ did (fetched 1 (Auipc 11 (pos 0))) ∷ made (step 1 (first_ram_word + 5) Load 0 (encoding_of (Auipc 11 (pos 0)) + 2 ^ 32 * encoding_of (Addi 11 11 (pos 24)))) ∷ made (step 1 5 Load 0 0) ∷ early_inside

abbrev pub early_code_2 : Log
early_code_2 = did (executed 1) ∷ did (fetched 1 (Addi 11 11 (pos 24))) ∷ made (step 1 (first_ram_word + 5) Load 0 (encoding_of (Auipc 11 (pos 0)) + 2 ^ 32 * encoding_of (Addi 11 11 (pos 24)))) ∷ made (step 1 5 Load 0 0) ∷ early_code_1

abbrev pub early_loaded : Log
early_loaded = made (step 1 (first_ram_word + 8) Load 0 0) ∷ did (fetched 1 (Ld 10 11 (pos 0))) ∷ made (step 1 (first_ram_word + 6) Load 0 (encoding_of (Ld 10 11 (pos 0)) + 2 ^ 32 * encoding_of (Ld 12 11 (pos 0)))) ∷ made (step 1 5 Load 0 0) ∷ early_code_2

abbrev pub early_turn : Log
early_turn = made (step 1 24 Store 0 0) ∷ did (loaded 0) ∷ early_loaded

abbrev pub late_look : Log
late_look = made (step 1 2 Load 0 0) ∷ early_turn

abbrev pub late_inside : Log
late_inside = made (step 1 1 Load 0 0) ∷ made (step 1 24 Store 1 0) ∷ late_look

abbrev pub late_loaded_first : Log
late_loaded_first = made (step 1 (first_ram_word + 8) Load 0 0xffffffff00000000) ∷ did (fetched 1 (Ld 12 11 (pos 0))) ∷ made (step 1 (first_ram_word + 6) Load 0 (encoding_of (Ld 10 11 (pos 0)) + 2 ^ 32 * encoding_of (Ld 12 11 (pos 0)))) ∷ made (step 1 5 Load 0 0) ∷ late_inside

abbrev pub late_loaded_second : Log
late_loaded_second = made (step 1 (first_ram_word + 9) Load 0 0xffffffff) ∷ did (fetched 1 (Ld 13 11 (pos 8))) ∷ made (step 1 (first_ram_word + 7) Load 0 (encoding_of (Ld 13 11 (pos 8)))) ∷ made (step 1 5 Load 0 0) ∷ did (loaded 0xffffffff00000000) ∷ late_loaded_first

abbrev pub late_turn : Log
late_turn = made (step 1 24 Store 0 0) ∷ did (loaded 0xffffffff) ∷ late_loaded_second

begin_turn_grows : Grows crossing 1 begin_look begin_turn
unfolding name_of need_of done walk_of sbi_of perform own_executed flushing reads_of
begin_turn_grows = does (Begin 1 0x80000028 0) (makes (step 1 29 Store 0 0) (does (Flushes 1 Full) (makes (step 1 27 Store 0 0) (makes (step 1 31 Load 0 0) (makes (step 1 30 Load 0 0x80000028) (makes (step 1 27 (Exchange 0) 2 0) (makes (step 1 29 Load 0 2) (stays)
    (record { behind = (tt, tt); acks = tt; draws_last = tt }))
    (record { behind = (tt, tt); acks = tt; draws_last = tt }))
    (record { behind = (tt, tt); acks = tt; draws_last = tt }))
    (record { behind = (tt, tt); acks = tt; draws_last = tt }))
    (record { behind = (tt, tt); acks = tt; draws_last = tt }))
    (record { own = refl; fit = (omega arith, refl); pays = record { does = record { entry_is = refl; bytes_are = refl; reason_is = refl; starts_is = refl; stops_is = refl }; begins_not = refl } }))
    (record { behind = (tt, inr (refl, omega arith)); acks = tt; draws_last = tt }))
    (record { own = refl; fit = (omega arith, record { not_due = refl; stored = (refl, refl, refl); at_is = refl; opaque_is = refl; flushed_all = refl }); pays = (0x80000028, 0, refl) })

early_inside_grows : Grows crossing 1 early_look early_inside
unfolding name_of need_of done walk_of sbi_of perform own_executed flushing reads_of
early_inside_grows = makes (step 1 1 Load 0 0) (makes (step 1 24 Store 1 0) (stays)
    (record { behind = (tt, refl); acks = tt; draws_last = tt }))
    (record { behind = (tt, refl); acks = tt; draws_last = tt })

early_code_1_grows : Grows crossing 1 early_inside early_code_1
unfolding name_of need_of done walk_of sbi_of perform own_executed flushing reads_of
early_code_1_grows = does (executed 1) (does (fetched 1 (Auipc 11 (pos 0))) (makes (step 1 (first_ram_word + 5) Load 0 (encoding_of (Auipc 11 (pos 0)) + 2 ^ 32 * encoding_of (Addi 11 11 (pos 24)))) (makes (step 1 5 Load 0 0) (stays)
    (record { behind = (tt, tt); acks = tt; draws_last = tt }))
    (record { behind = (tt, tt); acks = tt; draws_last = tt }))
    (record { own = refl; fit = (omega arith, record { runs = refl; holds_none = refl; not_due = refl; ipi = 0; loaded = (inr (inl ((refl, refl, refl), tt))); quiet = refl; shown = record { finds = λ x. 0; is_end = refl; stood = tt }; fetched = (refl, refl, refl, ((omega arith, (omega arith, omega arith), refl), refl)) }); pays = fetched_quiet 1 (Auipc 11 (pos 0)) }))
    (record { own = refl; fit = (omega arith, record { holds = refl; shown = tt; flushed = λ w s. tt; right = λ w s. refl }); pays = executed_quiet 1 })

early_code_2_grows : Grows crossing 1 early_code_1 early_code_2
unfolding name_of need_of done walk_of sbi_of perform own_executed flushing reads_of
early_code_2_grows = does (executed 1) (does (fetched 1 (Addi 11 11 (pos 24))) (makes (step 1 (first_ram_word + 5) Load 0 (encoding_of (Auipc 11 (pos 0)) + 2 ^ 32 * encoding_of (Addi 11 11 (pos 24)))) (makes (step 1 5 Load 0 0) (stays)
    (record { behind = (tt, tt); acks = tt; draws_last = tt }))
    (record { behind = (tt, tt); acks = tt; draws_last = tt }))
    (record { own = refl; fit = (omega arith, record { runs = refl; holds_none = refl; not_due = refl; ipi = 0; loaded = (inr (inl ((refl, refl, refl), tt))); quiet = refl; shown = record { finds = λ x. 0; is_end = refl; stood = tt }; fetched = (refl, refl, refl, ((omega arith, omega arith, (omega arith, omega arith)), refl)) }); pays = fetched_quiet 1 (Addi 11 11 (pos 24)) }))
    (record { own = refl; fit = (omega arith, record { holds = refl; shown = tt; flushed = λ w s. tt; right = λ w s. refl }); pays = executed_quiet 1 })

early_loaded_grows : Grows crossing 1 early_code_2 early_loaded
unfolding name_of need_of done walk_of sbi_of perform own_executed flushing reads_of
early_loaded_grows = makes (step 1 (first_ram_word + 8) Load 0 0) (does (fetched 1 (Ld 10 11 (pos 0))) (makes (step 1 (first_ram_word + 6) Load 0 (encoding_of (Ld 10 11 (pos 0)) + 2 ^ 32 * encoding_of (Ld 12 11 (pos 0)))) (makes (step 1 5 Load 0 0) (stays)
    (record { behind = (tt, tt); acks = tt; draws_last = tt }))
    (record { behind = (tt, tt); acks = tt; draws_last = tt }))
    (record { own = refl; fit = (omega arith, record { runs = refl; holds_none = refl; not_due = refl; ipi = 0; loaded = (inr (inl ((refl, refl, refl), tt))); quiet = refl; shown = record { finds = λ x. 0; is_end = refl; stood = tt }; fetched = (refl, refl, refl, ((omega arith, omega arith, (omega arith, omega arith)), refl)) }); pays = fetched_quiet 1 (Ld 10 11 (pos 0)) }))
    (record { behind = (tt, tt); acks = tt; draws_last = tt })

early_turn_grows : Grows crossing 1 early_loaded early_turn
unfolding name_of need_of done walk_of sbi_of perform own_executed flushing reads_of
early_turn_grows = makes (step 1 24 Store 0 0) (does (loaded 0) (stays)
    (record { own = refl; fit = (omega arith, record { holds = refl; shown = record { first_page = record { finds = λ x. 0; is_end = refl; stood = tt }; second_page = λ e. absurd (true≢false (sym e)) }; flushed = λ w s. tt; right = λ w s. ap (λ x. perform (record w { memory = λ k. x }) 1 (own_part crossing 1 early_loaded).arch (Walked.Leaf 0xcf 0x80000000 0) Walked.PageFault (need_held (own_part crossing 1 early_loaded).arch (own_part crossing 1 early_loaded).held)) (sym (s.here.0 tt (λ e. absurd (cc (e))))) }); pays = record { does = record { entry_is = refl; bytes_are = refl; reason_is = refl; starts_is = refl; stops_is = refl }; begins_not = refl } }))
    (record { behind = (tt, refl); acks = tt; draws_last = tt })

late_inside_grows : Grows crossing 1 late_look late_inside
unfolding name_of need_of done walk_of sbi_of perform own_executed flushing reads_of
late_inside_grows = makes (step 1 1 Load 0 0) (makes (step 1 24 Store 1 0) (stays)
    (record { behind = (tt, refl); acks = tt; draws_last = tt }))
    (record { behind = (tt, refl); acks = tt; draws_last = tt })

late_loaded_first_grows : Grows crossing 1 late_inside late_loaded_first
unfolding name_of need_of done walk_of sbi_of perform own_executed flushing reads_of
late_loaded_first_grows = makes (step 1 (first_ram_word + 8) Load 0 0xffffffff00000000) (does (fetched 1 (Ld 12 11 (pos 0))) (makes (step 1 (first_ram_word + 6) Load 0 (encoding_of (Ld 10 11 (pos 0)) + 2 ^ 32 * encoding_of (Ld 12 11 (pos 0)))) (makes (step 1 5 Load 0 0) (stays)
    (record { behind = (tt, tt); acks = tt; draws_last = tt }))
    (record { behind = (tt, tt); acks = tt; draws_last = tt }))
    (record { own = refl; fit = (omega arith, record { runs = refl; holds_none = refl; not_due = refl; ipi = 0; loaded = (inr (inl ((refl, refl, refl), tt))); quiet = refl; shown = record { finds = λ x. 0; is_end = refl; stood = tt }; fetched = (refl, refl, refl, ((omega arith, omega arith, (omega arith, omega arith)), refl)) }); pays = fetched_quiet 1 (Ld 12 11 (pos 0)) }))
    (record { behind = (tt, tt); acks = tt; draws_last = tt })

late_loaded_second_grows : Grows crossing 1 late_loaded_first late_loaded_second
unfolding name_of need_of done walk_of sbi_of perform own_executed flushing reads_of
late_loaded_second_grows = makes (step 1 (first_ram_word + 9) Load 0 0xffffffff) (does (fetched 1 (Ld 13 11 (pos 8))) (makes (step 1 (first_ram_word + 7) Load 0 (encoding_of (Ld 13 11 (pos 8)))) (makes (step 1 5 Load 0 0) (does (loaded 0xffffffff00000000) (stays)
    (record { own = refl; fit = (omega arith, record { holds = refl; shown = record { first_page = record { finds = λ x. 0; is_end = refl; stood = tt }; second_page = λ e. absurd (true≢false (sym e)) }; flushed = λ w s. tt; right = λ w s. ap (λ x. perform (record w { memory = λ k. x }) 1 (own_part crossing 1 late_loaded_first).arch (Walked.Leaf 0xcf 0x80000000 0) Walked.PageFault (need_held (own_part crossing 1 late_loaded_first).arch (own_part crossing 1 late_loaded_first).held)) (sym (s.here.0 tt (λ e. absurd (cc (e))))) }); pays = record { does = record { entry_is = refl; bytes_are = refl; reason_is = refl; starts_is = refl; stops_is = refl }; begins_not = refl } }))
    (record { behind = (tt, tt); acks = tt; draws_last = tt }))
    (record { behind = (tt, tt); acks = tt; draws_last = tt }))
    (record { own = refl; fit = (omega arith, record { runs = refl; holds_none = refl; not_due = refl; ipi = 0; loaded = (inr (inl ((refl, refl, refl), tt))); quiet = refl; shown = record { finds = λ x. 0; is_end = refl; stood = tt }; fetched = (refl, refl, refl, ((omega arith, omega arith, (omega arith, omega arith)), refl)) }); pays = fetched_quiet 1 (Ld 13 11 (pos 8)) }))
    (record { behind = (tt, tt); acks = tt; draws_last = tt })

late_turn_grows : Grows crossing 1 late_loaded_second late_turn
unfolding name_of need_of done walk_of sbi_of perform own_executed flushing reads_of
late_turn_grows = makes (step 1 24 Store 0 0) (does (loaded 0xffffffff) (stays)
    (record { own = refl; fit = (omega arith, record { holds = refl; shown = record { first_page = record { finds = λ x. 0; is_end = refl; stood = tt }; second_page = λ e. absurd (true≢false (sym e)) }; flushed = λ w s. tt; right = λ w s. ap (λ x. perform (record w { memory = λ k. x }) 1 (own_part crossing 1 late_loaded_second).arch (Walked.Leaf 0xcf 0x80000000 0) Walked.PageFault (need_held (own_part crossing 1 late_loaded_second).arch (own_part crossing 1 late_loaded_second).held)) (sym (s.here.0 tt (λ e. absurd (cc (e))))) }); pays = record { does = record { entry_is = refl; bytes_are = refl; reason_is = refl; starts_is = refl; stops_is = refl }; begins_not = refl } }))
    (record { behind = (tt, refl); acks = tt; draws_last = tt })

begin_turn_closed : IsClosed crossing 1 begin_turn
unfolding name_of need_of done walk_of sbi_of perform own_executed flushing reads_of
begin_turn_closed = record {
  clear = tt;
  none_drawn = refl;
  none_left = refl;
  stops = refl;
  last = λ e. absurd (true≢false (sym e));
  left = refl;
  full = λ e. absurd (cc (e));
  marks = λ page. unmarked crossing 1 page begin_turn refl;
  snapshot = λ e. absurd (omega (arith, e));
}

early_turn_closed : IsClosed crossing 1 early_turn
unfolding name_of need_of done walk_of sbi_of perform own_executed flushing reads_of
early_turn_closed = record {
  clear = tt;
  none_drawn = refl;
  none_left = refl;
  stops = refl;
  last = λ e. absurd (true≢false (sym e));
  left = refl;
  full = λ e. absurd (cc (e));
  marks = λ page. unmarked crossing 1 page early_turn refl;
  snapshot = λ e. absurd (omega (arith, e));
}

late_turn_closed : IsClosed crossing 1 late_turn
unfolding name_of need_of done walk_of sbi_of perform own_executed flushing reads_of
late_turn_closed = record {
  clear = tt;
  none_drawn = refl;
  none_left = refl;
  stops = refl;
  last = λ e. absurd (true≢false (sym e));
  left = refl;
  full = λ e. absurd (cc (e));
  marks = λ page. unmarked crossing 1 page late_turn refl;
  snapshot = λ e. absurd (omega (arith, e));
}

-- three turns
pub second_hart_chain : IsChain crossing 1 3 late_turn
unfolding name_of
second_hart_chain = whole (turn (turn (turn (none) (record { look = step 1 2 Load 0 0; looks = (refl, refl); once = refl; grows = grows_then crossing 1 begin_look begin_look (stays) begin_turn_grows; closed = begin_turn_closed })) (record { look = step 1 2 Load 0 0; looks = (refl, refl); once = refl; grows = grows_then crossing 1 early_look early_loaded (grows_then crossing 1 early_look early_code_2 (grows_then crossing 1 early_look early_code_1 (grows_then crossing 1 early_look early_inside (grows_then crossing 1 early_look early_look (stays) early_inside_grows) early_code_1_grows) early_code_2_grows) early_loaded_grows) early_turn_grows; closed = early_turn_closed })) (record { look = step 1 2 Load 0 0; looks = (refl, refl); once = refl; grows = grows_then crossing 1 late_look late_loaded_second (grows_then crossing 1 late_look late_loaded_first (grows_then crossing 1 late_look late_inside (grows_then crossing 1 late_look late_look (stays) late_inside_grows) late_loaded_first_grows) late_loaded_second_grows) late_turn_grows; closed = late_turn_closed }))
