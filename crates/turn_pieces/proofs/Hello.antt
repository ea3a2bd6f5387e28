-- A whole guest, from its first fetch to the store that ends the machine: it prints O, K and a line feed, and passes. Its log is written by
-- hand, and is a chain of one turn.
use Rattle.std.proofs.Common.{◌≡◌, ◌+◌, ◌-◌, ◌*◌, ◌^◌, ℕ, Bool, true, true≢false, [], ◌∷◌, Some, refl, sym, ap, ◌∙◌, inl, inr, arith, pos}
use Rattle.std.specs.Prelude.{◌==◌, nat_le, take, if◌then◌else◌}
use Rattle.rv64_decode.specs.declared.instruction.Instr.{Instr}
use Rattle.rv64_decode.specs.declared.instruction.Instr.TheVariants.{Lui, Addi, Sb, Sw}
use Rattle.rv64_decode.specs.Encoding.{encoding_of}
use Rattle.rv64_priv.specs.Walk.{Walked, walk_of}
use Rattle.rv64_exec.specs.declared.needs.Answer.{Answer}
use Rattle.rv64_exec.specs.Plan.{need_of}
use Rattle.rv64_exec.specs.Finish.{done}
use Rattle.step_laws.specs.declared.steps.WordOp.TheVariants.{Load, Store, Add, Exchange}
use Rattle.step_laws.specs.Words.{first_ram_word, first_console_word, console_places}
use Rattle.step_laws.specs.Map.{name_of}
use Rattle.machine_model.specs.declared.reason.Reason.{Reason}
use Rattle.machine_model.specs.Memory.{Memory}
use Rattle.machine_model.specs.Event.{Event, Fetch, Exec, only}
use Rattle.machine_model.specs.State.{Setup}
use Rattle.machine_model.specs.Own.{own_executed}
use Rattle.machine_model.specs.Perform.{perform}
use Rattle.machine_model.specs.Sbi.{sbi_of}
use Rattle.machine_model.specs.Lawful.{flushing}
use Rattle.walk_laws.specs.WalkLoads.{reads_of}
use Rattle.turn_pieces.specs.Log.{made, did, Log}
use Rattle.turn_pieces.specs.Doing.{IsQuiet}
use Rattle.turn_pieces.specs.Grows.{Grows, stays, makes, does, IsClosed, none, turn, IsChain, looks}
use Rattle.turn_pieces.proofs.Writers.{grows_then}
use Rattle.turn_pieces.proofs.Unmarked.{unmarked}
use Rattle.turn_pieces.proofs.Rows.{step, code}

abbrev pub image : Memory
image x =
    if x == first_ram_word then (encoding_of (Lui 5 (pos 0x10000000)) + 2 ^ 32 * encoding_of (Addi 6 0 (pos 79))) else
    if x == (first_ram_word + 1) then (encoding_of (Sb 5 6 (pos 0)) + 2 ^ 32 * encoding_of (Addi 6 0 (pos 75))) else
    if x == (first_ram_word + 2) then (encoding_of (Sb 5 6 (pos 0)) + 2 ^ 32 * encoding_of (Addi 6 0 (pos 10))) else
    if x == (first_ram_word + 3) then (encoding_of (Sb 5 6 (pos 0)) + 2 ^ 32 * encoding_of (Lui 5 (pos 0x100000))) else
    if x == (first_ram_word + 4) then (encoding_of (Lui 6 (pos 0x5000)) + 2 ^ 32 * encoding_of (Addi 6 6 (pos 0x555))) else
    if x == (first_ram_word + 5) then (encoding_of (Sw 5 6 (pos 0))) else 0

-- its words, as an assembler writes them
words_are : (encoding_of (Lui 5 (pos 0x10000000)) ∷ encoding_of (Addi 6 0 (pos 79)) ∷ encoding_of (Sb 5 6 (pos 0)) ∷ encoding_of (Addi 6 0 (pos 75)) ∷ encoding_of (Sb 5 6 (pos 0)) ∷ encoding_of (Addi 6 0 (pos 10)) ∷ encoding_of (Sb 5 6 (pos 0)) ∷ encoding_of (Lui 5 (pos 0x100000)) ∷ encoding_of (Lui 6 (pos 0x5000)) ∷ encoding_of (Addi 6 6 (pos 0x555)) ∷ encoding_of (Sw 5 6 (pos 0)) ∷ []) ≡ (0x100002b7 ∷ 0x04f00313 ∷ 0x00628023 ∷ 0x04b00313 ∷ 0x00628023 ∷ 0x00a00313 ∷ 0x00628023 ∷ 0x001002b7 ∷ 0x00005337 ∷ 0x55530313 ∷ 0x0062a023 ∷ [])
words_are = refl

abbrev pub guest : Setup
guest = record { layout = record { harts = 1; pages = 256 }; image = image; start = 0x80000000; limit = 50000000; script = [] }

abbrev pub fetched : (hart : ℕ) → Instr → Event
fetched h i = Fetch h (Walked.Leaf 0xcf 0x80000000 0) (code i)

fetched_quiet : (h : ℕ) (i : Instr) → IsQuiet (fetched h i)
fetched_quiet h i = record { does = record { entry_is = refl; bytes_are = refl; reason_is = refl; starts_is = refl; stops_is = refl }; begins_not = refl }

abbrev pub executed : (hart : ℕ) → Event
executed h = Exec h Walked.PageFault Walked.PageFault (only Answer.Nothing)

executed_quiet : (h : ℕ) → IsQuiet (executed h)
executed_quiet h = record { does = record { entry_is = refl; bytes_are = refl; reason_is = refl; starts_is = refl; stops_is = refl }; begins_not = refl }

abbrev pub printed : (byte : ℕ) → Event
printed byte = Exec 0 (Walked.Leaf 0xcf 0x10000000 0) Walked.PageFault (record (only Answer.Nothing) { bytes = byte ∷ [] })

abbrev pub ended : Event
ended = Exec 0 (Walked.Leaf 0xcf 0x100000 0) Walked.PageFault (record (only Answer.Nothing) { reason = Some Reason.Pass })

-- a byte goes where the console has room
has_room : (room places : ℕ) → nat_le 1 places ≡ true → room ≡ places → nat_le 1 room ≡ true
has_room room places some e = ap (nat_le 1) e ∙ some

abbrev pub look : Log
look = made (step 0 2 Load 0 0) ∷ []

abbrev pub inside : Log
inside = made (step 0 1 Load 0 0) ∷ made (step 0 8 Store 1 0) ∷ look

abbrev pub device : Log
device = did (executed 0) ∷ did (fetched 0 (Lui 5 (pos 0x10000000))) ∷ made (step 0 first_ram_word Load 0 (encoding_of (Lui 5 (pos 0x10000000)) + 2 ^ 32 * encoding_of (Addi 6 0 (pos 79)))) ∷ made (step 0 5 Load 0 0) ∷ inside

abbrev pub first_byte : Log
first_byte = did (executed 0) ∷ did (fetched 0 (Addi 6 0 (pos 79))) ∷ made (step 0 first_ram_word Load 0 (encoding_of (Lui 5 (pos 0x10000000)) + 2 ^ 32 * encoding_of (Addi 6 0 (pos 79)))) ∷ made (step 0 5 Load 0 0) ∷ device

abbrev pub first_printed : Log
first_printed = did (printed 79) ∷ made (step 0 4 Add 1 0) ∷ did (fetched 0 (Sb 5 6 (pos 0))) ∷ made (step 0 (first_ram_word + 1) Load 0 (encoding_of (Sb 5 6 (pos 0)) + 2 ^ 32 * encoding_of (Addi 6 0 (pos 75)))) ∷ made (step 0 5 Load 0 0) ∷ first_byte

abbrev pub second_byte : Log
second_byte = did (executed 0) ∷ did (fetched 0 (Addi 6 0 (pos 75))) ∷ made (step 0 (first_ram_word + 1) Load 0 (encoding_of (Sb 5 6 (pos 0)) + 2 ^ 32 * encoding_of (Addi 6 0 (pos 75)))) ∷ made (step 0 5 Load 0 0) ∷ made (step 0 first_console_word Store (79 + 256) 0) ∷ first_printed

abbrev pub second_printed : Log
second_printed = did (printed 75) ∷ made (step 0 4 Add 1 1) ∷ did (fetched 0 (Sb 5 6 (pos 0))) ∷ made (step 0 (first_ram_word + 2) Load 0 (encoding_of (Sb 5 6 (pos 0)) + 2 ^ 32 * encoding_of (Addi 6 0 (pos 10)))) ∷ made (step 0 5 Load 0 0) ∷ second_byte

abbrev pub third_byte : Log
third_byte = did (executed 0) ∷ did (fetched 0 (Addi 6 0 (pos 10))) ∷ made (step 0 (first_ram_word + 2) Load 0 (encoding_of (Sb 5 6 (pos 0)) + 2 ^ 32 * encoding_of (Addi 6 0 (pos 10)))) ∷ made (step 0 5 Load 0 0) ∷ made (step 0 (first_console_word + 1) Store (75 + 256) 0) ∷ second_printed

abbrev pub third_printed : Log
third_printed = did (printed 10) ∷ made (step 0 4 Add 1 2) ∷ did (fetched 0 (Sb 5 6 (pos 0))) ∷ made (step 0 (first_ram_word + 3) Load 0 (encoding_of (Sb 5 6 (pos 0)) + 2 ^ 32 * encoding_of (Lui 5 (pos 0x100000)))) ∷ made (step 0 5 Load 0 0) ∷ third_byte

abbrev pub finisher : Log
finisher = did (executed 0) ∷ did (fetched 0 (Lui 5 (pos 0x100000))) ∷ made (step 0 (first_ram_word + 3) Load 0 (encoding_of (Sb 5 6 (pos 0)) + 2 ^ 32 * encoding_of (Lui 5 (pos 0x100000)))) ∷ made (step 0 5 Load 0 0) ∷ made (step 0 (first_console_word + 2) Store (10 + 256) 0) ∷ third_printed

abbrev pub upper : Log
upper = did (executed 0) ∷ did (fetched 0 (Lui 6 (pos 0x5000))) ∷ made (step 0 (first_ram_word + 4) Load 0 (encoding_of (Lui 6 (pos 0x5000)) + 2 ^ 32 * encoding_of (Addi 6 6 (pos 0x555)))) ∷ made (step 0 5 Load 0 0) ∷ finisher

abbrev pub passing : Log
passing = did (executed 0) ∷ did (fetched 0 (Addi 6 6 (pos 0x555))) ∷ made (step 0 (first_ram_word + 4) Load 0 (encoding_of (Lui 6 (pos 0x5000)) + 2 ^ 32 * encoding_of (Addi 6 6 (pos 0x555)))) ∷ made (step 0 5 Load 0 0) ∷ upper

abbrev pub hello : Log
hello = made (step 0 8 Store 0 0) ∷ did (ended) ∷ made (step 0 2 (Exchange 0) 1 0) ∷ did (fetched 0 (Sw 5 6 (pos 0))) ∷ made (step 0 (first_ram_word + 5) Load 0 (encoding_of (Sw 5 6 (pos 0)))) ∷ made (step 0 5 Load 0 0) ∷ passing

inside_grows : Grows guest 0 look inside
unfolding name_of need_of done walk_of sbi_of perform own_executed flushing reads_of
inside_grows = makes (step 0 1 Load 0 0) (makes (step 0 8 Store 1 0) (stays)
    (record { behind = (tt, refl); acks = tt; draws_last = tt }))
    (record { behind = (tt, refl); acks = tt; draws_last = tt })

device_grows : Grows guest 0 inside device
unfolding name_of need_of done walk_of sbi_of perform own_executed flushing reads_of
device_grows = does (executed 0) (does (fetched 0 (Lui 5 (pos 0x10000000))) (makes (step 0 first_ram_word Load 0 (encoding_of (Lui 5 (pos 0x10000000)) + 2 ^ 32 * encoding_of (Addi 6 0 (pos 79)))) (makes (step 0 5 Load 0 0) (stays)
    (record { behind = (tt, tt); acks = tt; draws_last = tt }))
    (record { behind = (tt, tt); acks = tt; draws_last = tt }))
    (record { own = refl; fit = (omega arith, record { runs = refl; holds_none = refl; not_due = refl; ipi = 0; loaded = (inr (inl ((refl, refl, refl), tt))); quiet = refl; shown = record { finds = λ x. 0; is_end = refl; stood = tt }; fetched = (refl, refl, refl, ((omega arith, (omega arith, omega arith), refl), refl)) }); pays = fetched_quiet 0 (Lui 5 (pos 0x10000000)) }))
    (record { own = refl; fit = (omega arith, record { holds = refl; shown = tt; flushed = λ w s. tt; right = λ w s. refl }); pays = executed_quiet 0 })

first_byte_grows : Grows guest 0 device first_byte
unfolding name_of need_of done walk_of sbi_of perform own_executed flushing reads_of
first_byte_grows = does (executed 0) (does (fetched 0 (Addi 6 0 (pos 79))) (makes (step 0 first_ram_word Load 0 (encoding_of (Lui 5 (pos 0x10000000)) + 2 ^ 32 * encoding_of (Addi 6 0 (pos 79)))) (makes (step 0 5 Load 0 0) (stays)
    (record { behind = (tt, tt); acks = tt; draws_last = tt }))
    (record { behind = (tt, tt); acks = tt; draws_last = tt }))
    (record { own = refl; fit = (omega arith, record { runs = refl; holds_none = refl; not_due = refl; ipi = 0; loaded = (inr (inl ((refl, refl, refl), tt))); quiet = refl; shown = record { finds = λ x. 0; is_end = refl; stood = tt }; fetched = (refl, refl, refl, ((omega arith, omega arith, (omega arith, omega arith)), refl)) }); pays = fetched_quiet 0 (Addi 6 0 (pos 79)) }))
    (record { own = refl; fit = (omega arith, record { holds = refl; shown = tt; flushed = λ w s. tt; right = λ w s. refl }); pays = executed_quiet 0 })

first_printed_grows : Grows guest 0 first_byte first_printed
unfolding name_of need_of done walk_of sbi_of perform own_executed flushing reads_of
first_printed_grows = does (printed 79) (makes (step 0 4 Add 1 0) (does (fetched 0 (Sb 5 6 (pos 0))) (makes (step 0 (first_ram_word + 1) Load 0 (encoding_of (Sb 5 6 (pos 0)) + 2 ^ 32 * encoding_of (Addi 6 0 (pos 75)))) (makes (step 0 5 Load 0 0) (stays)
    (record { behind = (tt, tt); acks = tt; draws_last = tt }))
    (record { behind = (tt, tt); acks = tt; draws_last = tt }))
    (record { own = refl; fit = (omega arith, record { runs = refl; holds_none = refl; not_due = refl; ipi = 0; loaded = (inr (inl ((refl, refl, refl), tt))); quiet = refl; shown = record { finds = λ x. 0; is_end = refl; stood = tt }; fetched = (refl, refl, refl, ((omega arith, omega arith, (omega arith, omega arith)), refl)) }); pays = fetched_quiet 0 (Sb 5 6 (pos 0)) }))
    (record { behind = (tt, refl); acks = tt; draws_last = refl }))
    (record { own = refl; fit = (omega arith, record { holds = refl; shown = record { first_page = record { finds = λ x. 0; is_end = refl; stood = tt }; second_page = λ e. absurd (true≢false (sym e)) }; flushed = λ w s. tt; right = λ w s. sym (ap (λ (b : Bool). if b then record (only Answer.Nothing) { bytes = 79 ∷ [] } else record (only Answer.Nothing) { bytes = take w.room (79 ∷ []); reason = Some Reason.OutFull }) (has_room w.room (console_places - 0) refl (s.room 0 refl))) }); pays = record { byte = 79; pays = record { does = record { entry_is = refl; bytes_are = refl; reason_is = refl; starts_is = refl; stops_is = refl }; begins_not = refl }; alone = refl; none = refl } })

second_byte_grows : Grows guest 0 first_printed second_byte
unfolding name_of need_of done walk_of sbi_of perform own_executed flushing reads_of
second_byte_grows = does (executed 0) (does (fetched 0 (Addi 6 0 (pos 75))) (makes (step 0 (first_ram_word + 1) Load 0 (encoding_of (Sb 5 6 (pos 0)) + 2 ^ 32 * encoding_of (Addi 6 0 (pos 75)))) (makes (step 0 5 Load 0 0) (makes (step 0 first_console_word Store (79 + 256) 0) (stays)
    (record { behind = (tt, inl (79, refl, refl, refl)); acks = tt; draws_last = tt }))
    (record { behind = (tt, tt); acks = tt; draws_last = tt }))
    (record { behind = (tt, tt); acks = tt; draws_last = tt }))
    (record { own = refl; fit = (omega arith, record { runs = refl; holds_none = refl; not_due = refl; ipi = 0; loaded = (inr (inl ((refl, refl, refl), tt))); quiet = refl; shown = record { finds = λ x. 0; is_end = refl; stood = tt }; fetched = (refl, refl, refl, ((omega arith, omega arith, (omega arith, omega arith)), refl)) }); pays = fetched_quiet 0 (Addi 6 0 (pos 75)) }))
    (record { own = refl; fit = (omega arith, record { holds = refl; shown = tt; flushed = λ w s. tt; right = λ w s. refl }); pays = executed_quiet 0 })

second_printed_grows : Grows guest 0 second_byte second_printed
unfolding name_of need_of done walk_of sbi_of perform own_executed flushing reads_of
second_printed_grows = does (printed 75) (makes (step 0 4 Add 1 1) (does (fetched 0 (Sb 5 6 (pos 0))) (makes (step 0 (first_ram_word + 2) Load 0 (encoding_of (Sb 5 6 (pos 0)) + 2 ^ 32 * encoding_of (Addi 6 0 (pos 10)))) (makes (step 0 5 Load 0 0) (stays)
    (record { behind = (tt, tt); acks = tt; draws_last = tt }))
    (record { behind = (tt, tt); acks = tt; draws_last = tt }))
    (record { own = refl; fit = (omega arith, record { runs = refl; holds_none = refl; not_due = refl; ipi = 0; loaded = (inr (inl ((refl, refl, refl), tt))); quiet = refl; shown = record { finds = λ x. 0; is_end = refl; stood = tt }; fetched = (refl, refl, refl, ((omega arith, omega arith, (omega arith, omega arith)), refl)) }); pays = fetched_quiet 0 (Sb 5 6 (pos 0)) }))
    (record { behind = (tt, refl); acks = tt; draws_last = refl }))
    (record { own = refl; fit = (omega arith, record { holds = refl; shown = record { first_page = record { finds = λ x. 0; is_end = refl; stood = tt }; second_page = λ e. absurd (true≢false (sym e)) }; flushed = λ w s. tt; right = λ w s. sym (ap (λ (b : Bool). if b then record (only Answer.Nothing) { bytes = 75 ∷ [] } else record (only Answer.Nothing) { bytes = take w.room (75 ∷ []); reason = Some Reason.OutFull }) (has_room w.room (console_places - 1) refl (s.room 1 refl))) }); pays = record { byte = 75; pays = record { does = record { entry_is = refl; bytes_are = refl; reason_is = refl; starts_is = refl; stops_is = refl }; begins_not = refl }; alone = refl; none = refl } })

third_byte_grows : Grows guest 0 second_printed third_byte
unfolding name_of need_of done walk_of sbi_of perform own_executed flushing reads_of
third_byte_grows = does (executed 0) (does (fetched 0 (Addi 6 0 (pos 10))) (makes (step 0 (first_ram_word + 2) Load 0 (encoding_of (Sb 5 6 (pos 0)) + 2 ^ 32 * encoding_of (Addi 6 0 (pos 10)))) (makes (step 0 5 Load 0 0) (makes (step 0 (first_console_word + 1) Store (75 + 256) 0) (stays)
    (record { behind = (tt, inl (75, refl, refl, refl)); acks = tt; draws_last = tt }))
    (record { behind = (tt, tt); acks = tt; draws_last = tt }))
    (record { behind = (tt, tt); acks = tt; draws_last = tt }))
    (record { own = refl; fit = (omega arith, record { runs = refl; holds_none = refl; not_due = refl; ipi = 0; loaded = (inr (inl ((refl, refl, refl), tt))); quiet = refl; shown = record { finds = λ x. 0; is_end = refl; stood = tt }; fetched = (refl, refl, refl, ((omega arith, omega arith, (omega arith, omega arith)), refl)) }); pays = fetched_quiet 0 (Addi 6 0 (pos 10)) }))
    (record { own = refl; fit = (omega arith, record { holds = refl; shown = tt; flushed = λ w s. tt; right = λ w s. refl }); pays = executed_quiet 0 })

third_printed_grows : Grows guest 0 third_byte third_printed
unfolding name_of need_of done walk_of sbi_of perform own_executed flushing reads_of
third_printed_grows = does (printed 10) (makes (step 0 4 Add 1 2) (does (fetched 0 (Sb 5 6 (pos 0))) (makes (step 0 (first_ram_word + 3) Load 0 (encoding_of (Sb 5 6 (pos 0)) + 2 ^ 32 * encoding_of (Lui 5 (pos 0x100000)))) (makes (step 0 5 Load 0 0) (stays)
    (record { behind = (tt, tt); acks = tt; draws_last = tt }))
    (record { behind = (tt, tt); acks = tt; draws_last = tt }))
    (record { own = refl; fit = (omega arith, record { runs = refl; holds_none = refl; not_due = refl; ipi = 0; loaded = (inr (inl ((refl, refl, refl), tt))); quiet = refl; shown = record { finds = λ x. 0; is_end = refl; stood = tt }; fetched = (refl, refl, refl, ((omega arith, omega arith, (omega arith, omega arith)), refl)) }); pays = fetched_quiet 0 (Sb 5 6 (pos 0)) }))
    (record { behind = (tt, refl); acks = tt; draws_last = refl }))
    (record { own = refl; fit = (omega arith, record { holds = refl; shown = record { first_page = record { finds = λ x. 0; is_end = refl; stood = tt }; second_page = λ e. absurd (true≢false (sym e)) }; flushed = λ w s. tt; right = λ w s. sym (ap (λ (b : Bool). if b then record (only Answer.Nothing) { bytes = 10 ∷ [] } else record (only Answer.Nothing) { bytes = take w.room (10 ∷ []); reason = Some Reason.OutFull }) (has_room w.room (console_places - 2) refl (s.room 2 refl))) }); pays = record { byte = 10; pays = record { does = record { entry_is = refl; bytes_are = refl; reason_is = refl; starts_is = refl; stops_is = refl }; begins_not = refl }; alone = refl; none = refl } })

finisher_grows : Grows guest 0 third_printed finisher
unfolding name_of need_of done walk_of sbi_of perform own_executed flushing reads_of
finisher_grows = does (executed 0) (does (fetched 0 (Lui 5 (pos 0x100000))) (makes (step 0 (first_ram_word + 3) Load 0 (encoding_of (Sb 5 6 (pos 0)) + 2 ^ 32 * encoding_of (Lui 5 (pos 0x100000)))) (makes (step 0 5 Load 0 0) (makes (step 0 (first_console_word + 2) Store (10 + 256) 0) (stays)
    (record { behind = (tt, inl (10, refl, refl, refl)); acks = tt; draws_last = tt }))
    (record { behind = (tt, tt); acks = tt; draws_last = tt }))
    (record { behind = (tt, tt); acks = tt; draws_last = tt }))
    (record { own = refl; fit = (omega arith, record { runs = refl; holds_none = refl; not_due = refl; ipi = 0; loaded = (inr (inl ((refl, refl, refl), tt))); quiet = refl; shown = record { finds = λ x. 0; is_end = refl; stood = tt }; fetched = (refl, refl, refl, ((omega arith, (omega arith, omega arith), refl), refl)) }); pays = fetched_quiet 0 (Lui 5 (pos 0x100000)) }))
    (record { own = refl; fit = (omega arith, record { holds = refl; shown = tt; flushed = λ w s. tt; right = λ w s. refl }); pays = executed_quiet 0 })

upper_grows : Grows guest 0 finisher upper
unfolding name_of need_of done walk_of sbi_of perform own_executed flushing reads_of
upper_grows = does (executed 0) (does (fetched 0 (Lui 6 (pos 0x5000))) (makes (step 0 (first_ram_word + 4) Load 0 (encoding_of (Lui 6 (pos 0x5000)) + 2 ^ 32 * encoding_of (Addi 6 6 (pos 0x555)))) (makes (step 0 5 Load 0 0) (stays)
    (record { behind = (tt, tt); acks = tt; draws_last = tt }))
    (record { behind = (tt, tt); acks = tt; draws_last = tt }))
    (record { own = refl; fit = (omega arith, record { runs = refl; holds_none = refl; not_due = refl; ipi = 0; loaded = (inr (inl ((refl, refl, refl), tt))); quiet = refl; shown = record { finds = λ x. 0; is_end = refl; stood = tt }; fetched = (refl, refl, refl, ((omega arith, (omega arith, omega arith), refl), refl)) }); pays = fetched_quiet 0 (Lui 6 (pos 0x5000)) }))
    (record { own = refl; fit = (omega arith, record { holds = refl; shown = tt; flushed = λ w s. tt; right = λ w s. refl }); pays = executed_quiet 0 })

passing_grows : Grows guest 0 upper passing
unfolding name_of need_of done walk_of sbi_of perform own_executed flushing reads_of
passing_grows = does (executed 0) (does (fetched 0 (Addi 6 6 (pos 0x555))) (makes (step 0 (first_ram_word + 4) Load 0 (encoding_of (Lui 6 (pos 0x5000)) + 2 ^ 32 * encoding_of (Addi 6 6 (pos 0x555)))) (makes (step 0 5 Load 0 0) (stays)
    (record { behind = (tt, tt); acks = tt; draws_last = tt }))
    (record { behind = (tt, tt); acks = tt; draws_last = tt }))
    (record { own = refl; fit = (omega arith, record { runs = refl; holds_none = refl; not_due = refl; ipi = 0; loaded = (inr (inl ((refl, refl, refl), tt))); quiet = refl; shown = record { finds = λ x. 0; is_end = refl; stood = tt }; fetched = (refl, refl, refl, ((omega arith, omega arith, (omega arith, omega arith)), refl)) }); pays = fetched_quiet 0 (Addi 6 6 (pos 0x555)) }))
    (record { own = refl; fit = (omega arith, record { holds = refl; shown = tt; flushed = λ w s. tt; right = λ w s. refl }); pays = executed_quiet 0 })

hello_grows : Grows guest 0 passing hello
unfolding name_of need_of done walk_of sbi_of perform own_executed flushing reads_of
hello_grows = makes (step 0 8 Store 0 0) (does (ended) (makes (step 0 2 (Exchange 0) 1 0) (does (fetched 0 (Sw 5 6 (pos 0))) (makes (step 0 (first_ram_word + 5) Load 0 (encoding_of (Sw 5 6 (pos 0)))) (makes (step 0 5 Load 0 0) (stays)
    (record { behind = (tt, tt); acks = tt; draws_last = tt }))
    (record { behind = (tt, tt); acks = tt; draws_last = tt }))
    (record { own = refl; fit = (omega arith, record { runs = refl; holds_none = refl; not_due = refl; ipi = 0; loaded = (inr (inl ((refl, refl, refl), tt))); quiet = refl; shown = record { finds = λ x. 0; is_end = refl; stood = tt }; fetched = (refl, refl, refl, ((omega arith, omega arith, (omega arith, omega arith)), refl)) }); pays = fetched_quiet 0 (Sw 5 6 (pos 0)) }))
    (record { behind = (tt, refl); acks = tt; draws_last = tt }))
    (record { own = refl; fit = (omega arith, record { holds = refl; shown = record { first_page = record { finds = λ x. 0; is_end = refl; stood = tt }; second_page = λ e. absurd (true≢false (sym e)) }; flushed = λ w s. tt; right = λ w s. refl }); pays = record { reason = Reason.Pass; is = refl; pays = record { does = record { entry_is = refl; bytes_are = refl; reason_is = refl; starts_is = refl; stops_is = refl }; begins_not = refl }; fills_it = λ _. record { none = λ e. refl; some = λ i e. absurd (cc (e)) } } }))
    (record { behind = (tt, refl); acks = tt; draws_last = tt })

hello_closed : IsClosed guest 0 hello
unfolding name_of need_of done walk_of sbi_of perform own_executed flushing reads_of
hello_closed = record {
  clear = tt;
  none_drawn = refl;
  none_left = refl;
  stops = refl;
  last = λ e. absurd (true≢false (sym e));
  left = refl;
  full = λ e. absurd (cc (e));
  marks = λ page. unmarked guest 0 page hello refl;
  snapshot = λ e. absurd (omega (arith, e));
}

-- one turn, and a look at STOP
pub hello_chain : IsChain guest 0 1 (made (step 0 2 Load 0 1) ∷ hello)
unfolding name_of
hello_chain = looks (step 0 2 Load 0 1) (turn (none) (record { look = step 0 2 Load 0 0; looks = (refl, refl); once = refl; grows = grows_then guest 0 look passing (grows_then guest 0 look upper (grows_then guest 0 look finisher (grows_then guest 0 look third_printed (grows_then guest 0 look third_byte (grows_then guest 0 look second_printed (grows_then guest 0 look second_byte (grows_then guest 0 look first_printed (grows_then guest 0 look first_byte (grows_then guest 0 look device (grows_then guest 0 look inside (grows_then guest 0 look look (stays) inside_grows) device_grows) first_byte_grows) first_printed_grows) second_byte_grows) second_printed_grows) third_byte_grows) third_printed_grows) finisher_grows) upper_grows) passing_grows) hello_grows; closed = hello_closed })) (refl, refl)
