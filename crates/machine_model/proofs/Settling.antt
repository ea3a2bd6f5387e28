-- Runs of small machines, computed: which are settled. A hart that stops itself as its last instruction owes two stops.
use Rattle.std.proofs.Common.{◌≡◌, refl, ℕ, zero, suc, ◌<◌, ◌+◌, ◌*◌, ◌^◌, List, [], ◌∷◌, length, Some, pos, true, false, arith}
use Rattle.std.specs.Prelude.{◌==◌, if◌then◌else◌}
use Rattle.rv64_decode.specs.declared.instruction.Instr.TheVariants.{Lui, Addi, Ecall}
use Rattle.rv64_decode.specs.Encoding.{encoding_of}
use Rattle.rv64_priv.specs.Walk.{walk_of}
use Rattle.rv64_priv.specs.Flush.{Full}
use Rattle.rv64_exec.specs.Plan.{need_of}
use Rattle.rv64_exec.specs.Finish.{done}
use Rattle.rv64_exec.specs.declared.needs.Answer.{Answer}
use Rattle.step_laws.specs.Words.{first_ram_word}
use Rattle.machine_model.specs.declared.reason.Reason.{Reason}
use Rattle.machine_model.specs.Memory.{Memory}
use Rattle.machine_model.specs.Past.{HasSince, this, before}
use Rattle.machine_model.specs.Event.{Event, Outcome, Exec, Flushes, Start, Stop, only}
use Rattle.machine_model.specs.State.{Setup, initial, hart, all_halted}
use Rattle.machine_model.specs.Sbi.{sbi_of}
use Rattle.machine_model.specs.Perform.{perform}
use Rattle.machine_model.specs.Change.{executed, state_after}
use Rattle.machine_model.specs.Run.{state_of, leaves, says_all_stopped, is_due}
use Rattle.machine_model.specs.Lawful.{IsLawful, IsSettled}
use Rattle.machine_model.specs.Now.{exec_now, fetch_now, no_walk}
use Rattle.machine_model.proofs.Rows.{code}

-- lui x17, 0x485; addi x17, x17, 0x34d; addi x16, x0, 1; ecall: the hart stops itself
abbrev stopping : Memory
stopping word =
    if word == first_ram_word then encoding_of (Lui 17 (pos 0x485000)) + 2 ^ 32 * encoding_of (Addi 17 17 (pos 0x34d)) else
    if word == first_ram_word + 1 then encoding_of (Addi 16 0 (pos 1)) + 2 ^ 32 * encoding_of Ecall else 0

abbrev one_hart : (limit : ℕ) → Setup
one_hart limit = record { layout = record { harts = 1; pages = 256 }; image = stopping; start = 0x80000000; limit = limit; script = [] }

-- a turn, as the plain run takes it
abbrev turn_of : Setup → List Event → Event → List Event
turn_of u run fetch = exec_now u (state_after fetch (state_of u run)) 0 ∷ fetch ∷ run

-- the four instructions, and no stop behind them
abbrev three : Setup → List Event
three u =
    let one = turn_of u [] (fetch_now u (initial u) 0 (code (Lui 17 (pos 0x485000)))) in
    let two = turn_of u one (fetch_now u (state_of u one) 0 (code (Addi 17 17 (pos 0x34d)))) in
    turn_of u two (fetch_now u (state_of u two) 0 (code (Addi 16 0 (pos 1))))

abbrev four : Setup → List Event
four u = turn_of u (three u) (fetch_now u (state_of u (three u)) 0 (code Ecall))

abbrev before_last : Setup → List Event
before_last u = fetch_now u (state_of u (three u)) 0 (code Ecall) ∷ three u

abbrev last_exec : Setup → Event
last_exec u = exec_now u (state_of u (before_last u)) 0

-- it is the fourth that stops the hart, and no hart is left
last_leaves : (limit : ℕ) → leaves (last_exec (one_hart limit)) ≡ true
unfolding need_of done walk_of sbi_of perform executed exec_now
last_leaves limit = refl

last_quiet : (limit : ℕ) → says_all_stopped (last_exec (one_hart limit)) ≡ false
unfolding exec_now
last_quiet limit = refl

none_left : (limit : ℕ) → all_halted (state_of (one_hart limit) (four (one_hart limit))) ≡ true
unfolding need_of done walk_of sbi_of perform executed exec_now
none_left limit = refl

-- nobody said that all are stopped since an instruction that stopped its hart
unsaid : (e : Event) (run : List Event) → says_all_stopped e ≡ false → leaves e ≡ true → HasSince leaves says_all_stopped (e ∷ run) → ⊥
unsaid e run quiet left (this k) = cc
unsaid e run quiet left (before k h) = cc

past_one : (e : Event) (run : List Event) → says_all_stopped e ≡ false → HasSince leaves says_all_stopped (e ∷ run) → HasSince leaves says_all_stopped run
past_one e run quiet (this k) = cc
past_one e run quiet (before k h) = h

never_said : (limit : ℕ) → HasSince leaves says_all_stopped (four (one_hart limit)) → ⊥
never_said limit h = unsaid (last_exec (one_hart limit)) (before_last (one_hart limit)) (last_quiet limit) (last_leaves limit) h

-- the limit is said, and not that all are stopped
limit_alone : IsSettled (one_hart 4) (Stop 0 (Reason.Limit 0) ∷ four (one_hart 4)) → ⊥
limit_alone k = never_said 4 (past_one (Stop 0 (Reason.Limit 0)) (four (one_hart 4)) refl (k.stopped (none_left 4)))

-- nothing is said at the limit
due_at_limit : is_due 4 (four (one_hart 4)) 0 (hart (state_of (one_hart 4) (four (one_hart 4))) 0).count ≡ true
unfolding need_of done walk_of sbi_of perform executed exec_now
due_at_limit = refl

harts_there : length (state_of (one_hart 4) (four (one_hart 4))).harts ≡ 1
unfolding need_of done walk_of sbi_of perform executed exec_now
harts_there = refl

nothing_at_limit : IsSettled (one_hart 4) (four (one_hart 4)) → ⊥
nothing_at_limit k =
    let there = harts_there in
    let undue = k.limits 0 (omega (arith, there)) in
    let due = due_at_limit in
    cc

-- a flush comes where the word that all are stopped is due
flush_between : IsSettled (one_hart 50) (Flushes 0 Full ∷ four (one_hart 50)) → ⊥
flush_between k = never_said 50 (past_one (Flushes 0 Full) (four (one_hart 50)) refl (k.stopped (none_left 50)))

-- with both stops it is settled
abbrev both_said : List Event
both_said = Stop 0 (Reason.Limit 0) ∷ Stop 0 Reason.AllStopped ∷ four (one_hart 4)

both_undue : is_due 4 both_said 0 (hart (state_of (one_hart 4) both_said) 0).count ≡ false
unfolding need_of done walk_of sbi_of perform executed exec_now
both_undue = refl

both_there : length (state_of (one_hart 4) both_said).harts ≡ 1
unfolding need_of done walk_of sbi_of perform executed exec_now
both_there = refl

both_settled : IsSettled (one_hart 4) both_said
both_settled = record { limits = undue; stopped = λ _. before refl (this refl) }
  where
    undue : (h : ℕ) → h < length (state_of (one_hart 4) both_said).harts → is_due 4 both_said h (hart (state_of (one_hart 4) both_said) h).count ≡ false
    undue zero lt = both_undue
    undue (suc h) lt = absurd (let there = both_there in omega (arith, lt, there))

-- TWO HARTS

-- Hart 0 starts hart 1 and stops as its second instruction, at the limit; then hart 1 stops, before hart 0 has said that it is at
-- the limit. The stops may come in either order, and the first one is the reason.
abbrev two_harts : Setup
two_harts = record { layout = record { harts = 2; pages = 256 }; image = λ word. 0; start = 0x80000000; limit = 2; script = [] }

abbrev starting : Outcome
starting = record (only (Answer.Pair (pos 0) 0)) { starts = Some (record { target = 1; at = 0x80000000; opaque = 0 }) }

abbrev stopping_itself : Outcome
stopping_itself = record (only Answer.Nothing) { stops = true }

abbrev race : List Event
race = Exec 1 no_walk no_walk stopping_itself ∷ Exec 0 no_walk no_walk stopping_itself ∷ Start 1 0x80000000 0 ∷ Exec 0 no_walk no_walk starting ∷ []

limit_first : IsLawful two_harts race (Stop 0 (Reason.Limit 0))
unfolding executed
limit_first = (refl, refl)

all_behind : IsLawful two_harts (Stop 0 (Reason.Limit 0) ∷ race) (Stop 1 Reason.AllStopped)
unfolding executed
all_behind = (refl, refl)

all_first : IsLawful two_harts race (Stop 1 Reason.AllStopped)
unfolding executed
all_first = (refl, refl)

limit_behind : IsLawful two_harts (Stop 1 Reason.AllStopped ∷ race) (Stop 0 (Reason.Limit 0))
unfolding executed
limit_behind = (refl, refl)

abbrev raced : List Event
raced = Stop 1 Reason.AllStopped ∷ Stop 0 (Reason.Limit 0) ∷ race

raced_reason : (state_of two_harts raced).reason ≡ Some (Reason.Limit 0)
unfolding executed
raced_reason = refl

raced_first : is_due 2 raced 0 (hart (state_of two_harts raced) 0).count ≡ false
unfolding executed
raced_first = refl

raced_second : is_due 2 raced 1 (hart (state_of two_harts raced) 1).count ≡ false
unfolding executed
raced_second = refl

raced_there : length (state_of two_harts raced).harts ≡ 2
unfolding executed
raced_there = refl

raced_settled : IsSettled two_harts raced
raced_settled = record { limits = undue; stopped = λ _. this refl }
  where
    undue : (h : ℕ) → h < length (state_of two_harts raced).harts → is_due 2 raced h (hart (state_of two_harts raced) h).count ≡ false
    undue zero lt = raced_first
    undue (suc zero) lt = raced_second
    undue (suc (suc h)) lt = absurd (let there = raced_there in omega (arith, lt, there))
