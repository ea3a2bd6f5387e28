-- What a piece asks bites: each row here differs in one thing from a log that is right, and is refuted.
use Rattle.std.proofs.Common.{◌≡◌, ◌+◌, ◌-◌, ℕ, false, true≢false, List, [], ◌∷◌, Option, Some, None, refl, sym, ap, subst, ◌∙◌, inl, inr, arith, pos, eq-eqb}
use Rattle.std.specs.Prelude.{◌==◌, ◌⊎◌}
use Rattle.turn_pieces.specs.Folds.{Unstored}
use Rattle.rv64_decode.specs.declared.instruction.Instr.TheVariants.{Lui, Sb}
use Rattle.rv64_decode.specs.Encoding.{encoding_of}
use Rattle.rv64_priv.specs.Flush.{Full}
use Rattle.rv64_priv.specs.Walk.{Walked, walk_of}
use Rattle.rv64_exec.specs.declared.needs.Answer.{Answer}
use Rattle.rv64_exec.specs.Plan.{need_of}
use Rattle.rv64_exec.specs.Finish.{done}
use Rattle.step_laws.specs.declared.steps.WordOp.TheVariants.{Load, Store, Add, Or, Exchange}
use Rattle.step_laws.specs.Words.{first_ram_word, first_console_word, first_place, first_dirty_word, console_places, ipi_word}
use Rattle.step_laws.specs.Map.{name_of}
use Rattle.machine_model.specs.declared.mode.Mode.TheVariants.{Started}
use Rattle.machine_model.specs.Event.{Event, Fetch, Exec, Flushes, Start, only}
use Rattle.machine_model.specs.State.{Setup}
use Rattle.machine_model.specs.Own.{own_executed}
use Rattle.machine_model.specs.Run.{renews, is_of}
use Rattle.machine_model.specs.Perform.{Surroundings, perform}
use Rattle.machine_model.specs.Sbi.{sbi_of}
use Rattle.machine_model.specs.Lawful.{flushing}
use Rattle.walk_laws.specs.WalkLoads.{found, reads_of}
use Rattle.turn_pieces.specs.Log.{made, did, Log, HasStood}
use Rattle.turn_pieces.specs.Owed.{HasPaid, IsPromised, IsNext, MayMake, books}
use Rattle.turn_pieces.specs.Right.{IsRight, MayBe}
use Rattle.turn_pieces.specs.Grows.{IsClosed}
use Rattle.turn_pieces.proofs.Rows.{step, code, u, load_stop, load_ipi, set_run, first_code, second_code, fetched, inside, one, two}

-- two numbers that differ
pub apart : (m n : ℕ) → (m == n) ≡ false → m ≡ n → ⊥
apart m n e k = true≢false (sym (eq-eqb m n k) ∙ e)

or_zero : Option ℕ → ℕ
or_zero None = 0
or_zero (Some n) = n

first_of : List ℕ → ℕ
first_of [] = 0
first_of (x ∷ xs) = x

place_of : Option Unstored → ℕ
place_of None = 0
place_of (Some k) = k.place

-- an event of another actor at a step of hart 0
event_of_another : IsRight u 0 (made first_code ∷ made load_ipi ∷ inside) (Fetch 1 (Walked.Leaf 0xcf 0x80000000 0) (code (Lui 5 (pos 0x10000000)))) → ⊥
event_of_another k = apart 1 0 refl k.own

-- a code word that the load didn't find
code_not_loaded : IsRight u 0 (made first_code ∷ made load_ipi ∷ inside) (fetched (Lui 6 (pos 0x10000000))) → ⊥
unfolding name_of need_of done walk_of sbi_of perform own_executed flushing reads_of
code_not_loaded k = apart (encoding_of (Lui 6 (pos 0x10000000))) (encoding_of (Lui 5 (pos 0x10000000))) refl k.fit.1.fetched.2

-- a fetch with no look at IPI since the last event
no_look_at_ipi : IsRight u 0 (made first_code ∷ inside) (fetched (Lui 5 (pos 0x10000000))) → ⊥
no_look_at_ipi k = none_there k.fit.1.ipi k.fit.1.loaded
  where
    none_there : (ipi : ℕ) → HasStood (is_of 0) (found ipi_word ipi ∷ []) (made first_code ∷ inside) → ⊥
    none_there ipi (inl x) = apart first_ram_word 5 refl x.0.0
    none_there ipi (inr (inl x)) = apart 1 5 refl x.0.0
    none_there ipi (inr (inr (inl x))) = apart 8 5 refl x.0.0
    none_there ipi (inr (inr (inr (inl x)))) = apart 2 5 refl x.0.0
    none_there ipi (inr (inr (inr (inr x)))) = x

-- an outcome of another value: another byte
abbrev pub drew : Log
drew = made (step 0 4 Add 1 0) ∷ did (fetched (Sb 5 6 (pos 0))) ∷ made second_code ∷ made load_ipi ∷ two

abbrev machine : Surroundings
machine = record { layout = u.layout; memory = λ x. 0; room = console_places; modes = λ t. Started }

machine_may_be : MayBe u 0 drew machine
unfolding or_zero name_of need_of done walk_of sbi_of perform own_executed flushing reads_of
machine_may_be = record {
  layout = refl;
  words = λ x. omega arith;
  here = (λ s. absurd s, λ t lt e. absurd (cc (e)));
  section = λ s. absurd (true≢false (sym s.0));
  follow = tt;
  room = λ i e. subst (λ n. console_places ≡ console_places - n) (ap or_zero e) refl;
  started = λ lt e. refl;
}

byte_of_another_value : IsRight u 0 drew (Exec 0 (Walked.Leaf 0xcf 0x10000000 0) Walked.PageFault (record (only Answer.Nothing) { bytes = 80 ∷ [] })) → ⊥
unfolding first_of name_of need_of done walk_of sbi_of perform own_executed flushing reads_of
byte_of_another_value k = apart 80 79 refl (ap (λ x. first_of x.bytes) (k.fit.1.right machine machine_may_be))

-- a store of RAM, and no event before the next step
abbrev stored : Log
stored = made (step 0 (first_ram_word + 9) Store 7 0) ∷ inside

store_without_event : MayMake u 0 stored (set_run 0) → ⊥
unfolding name_of
store_without_event k = k.behind.1

-- two words of RAM stored outside a section
two_words_outside : MayMake u 0 stored (step 0 (first_ram_word + 10) Store 8 0) → ⊥
unfolding name_of
two_words_outside k = true≢false (sym k.behind.0.0)

-- a request that is acked before its flush: hart 1 asked hart 0 for a full flush
abbrev asked : Log
asked = made (step 0 (first_place + 8) Load 0 1) ∷ made load_stop ∷ []

ack_before_flush : MayMake u 0 asked (step 0 (first_place + 8) Store 0 0) → ⊥
unfolding name_of
ack_before_flush k = (k.acks refl 1 refl (λ d. apart 1 3 refl d)).0 refl

-- behind its flush it may be acked
ack_behind_flush : MayMake u 0 (did (Flushes 0 Full) ∷ made (step 0 11 Store 0 0) ∷ made (step 0 11 (Exchange 0) 1 0) ∷ asked) (step 0 (first_place + 8) Store 0 0)
unfolding or_zero name_of
ack_behind_flush = record {
  behind = (tt, tt);
  acks = λ e q loaded drain. inl (refl, (λ k. absurd (cc (k))), inr ((λ k. absurd (cc (k))), inr ((λ k. absurd (cc (k))), inl (refl, refl, ap or_zero loaded))));
  draws_last = tt;
}

-- a start with no full flush
start_without_flush : IsRight u 1 (made (step 1 29 Store 0 0) ∷ made (step 1 31 Load 0 5) ∷ made (step 1 30 Load 0 0x80000000) ∷ made (step 1 29 Load 0 2) ∷ []) (Start 1 0x80000000 5) → ⊥
unfolding name_of
start_without_flush k = (true≢false (sym k.fit.1.flushed_all))

-- a limit that isn't exchanged
abbrev limited : Setup
limited = record { layout = u.layout; image = λ x. 0; start = 0x80000000; limit = 1; script = [] }

limit_not_exchanged : IsClosed limited 0 (made (set_run 0) ∷ one) → ⊥
unfolding name_of need_of done walk_of sbi_of perform own_executed flushing reads_of
limit_not_exchanged k = true≢false k.stops

-- a byte in a place that wasn't drawn
abbrev byte_printed : Event
byte_printed = Exec 0 (Walked.Leaf 0xcf 0x10000000 0) Walked.PageFault (record (only Answer.Nothing) { bytes = 79 ∷ [] })

byte_in_another_place : MayMake u 0 (did byte_printed ∷ drew) (step 0 (first_console_word + 1) Store (79 + 256) 0) → ⊥
unfolding place_of first_of name_of need_of done walk_of sbi_of perform own_executed flushing reads_of
byte_in_another_place k = neither k.behind.1
  where
    neither : IsPromised (books (did byte_printed ∷ drew)) 1 (79 + 256) ⊎ IsNext u 0 (books (did byte_printed ∷ drew)) 1 (79 + 256) → ⊥
    neither (inl x) = apart 0 1 refl (ap place_of x.1)
    neither (inr x) = apart 0 1 refl (ap first_of x.drawn)

-- a call that is cut short though the place that it drew is there
abbrev cut : Log
cut = made (step 0 2 (Exchange 0) 4 0) ∷ made (step 0 4 Add 1 0) ∷ []

cut_with_room : (e : Event) → HasPaid 0 cut e → ⊥
unfolding name_of
cut_with_room e k = apart 0 (console_places - 0) refl ((k.fills_it tt).some 0 refl).0

-- a walk whose load stands before a flush that covers its leaf
walk_before_flush : HasStood (renews 0 0x1000 (Walked.Leaf 0xcf 0x80001000 0)) (found (first_ram_word + 3) 0xcf ∷ []) (did (Flushes 0 Full) ∷ made (step 0 (first_ram_word + 3) Load 0 0xcf) ∷ []) → ⊥
walk_before_flush k = (true≢false k.0)

-- a page that was marked and that no event behind the mark stores to
mark_without_store : IsClosed u 0 (made (step 0 first_dirty_word Or 1 0) ∷ []) → ⊥
unfolding name_of
mark_without_store k = true≢false (k.marks 0)
