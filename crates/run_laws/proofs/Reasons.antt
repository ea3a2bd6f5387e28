-- STOP is the first reason.
use Rattle.std.proofs.Common.{◌≡◌, ◌≢◌, ℕ, Bool, List, [], ◌∷◌, ◌++◌, Option, Some, None, refl, sym, ap, subst, ◌∙◌, inl, inr, arith, eq-eqb, ne_eqb}
use Rattle.std.specs.Prelude.{if◌then◌else◌}
use Rattle.std.proofs.lemmas.Bool.{cases_eq}
use prog.Atomic.{either}
use Rattle.step_laws.specs.declared.steps.Step.{Step}
use Rattle.step_laws.specs.declared.steps.WordOp.{WordOp}
use Rattle.step_laws.specs.declared.steps.WordOp.TheVariants.{Load, Exchange}
use Rattle.step_laws.specs.Map.{Word, Stop, name_of, number_of}
use Rattle.step_laws.specs.Steps.{value_at, new_of, answer_of}
use Rattle.step_laws.specs.Histories.{IsHistory}
use Rattle.run_laws.proofs.Stepping.{woven}
use Rattle.step_laws.proofs.Named.{name_number, number_name}
use Rattle.machine_model.specs.declared.reason.Reason.{Reason}
use Rattle.machine_model.specs.Event.{Event, did_of}
use Rattle.machine_model.specs.State.{Setup}
use Rattle.machine_model.specs.Change.{first_reason}
use Rattle.machine_model.specs.Run.{state_of}
use Rattle.run_laws.proofs.Placed.{Placed, run_of}
use Rattle.run_laws.proofs.Accounts.{AreQuiet, Accounts, calm, writes, writes_half, writes_rest, draws, fills, draws_none, draws_more, fills_more, fills_last, ends, takes, gives_start, gives_opaque, lets, begins_here, leaves_here}
use Rattle.turn_pieces.specs.Doing.{IsCalm}
use Rattle.machine_model.specs.ReasonWords.{reason_word}
use Rattle.turn_pieces.specs.Shared.{IsShared}
use Rattle.run_laws.proofs.Beginning.{IsBegun, history}
use Rattle.run_laws.specs.Ended.{stop_number}
use Rattle.run_laws.proofs.Pieces.{Told}
use Rattle.run_laws.proofs.States.{reason_quiet}
use Rattle.run_laws.proofs.Shared.{mk, Still, value_still, value_other}
use Rattle.run_laws.proofs.Agree.{history_tail}

abbrev IsStopWord : Word → Type 0
IsStopWord Stop = Unit {0}
IsStopWord _ = ⊥

-- the ways of a step with regard to the reason
data Says (w : Word) (op : WordOp) (arg : ℕ) (answer : ℕ) : List Event → Type 0 where
  silent : {es : List Event} → (IsStopWord w → Still op answer) → AreQuiet es → Says w op arg answer es
  other : {e : Event} {es : List Event} → (IsStopWord w → ⊥) → (did_of e).reason ≡ None → AreQuiet es → Says w op arg answer (e ∷ es)
  says : {e : Event} {es : List Event} (reason : Reason) → w ≡ Stop → op ≡ Exchange 0 → arg ≡ reason_word reason → (did_of e).reason ≡ Some reason → AreQuiet es → Says w op arg answer (e ∷ es)

calm_stop : (w : Word) (op : WordOp) (answer : ℕ) → IsStopWord w → IsCalm w op answer → Still op answer
calm_stop Stop Load answer s c = tt
calm_stop Stop op answer s c = absurd c
calm_stop w op answer s c = absurd s

shared_not : (w : Word) → IsShared w → IsStopWord w → ⊥
shared_not Stop s k = s
shared_not w s k = k

says_of : {u : Setup} {a : ℕ} {r : List Placed} {n : ℕ} {w : Word} {op : WordOp} {arg answer : ℕ} {es : List Event} → Accounts u a r n w op arg answer es → Says w op arg answer es
says_of {w = w} {op = op} {answer = answer} (calm h c x q) = silent (λ s. calm_stop w op answer s c) q
says_of {w = w} (writes h s o d b q) = other (shared_not w s) d.reason_is q
says_of (writes_half h k) = silent (λ s. absurd s) tt
says_of (writes_rest m v h ne d b q) = other (λ s. s) d.reason_is q
says_of (draws byte h p lt uu d b q) = other (λ s. s) d.reason_is q
says_of (fills byte h k g dd q) = silent (λ s. absurd s) q
says_of (draws_none h le q) = silent (λ s. absurd s) q
says_of (draws_more h k q) = silent (λ s. absurd s) q
says_of (fills_more h k p le zz uu q) = silent (λ s. absurd s) q
says_of (fills_last h k p le uu f z d b q) = other (λ s. s) d.reason_is q
says_of (ends {reason = reason} bytes h d g f b q) = says reason refl refl refl d.reason_is q
says_of (takes at opaque h d b q) = other (λ s. s) d.reason_is q
says_of (gives_start opaque h g q) = silent (λ s. absurd s) q
says_of (gives_opaque at h g q) = silent (λ s. absurd s) q
says_of (lets h q) = silent (λ s. absurd s) q
says_of (begins_here h q) = other (λ s. s) refl q
says_of (leaves_here h d b q) = other (λ s. s) d.reason_is q

some_reason : (reason : Reason) → reason_word reason ≢ 0
some_reason Reason.Pass e = cc
some_reason (Reason.Fail code) e = omega (arith, e)
some_reason (Reason.Limit h) e = omega (arith, e)
some_reason Reason.OutFull e = cc
some_reason Reason.AllStopped e = cc
some_reason Reason.Stopped e = cc

ended : (old : Option Reason) (reason : Reason) → new_of (Exchange 0) (stop_number old) (reason_word reason) ≡ stop_number (first_reason old (Some reason))
ended None reason = refl
ended (Some old) reason = ap (λ b. either b (reason_word reason) (reason_word old)) (ne_eqb (reason_word old) 0 (some_reason old))

module _ (u : Setup) (boot : List Step) (runs : ℕ → Bool) (begun : IsBegun u boot) where
  value_stop : (c n : ℕ) (op : WordOp) (arg answer : ℕ) (ts : List Placed) → answer ≡ answer_of op (value_at n (history boot ts)) → (IsStopWord (name_of n) → Still op answer)
      → value_at (number_of Stop) (mk c n op arg answer ∷ history boot ts) ≡ value_at (number_of Stop) (history boot ts)
  value_stop c n op arg answer ts an f = elim (cases_eq (number_of Stop) n) [
    | inl e ↦ value_still c n op arg answer (number_of Stop) (history boot ts) an (f (subst IsStopWord (sym (ap name_of (sym e) ∙ name_number Stop tt)) tt))
    | inr away ↦ value_other c n op arg answer (number_of Stop) (history boot ts) away
  ]

  pub reason_of : (ts : List Placed) → IsHistory u.layout runs (history boot ts) → Told u ts → value_at (number_of Stop) (history boot ts) ≡ stop_number (state_of u (run_of ts)).reason
  reason_of [] h d = begun.reason
  reason_of (t ∷ ts) h d = go (name_of t.step.word) refl t.events refl (says_of d.0.right.accounts) (reason_of ts (history_tail u runs t.step (history boot ts) h) d.1)
    where
      an : t.step.answer ≡ answer_of t.step.op (value_at t.step.word (history boot ts))
      an = (woven u.layout runs (history boot (t ∷ ts)) h).0.answered

      go : (w : Word) → name_of t.step.word ≡ w → (es : List Event) → t.events ≡ es → Says w t.step.op t.step.arg t.step.answer es → value_at (number_of Stop) (history boot ts) ≡ stop_number (state_of u (run_of ts)).reason
          → value_at (number_of Stop) (history boot (t ∷ ts)) ≡ stop_number (state_of u (t.events ++ run_of ts)).reason
      go w nm es is (silent f q) ih =
          value_stop t.step.actor t.step.word t.step.op t.step.arg t.step.answer ts an (λ s. f (subst IsStopWord nm s))
          ∙ (ih ∙ ap stop_number (sym (reason_quiet u t.events (run_of ts) (subst AreQuiet (sym is) q))))
      go w nm es is (other {e = e} {es = more} f r q) ih =
          value_stop t.step.actor t.step.word t.step.op t.step.arg t.step.answer ts an (λ s. absurd (f (subst IsStopWord nm s)))
          ∙ (ih ∙ ap stop_number (sym (ap (λ l. (state_of u (l ++ run_of ts)).reason) is ∙ (ap (first_reason (state_of u (more ++ run_of ts)).reason) r ∙ reason_quiet u more (run_of ts) q))))
      go w nm es is (says {e = e} {es = more} reason s o ar r q) ih =
          ap (λ (b : Bool). if b then new_of t.step.op (value_at (number_of Stop) (history boot ts)) t.step.arg else value_at (number_of Stop) (history boot ts))
          (eq-eqb (number_of Stop) t.step.word (ap number_of (sym (nm ∙ s)) ∙ number_name t.step.word))
          ∙ ((λ i. new_of (o i) (ih i) (ar i))
          ∙ (ended (state_of u (run_of ts)).reason reason
          ∙ ap stop_number (sym (ap (λ l. (state_of u (l ++ run_of ts)).reason) is
          ∙ (λ i. first_reason (reason_quiet u more (run_of ts) q i) (r i))))))
