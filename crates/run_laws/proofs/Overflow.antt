-- Who drew a place beyond the last draws no other before it has given its reason.
use Rattle.std.proofs.Common.{◌≡◌, ◌⊎◌, ℕ, ◌<◌, ◌≤◌, Bool, true, false, true≢false, List, [], ◌∷◌, refl, sym, ap, subst, ◌∙◌, inl, inr, arith}
use Rattle.std.specs.Prelude.{◌||◌, nat_lt, if◌then◌else◌, is_some}
use Rattle.std.proofs.lemmas.Bool.{cases_lt}
use Rattle.step_laws.specs.declared.steps.Step.{Step}
use Rattle.step_laws.specs.declared.steps.WordOp.{WordOp}
use Rattle.step_laws.specs.declared.steps.WordOp.TheVariants.{Load, Add, Exchange}
use Rattle.step_laws.specs.Map.{Word, Cons, Stop, name_of}
use Rattle.step_laws.specs.Words.{console_places}
use Rattle.step_laws.specs.Histories.{IsHistory}
use Rattle.machine_model.specs.Event.{Event, did_of}
use Rattle.machine_model.specs.State.{Setup}
use Rattle.turn_pieces.specs.Doing.{IsCalm}
use Rattle.turn_pieces.specs.Draws.{Filled, beyond, overflow, within, filled, filled_next, Drawing}
use Rattle.turn_pieces.specs.Folds.{are_some, drawn_next}
use Rattle.turn_pieces.specs.Shared.{IsShared}
use Rattle.run_laws.proofs.Placed.{Placed, steps, mine}
use Rattle.run_laws.proofs.Kept.{has_bytes, drawn}
use Rattle.run_laws.proofs.Accounts.{Accounts, calm, writes, ends}
use Rattle.run_laws.proofs.Beginning.{IsBegun, history}
use Rattle.run_laws.proofs.Pieces.{Told}
use Rattle.run_laws.proofs.Filling.{bounded}
use Rattle.run_laws.proofs.Weave.{by_mine}
use Rattle.run_laws.proofs.Agree.{history_tail}

calm_load : (w : Word) (op : WordOp) (answer : ℕ) → IsCalm w op answer → w ≡ Stop → op ≡ Load
calm_load Stop Load answer c e = refl
calm_load Stop op answer c e = absurd c
calm_load w op answer c e = absurd (cc e)

shared_stop : (w : Word) → IsShared w → w ≡ Stop → ⊥
shared_stop w s e = subst IsShared e s

-- STOP is only looked at, or a reason is given
stop_ends : {u : Setup} {a : ℕ} {r : List Placed} {n : ℕ} {w : Word} {op : WordOp} {arg answer : ℕ} {es : List Event} → Accounts u a r n w op arg answer es → w ≡ Stop → (op ≡ Load) ⊎ (has_bytes es ≡ true)
stop_ends {w = w} {op = op} {answer = answer} (calm h c x q) e = inl (calm_load w op answer c e)
stop_ends {w = w} (writes h s o d b q) e = absurd (shared_stop w s e)
stop_ends (ends {e = v} {es = es} bytes h d g f b q) e = inr (λ i. is_some (d.reason_is i) || (are_some (did_of v).bytes || has_bytes es))
stop_ends k e = absurd (cc e)

full_draw : (answer : ℕ) (p : Filled) → console_places ≤ answer → p ≡ within → (if nat_lt answer console_places then p else overflow p) ≡ beyond
full_draw answer p le e = (λ i. if above i then e i else overflow (e i))
  where
    above : nat_lt answer console_places ≡ false
    above = grind (arith, le)

-- where the newest of an actor's open draws is beyond the last place, it still has to give a reason
abbrev Overflows : List Placed → Type 0
Overflows p = (d : ℕ) (ds : List ℕ) → drawn p ≡ d ∷ ds → console_places ≤ d → filled (steps p) ≡ beyond

overflow_step : (u : Setup) (t : Placed) (r : List Placed) → Accounts u t.step.actor r t.step.word (name_of t.step.word) t.step.op t.step.arg t.step.answer t.events
    → (name_of t.step.word ≡ Cons → t.step.op ≡ Add → filled (steps r) ≡ within) → Overflows r → Overflows (t ∷ r)
overflow_step u t r k was old d ds e le = by_events (has_bytes t.events) refl
  where
    by_word : has_bytes t.events ≡ false → (w : Word) (op : WordOp) → name_of t.step.word ≡ w → t.step.op ≡ op → drawn_next w op t.step.answer (drawn r) ≡ d ∷ ds → filled_next w op t.step.arg t.step.answer (filled (steps r)) ≡ beyond
    by_word none Cons Add w o x = let same : t.step.answer ≡ d = cc x in full_draw t.step.answer (filled (steps r)) (omega (arith, same, le)) (was w o)
    by_word none Stop (Exchange v) w o x = absurd (elim (stop_ends k w) [ inl y ↦ cc (o, y) | inr y ↦ true≢false (sym y ∙ none) ])
    by_word none w op n o x = old d ds x le

    by_events : (v : Bool) → has_bytes t.events ≡ v → filled (t.step ∷ steps r) ≡ beyond
    by_events true v = absurd (cc (ap (λ (b : Bool). if b then [] else drawn_next (name_of t.step.word) t.step.op t.step.answer (drawn r)) v, e))
    by_events false v = by_word v (name_of t.step.word) t.step.op refl refl (sym (ap (λ (b : Bool). if b then [] else drawn_next (name_of t.step.word) t.step.op t.step.answer (drawn r)) v) ∙ e)

module _ (u : Setup) (boot : List Step) (runs : ℕ → Bool) (begun : IsBegun u boot) where
  -- who draws has drawn no place beyond the last
  drawing_within : (t : Placed) (ts : List Placed) → IsHistory u.layout runs (history boot (t ∷ ts)) → Told u (t ∷ ts) → name_of t.step.word ≡ Cons → t.step.op ≡ Add → filled (steps (mine t.step.actor ts)) ≡ within
  drawing_within t ts h d w o = (bounded u boot runs begun ts (history_tail u runs t.step (history boot ts) h) d.1).free t.step.actor
      (subst (λ p. Drawing (steps (mine t.step.actor ts)) Cons p) o (subst (λ v. Drawing (steps (mine t.step.actor ts)) v t.step.op) w d.0.right.draws))

  overflows : (ts : List Placed) → IsHistory u.layout runs (history boot ts) → Told u ts → (a : ℕ) → Overflows (mine a ts)
  overflows [] h d a = λ x ds e le. absurd (cc e)
  overflows (t ∷ ts) h d a =
      let tail = history_tail u runs t.step (history boot ts) h in
      by_mine (λ b l. Overflows l) a t ts
      (overflow_step u t (mine t.step.actor ts) d.0.right.accounts (drawing_within t ts h d) (overflows ts tail d.1 t.step.actor)) (λ _. overflows ts tail d.1 a)

  -- so what it has drawn before is within
  pub drawn_within : (t : Placed) (ts : List Placed) → IsHistory u.layout runs (history boot (t ∷ ts)) → Told u (t ∷ ts) → name_of t.step.word ≡ Cons → t.step.op ≡ Add
      → (x : ℕ) (ds : List ℕ) → drawn (mine t.step.actor ts) ≡ x ∷ ds → x < console_places
  drawn_within t ts h d w o x ds e = elim (cases_lt x console_places) [
    | inl lt ↦ lt
    | inr le ↦ absurd (apart (sym (drawing_within t ts h d w o) ∙ overflows ts (history_tail u runs t.step (history boot ts) h) d.1 t.step.actor x ds e le))
  ]
    where
      apart : within ≡ beyond → ⊥
      apart z = cc z
