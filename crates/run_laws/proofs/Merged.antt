-- Placed steps of all actors, as one log.
use Rattle.std.proofs.Common.{◌≡◌, ℕ, Bool, true, false, List, [], ◌∷◌, ◌++◌, refl, ap, ◌∙◌}
use Rattle.std.specs.Prelude.{◌==◌, if◌then◌else◌}
use Rattle.machine_model.specs.Event.{Event}
use Rattle.machine_model.specs.State.{Setup}
use Rattle.turn_pieces.specs.Log.{made, did, Log, steps_of, events_of}
use Rattle.turn_pieces.specs.Grows.{Grows, stays, makes, does}
use Rattle.run_laws.specs.Read.{own_items}
use Rattle.run_laws.proofs.Placed.{Placed, steps, run_of, mine, By, with_event, placed_of}
use Rattle.run_laws.proofs.Pieces.{Told}
use Rattle.run_laws.proofs.Own.{by_fit}
use Rattle.run_laws.proofs.Grown.{sound, some_step}

abbrev onto : List Event → Log → Log
onto [] l = l
onto (e ∷ es) l = did e ∷ onto es l

abbrev pub log_of : List Placed → Log
log_of [] = []
log_of (t ∷ r) = onto t.events (made t.step ∷ log_of r)

onto_steps : (es : List Event) (l : Log) → steps_of (onto es l) ≡ steps_of l
onto_steps [] l = refl
onto_steps (e ∷ es) l = onto_steps es l

onto_events : (es : List Event) (l : Log) → events_of (onto es l) ≡ es ++ events_of l
onto_events [] l = refl
onto_events (e ∷ es) l = ap (λ r. e ∷ r) (onto_events es l)

pub log_steps : (r : List Placed) → steps_of (log_of r) ≡ steps r
log_steps [] = refl
log_steps (t ∷ r) = onto_steps t.events (made t.step ∷ log_of r) ∙ ap (λ x. t.step ∷ x) (log_steps r)

pub log_events : (r : List Placed) → events_of (log_of r) ≡ run_of r
log_events [] = refl
log_events (t ∷ r) = onto_events t.events (made t.step ∷ log_of r) ∙ ap (λ x. t.events ++ x) (log_events r)

-- a log's placed steps are that log again
with_log : (e : Event) (r : List Placed) → (r ≡ [] → ⊥) → log_of (with_event e r) ≡ did e ∷ log_of r
with_log e [] ne = absurd (ne refl)
with_log e (t ∷ r) ne = refl

pub log_again : (u : Setup) (a : ℕ) {l : Log} → Grows u a [] l → log_of (placed_of l) ≡ l
log_again u a stays = refl
log_again u a (makes s g k) = ap (λ x. made s ∷ x) (log_again u a g)
log_again u a (does {m = m} e g k) = with_log e (placed_of m) (some_step u a m e (sound u a g) k) ∙ ap (λ x. did e ∷ x) (log_again u a g)

-- what one actor made
abbrev Picked : ℕ → ℕ → List Event → Log → Log
Picked a b es l = if a == b then onto es (own_items a l) else own_items a l

own_onto : (a b : ℕ) (es : List Event) (l : Log) → By b es → own_items a (onto es l) ≡ Picked a b es l
own_onto a b [] l k = none (a == b)
  where
    none : (t : Bool) → own_items a l ≡ (if t then own_items a l else own_items a l)
    none true = refl
    none false = refl
own_onto a b (e ∷ es) l k = ap (λ c. if a == c then did e ∷ own_items a (onto es l) else own_items a (onto es l)) k.0 ∙ both (a == b) (own_onto a b es l k.1)
  where
    both : (t : Bool) → own_items a (onto es l) ≡ (if t then onto es (own_items a l) else own_items a l)
        → (if t then did e ∷ own_items a (onto es l) else own_items a (onto es l)) ≡ (if t then onto (e ∷ es) (own_items a l) else own_items a l)
    both true i = ap (λ x. did e ∷ x) i
    both false i = i

pub own_log : (u : Setup) (a : ℕ) (r : List Placed) → Told u r → own_items a (log_of r) ≡ log_of (mine a r)
own_log u a [] d = refl
own_log u a (t ∷ r) d = own_onto a t.step.actor t.events (made t.step ∷ log_of r) (by_fit u t.step.actor t.step (mine t.step.actor r) t.events d.0.right.fit) ∙ here (a == t.step.actor) (own_log u a r d.1)
  where
    here : (b : Bool) → own_items a (log_of r) ≡ log_of (mine a r)
        → (if b then onto t.events (if b then made t.step ∷ own_items a (log_of r) else own_items a (log_of r)) else (if b then made t.step ∷ own_items a (log_of r) else own_items a (log_of r)))
        ≡ log_of (if b then t ∷ mine a r else mine a r)
    here true i = ap (λ x. onto t.events (made t.step ∷ x)) i
    here false i = i
