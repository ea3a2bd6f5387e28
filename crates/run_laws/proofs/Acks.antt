-- The target's part of a request: where it acks one that asks for a flush, its record has the flush, behind its load of the request.
use Rattle.std.specs.Prelude.{◌≡◌, ℕ, IsTrue, List, Some}
use Rattle.std.specs.List.{list_any}
use Rattle.step_laws.specs.declared.steps.WordOp.{WordOp}
use Rattle.step_laws.specs.declared.steps.WordOp.TheVariants.{Store}
use Rattle.step_laws.specs.Map.{Word, Place}
use Rattle.step_laws.specs.Past.{Since, Anything}
use Rattle.step_laws.specs.Places.{last_load}
use Rattle.step_laws.specs.Discipline.{IsAway, IsFetch, IsDrain}
use Rattle.machine_model.specs.Run.{flushes}
use Rattle.run_laws.proofs.Placed.{Placed, steps}
use Rattle.turn_pieces.specs.Requests.{flush_of}

-- an event of t at this step flushes all that the request asks for
abbrev pub Makes : (t q : ℕ) → Placed → Type 0
Makes t q x = IsTrue (list_any (flushes t (flush_of q)) x.events)

-- it stands behind the load of the request, and since both nothing was done in the place
abbrev pub IsFlushed : (t : ℕ) → Word → (q : ℕ) → List Placed → Type 0
IsFlushed t w q r = Since (λ y. IsAway w y.step) (λ y. Makes t q y × IsAway w y.step) (λ ys. Since (λ y. IsAway w y.step) (λ y. IsFetch w q y.step) Anything ys) r

-- of the record r and the step behind it
abbrev pub Acks : (a : ℕ) → List Placed → Word → WordOp → Type 0
Acks a r (Place t s k) Store = t ≡ a → (q : ℕ) → last_load (Place t s k) (steps r) ≡ Some q → (IsDrain q → ⊥) → IsFlushed t (Place t s k) q r
Acks a r _ _ = Unit {0}
