-- The law of fences over steps that carry more, as the events that are placed at them, for whoever composes a run from the records.
use Rattle.std.specs.Prelude.{◌≡◌, ◌≢◌, ℕ, ◌<◌, ◌==◌, Bool, Some, List, [], ◌∷◌, ◌++◌, map, if◌then◌else◌}
use Rattle.step_laws.specs.declared.words.Layout.{Layout}
use Rattle.step_laws.specs.declared.steps.Step.{Step}
use Rattle.step_laws.specs.Map.{Place}
use Rattle.step_laws.specs.Steps.{own_steps}
use Rattle.step_laws.specs.Past.{Since, Anything}
use Rattle.step_laws.specs.Places.{last_load}
use Rattle.step_laws.specs.Tables.{IsClean}
use Rattle.step_laws.specs.Discipline.{IsAway, IsFetch, IsUnlock, IsDrain}
use Rattle.step_laws.specs.Histories.{IsHistory}
use Rattle.step_laws.specs.RequestLaws.{IsPost, IsFreed, IsAck}

-- the same over steps that carry more, as the events placed at them: where a source posted a flush request, and since then none of its
-- own steps lacks N, and now it loads the place as 0, there stands, with none of the source's steps since that lacks N, the end of the
-- lock section by which the target served it
abbrev pub own_placed : {A : Type 0} → (A → Step) → ℕ → List A → List A
own_placed step a [] = []
own_placed step a (x ∷ xs) = if a == (step x).actor then x ∷ own_placed step a xs else own_placed step a xs

abbrev pub PlacedLaw : Type 1
PlacedLaw = (A : Type 0) (step : A → Step) (N : A → Type 0) (layout : Layout) (runs : ℕ → Bool) (xs : List A) (z : Step) (t s k q : ℕ)
    → IsHistory layout runs (z ∷ map step xs) → t < layout.harts → t ≢ s → (IsDrain q → ⊥)
    → Since N (λ x. IsPost t s k q (step x)) Anything (own_placed step s xs) → IsFreed t s k z
    → Since (λ x. (step x).actor ≡ s → N x) (λ x. IsUnlock t (step x) × ((step x).actor ≡ t)) (λ ys. IsClean t q (own_steps t (map step ys))) xs

-- and where the target acked it, a drain too
abbrev pub PlacedAckLaw : Type 1
PlacedAckLaw = (A : Type 0) (step : A → Step) (N : A → Type 0) (layout : Layout) (runs : ℕ → Bool) (xs : List A) (z : Step) (t s k q : ℕ)
    → IsHistory layout runs (z ∷ map step xs) → t < layout.harts → t ≢ s
    → Since N (λ x. IsPost t s k q (step x)) Anything (own_placed step s xs) → IsFreed t s k z
    → Since (λ x. (step x).actor ≡ s → N x) (λ x. IsAck t s k (step x)) Anything xs

-- and where the target's own record tells at each ack of what stood since its load of the request, as its flush: that stands there too
abbrev pub PlacedFlushLaw : Type 1
PlacedFlushLaw = (A : Type 0) (step : A → Step) (N M : A → Type 0) (layout : Layout) (runs : ℕ → Bool) (xs : List A) (z : Step) (t s k q : ℕ)
    → IsHistory layout runs (z ∷ map step xs) → t < layout.harts → t ≢ s
    → ((newer older : List A) (x : A) → xs ≡ newer ++ (x ∷ older) → IsAck t s k (step x) → last_load (Place t s k) (own_steps t (map step older)) ≡ Some q
    → Since (λ y. IsAway (Place t s k) (step y)) (λ y. M y × IsAway (Place t s k) (step y)) (λ ys. Since (λ y. IsAway (Place t s k) (step y)) (λ y. IsFetch (Place t s k) q (step y)) Anything ys) (own_placed step t older))
    → Since N (λ x. IsPost t s k q (step x)) Anything (own_placed step s xs) → IsFreed t s k z
    → Since (λ x. (step x).actor ≡ s → N x) (λ x. M x × ((step x).actor ≡ t)) Anything xs
