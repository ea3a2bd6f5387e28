-- Harts in a list, before and after one is set.
use Rattle.std.proofs.Common.{◌≡◌, refl, ℕ, zero, suc, ◌<◌, List, [], ◌∷◌, length, slice_set, Option, Some, None, true, false, Bool, arith, ap, ◌∙◌}
use Rattle.std.specs.Prelude.{◌≢◌, if◌then◌else◌}
use Rattle.machine_model.specs.declared.mode.Mode.TheVariants.{Started, Halted, Pending}
use Rattle.machine_model.specs.State.{Hart, nth}
use Rattle.machine_model.specs.Event.{Event, Starting, actor_of, did_of}
use Rattle.machine_model.specs.Change.{part_next, has_part, awaited, with_start, harts_next}

-- what no change of a hart touches
pub kept : {B : Type 0} (f : Hart → B) (w : Hart → Hart) → ((t : Hart) → f (w t) ≡ f t) → (hs : List Hart) (i h : ℕ) → f (nth (slice_set hs i (w (nth hs i))) h) ≡ f (nth hs h)
kept f w k [] i h = refl
kept f w k (t ∷ hs) zero zero = k t
kept f w k (t ∷ hs) zero (suc h) = refl
kept f w k (t ∷ hs) (suc i) zero = refl
kept f w k (t ∷ hs) (suc i) (suc h) = kept f w k hs i h

-- a fact of the hart that was set, and of each other
pub by_set : (P : Hart → Type 0) (hs : List Hart) (a h : ℕ) (t : Hart) → a < length hs → (h ≡ a → P t) → (h ≢ a → P (nth hs h)) → P (nth (slice_set hs a t) h)
by_set P [] a h t lt p q = absurd (omega (arith, lt))
by_set P (x ∷ hs) zero zero t lt p q = p refl
by_set P (x ∷ hs) zero (suc h) t lt p q = q (λ e. omega (arith, e))
by_set P (x ∷ hs) (suc a) zero t lt p q = q (λ e. omega (arith, e))
by_set P (x ∷ hs) (suc a) (suc h) t lt p q = by_set P hs a h t (omega (arith, lt)) (λ e. p (ap suc e)) (λ ne. q (λ e. ne (omega (arith, e))))

-- a hart that isn't stopped is there
pub there : (hs : List Hart) (h : ℕ) → (nth hs h).mode ≢ Halted → h < length hs
there [] h ne = absurd (ne refl)
there (t ∷ hs) zero ne = omega arith
there (t ∷ hs) (suc h) ne = let i = there hs h ne in omega (arith, i)

pub started_there : (hs : List Hart) (h : ℕ) → (nth hs h).mode ≡ Started → h < length hs
started_there hs h e = there hs h (λ k. cc)

pub pending_there : (hs : List Hart) (h : ℕ) → (nth hs h).mode ≡ Pending → h < length hs
pending_there hs h e = there hs h (λ k. cc)

-- a start keeps held words and counts
pub start_keeps : {B : Type 0} (f : Hart → B) → ((g : Starting) (t : Hart) → f (awaited g t) ≡ f t) → (hs : List Hart) (o : Option Starting) (h : ℕ) → f (nth (with_start hs o) h) ≡ f (nth hs h)
start_keeps f k hs None h = refl
start_keeps f k hs (Some g) h = kept f (awaited g) (k g) hs g.target h

-- an event keeps what it keeps of its hart
pub event_keeps : {B : Type 0} (f : Hart → B) (e : Event) → ((g : Starting) (t : Hart) → f (awaited g t) ≡ f t) → ((t : Hart) → f (part_next e t) ≡ f t) → (hs : List Hart) (h : ℕ) → f (nth (harts_next e hs) h) ≡ f (nth hs h)
event_keeps f e k w hs h = start_keeps f k (if has_part e then slice_set hs (actor_of e) (part_next e (nth hs (actor_of e))) else hs) (did_of e).starts h ∙ by_part (has_part e)
  where
    by_part : (b : Bool) → f (nth (if b then slice_set hs (actor_of e) (part_next e (nth hs (actor_of e))) else hs) h) ≡ f (nth hs h)
    by_part true = kept f (part_next e) w hs (actor_of e) h
    by_part false = refl
