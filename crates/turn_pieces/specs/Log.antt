-- A record of steps in which events are items of their own, each behind the step at which it stands. Logs are newest first.
use Rattle.std.specs.Prelude.{◌≡◌, ◌⊎◌, Bool, false, List, [], ◌∷◌}
use Rattle.step_laws.specs.declared.steps.Step.{Step}
use Rattle.machine_model.specs.Event.{Event}
use Rattle.walk_laws.specs.WalkLoads.{Found, Loads}

pub data Item : Type 0 where
  made : Step → Item
  did : Event → Item

abbrev pub Log : Type 0
Log = List Item

abbrev pub steps_of : Log → List Step
steps_of [] = []
steps_of (made s ∷ l) = s ∷ steps_of l
steps_of (did e ∷ l) = steps_of l

abbrev pub events_of : Log → List Event
events_of [] = []
events_of (made s ∷ l) = events_of l
events_of (did e ∷ l) = e ∷ events_of l

-- what stood before the last step
abbrev pub before : Log → Log
before [] = []
before (made s ∷ l) = l
before (did e ∷ l) = before l

-- this holds of the last step
abbrev pub AtLast : (Step → Type 0) → Log → Type 0
AtLast P [] = ⊥
AtLast P (made s ∷ l) = P s
AtLast P (did e ∷ l) = AtLast P l

-- these words were loaded so in this order, the last one first in the list, and since the first of these loads no event that
-- passes the test stands
abbrev pub HasStood : (Event → Bool) → List Found → Log → Type 0
HasStood stop [] l = Unit {0}
HasStood stop (x ∷ xs) [] = ⊥
HasStood stop (x ∷ xs) (made s ∷ l) = (Loads x s × HasStood stop xs l) ⊎ HasStood stop (x ∷ xs) l
HasStood stop (x ∷ xs) (did e ∷ l) = (stop e ≡ false) × HasStood stop (x ∷ xs) l
