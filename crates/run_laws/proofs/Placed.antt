-- A record of steps with the events placed at each. Records are newest first, and so are the events at a step.
use Rattle.std.specs.Prelude.{◌≡◌, ◌⊎◌, ℕ, ◌==◌, if◌then◌else◌, Bool, false, ◌||◌, List, [], ◌∷◌, ◌++◌, is_some}
use Rattle.step_laws.specs.declared.steps.Step.{Step}
use Rattle.machine_model.specs.Event.{Event, actor_of, entry_stored}
use Rattle.walk_laws.specs.WalkLoads.{Found, Loads}
use Rattle.turn_pieces.specs.Log.{made, did, Log}

pub record Placed : Type 0 where
  pub step : Step
  pub events : List Event

abbrev pub placed : Step → List Event → Placed
placed s es = record { step = s; events = es }

abbrev pub steps : List Placed → List Step
steps [] = []
steps (t ∷ r) = t.step ∷ steps r

-- the events alone
abbrev pub run_of : List Placed → List Event
run_of [] = []
run_of (t ∷ r) = t.events ++ run_of r

-- what one actor's record has
abbrev pub mine : ℕ → List Placed → List Placed
mine a [] = []
mine a (t ∷ r) = if a == t.step.actor then t ∷ mine a r else mine a r

-- no event passes the test
abbrev pub Spares : (Event → Bool) → List Event → Type 0
Spares stop [] = Unit {0}
Spares stop (e ∷ es) = (stop e ≡ false) × Spares stop es

-- all events are of this actor
abbrev pub By : ℕ → List Event → Type 0
By a [] = Unit {0}
By a (e ∷ es) = (actor_of e ≡ a) × By a es

-- these words were loaded so in this order, the last one first in the list, and since the first of these loads no event that
-- passes the test was placed
abbrev pub Stood : (Event → Bool) → List Found → List Placed → Type 0
Stood stop [] p = Unit {0}
Stood stop (x ∷ xs) [] = ⊥
Stood stop (x ∷ xs) (t ∷ p) = Spares stop t.events × ((Loads x t.step × Stood stop xs p) ⊎ Stood stop (x ∷ xs) p)

-- an entry is written at the step
abbrev pub has_entry : List Event → Bool
has_entry [] = false
has_entry (e ∷ es) = is_some (entry_stored e) || has_entry es

-- a log as such a record: each event at the step before it
abbrev pub with_event : Event → List Placed → List Placed
with_event e [] = []
with_event e (t ∷ r) = placed t.step (e ∷ t.events) ∷ r

abbrev pub placed_of : Log → List Placed
placed_of [] = []
placed_of (made s ∷ l) = placed s [] ∷ placed_of l
placed_of (did e ∷ l) = with_event e (placed_of l)
