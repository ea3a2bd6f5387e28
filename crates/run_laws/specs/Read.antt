-- How a run reads the logs of all actors: they are merged in one log.
use Rattle.std.specs.Prelude.{◌≡◌, ◌≢◌, ℕ, ◌==◌, if◌then◌else◌, List, [], ◌∷◌, ◌++◌}
use mathlib.Core.Option.{some}
use lib.ListN.{get_elem?}
use Rattle.step_laws.specs.declared.steps.Record.{Record}
use Rattle.step_laws.specs.declared.steps.Step.{Step}
use Rattle.step_laws.specs.Words.{loader}
use Rattle.step_laws.specs.Steps.{own_steps}
use Rattle.machine_model.specs.Event.{Event, actor_of}
use Rattle.machine_model.specs.State.{Setup}
use Rattle.turn_pieces.specs.Log.{Item, made, did, Log, steps_of, events_of}
use Rattle.turn_pieces.specs.Grows.{IsChain}

-- who makes an item
abbrev pub maker_of : Item → ℕ
maker_of (made s) = s.actor
maker_of (did e) = actor_of e

-- what one actor made
abbrev pub own_items : ℕ → Log → Log
own_items a [] = []
own_items a (x ∷ l) = if a == maker_of x then x ∷ own_items a l else own_items a l

-- the log of a hart or of the monitor is that of its record, and is a chain of so many turns
pub record IsTurned (u : Setup) (r : Record) (turns : ℕ) (l : Log) : Type 0 where
  pub are : steps_of l ≡ r.steps
  pub chain : IsChain u r.actor turns l

-- one log of all actors: its steps are these, behind the loader's stores, what each actor made is its log, and its events are the run
pub record IsRead (steps : List Step) (records : List Record) (logs : ℕ → Log) (run : List Event) : Type 0 where
  pub all : Log
  pub stores : List Step
  pub order : steps ≡ steps_of all ++ stores
  -- those are the loader's
  pub loaders : (a : ℕ) → a ≢ loader → own_steps a stores ≡ []
  pub own : (k : ℕ) (r : Record) → get_elem? records k ≡ some r → r.actor ≢ loader → own_items r.actor all ≡ logs r.actor
  pub events : events_of all ≡ run
