-- Logs behind one another, with no fetch between. Logs are newest first.
use Rattle.std.specs.Prelude.{◌≡◌, ℕ, false, List, [], ◌∷◌, ◌++◌}
use Rattle.machine_model.specs.Event.{Event}
use Rattle.machine_model.specs.Run.{fetches}
use Rattle.turn_pieces.specs.Log.{Log, events_of}

-- none of the events is a fetch of the actor's
abbrev pub AreNoFetches : (a : ℕ) → List Event → Type 0
AreNoFetches a [] = Unit {0}
AreNoFetches a (e ∷ run) = (fetches a e ≡ false) × AreNoFetches a run

-- a log is this base with more, and the actor has fetched nothing since then
pub record IsBehind (a : ℕ) (base l : Log) : Type 0 where
  pub added : Log
  pub is : l ≡ added ++ base
  pub none : AreNoFetches a (events_of added)
