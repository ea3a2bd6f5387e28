-- The end of a machine whose records of all actors were joined.
use Rattle.std.specs.Prelude.{◌⊎◌, ◌≡◌, ◌≢◌, ℕ, List, [], ◌++◌}
use mathlib.Core.Option.{some}
use lib.ListN.{get_elem?}
use Rattle.step_laws.specs.declared.steps.Record.{Record}
use Rattle.step_laws.specs.declared.steps.Step.{Step}
use Rattle.step_laws.specs.Layout.{IsInLimits}
use Rattle.step_laws.specs.Map.{name_of}
use Rattle.step_laws.specs.Words.{loader}
use Rattle.step_laws.specs.Steps.{own_steps, value_at}
use Rattle.step_laws.specs.Joined.{IsJoined}
use Rattle.step_laws.specs.Loader.{IsBooted}
use Rattle.machine_model.specs.Event.{Event}
use Rattle.machine_model.specs.State.{Setup}
use Rattle.run_laws.proofs.Placed.{Placed, steps, run_of, mine}
use Rattle.turn_pieces.specs.Shared.{IsShared}
use Rattle.run_laws.proofs.Pieces.{IsTurns, Told}
use Rattle.run_laws.specs.Ended.{IsEnded}

-- the record of a hart or the monitor, with events, cut in turns
pub record IsTurned (u : Setup) (r : Record) (placed : List Placed) : Type 0 where
  pub are : steps placed ≡ r.steps
  pub turns : IsTurns u r.actor placed

-- the events of the run stand at the joined steps, those of each actor where its own record has them, and in that order
pub record IsRead (u : Setup) (hs : List Step) (records : List Record) (placed : ℕ → List Placed) (run : List Event) : Type 0 where
  pub all : List Placed
  pub boot : List Step
  pub order : hs ≡ steps all ++ boot
  pub own : (k : ℕ) (r : Record) → get_elem? records k ≡ some r → r.actor ≢ loader → mine r.actor all ≡ placed r.actor
  pub events : run_of all ≡ run
  pub loaders : (a : ℕ) → a ≢ loader → own_steps a boot ≡ []
  pub told : Told u all

-- what joins gives a run, where the loader's record leaves the image and each other record is cut in turns
abbrev pub JoinedComposition : Type 0
JoinedComposition = (u : Setup) (words : List ℕ) (records : List Record) (placed : ℕ → List Placed) → IsInLimits u.layout → (j : IsJoined u.layout words records)
    → ((x : ℕ) → IsShared (name_of x) → value_at x (own_steps loader j.steps) ≡ u.image x) → ((x : ℕ) → IsShared (name_of x) ⊎ (u.image x ≡ 0))
    → ((k : ℕ) (r : Record) → get_elem? records k ≡ some r → r.actor ≢ loader → IsTurned u r (placed r.actor))
    → IsBooted u.layout (own_steps loader j.steps)
    → (run : List Event) × IsEnded u words run × IsRead u j.steps records placed run
