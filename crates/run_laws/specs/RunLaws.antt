-- The laws of one run.
use Rattle.std.specs.Prelude.{◌≡◌, ◌≢◌, ℕ, List}
use mathlib.Core.Option.{some}
use lib.ListN.{get_elem?}
use Rattle.step_laws.specs.declared.steps.Record.{Record}
use Rattle.step_laws.specs.Words.{loader}
use Rattle.step_laws.specs.Layout.{IsInLimits}
use Rattle.step_laws.specs.Steps.{own_steps}
use Rattle.step_laws.specs.Joined.{IsJoined}
use Rattle.machine_model.specs.Event.{Event}
use Rattle.machine_model.specs.State.{Setup}
use Rattle.turn_pieces.specs.Log.{Log}
use Rattle.run_laws.specs.Boot.{IsBoot}
use Rattle.run_laws.specs.Ended.{IsEnded}
use Rattle.run_laws.specs.Read.{IsTurned, IsRead}

-- the records of a machine, each with a log that is a chain of turns
pub record AreTurned (u : Setup) (records : List Record) (turns : ℕ → ℕ) (logs : ℕ → Log) : Type 0 where
  pub each : (k : ℕ) (r : Record) → get_elem? records k ≡ some r → r.actor ≢ loader → IsTurned u r (turns r.actor) (logs r.actor)

-- the words at the end of a machine whose records of all actors were joined are those of one run, which reads the logs
abbrev pub RunLaw : Type 0
RunLaw = (u : Setup) (words : List ℕ) (records : List Record) (turns : ℕ → ℕ) (logs : ℕ → Log) → IsInLimits u.layout → (j : IsJoined u.layout words records)
    → IsBoot u (own_steps loader j.steps) → AreTurned u records turns logs
    → (run : List Event) × IsEnded u words run × IsRead j.steps records logs run
