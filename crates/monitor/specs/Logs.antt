-- The monitor in its log of steps and events. Lists are newest first.
use Rattle.std.specs.Prelude.{◌≡◌, ℕ, false}
use Rattle.step_laws.specs.Map.{monitor}
use Rattle.machine_model.specs.Run.{is_snap_begin, last_of, passes}
use Rattle.machine_model.specs.Script.{script_results}
use Rattle.machine_model.specs.State.{Setup}
use Rattle.guest_ram.specs.Ports.{Shown, layout_of}
use Rattle.turn_pieces.specs.Folds.{script_of}
use Rattle.turn_pieces.specs.Grows.{IsClosed}
use Rattle.turn_pieces.specs.Log.{Log, events_of, steps_of}
use Rattle.turn_pieces.specs.Writers.{Turned}
use Rattle.monitor.specs.Monitors.{Monitor, lines_of, results_of}

-- Between turns the log is that of the port, with nothing open. Its events left of the script what the monitor has left, and came to the
-- monitor's outcomes. No snapshot is begun
pub record Between (m : Monitor) (p : Shown) (u : Setup) (a : ℕ) (l : Log) : Type 0 where
  pub layout : u.layout ≡ layout_of p
  pub actor : a ≡ p.own.actor
  pub is : steps_of l ≡ p.own.steps
  pub closed : IsClosed u a l
  pub none_begun : passes is_snap_begin (last_of monitor (events_of l)) ≡ false
  pub script : script_of u.script (events_of l) ≡ lines_of m.script
  pub results : script_results (events_of l) ≡ results_of m

-- each log between turns goes on by one turn to one between turns; a monitor that had finished makes no step
abbrev pub GoesOn : (m k : Monitor) → (p q : Shown) → Type 0
GoesOn m k p q = m.rests ≡ false → Turned (Between m p) (Between k q)
