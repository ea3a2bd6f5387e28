-- Where a monitor's life begins.
use Rattle.std.specs.Prelude.{◌≡◌, true, List, []}
use Rattle.std.specs.List.{list_all}
use Rattle.step_laws.specs.Layout.{IsInLimits}
use Rattle.step_laws.specs.Map.{monitor}
use Rattle.machine_model.specs.State.{Setup}
use Rattle.guest_ram.specs.Ports.{Shown, layout_of}
use Rattle.monitor_script.specs.Scripts.{is_possible}
use Rattle.monitor_script.specs.declared.scripts.Command.{Command}
use Rattle.monitor.specs.Logs.{Between}
use Rattle.monitor.specs.Monitors.{first_monitor, lines_of}
use Rattle.monitor.specs.Steps.{GoesWith}

-- the monitor's port, which has made no step
pub record IsNew (p : Shown) : Type 0 where
  pub limits : IsInLimits (layout_of p)
  pub number : p.own.actor ≡ monitor
  pub none : p.own.steps ≡ []

-- a monitor as it is made goes with it, where the machine can do the commands
abbrev pub NewMonitorsGo : Type 0
NewMonitorsGo = (commands : List Command) (p : Shown) → IsNew p → list_all (is_possible (layout_of p).pages) commands ≡ true → GoesWith (first_monitor commands) p

-- and with the empty log of a run of this script
abbrev pub NewMonitorsAreBetween : Type 0
NewMonitorsAreBetween = (commands : List Command) (p : Shown) (u : Setup) → IsNew p → u.layout ≡ layout_of p → u.script ≡ lines_of commands → Between (first_monitor commands) p u monitor []
