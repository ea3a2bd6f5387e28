-- What a turn of the monitor was, by its answer.
use Rattle.std.specs.Prelude.{◌≡◌, true, false, ◌∷◌, List}
use Rattle.machine_model.specs.declared.reason.Reason.{Reason}
use Rattle.guest_ram.specs.Ports.{Shown}
use Rattle.hart_signals.specs.Signals.{HasFoundNoReason}
use Rattle.monitor_script.specs.declared.scripts.Command.{Command}
use Rattle.monitor.specs.Monitors.{Monitor}
use Rattle.monitor.specs.Steps.{HasDone, HasEnded, HasFinished, HasWaited, GoesWith}
use Rattle.monitor.specs.declared.turning.MonTurn.{MonTurn}
use Rattle.monitor.specs.declared.turning.MonTurn.TheVariants.{Did, Waiting, Finished, Ended}

-- behind a look at STOP, which was 0: the command in progress was done, or waits for what was seen; or all commands are done
abbrev pub HasGoneOn : MonTurn → (m k : Monitor) → (p q : Shown) → Type 0
HasGoneOn Did m k p q = (command : Command) × (more : List Command) × (m.script ≡ command ∷ more) × HasDone command m k p q
HasGoneOn (Waiting seen) m k p q = (command : Command) × (more : List Command) × (m.script ≡ command ∷ more) × HasWaited seen command m k p q
HasGoneOn Finished m k p q = HasFinished m k p q
HasGoneOn (Ended reason) m k p q = ⊥

-- a turn of a monitor that had finished makes no step; any other looks at STOP first
pub data HasTurned (end : MonTurn) (m k : Monitor) (p q : Shown) : Type 0 where
  rested : m.rests ≡ true → end ≡ Finished → k ≡ m → q ≡ p → HasTurned end m k p q
  went_on : (looked : Shown) → m.rests ≡ false → HasFoundNoReason p looked → HasGoneOn end m k looked q → HasTurned end m k p q
  ended : (reason : Reason) → m.rests ≡ false → end ≡ Ended reason → HasEnded reason m k p q → HasTurned end m k p q

-- the monitor goes with its port again, unless it has ended with its machine
abbrev pub GoesOrEnds : MonTurn → Monitor → Shown → Type 0
GoesOrEnds (Ended reason) m p = Unit {0}
GoesOrEnds end m p = GoesWith m p
