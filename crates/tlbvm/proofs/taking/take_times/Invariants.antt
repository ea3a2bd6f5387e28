-- The turns so far.
use Rattle.std.proofs.Common.{◌≡◌, ◌≤◌, ◌-◌, None}
use Rattle.std.specs.Prelude.{replicate}
use Rattle.ref_machine.specs.Ran.{Ran}
use Rattle.tlbvm.proofs.taking.take_times.Given as goal

abbrev pub invariant-loop-left : goal.invariant-loop-left
invariant-loop-left l = record {
  left : l.left ≤ l.count;
  layout : l.machine.shared.layout ≡ l.fn.machine.shared.layout;
  going : l.machine.shared.reason ≡ None;
  ran : Ran (replicate (l.count - l.left) l.hart) l.fn.machine l.machine;
}

abbrev pub decreases-loop-left : goal.decreases-loop-left
decreases-loop-left l = l.left
