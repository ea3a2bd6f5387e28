-- The turns so far.
use Rattle.std.proofs.Common.{◌≡◌, None}
use Rattle.ref_machine.specs.Ran.{Ran}
use Rattle.tlbvm.specs.Turns.{harts_once}
use Rattle.tlbvm.proofs.taking.take_round.Given as goal

abbrev pub invariant-loop-hart : goal.invariant-loop-hart
invariant-loop-hart l = record {
  layout : l.machine.shared.layout ≡ l.fn.machine.shared.layout;
  going : l.machine.shared.reason ≡ None;
  ran : Ran (harts_once l.hart) l.fn.machine l.machine;
}
