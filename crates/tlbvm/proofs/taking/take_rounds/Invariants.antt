-- The rounds so far.
use Rattle.std.proofs.Common.{◌≡◌, None}
use Rattle.ref_machine.specs.Ran.{Ran}
use Rattle.tlbvm.specs.Turns.{hart_turns, rounds}
use Rattle.tlbvm.proofs.taking.take_rounds.Given as goal

abbrev pub invariant-loop-round : goal.invariant-loop-round
invariant-loop-round l = record {
  layout : l.machine.shared.layout ≡ l.fn.machine.shared.layout;
  going : l.machine.shared.reason ≡ None;
  ran : Ran (hart_turns (rounds l.harts l._round)) l.fn.machine l.machine;
}
