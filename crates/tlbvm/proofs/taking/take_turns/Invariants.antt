-- The items so far.
use Rattle.std.proofs.Common.{◌≡◌, None}
use Rattle.std.specs.Prelude.{take}
use Rattle.ref_machine.specs.Ran.{Ran}
use Rattle.tlbvm.specs.Turns.{hart_turns, turns_of}
use Rattle.tlbvm.proofs.taking.take_turns.Given as goal

abbrev pub invariant-loop-item : goal.invariant-loop-item
invariant-loop-item l = record {
  layout : l.machine.shared.layout ≡ l.fn.machine.shared.layout;
  going : l.machine.shared.reason ≡ None;
  ran : Ran (hart_turns (turns_of l.harts (take l.item-index l.items))) l.fn.machine l.machine;
}
