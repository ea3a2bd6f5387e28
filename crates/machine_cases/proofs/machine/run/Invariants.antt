-- The machine keeps its harts.
use Rattle.std.proofs.Common.{◌≡◌}
use Rattle.machine_cases.proofs.machine.run.Given as goal

abbrev pub invariant-loop-taken : goal.invariant-loop-taken
invariant-loop-taken l = l.machine.shared.layout.harts ≡ l.fn.machine.shared.layout.harts
