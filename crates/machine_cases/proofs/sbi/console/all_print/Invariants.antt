-- The machine keeps its one hart.
use Rattle.std.proofs.Common.{◌≡◌}
use Rattle.machine_cases.proofs.sbi.console.all_print.Given as goal

abbrev pub invariant-loop-called : goal.invariant-loop-called
invariant-loop-called g l = l.machine.shared.layout.harts ≡ 1
