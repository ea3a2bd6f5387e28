-- The machine keeps its harts.
use Rattle.std.proofs.Common.{◌≡◌}
use Rattle.machine_cases.proofs.sbi.play.Given as goal

abbrev pub invariant-loop-hart : goal.invariant-loop-hart
invariant-loop-hart g l = l.machine.shared.layout.harts ≡ l.fn.harts
