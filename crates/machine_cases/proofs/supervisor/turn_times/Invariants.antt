-- The number of harts stays.
use Rattle.std.proofs.Common.{◌≡◌}
use Rattle.machine_cases.proofs.supervisor.turn_times.Given as goal

abbrev pub invariant-loop : goal.invariant-loop
invariant-loop l = l.machine.shared.layout.harts ≡ l.fn.machine.shared.layout.harts
