use Rattle.std.proofs.Common.{◌≤◌, ◌+◌, ◌-◌, ◌*◌}
use Rattle.guest_ram.specs.Areas.{IsOfTable}
use Rattle.guest_ram.specs.Ports.{GoesBy}
use Rattle.guest_ram_cases.proofs.Clears.{IsClearing}
use Rattle.guest_ram_cases.proofs.sizing.double_size.Given as goal

abbrev pub invariant-loop-slot : goal.invariant-loop-slot
invariant-loop-slot g l = record { clearing : IsClearing (g.P.Look.shows l.port) l.own l.slot; goes : GoesBy (1 + 3 * l.slot) IsOfTable (g.P.Look.shows l.fn.port) (g.P.Look.shows l.port) }

abbrev pub invariant-loop-victim : goal.invariant-loop-victim
invariant-loop-victim g l = record {
  from : 1024 ≤ l.victim;
  clearing : IsClearing (g.P.Look.shows l.port) l.own l.victim;
  goes : GoesBy (385 + 3 * (l.victim - 1024)) IsOfTable (g.P.Look.shows l.fn.port) (g.P.Look.shows l.port);
}
