use Rattle.std.proofs.Common.{◌≤◌, ◌<◌, ◌+◌, ◌-◌, ◌*◌}
use Rattle.std.specs.Prelude.{◌⊎◌}
use Rattle.guest_ram.specs.Areas.{IsOfTable}
use Rattle.guest_ram.specs.Ports.{GoesBy}
use Rattle.flush.specs.Sweeping.{HasCleared, IsInside}
use Rattle.flush.proofs.sweeps.clear_slots.Given as goal

abbrev pub invariant-loop-slot : goal.invariant-loop-slot
invariant-loop-slot g l = record {
  cleared : HasCleared (λ s. s < l.slot) (g.P.Look.shows l.fn.port) (g.P.Look.shows l.port);
  inside : IsInside l.book (g.P.Look.shows l.port);
  goes : GoesBy (3 * l.slot) IsOfTable (g.P.Look.shows l.fn.port) (g.P.Look.shows l.port);
}

abbrev pub invariant-loop-victim : goal.invariant-loop-victim
invariant-loop-victim g l = record {
  from : 1024 ≤ l.victim;
  cleared : HasCleared (λ s. (s < l.size) ⊎ ((1024 ≤ s) × (s < l.victim))) (g.P.Look.shows l.fn.port) (g.P.Look.shows l.port);
  inside : IsInside l.book (g.P.Look.shows l.port);
  goes : GoesBy (3 * l.size + 3 * (l.victim - 1024)) IsOfTable (g.P.Look.shows l.fn.port) (g.P.Look.shows l.port);
}
