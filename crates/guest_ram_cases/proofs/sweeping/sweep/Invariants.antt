use Rattle.std.proofs.Common.{ℕ, ◌+◌, ◌-◌, ◌<◌, ◌≤◌}
use Rattle.std.specs.Prelude.{◌⊎◌}
use Rattle.guest_ram.specs.Areas.{IsOfTable}
use Rattle.guest_ram.specs.Ports.{GoesBy}
use Rattle.guest_ram_cases.proofs.Swept.{IsSweeping}
use Rattle.guest_ram_cases.proofs.sweeping.sweep.Given as goal

abbrev pub invariant-loop-slot : goal.invariant-loop-slot
invariant-loop-slot g l = record { sweeping : IsSweeping (g.P.Look.shows l.port) l.hart l.size (λ (j : ℕ). j < l.slot); goes : GoesBy (2 + l.slot) IsOfTable (g.P.Look.shows l.fn.port) (g.P.Look.shows l.port) }

abbrev pub invariant-loop-victim : goal.invariant-loop-victim
invariant-loop-victim g l = record {
  from : 1024 ≤ l.victim;
  sweeping : IsSweeping (g.P.Look.shows l.port) l.hart l.size (λ (j : ℕ). (j < l.size) ⊎ ((1024 ≤ j) × (j < l.victim)));
  goes : GoesBy (2 + l.size + (l.victim - 1024)) IsOfTable (g.P.Look.shows l.fn.port) (g.P.Look.shows l.port);
}
