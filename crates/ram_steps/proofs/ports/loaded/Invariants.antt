use Rattle.std.proofs.Common.{◌≡◌}
use Rattle.step_laws.specs.Sections.{phase, inside}
use Rattle.guest_ram.specs.Ports.{IsActing}
use Rattle.ram_steps.proofs.ports.loaded.Given as goal

abbrev pub invariant-loop : goal.invariant-loop
invariant-loop g l = record { acting : IsActing (g.P.Look.shows l.port); inside : phase (g.P.Look.shows l.port).own.steps ≡ inside }

abbrev pub invariant-loop-index : goal.invariant-loop-index
invariant-loop-index g l = record { acting : IsActing (g.P.Look.shows l.port); inside : phase (g.P.Look.shows l.port).own.steps ≡ inside }
