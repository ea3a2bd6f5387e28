use Rattle.std.proofs.Common.{◌≡◌}
use Rattle.step_laws.specs.Sections.{phase, inside}
use Rattle.kept_fills.specs.Beside.{IsBeside}
use Rattle.fill_cases.proofs.deeds.count_right.Given as goal

abbrev pub invariant-loop-number : goal.invariant-loop-number
invariant-loop-number g l = record {
  beside : IsBeside l.book (g.P.Look.shows l.port);
  inside : phase (g.P.Look.shows l.port).own.steps ≡ inside;
}
