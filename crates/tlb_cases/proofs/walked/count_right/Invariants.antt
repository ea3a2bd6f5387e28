use Rattle.std.proofs.Common.{◌≡◌}
use Rattle.step_laws.specs.Sections.{phase, inside}
use Rattle.guest_ram.specs.Ports.{IsActing}
use Rattle.tlb_cases.proofs.walked.count_right.Given as goal

abbrev pub invariant-loop-number : goal.invariant-loop-number
invariant-loop-number g l = record {
  acting : IsActing (g.P.Look.shows l.port);
  inside : phase (g.P.Look.shows l.port).own.steps ≡ inside;
}
