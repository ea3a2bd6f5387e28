use Rattle.guest_ram_cases.specs.Tours.{IsSameSeat}
use Rattle.hart_turn.specs.Harts.{GoesWith}
use Rattle.hart_turn.proofs.tests_instructions.play.Given as goal

abbrev pub invariant-loop : goal.invariant-loop
invariant-loop g l = record {
  with : GoesWith l.hart (g.P.Look.shows l.port);
  seat : IsSameSeat (g.P.Look.shows l.fn.port) (g.P.Look.shows l.port);
}
