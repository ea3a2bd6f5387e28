-- The hart stands, running or not.
use Rattle.std.proofs.Common.{◌≡◌}
use Rattle.guest_ram_cases.specs.Tours.{IsSameSeat}
use Rattle.call_rows.specs.Standing.{IsStanding}
use Rattle.call_rows.proofs.playing.play_first.Given as goal

abbrev pub invariant-loop-number : goal.invariant-loop-number
invariant-loop-number g l = record {
  standing : IsStanding l.runs (g.P.Look.shows l.port);
  hart : l.hart ≡ (g.P.Look.shows l.port).own.actor;
  seat : IsSameSeat (g.P.Look.shows l.fn.port) (g.P.Look.shows l.port);
}
