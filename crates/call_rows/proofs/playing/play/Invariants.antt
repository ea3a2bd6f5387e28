-- Each hart stands, running or not.
use Rattle.guest_ram_cases.specs.Tours.{IsSameSeat}
use Rattle.call_rows.specs.Standing.{IsStanding}
use Rattle.call_rows.proofs.playing.play.Given as goal

abbrev pub invariant-loop-number : goal.invariant-loop-number
invariant-loop-number g l = record {
  first : IsStanding l.runs.first (g.P.Look.shows l.first);
  second : IsStanding l.runs.second (g.P.Look.shows l.second);
  seat : IsSameSeat (g.P.Look.shows l.fn.first) (g.P.Look.shows l.first);
  second_seat : IsSameSeat (g.P.Look.shows l.fn.second) (g.P.Look.shows l.second);
}
