-- Each hart stands, running or not.
use Rattle.guest_ram_cases.specs.Tours.{IsSameSeat}
use Rattle.call_rows.specs.Standing.{IsStanding}
use Rattle.call_rows.proofs.four.play_by_four.Given as goal

abbrev pub invariant-loop-number : goal.invariant-loop-number
invariant-loop-number g l = record {
  first : IsStanding l.runs.lower.first (g.P.Look.shows l.first);
  second : IsStanding l.runs.lower.second (g.P.Look.shows l.second);
  third : IsStanding l.runs.upper.first (g.P.Look.shows l.third);
  fourth : IsStanding l.runs.upper.second (g.P.Look.shows l.fourth);
  seat : IsSameSeat (g.P.Look.shows l.fn.first) (g.P.Look.shows l.first);
  second_seat : IsSameSeat (g.P.Look.shows l.fn.second) (g.P.Look.shows l.second);
  third_seat : IsSameSeat (g.P.Look.shows l.fn.third) (g.P.Look.shows l.third);
  fourth_seat : IsSameSeat (g.P.Look.shows l.fn.fourth) (g.P.Look.shows l.fourth);
}
