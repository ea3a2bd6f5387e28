use Rattle.guest_ram_cases.specs.Tours.{IsSameSeat}
use Rattle.access_rows.specs.Ready.{IsReady}
use Rattle.access_rows.proofs.fetches.count_right.Given as goal

abbrev pub invariant-loop-number : goal.invariant-loop-number
invariant-loop-number g l = record {
  ready : IsReady l.side.book l.side.arch (g.P.Look.shows l.port);
  seat : IsSameSeat (g.P.Look.shows l.fn.port) (g.P.Look.shows l.port);
}
