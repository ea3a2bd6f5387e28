use Rattle.std.proofs.Common.{◌≡◌}
use Rattle.guest_ram_cases.specs.Tours.{IsSameSeat}
use Rattle.need_rows.specs.Ready.{IsReady}
use Rattle.need_rows.proofs.needs.count_right.Given as goal

abbrev pub invariant-loop-row : goal.invariant-loop-row
invariant-loop-row g l = record {
  ready : IsReady l.book l.arch (g.P.Look.shows l.port);
  seat : IsSameSeat (g.P.Look.shows l.fn.port) (g.P.Look.shows l.port);
  few : l.count ≡ l.row-index;
}
