use Rattle.std.specs.Prelude.{◌≡◌, ◌*◌, length}
use Rattle.step_laws.specs.Places.{acked_requests}
use Rattle.guest_ram.specs.Areas.{IsOfPlaces}
use Rattle.guest_ram.specs.Ports.{GoesBy}
use Rattle.guest_ram_cases.specs.Requests.{IsServing}
use Rattle.guest_ram_cases.proofs.ringing.serve_drains.Given as goal

abbrev pub invariant-loop-served : goal.invariant-loop-served
invariant-loop-served g l = record {
  serving : IsServing (g.P.Look.shows l.port) l.source;
  acked : length (acked_requests (g.P.Look.shows l.port).own.actor l.source (g.P.Look.shows l.port).own.steps) ≡ l.served;
  goes : GoesBy (2 * l.served) IsOfPlaces (g.P.Look.shows l.fn.port) (g.P.Look.shows l.port);
}
