use Rattle.guest_ram.specs.Areas.{IsOfPlaces}
use Rattle.guest_ram.proofs.Moves.{goes_then}
use Rattle.turn_cases.proofs.requests.serve_monitor.Goals as goal

pub returns-in-Drain-clause-goes : goal.returns-in-Drain-clause-goes
returns-in-Drain-clause-goes g c = goes_then 1 1 IsOfPlaces _ _ _ c.next_request.ensures.goes c.ack.ensures.goes
