use Rattle.std.specs.Prelude.{◌*◌}
use Rattle.guest_ram.specs.Areas.{IsOfPlaces}
use Rattle.guest_ram.specs.Ports.{GoesBy}
use Rattle.guest_ram_cases.specs.Requests.{IsPosting}
use Rattle.guest_ram_cases.proofs.ringing.post_drains.Given as goal

abbrev pub invariant-loop-posted : goal.invariant-loop-posted
invariant-loop-posted g l = record { posting : IsPosting (g.P.Look.shows l.port) l.target l.posted; goes : GoesBy (2 * l.posted) IsOfPlaces (g.P.Look.shows l.fn.port) (g.P.Look.shows l.port) }
