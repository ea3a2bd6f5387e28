use Rattle.std.specs.Prelude.{◌+◌}
use Rattle.guest_ram.specs.Areas.{IsOfPlaces}
use Rattle.guest_ram.specs.Ports.{GoesBy}
use Rattle.guest_ram_cases.specs.Requests.{IsPosting}
use Rattle.guest_ram_cases.proofs.exchanging.are_done.Given as goal

abbrev pub invariant-loop-i : goal.invariant-loop-i
invariant-loop-i g l = record { posting : IsPosting (g.P.Look.shows l.port) l.target (l.first + l.count); goes : GoesBy l.i IsOfPlaces (g.P.Look.shows l.fn.port) (g.P.Look.shows l.port) }
