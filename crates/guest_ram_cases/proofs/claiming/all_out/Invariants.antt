use Rattle.guest_ram.specs.Areas.{IsOfSection}
use Rattle.guest_ram.specs.Ports.{GoesBy}
use Rattle.guest_ram_cases.proofs.Looks.{IsLooking}
use Rattle.guest_ram_cases.proofs.claiming.all_out.Given as goal

abbrev pub invariant-loop-hart : goal.invariant-loop-hart
invariant-loop-hart g l = record { looking : IsLooking (g.P.Look.shows l.port) l.own l.harts l.hart; goes : GoesBy l.hart IsOfSection (g.P.Look.shows l.fn.port) (g.P.Look.shows l.port) }
