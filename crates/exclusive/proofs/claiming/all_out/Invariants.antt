use Rattle.exclusive.proofs.Looks.{IsLooking}
use Rattle.exclusive.proofs.claiming.all_out.Given as goal

abbrev pub invariant-loop-hart : goal.invariant-loop-hart
invariant-loop-hart g l = record { looking : IsLooking (g.P.Look.shows l.fn.port) (g.P.Look.shows l.port) l.own l.harts l.hart }
