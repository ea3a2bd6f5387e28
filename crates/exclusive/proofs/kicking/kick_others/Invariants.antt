use Rattle.exclusive.proofs.Callings.{IsCalling}
use Rattle.exclusive.proofs.kicking.kick_others.Given as goal

abbrev pub invariant-loop-hart : goal.invariant-loop-hart
invariant-loop-hart g l = record { calling : IsCalling (g.P.Look.shows l.fn.port) (g.P.Look.shows l.port) l.own l.harts l.hart }
