use Rattle.std.proofs.Common.{◌+◌, sym, subst, arith}
use Rattle.exclusive.specs.Claims.{IsKick}
use Rattle.guest_ram.proofs.Moves.{goes_at_most}
use Rattle.exclusive.proofs.Callings.{IsCalling, calling_hart, calling_own, stands_calling}
use Rattle.exclusive.proofs.kicking.kick_others.Goals as goal
use Rattle.exclusive.proofs.kicking.kick_others.Goals.{then-hart-own, else-hart-own}

pub loop-hart-preserved : goal.loop-hart-preserved
loop-hart-preserved g c = let p = g.P.Look.shows c.args.port.now in let n = c.loop-hart.hart in let i = c.loop-hart.invariant.calling in elim c.if-hart-own.branch [
  | then-hart-own w ↦ record {
    calling = subst (λ x. IsCalling p (g.P.Look.shows x) c.actor-own.result c.layout-harts.result.harts (n + 1)) (sym w.port-is)
        (calling_hart p _ _ c.actor-own.result c.layout-harts.result.harts n i (omega arith) (omega arith) w.kick.ensures.kicked w.kick.ensures.acting);
  }
  | else-hart-own w ↦ record {
    calling = subst (λ x. IsCalling p (g.P.Look.shows x) c.actor-own.result c.layout-harts.result.harts (n + 1)) (sym w.port-is)
        (calling_own p _ c.actor-own.result c.layout-harts.result.harts n i (omega arith));
  }
]

pub returns-clause-stands : goal.returns-clause-stands
returns-clause-stands g c = stands_calling c.loop-hart.hart _ _ c.loop-hart.invariant.calling.goes

pub returns-clause-goes : goal.returns-clause-goes
returns-clause-goes g c = let i = c.loop-hart.invariant.calling in goes_at_most c.loop-hart.hart 8 IsKick _ _ (omega (arith, i.harts_are, c.requires.acting.limits.harts)) i.goes
