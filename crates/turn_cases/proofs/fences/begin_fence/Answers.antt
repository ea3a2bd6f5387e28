use Rattle.std.proofs.Common.{arith}
use Rattle.turn_cases.proofs.Begun.{fence_begins}
use Rattle.turn_cases.proofs.fences.begin_fence.Goals as goal

pub fence_turn-requires-clause-fence : goal.fence_turn-requires-clause-fence
fence_turn-requires-clause-fence g c = let p = g.P.Look.shows c.args.port.now in (p.own.steps, fence_begins c.args.harts c.args.span.now _ p (omega (arith, c.requires.first)))
