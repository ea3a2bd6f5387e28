use Rattle.std.proofs.Common.{rules, ◌<◌, arith}
use Rattle.sbi_calls.specs.Fences.{IsOfAsks}
use Rattle.work_queue.proofs.Posted.{target_few}
use Rattle.sbi_calls.proofs.Fenced.{fence_posted}
use Rattle.sbi_calls.proofs.asking.post_at.Goals as goal

pub returns-clause-goes_on : goal.returns-clause-goes_on
returns-clause-goes_on g c = let few : c.args.hart < 8 = target_few (g.P.Look.shows c.args.port.now) c.args.hart c.requires.acting c.requires.hart in
    λ base f. fence_posted 27 (IsOfAsks (g.P.Look.shows c.args.port.now).own.actor) c.args.harts c.args.span.now c.args.sent.now c.post_pieces-posted.new.sent c.args.fence.now base _ _ c.args.hart _ c.post_pieces-posted.ensures.goes (search rules) (omega (arith, few))
    (c.post_pieces-posted.ensures.at base _) c.post_pieces-posted.ensures.others f
