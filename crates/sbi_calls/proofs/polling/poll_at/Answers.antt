use Rattle.std.proofs.Common.{rules, ◌<◌, arith}
use Rattle.sbi_calls.specs.Fences.{IsOfPolls}
use Rattle.work_queue.proofs.Posted.{target_few}
use Rattle.sbi_calls.proofs.Fenced.{fence_acked, own_acked}
use Rattle.sbi_calls.proofs.polling.poll_at.Goals as goal

pub returns-clause-goes_on : goal.returns-clause-goes_on
returns-clause-goes_on g c = let few : c.args.hart < 8 = target_few (g.P.Look.shows c.args.port.now) c.args.hart c.requires.acting c.requires.hart in
    λ span base f. fence_acked 8 (IsOfPolls (g.P.Look.shows c.args.port.now).own.actor) c.args.harts span c.args.sent.now c.args.fence.now base _ _ c.args.hart _ c.poll_pieces-acked.ensures.goes (search rules) (omega (arith, few)) (λ e. omega (arith, e))
    (c.poll_pieces-acked.ensures.at span base) f

pub returns-clause-own : goal.returns-clause-own
returns-clause-own g c = own_acked 8 (IsOfPolls (g.P.Look.shows c.args.port.now).own.actor) c.args.fence.now _ _ c.args.hart _ c.poll_pieces-acked.ensures.goes (λ e. omega (arith, e))
