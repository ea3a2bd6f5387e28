use Rattle.std.proofs.Common.{◌<◌, ◌+◌, ◌*◌, ap, sym, subst, ◌∙◌, arith}
use Rattle.guest_ram.specs.Ports.{Shown}
use Rattle.guest_ram.proofs.Moves.{goes_then, goes_at_most}
use Rattle.turn_cases.proofs.requests.post_pages.Goals as goal
use Rattle.work_queue.specs.Posts.{IsOfPosts}

pub returns-in-Err-clause-goes : goal.returns-in-Err-clause-goes
returns-in-Err-clause-goes g c = goes_at_most (3 * c.loop-number.number + 3) 27 IsOfPosts _ _ (omega arith) (goes_then (3 * c.loop-number.number) 3 IsOfPosts _ _ _ c.loop-number.invariant.goes c.post.ensures.goes)

pub loop-number-preserved : goal.loop-number-preserved
loop-number-preserved g c = let i = c.loop-number.invariant in let made = c.post.ensures in record {
  source = record {
    acting = made.acting;
    sent_is = made.sent;
    hart = subst (λ (x : Shown). 1 < x.machine.layout.harts) (sym made.goes.grown) i.source.hart;
    other = λ e. i.source.other (e ∙ ap (λ (x : Shown). x.own.actor) made.goes.grown);
  };
  goes = goes_at_most (3 * c.loop-number.number + 3) _ IsOfPosts _ _ (omega arith) (goes_then (3 * c.loop-number.number) 3 IsOfPosts _ _ _ i.goes made.goes);
}
