use Rattle.std.proofs.Common.{◌+◌, ◌*◌, ◌<◌, ◌∙◌, sym, subst, arith}
use Rattle.guest_ram.proofs.Moves.{goes_at_most}
use Rattle.work_queue.specs.Posts.{IsOfPosts}
use Rattle.work_queue.specs.Rings.{next_post}
use Rattle.work_queue.proofs.Posted.{place_few, target_few}
use Rattle.sbi_calls.specs.Fences.{IsFenceAt, IsOfAsks}
use Rattle.sbi_calls.proofs.Asked.{at_goes, at_sent, sent_else}
use Rattle.sbi_calls.proofs.Asks.{asks_then, posted_asks, taken_asks}
use Rattle.sbi_calls.proofs.asking.post_pieces.Goals as goal

pub returns-in-Err-clause-at : goal.returns-in-Err-clause-at
returns-in-Err-clause-at g c = λ base acked i. subst (λ s. IsFenceAt c.args.span.now (next_post s c.args.target) c.args.target c.loop-number.number acked base (g.P.Look.shows c.post.new.port)) (sym c.in-Err.ensures.unmoved)
    (at_goes 3 IsOfPosts (g.P.Look.shows c.loop-number.port) (g.P.Look.shows c.post.new.port) c.args.span.now _ c.args.target c.loop-number.number acked base c.post.ensures.goes (c.loop-number.invariant.at base acked i))

pub returns-in-Err-clause-goes : goal.returns-in-Err-clause-goes
returns-in-Err-clause-goes g c = let p = g.P.Look.shows c.args.port.now in
    goes_at_most (3 * c.loop-number.number + 1) 27 (IsOfAsks p.own.actor) _ _ (omega (arith, c.pieces-number-end.ensures.few))
    (asks_then (3 * c.loop-number.number) 1 p _ _ c.loop-number.invariant.goes (taken_asks _ _ _ _ _ c.in-Err.ensures.refused))

pub loop-number-preserved : goal.loop-number-preserved
loop-number-preserved g c = let i = c.loop-number.invariant in let n = c.loop-number.number in let t = c.args.target in let made = c.in-Ok.ensures in let p = g.P.Look.shows c.loop-number.port in
    let few : t < 8 = target_few (g.P.Look.shows c.args.port.now) t c.requires.acting c.requires.target in record {
      at = λ base acked a. at_sent c.args.span.now c.loop-number.sent c.post.new.sent c.piece.result t c.in-Ok.field-0 n acked base p (g.P.Look.shows c.post.new.port) (omega (arith, few)) i.sent_is c.post.ensures.sent
          (place_few p c.loop-number.sent t i.sent_is (omega (arith, few))) (omega (arith, c.pieces-number-end.ensures.few)) (omega (arith, c.pieces-number-end.ensures.count)) c.piece.ensures.piece made.place made.posted (i.at base acked a);
      others = λ u ne. sent_else c.loop-number.sent c.post.new.sent t u made.moved ne ∙ i.others u ne;
      low = omega (arith, i.low);
      sent_is = c.post.ensures.sent;
      served = λ s k. c.post.ensures.served s (i.served s k);
      acting = c.post.ensures.acting;
      goes = goes_at_most (3 * n + 3) _ (IsOfAsks (g.P.Look.shows c.args.port.now).own.actor) _ _ (omega arith) (asks_then (3 * n) 3 (g.P.Look.shows c.args.port.now) _ _ i.goes (posted_asks _ _ _ _ _ made.posted));
    }
