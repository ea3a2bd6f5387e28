use Rattle.std.proofs.Common.{◌≡◌, ◌+◌, ◌*◌, ◌∷◌, arith, rules}
use Rattle.step_laws.specs.Places.{posts}
use Rattle.guest_ram.specs.Areas.{IsOfPlaces}
use Rattle.guest_ram.proofs.Moves.{goes_then, goes_at_most}
use Rattle.guest_ram_cases.proofs.Posts.{posting_on, one_more}
use Rattle.guest_ram_cases.proofs.ringing.post_drains.Goals as goal

pub returns-then-is_err-clause-goes : goal.returns-then-is_err-clause-goes
returns-then-is_err-clause-goes g c = let n = c.loop-posted.posted in goes_at_most (2 * n + 2) 18 IsOfPlaces _ _ (omega arith) (goes_then (2 * n) 2 IsOfPlaces _ _ _ c.loop-posted.invariant.goes c.post.ensures.goes)

pub loop-posted-preserved : goal.loop-posted-preserved
loop-posted-preserved g c = let n = c.loop-posted.posted in let p = g.P.Look.shows c.loop-posted.port in let q = g.P.Look.shows c.post.new.port in
    let e : posts c.args.target q.own.actor q.own.steps ≡ 3 ∷ posts c.args.target p.own.actor p.own.steps = search rules in record {
      posting = posting_on 2 IsOfPlaces p q c.args.target n (n + 1) c.post.ensures.goes c.post.ensures.acting (one_more _ _ 3 n e c.loop-posted.invariant.posting.posted) c.loop-posted.invariant.posting;
      goes = goes_at_most (2 * n + 2) (2 * (n + 1)) IsOfPlaces _ _ (omega arith) (goes_then (2 * n) 2 IsOfPlaces _ _ _ c.loop-posted.invariant.goes c.post.ensures.goes);
    }
