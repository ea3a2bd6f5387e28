use Rattle.std.proofs.Common.{◌≡◌, ◌+◌, ◌%◌, ◌<◌, ◌∷◌, ◌∙◌, ap, sym, subst, length, refl, arith, rules}
use Rattle.guest_ram.specs.Ports.{Shown}
use Rattle.step_laws.specs.declared.request.Request.TheVariants.{FlushAll, FlushPages}
use Rattle.step_laws.specs.Places.{posts}
use Rattle.guest_ram.specs.Areas.{IsOfPlaces}
use Rattle.guest_ram.proofs.Moves.{goes_then, goes_at_most}
use Rattle.guest_ram_cases.specs.Requests.{IsPosting}
use Rattle.guest_ram_cases.proofs.Posts.{posting_on, one_more}
use Rattle.guest_ram_cases.proofs.exchanging.post_flushes.Goals as goal

pub post-requires-clause-request : goal.post-requires-clause-request
post-requires-clause-request g c = (FlushAll, tt, (refl, refl, refl))

pub post-requires-2-clause-request : goal.post-requires-2-clause-request
post-requires-2-clause-request g c = (FlushPages 524288 4, (omega arith, omega arith, omega arith), (refl, refl, refl))

pub returns-then-is_err-clause-posting : goal.returns-then-is_err-clause-posting
returns-then-is_err-clause-posting g c = let n = c.args.posted in let p = g.P.Look.shows c.args.port.now in let q = g.P.Look.shows c.post.new.port in
    let e : posts c.args.target q.own.actor q.own.steps ≡ posts c.args.target p.own.actor p.own.steps = search rules in
    posting_on 2 IsOfPlaces p q c.args.target n (n + 0) c.post.ensures.goes c.post.ensures.acting (ap length e ∙ c.requires.posting.posted ∙ omega arith) c.requires.posting

pub returns-then-is_err-clause-goes : goal.returns-then-is_err-clause-goes
returns-then-is_err-clause-goes g c = goes_at_most 2 4 IsOfPlaces _ _ (omega arith) c.post.ensures.goes

pub post-requires-2-clause-target : goal.post-requires-2-clause-target
post-requires-2-clause-target g c = subst (λ (x : Shown). c.args.target < x.machine.layout.harts) (sym c.post.ensures.goes.grown) c.requires.posting.hart

pub post-requires-2-clause-other : goal.post-requires-2-clause-other
post-requires-2-clause-other g c = λ x. c.requires.posting.other (x ∙ ap (λ (y : Shown). y.own.actor) c.post.ensures.goes.grown)

pub post-requires-2-clause-place : goal.post-requires-2-clause-place
post-requires-2-clause-place g c = let n = c.args.posted in let p = g.P.Look.shows c.args.port.now in let q = g.P.Look.shows c.post.new.port in
    let e : posts c.args.target q.own.actor q.own.steps ≡ 1 ∷ posts c.args.target p.own.actor p.own.steps = search rules in
    ap (λ k. k % 8) (sym (one_more _ _ 1 n e c.requires.posting.posted))

pub returns-then-is_err-2-clause-posting : goal.returns-then-is_err-2-clause-posting
returns-then-is_err-2-clause-posting g c = let n = c.args.posted in let p = g.P.Look.shows c.args.port.now in let q = g.P.Look.shows c.post.new.port in let r = g.P.Look.shows c.post-2.new.port in
    let e : posts c.args.target q.own.actor q.own.steps ≡ 1 ∷ posts c.args.target p.own.actor p.own.steps = search rules in
    let f : posts c.args.target r.own.actor r.own.steps ≡ posts c.args.target q.own.actor q.own.steps = search rules in
    let s : IsPosting q c.args.target (n + 1) = posting_on 2 IsOfPlaces p q c.args.target n (n + 1) c.post.ensures.goes c.post.ensures.acting (one_more _ _ 1 n e c.requires.posting.posted) c.requires.posting in
    posting_on 2 IsOfPlaces q r c.args.target (n + 1) (n + 1) c.post-2.ensures.goes c.post-2.ensures.acting (ap length f ∙ s.posted) s

pub returns-then-is_err-2-clause-goes : goal.returns-then-is_err-2-clause-goes
returns-then-is_err-2-clause-goes g c = goes_then 2 2 IsOfPlaces _ _ _ c.post.ensures.goes c.post-2.ensures.goes

pub returns-clause-posting : goal.returns-clause-posting
returns-clause-posting g c = let n = c.args.posted in let p = g.P.Look.shows c.args.port.now in let q = g.P.Look.shows c.post.new.port in let r = g.P.Look.shows c.post-2.new.port in
    let e : posts c.args.target q.own.actor q.own.steps ≡ 1 ∷ posts c.args.target p.own.actor p.own.steps = search rules in
    let f : posts c.args.target r.own.actor r.own.steps ≡ 2147483682 ∷ posts c.args.target q.own.actor q.own.steps = search rules in
    let s : IsPosting q c.args.target (n + 1) = posting_on 2 IsOfPlaces p q c.args.target n (n + 1) c.post.ensures.goes c.post.ensures.acting (one_more _ _ 1 n e c.requires.posting.posted) c.requires.posting in
    posting_on 2 IsOfPlaces q r c.args.target (n + 1) (n + 2) c.post-2.ensures.goes c.post-2.ensures.acting (one_more _ _ 2147483682 (n + 1) f s.posted ∙ omega arith) s

pub returns-clause-goes : goal.returns-clause-goes
returns-clause-goes g c = goes_then 2 2 IsOfPlaces _ _ _ c.post.ensures.goes c.post-2.ensures.goes
