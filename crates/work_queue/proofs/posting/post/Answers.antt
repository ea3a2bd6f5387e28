use Rattle.std.proofs.Common.{◌≡◌, ◌<◌, ◌∙◌, rules, sym, ap, arith}
use Rattle.step_laws.specs.declared.steps.WordOp.TheVariants.{Load, Store}
use Rattle.step_laws.specs.Map.{Kick}
use Rattle.guest_ram.specs.Ports.{Shown}
use Rattle.guest_ram.proofs.Moves.{goes_step, goes_made, goes_then, goes_at_most}
use Rattle.work_queue.specs.Posts.{IsOfPosts}
use Rattle.work_queue.proofs.Posted.{may_poll_place, may_post_place, target_few}
use Rattle.work_queue.proofs.Ringed.{made_sent, sent_loads, sent_posts, sent_kicks}
use Rattle.work_queue.proofs.posting.post.Goals as goal

pub load-standing-requires-clause-may : goal.load-standing-requires-clause-may
load-standing-requires-clause-may g c = may_poll_place _ _ c.args.target c.actor.result _ c.place_word-word.ensures.name c.actor.ensures c.requires.acting c.requires.other

pub returns-then-standing-ne0-clause-goes : goal.returns-then-standing-ne0-clause-goes
returns-then-standing-ne0-clause-goes g c = goes_at_most 1 3 IsOfPosts _ _ (omega arith) (goes_step IsOfPosts _ _ _ _ _ _ _ c.load-standing.ensures.step c.load-standing.ensures.allowed c.place_word-word.ensures.name tt)

pub store-requires-clause-may : goal.store-requires-clause-may
store-requires-clause-may g c = let t = c.args.target in let few : t < 8 = target_few _ t c.requires.acting c.requires.target in
    may_post_place _ _ _ t c.actor.result _ c.load-standing.result _ c.load-standing.ensures.step c.if-standing-ne0.false c.place_word-word.ensures.name c.actor.ensures c.requires.acting c.requires.other c.requires.target
    (c.requires.sent t (omega (arith, few))) (c.args.request.now, c.requires.request, c.request_word.ensures)

pub returns-clause-sent : goal.returns-clause-sent
returns-clause-sent g c = let t = c.args.target in let few : t < 8 = target_few _ t c.requires.acting c.requires.target in
    let p = g.P.Look.shows c.args.port.now in let q = g.P.Look.shows c.load-standing.new.self in let r = g.P.Look.shows c.store.new.self in
    let same : q.own.actor ≡ p.own.actor = ap (λ (x : Shown). x.own.actor) c.load-standing.ensures.step in
    let loaded = made_sent p q _ t c.actor.result _ 0 c.load-standing.result Load c.place_word-word.ensures.name c.actor.ensures c.load-standing.ensures.step c.load-standing.ensures.allowed in
    let stored = made_sent q r _ t c.actor.result _ _ 0 Store c.place_word-word.ensures.name (c.actor.ensures ∙ sym same) c.store.ensures.step c.store.ensures.allowed in
    sent_kicks r _ t 1 0 Store c.kick.ensures.kicked _ (sent_posts q r t _ _ stored c.args.sent.now (search rules) (omega (arith, few)) (sent_loads p q t _ _ _ loaded c.args.sent.now c.requires.sent))

pub returns-clause-goes : goal.returns-clause-goes
returns-clause-goes g c = goes_then 2 1 IsOfPosts _ _ _ (goes_then 1 1 IsOfPosts _ _ _ (goes_step IsOfPosts _ _ _ _ _ _ _ c.load-standing.ensures.step c.load-standing.ensures.allowed c.place_word-word.ensures.name tt)
    (goes_step IsOfPosts _ _ _ _ _ _ _ c.store.ensures.step c.store.ensures.allowed c.place_word-word.ensures.name tt)) (goes_made IsOfPosts _ _ (Kick c.args.target) Store 1 0 c.kick.ensures.kicked tt)
