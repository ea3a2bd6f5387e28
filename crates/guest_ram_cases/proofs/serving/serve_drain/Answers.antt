use Rattle.std.proofs.Common.{◌≡◌, ◌∷◌, refl, ap, ◌∙◌, arith}
use Rattle.step_laws.specs.declared.steps.WordOp.TheVariants.{Load, Store}
use Rattle.step_laws.specs.Places.{acked_requests}
use Rattle.guest_ram.specs.Areas.{IsOfPlaces}
use Rattle.guest_ram.proofs.Moves.{goes_step, goes_then, goes_at_most}
use Rattle.guest_ram_cases.proofs.Acks.{may_ack_drain, may_fetch_next, serves_on, acks_drain, loads_keep}
use Rattle.guest_ram_cases.proofs.serving.serve_drain.Goals as goal

pub returns-then-found-eq3-clause-goes : goal.returns-then-found-eq3-clause-goes
returns-then-found-eq3-clause-goes g c = goes_then 1 1 IsOfPlaces _ _ _ (goes_step IsOfPlaces _ _ _ _ _ _ _ c.load-found.ensures.step c.load-found.ensures.allowed c.place_word-word.ensures.name tt)
    (goes_step IsOfPlaces _ _ _ _ _ _ _ c.store.ensures.step c.store.ensures.allowed c.place_word-word.ensures.name tt)

pub returns-else-found-eq3-clause-goes : goal.returns-else-found-eq3-clause-goes
returns-else-found-eq3-clause-goes g c = goes_at_most 1 2 IsOfPlaces _ _ (omega arith) (goes_step IsOfPlaces _ _ _ _ _ _ _ c.load-found.ensures.step c.load-found.ensures.allowed c.place_word-word.ensures.name tt)

pub store-requires-clause-may : goal.store-requires-clause-may
store-requires-clause-may g c = may_ack_drain _ _ _ c.actor.result c.args.source c.args.place c.load-found.result c.load-found.ensures.step c.place_word-word.ensures.name c.actor.ensures
    (record { acting = c.requires.acting; hart = c.requires.hart; other = c.requires.other; next = c.requires.next; untouched = c.requires.untouched }) (let e : c.load-found.result ≡ 3 = omega arith in e)

pub returns-then-found-eq3-clause-serving : goal.returns-then-found-eq3-clause-serving
returns-then-found-eq3-clause-serving g c = λ i. serves_on _ _ _ 0 0 c.actor.result c.args.source c.args.place c.args.source Store c.store.ensures.step c.place_word-word.ensures.name
    (serves_on _ _ _ 0 c.load-found.result c.actor.result c.args.source c.args.place c.args.source Load c.load-found.ensures.step c.place_word-word.ensures.name i)

pub returns-then-found-eq3-clause-acked : goal.returns-then-found-eq3-clause-acked
returns-then-found-eq3-clause-acked g c = λ three. acks_drain _ _ _ c.actor.result c.args.source c.args.place c.load-found.result c.load-found.ensures.step c.place_word-word.ensures.name c.actor.ensures
    (record { acting = c.requires.acting; hart = c.requires.hart; other = c.requires.other; next = c.requires.next; untouched = c.requires.untouched }) _ c.store.ensures.step
    ∙ ap (λ n. n ∷ acked_requests (g.P.Look.shows c.args.port.now).own.actor c.args.source (g.P.Look.shows c.args.port.now).own.steps) three

pub returns-else-found-eq3-clause-serving : goal.returns-else-found-eq3-clause-serving
returns-else-found-eq3-clause-serving g c = serves_on _ _ _ 0 c.load-found.result c.actor.result c.args.source c.args.place c.args.source Load c.load-found.ensures.step c.place_word-word.ensures.name

pub returns-else-found-eq3-clause-kept : goal.returns-else-found-eq3-clause-kept
returns-else-found-eq3-clause-kept g c = λ _. loads_keep _ _ _ 0 c.load-found.result c.actor.result c.args.source c.args.place c.args.source Load c.load-found.ensures.step c.place_word-word.ensures.name refl

pub load-found-requires-clause-may : goal.load-found-requires-clause-may
load-found-requires-clause-may g c = may_fetch_next _ _ c.actor.result c.args.source c.args.place c.place_word-word.ensures.name c.actor.ensures c.requires.acting c.requires.other c.requires.hart c.requires.next c.requires.untouched
