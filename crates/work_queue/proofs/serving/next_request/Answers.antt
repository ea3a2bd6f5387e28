use Rattle.std.proofs.Common.{◌≤◌, arith}
use Rattle.step_laws.specs.declared.steps.WordOp.TheVariants.{Load}
use Rattle.step_laws.specs.Words.{monitor}
use Rattle.guest_ram.specs.Areas.{IsOfPlaces}
use Rattle.guest_ram.proofs.Moves.{goes_step}
use Rattle.work_queue.proofs.Acked.{may_fetch_place, source_few, is_loaded}
use Rattle.work_queue.proofs.Ringed.{made_own}
use Rattle.work_queue.proofs.serving.next_request.Goals as goal

pub load-found-requires-clause-may : goal.load-found-requires-clause-may
load-found-requires-clause-may g c = let s = c.args.source in let few : s ≤ monitor = source_few _ s c.requires.acting c.requires.source in
    may_fetch_place _ _ c.actor.result s _ c.place_word-word.ensures.name c.actor.ensures c.requires.acting c.requires.other c.requires.hart (c.requires.served s (omega (arith, few))) c.requires.untouched

pub returns-then-found-eq0-clause-goes : goal.returns-then-found-eq0-clause-goes
returns-then-found-eq0-clause-goes g c = goes_step IsOfPlaces _ _ _ _ _ _ _ c.load-found.ensures.step c.load-found.ensures.allowed c.place_word-word.ensures.name tt

pub returns-clause-loaded : goal.returns-clause-loaded
returns-clause-loaded g c = is_loaded _ _ c.args.source _ c.load-found.result (made_own _ _ _ c.actor.result c.args.source _ 0 c.load-found.result Load c.place_word-word.ensures.name c.actor.ensures c.load-found.ensures.step c.load-found.ensures.allowed)
    c.request_of.result c.request_of.ensures.word

pub returns-clause-goes : goal.returns-clause-goes
returns-clause-goes g c = goes_step IsOfPlaces _ _ _ _ _ _ _ c.load-found.ensures.step c.load-found.ensures.allowed c.place_word-word.ensures.name tt
