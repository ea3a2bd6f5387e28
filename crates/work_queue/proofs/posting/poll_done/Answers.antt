use Rattle.guest_ram.specs.Areas.{IsOfPlaces}
use Rattle.guest_ram.proofs.Moves.{goes_step}
use Rattle.work_queue.proofs.Posted.{may_poll_place}
use Rattle.work_queue.proofs.posting.poll_done.Goals as goal

pub load-found-requires-clause-may : goal.load-found-requires-clause-may
load-found-requires-clause-may g c = may_poll_place _ _ c.args.target c.actor.result c.args.place c.place_word-word.ensures.name c.actor.ensures c.requires.acting c.requires.other

pub returns-then-found-ne0-clause-goes : goal.returns-then-found-ne0-clause-goes
returns-then-found-ne0-clause-goes g c = goes_step IsOfPlaces _ _ _ _ _ _ _ c.load-found.ensures.step c.load-found.ensures.allowed c.place_word-word.ensures.name tt

pub returns-clause-goes : goal.returns-clause-goes
returns-clause-goes g c = goes_step IsOfPlaces _ _ _ _ _ _ _ c.load-found.ensures.step c.load-found.ensures.allowed c.place_word-word.ensures.name tt
