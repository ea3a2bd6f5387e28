use Rattle.guest_ram.specs.Areas.{IsOfPlaces}
use Rattle.guest_ram.proofs.Moves.{goes_step}
use Rattle.guest_ram_cases.proofs.posting.poll_done.Goals as goal

pub returns-then-found-ne0-clause-goes : goal.returns-then-found-ne0-clause-goes
returns-then-found-ne0-clause-goes g c = goes_step IsOfPlaces _ _ _ _ _ _ _ c.load-found.ensures.step c.load-found.ensures.allowed c.place_word-word.ensures.name tt

pub returns-clause-goes : goal.returns-clause-goes
returns-clause-goes g c = goes_step IsOfPlaces _ _ _ _ _ _ _ c.load-found.ensures.step c.load-found.ensures.allowed c.place_word-word.ensures.name tt
