use Rattle.guest_ram.specs.Areas.{IsOfSection}
use Rattle.guest_ram.proofs.Moves.{goes_step}
use Rattle.exclusive.proofs.claiming.release.Goals as goal

pub returns-clause-goes : goal.returns-clause-goes
returns-clause-goes g c = goes_step IsOfSection _ _ _ _ _ _ _ c.store.ensures.step c.store.ensures.allowed c.pend_word.ensures.name tt
