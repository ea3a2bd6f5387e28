use Rattle.exclusive.specs.Claims.{IsKick}
use Rattle.guest_ram.proofs.Moves.{goes_step}
use Rattle.exclusive.proofs.kicking.kick.Goals as goal

pub returns-clause-goes : goal.returns-clause-goes
returns-clause-goes g c = goes_step IsKick _ _ _ _ _ _ _ c.store.ensures.step c.store.ensures.allowed c.kick_word.ensures.name tt
