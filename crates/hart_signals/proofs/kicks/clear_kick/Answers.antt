use Rattle.guest_ram.specs.Areas.{IsOfCalls}
use Rattle.guest_ram.proofs.Moves.{goes_step}
use Rattle.hart_signals.proofs.kicks.clear_kick.Goals as goal

pub returns-clause-goes : goal.returns-clause-goes
returns-clause-goes g c = goes_step IsOfCalls _ _ _ _ _ _ _ c.store.ensures.step c.store.ensures.allowed c.kick_word-own.ensures.name tt
