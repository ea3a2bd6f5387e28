use Rattle.guest_ram.specs.Areas.{IsOfCalls}
use Rattle.guest_ram.proofs.Moves.{goes_step}
use Rattle.hart_signals.proofs.kicks.is_kicked.Goals as goal

pub returns-clause-goes : goal.returns-clause-goes
returns-clause-goes g c = goes_step IsOfCalls _ _ _ _ _ _ _ c.load.ensures.step c.load.ensures.allowed c.kick_word-own.ensures.name tt
