use Rattle.guest_ram.specs.Areas.{IsOfEnd}
use Rattle.guest_ram.proofs.Moves.{goes_step}
use Rattle.hart_signals.proofs.stops.sign_off.Goals as goal

pub returns-clause-goes : goal.returns-clause-goes
returns-clause-goes g c = goes_step IsOfEnd _ _ _ _ _ _ _ c.store.ensures.step c.store.ensures.allowed c.done_word-done.ensures.name tt
