use Rattle.guest_ram.specs.Areas.{IsOfEnd}
use Rattle.guest_ram.proofs.Moves.{goes_step}
use Rattle.hart_signals.proofs.stops.begin_turn.Goals as goal

pub returns-clause-goes : goal.returns-clause-goes
returns-clause-goes g c = goes_step IsOfEnd _ _ _ _ _ _ _ c.load.ensures.step c.load.ensures.allowed c.stop_word-stop.ensures.name tt
