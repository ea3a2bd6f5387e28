use Rattle.guest_ram.specs.Areas.{IsOfOutput}
use Rattle.guest_ram.proofs.Moves.{goes_step, goes_then}
use Rattle.guest_ram_cases.proofs.inside.read_console.Goals as goal

pub returns-clause-goes : goal.returns-clause-goes
returns-clause-goes g c = goes_then 1 1 IsOfOutput _ _ _ (goes_step IsOfOutput _ _ _ _ _ _ _ c.load-count.ensures.step c.load-count.ensures.allowed c.cons_word.ensures.name tt)
    (goes_step IsOfOutput _ _ _ _ _ _ _ c.load-found.ensures.step c.load-found.ensures.allowed c.console_word.ensures.name tt)
