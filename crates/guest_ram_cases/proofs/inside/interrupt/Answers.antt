use Rattle.guest_ram.specs.Areas.{IsOfCalls}
use Rattle.guest_ram.proofs.Moves.{goes_step}
use Rattle.guest_ram_cases.proofs.inside.interrupt.Goals as goal

pub returns-clause-goes : goal.returns-clause-goes
returns-clause-goes g c = goes_step IsOfCalls _ _ _ _ _ _ _ c.fetch_or.ensures.step c.fetch_or.ensures.allowed c.ipi_word.ensures.name tt
