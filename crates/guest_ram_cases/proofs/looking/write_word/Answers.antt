use Rattle.guest_ram.specs.Areas.{IsOfTable}
use Rattle.guest_ram.proofs.Moves.{goes_step}
use Rattle.guest_ram_cases.proofs.looking.write_word.Goals as goal

pub returns-clause-goes : goal.returns-clause-goes
returns-clause-goes g c = goes_step IsOfTable _ _ _ _ _ _ _ c.look.ensures.step c.look.ensures.allowed c.tlb_word-write.ensures.name tt
