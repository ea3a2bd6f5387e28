use Rattle.guest_ram.specs.Areas.{IsOfRam}
use Rattle.guest_ram.proofs.Moves.{goes_step}
use Rattle.guest_ram_cases.proofs.booting.boot_ram.Goals as goal

pub returns-clause-goes : goal.returns-clause-goes
returns-clause-goes g c = goes_step IsOfRam _ _ _ _ _ _ _ c.store.ensures.step c.store.ensures.allowed c.ram_word_at-word.ensures.name tt
