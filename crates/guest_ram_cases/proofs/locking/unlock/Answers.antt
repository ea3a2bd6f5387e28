use Rattle.guest_ram.specs.Areas.{IsOfTable}
use Rattle.guest_ram.proofs.Moves.{goes_step}
use Rattle.guest_ram_cases.proofs.locking.unlock.Goals as goal

pub returns-clause-goes : goal.returns-clause-goes
returns-clause-goes g c = goes_step IsOfTable _ _ _ _ _ _ _ c.store.ensures.step c.store.ensures.allowed c.lock_word-own.ensures.name tt
