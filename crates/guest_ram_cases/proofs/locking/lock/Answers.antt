use Rattle.guest_ram.specs.Areas.{IsOfTable}
use Rattle.guest_ram.proofs.Moves.{goes_step}
use Rattle.guest_ram_cases.proofs.Filled.{lock_keeps}
use Rattle.guest_ram_cases.proofs.locking.lock.Goals as goal

pub returns-then-found-ne0-clause-goes : goal.returns-then-found-ne0-clause-goes
returns-then-found-ne0-clause-goes g c = goes_step IsOfTable _ _ _ _ _ _ _ c.compare_exchange-found.ensures.step c.compare_exchange-found.ensures.allowed c.lock_word-word.ensures.name tt

pub returns-clause-goes : goal.returns-clause-goes
returns-clause-goes g c = goes_step IsOfTable _ _ _ _ _ _ _ c.compare_exchange-found.ensures.step c.compare_exchange-found.ensures.allowed c.lock_word-word.ensures.name tt

pub returns-then-found-ne0-clause-table : goal.returns-then-found-ne0-clause-table
returns-then-found-ne0-clause-table g c = lock_keeps _ _ _ _ _ _ c.compare_exchange-found.ensures.step c.lock_word-word.ensures.name

pub returns-clause-table : goal.returns-clause-table
returns-clause-table g c = lock_keeps _ _ _ _ _ _ c.compare_exchange-found.ensures.step c.lock_word-word.ensures.name
