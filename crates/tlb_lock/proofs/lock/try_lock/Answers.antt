use Rattle.std.proofs.Common.{refl, rules}
use Rattle.step_laws.specs.declared.steps.WordOp.TheVariants.{Exchange}
use Rattle.guest_ram.specs.Areas.{IsOfTable}
use Rattle.guest_ram.proofs.Moves.{acting_adds, goes_step}
use Rattle.tlb_lock.proofs.Locked.{may_take, lock_word, lock_size, lock_due}
use Rattle.tlb_lock.proofs.lock.try_lock.Goals as goal

pub compare_exchange-found-requires-clause-may : goal.compare_exchange-found-requires-clause-may
compare_exchange-found-requires-clause-may g c = may_take _ _ _ c.args.hart c.lock_word.ensures.name (search rules) c.requires.acting c.requires.hart c.requires.free c.requires.may

pub returns-then-found-ne0-clause-table : goal.returns-then-found-ne0-clause-table
returns-then-found-ne0-clause-table g c = lock_word _ _ _ _ _ c.args.hart (Exchange 0) c.compare_exchange-found.ensures.step c.lock_word.ensures.name

pub returns-then-found-ne0-clause-size : goal.returns-then-found-ne0-clause-size
returns-then-found-ne0-clause-size g c = lock_size _ _ _ _ _ c.args.hart (Exchange 0) c.compare_exchange-found.ensures.step c.lock_word.ensures.name

pub returns-then-found-ne0-clause-due : goal.returns-then-found-ne0-clause-due
returns-then-found-ne0-clause-due g c = lock_due _ _ _ _ _ c.args.hart (Exchange 0) c.compare_exchange-found.ensures.step c.lock_word.ensures.name

pub returns-then-found-ne0-clause-acting : goal.returns-then-found-ne0-clause-acting
returns-then-found-ne0-clause-acting g c = acting_adds _ _ _ _ _ (Exchange 0) _ c.compare_exchange-found.ensures.step c.lock_word.ensures.name (λ _. refl) c.requires.acting

pub returns-then-found-ne0-clause-goes : goal.returns-then-found-ne0-clause-goes
returns-then-found-ne0-clause-goes g c = goes_step IsOfTable _ _ _ _ _ _ _ c.compare_exchange-found.ensures.step c.compare_exchange-found.ensures.allowed c.lock_word.ensures.name tt

pub returns-clause-table : goal.returns-clause-table
returns-clause-table g c = lock_word _ _ _ _ _ c.args.hart (Exchange 0) c.compare_exchange-found.ensures.step c.lock_word.ensures.name

pub returns-clause-size : goal.returns-clause-size
returns-clause-size g c = lock_size _ _ _ _ _ c.args.hart (Exchange 0) c.compare_exchange-found.ensures.step c.lock_word.ensures.name

pub returns-clause-due : goal.returns-clause-due
returns-clause-due g c = lock_due _ _ _ _ _ c.args.hart (Exchange 0) c.compare_exchange-found.ensures.step c.lock_word.ensures.name

pub returns-clause-acting : goal.returns-clause-acting
returns-clause-acting g c = acting_adds _ _ _ _ _ (Exchange 0) _ c.compare_exchange-found.ensures.step c.lock_word.ensures.name (λ _. refl) c.requires.acting

pub returns-clause-goes : goal.returns-clause-goes
returns-clause-goes g c = goes_step IsOfTable _ _ _ _ _ _ _ c.compare_exchange-found.ensures.step c.compare_exchange-found.ensures.allowed c.lock_word.ensures.name tt
