use Rattle.std.proofs.Common.{refl}
use Rattle.step_laws.specs.declared.steps.WordOp.TheVariants.{Store}
use Rattle.guest_ram.specs.Areas.{IsOfTable}
use Rattle.guest_ram.proofs.Moves.{acting_adds, goes_step, lock_adds}
use Rattle.tlb_lock.proofs.Locked.{may_free, lock_word, lock_size, lock_due}
use Rattle.tlb_lock.proofs.lock.unlock.Goals as goal

pub store-requires-clause-may : goal.store-requires-clause-may
store-requires-clause-may g c = may_free _ _ c.args.hart c.lock_word.ensures.name c.requires.acting c.requires.held c.requires.may

pub returns-clause-free : goal.returns-clause-free
returns-clause-free g c = lock_adds _ _ _ _ _ Store _ c.store.ensures.step c.lock_word.ensures.name

pub returns-clause-table : goal.returns-clause-table
returns-clause-table g c = lock_word _ _ _ _ _ c.args.hart Store c.store.ensures.step c.lock_word.ensures.name

pub returns-clause-size : goal.returns-clause-size
returns-clause-size g c = lock_size _ _ _ _ _ c.args.hart Store c.store.ensures.step c.lock_word.ensures.name

pub returns-clause-acting : goal.returns-clause-acting
returns-clause-acting g c = acting_adds _ _ _ _ _ Store _ c.store.ensures.step c.lock_word.ensures.name (λ _. refl) c.requires.acting

pub returns-clause-goes : goal.returns-clause-goes
returns-clause-goes g c = goes_step IsOfTable _ _ _ _ _ _ _ c.store.ensures.step c.store.ensures.allowed c.lock_word.ensures.name tt

pub returns-clause-due : goal.returns-clause-due
returns-clause-due g c = lock_due _ _ _ _ _ c.args.hart Store c.store.ensures.step c.lock_word.ensures.name
