use Rattle.std.proofs.Common.{refl}
use Rattle.step_laws.specs.declared.steps.WordOp.TheVariants.{Swap}
use Rattle.guest_ram.specs.Areas.{IsOfRam}
use Rattle.guest_ram.proofs.MaySteps.{may_take}
use Rattle.guest_ram.proofs.Moves.{acting_adds, goes_step, lock_adds}
use Rattle.dirty_bitmap.proofs.Marked.{index_few, stage_taken}
use Rattle.dirty_bitmap.proofs.dirty.take_word.Goals as goal

pub dirty_word-requires : goal.dirty_word-requires
dirty_word-requires g c = index_few _ _ c.requires.acting c.requires.index

pub swap-requires-clause-may : goal.swap-requires-clause-may
swap-requires-clause-may g c = may_take _ _ c.args.index c.dirty_word.ensures.name c.requires.acting c.requires.monitor c.requires.stage

pub returns-clause-acting : goal.returns-clause-acting
returns-clause-acting g c = acting_adds _ _ _ _ _ Swap _ c.swap.ensures.step c.dirty_word.ensures.name (λ _. refl) c.requires.acting

pub returns-clause-goes : goal.returns-clause-goes
returns-clause-goes g c = goes_step IsOfRam _ _ _ _ _ _ _ c.swap.ensures.step c.swap.ensures.allowed c.dirty_word.ensures.name tt

pub returns-clause-held : goal.returns-clause-held
returns-clause-held g c = lock_adds _ _ _ _ _ Swap _ c.swap.ensures.step c.dirty_word.ensures.name

pub returns-clause-stage : goal.returns-clause-stage
returns-clause-stage g c = stage_taken _ _ _ c.args.index _ c.swap.ensures.step c.dirty_word.ensures.name c.requires.stage
