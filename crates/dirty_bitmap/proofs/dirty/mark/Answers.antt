use Rattle.std.proofs.Common.{refl}
use Rattle.step_laws.specs.declared.steps.WordOp.TheVariants.{Or}
use Rattle.guest_ram.specs.Areas.{IsOfRam}
use Rattle.guest_ram.proofs.Moves.{acting_adds, goes_step, lock_adds}
use Rattle.dirty_bitmap.proofs.Marked.{armed_marked, known_marked, mark_due, mark_word, page_bit}
use Rattle.dirty_bitmap.proofs.dirty.mark.Goals as goal

pub returns-clause-acting : goal.returns-clause-acting
returns-clause-acting g c = acting_adds _ _ _ _ _ Or _ c.fetch_or.ensures.step c.dirty_word.ensures.name (λ _. refl) c.requires.acting

pub returns-clause-goes : goal.returns-clause-goes
returns-clause-goes g c = goes_step IsOfRam _ _ _ _ _ _ _ c.fetch_or.ensures.step c.fetch_or.ensures.allowed c.dirty_word.ensures.name tt

pub returns-clause-armed : goal.returns-clause-armed
returns-clause-armed g c = armed_marked _ _ _ c.args.page _ _ c.fetch_or.ensures.step c.dirty_word.ensures.name (page_bit c.args.page)

pub returns-clause-known : goal.returns-clause-known
returns-clause-known g c = known_marked _ _ _ c.args.page _ _ c.fetch_or.ensures.step c.dirty_word.ensures.name (page_bit c.args.page)

pub returns-clause-held : goal.returns-clause-held
returns-clause-held g c = lock_adds _ _ _ _ _ Or _ c.fetch_or.ensures.step c.dirty_word.ensures.name

pub returns-clause-due : goal.returns-clause-due
returns-clause-due g c = mark_due _ _ _ c.args.page _ _ c.fetch_or.ensures.step c.dirty_word.ensures.name

pub returns-clause-table : goal.returns-clause-table
returns-clause-table g c = mark_word _ _ _ c.args.page _ _ c.fetch_or.ensures.step c.dirty_word.ensures.name
