use Rattle.step_laws.specs.declared.steps.WordOp.TheVariants.{Or}
use Rattle.std.proofs.Common.{refl}
use Rattle.guest_ram.specs.Areas.{IsOfRam}
use Rattle.guest_ram.proofs.Moves.{acting_adds, goes_step}
use Rattle.guest_ram_cases.proofs.Marks.{mark_holds, mark_paid, mark_word}
use Rattle.guest_ram_cases.proofs.marking.mark.Goals as goal

pub returns-clause-acting : goal.returns-clause-acting
returns-clause-acting g c = acting_adds _ _ _ _ _ Or _ c.fetch_or.ensures.step c.dirty_word.ensures.name (λ _. refl) c.requires.acting

pub returns-clause-goes : goal.returns-clause-goes
returns-clause-goes g c = goes_step IsOfRam _ _ _ _ _ _ _ c.fetch_or.ensures.step c.fetch_or.ensures.allowed c.dirty_word.ensures.name tt

pub returns-clause-holds : goal.returns-clause-holds
returns-clause-holds g c = mark_holds _ _ _ c.args.page _ _ _ c.fetch_or.ensures.step c.dirty_word.ensures.name

pub returns-clause-pays : goal.returns-clause-pays
returns-clause-pays g c = mark_paid _ _ _ c.args.page _ _ _ c.fetch_or.ensures.step c.dirty_word.ensures.name

pub returns-clause-table : goal.returns-clause-table
returns-clause-table g c = mark_word _ _ _ c.args.page _ _ _ c.fetch_or.ensures.step c.dirty_word.ensures.name
