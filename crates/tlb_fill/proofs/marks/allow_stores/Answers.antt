use Rattle.std.proofs.Common.{suc, ◌∙◌, sym, ap, arith}
use Rattle.step_laws.specs.declared.map.TlbField.TheVariants.{Page}
use Rattle.guest_ram.proofs.Moves.{actor_goes, goes_step, goes_then, goes_at_most, goes_within}
use Rattle.guest_ram.specs.Areas.{IsOfTable}
use Rattle.tlb_fill.specs.Stepping.{IsOfHit, IsOfMarks}
use Rattle.tlb_fill.proofs.Marking.{may_settle, table_hit, marks_hit}
use Rattle.tlb_fill.proofs.marks.allow_stores.Goals as goal

pub returns-in-Err-clause-goes : goal.returns-in-Err-clause-goes
returns-in-Err-clause-goes g c = goes_at_most 1 4 IsOfHit _ _ (omega arith) (goes_within 1 IsOfTable IsOfHit _ _ table_hit c.in-Err.ensures.goes)

pub fetch_and-requires-clause-may : goal.fetch_and-requires-clause-may
fetch_and-requires-clause-may g c = may_settle _ _ c.args.hit.now.slot c.args.hit.now.page c.args.book.now c.tlb_word-write.ensures.name (c.requires.beside.book.number ∙ sym (actor_goes 1 IsOfTable _ _ c.in-Ok.ensures.goes) ∙ sym (actor_goes 1 IsOfMarks _ _ c.mark_at.ensures.goes))
    c.mark_at.ensures.acting
    (c.mark_at.ensures.held ∙ c.in-Ok.ensures.held ∙ ap suc (c.requires.beside.book.number ∙ sym (actor_goes 1 IsOfTable _ _ c.in-Ok.ensures.goes) ∙ sym (actor_goes 1 IsOfMarks _ _ c.mark_at.ensures.goes)))
    (c.mark_at.ensures.table c.args.hit.now.slot Page ∙ c.in-Ok.ensures.table c.args.hit.now.slot Page ∙ sym c.requires.page) c.mark_at.ensures.known

pub returns-clause-goes : goal.returns-clause-goes
returns-clause-goes g c = goes_then 3 1 IsOfHit _ _ _ (goes_then 2 1 IsOfHit _ _ _ (goes_then 1 1 IsOfHit _ _ _ (goes_within 1 IsOfTable IsOfHit _ _ table_hit c.in-Ok.ensures.goes) (goes_within 1 IsOfMarks IsOfHit _ _ marks_hit c.mark_at.ensures.goes))
    (goes_step IsOfHit _ _ _ _ _ _ _ c.fetch_and.ensures.step c.fetch_and.ensures.allowed c.tlb_word-write.ensures.name tt)) (goes_within 1 IsOfTable IsOfHit _ _ table_hit c.unlock.ensures.goes)
