use Rattle.std.proofs.Common.{refl, subst, arith}
use Rattle.guest_ram.specs.Areas.{IsOfTable}
use Rattle.guest_ram.proofs.Moves.{goes_then, goes_at_most, goes_within}
use Rattle.tlb_lock.specs.Locking.{HasFoundHolder}
use Rattle.tlb_fill.specs.Stepping.{kept_out, IsOfHit, IsOfMarks}
use Rattle.tlb_fill.proofs.Marking.{arms_answer, armed_on, table_hit, marks_hit}
use Rattle.tlb_fill.proofs.translation.enter.Goals as goal

pub returns-in-Err-clause-entered : goal.returns-in-Err-clause-entered
returns-in-Err-clause-entered g c = kept_out c.in-Err.busy.holder (subst (λ h. HasFoundHolder h c.in-Err.busy.holder (g.P.Look.shows c.args.port.now) (g.P.Look.shows c.try_lock.new.port)) c.requires.beside.book.number c.in-Err.ensures.busy) refl refl

pub returns-in-Err-clause-goes : goal.returns-in-Err-clause-goes
returns-in-Err-clause-goes g c = goes_at_most 1 11 IsOfHit _ _ (omega arith) (goes_within 1 IsOfTable IsOfHit _ _ table_hit c.in-Err.ensures.goes)

pub returns-clause-armed : goal.returns-clause-armed
returns-clause-armed g c = λ store. arms_answer (g.P.Look.shows c.unlock.new.port) _ c.args.leaf.page c.args.va _ c.answer.ensures
    (armed_on 9 (g.P.Look.shows c.mark_for.new.port) (g.P.Look.shows c.unlock.new.port) c.args.leaf.page (goes_then 8 1 IsOfTable _ _ _ c.put.ensures.goes c.unlock.ensures.goes) (c.mark_for.ensures.armed store))

pub returns-clause-goes : goal.returns-clause-goes
returns-clause-goes g c = goes_then 10 1 IsOfHit _ _ _ (goes_then 2 8 IsOfHit _ _ _ (goes_then 1 1 IsOfHit _ _ _ (goes_within 1 IsOfTable IsOfHit _ _ table_hit c.in-Ok.ensures.goes) (goes_within 1 IsOfMarks IsOfHit _ _ marks_hit c.mark_for.ensures.goes))
    (goes_within 8 IsOfTable IsOfHit _ _ table_hit c.put.ensures.goes)) (goes_within 1 IsOfTable IsOfHit _ _ table_hit c.unlock.ensures.goes)
