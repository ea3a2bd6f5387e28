use Rattle.std.proofs.Common.{◌/◌, ◌-◌, refl, arith}
use Rattle.step_laws.specs.declared.steps.WordOp.TheVariants.{Or}
use Rattle.guest_ram.proofs.Moves.{goes_made}
use Rattle.tlb_fill.specs.Stepping.{marks, IsOfMarks}
use Rattle.tlb_fill.proofs.Marking.{is_number}
use Rattle.tlb_fill.proofs.marks.mark_at.Goals as goal

pub returns-clause-marked : goal.returns-clause-marked
returns-clause-marked g c = marks (c.args.address / 4096 - 524288) (search (arith, c.if-number-from.false, c.from.ensures, c.layout-pages.ensures.layout)) (is_number (c.args.address / 4096 - 524288) c.args.address c.if-page-lt-FIRST_PAGE.false refl) c.mark.ensures.marked

pub returns-clause-goes : goal.returns-clause-goes
returns-clause-goes g c = goes_made IsOfMarks _ _ _ Or _ _ c.mark.ensures.marked.1 tt
