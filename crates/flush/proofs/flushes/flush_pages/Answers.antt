use Rattle.std.proofs.Common.{◌+◌, ◌*◌, ◌∙◌, sym, subst, Bool, arith}
use Rattle.guest_ram.specs.Areas.{IsOfTable}
use Rattle.guest_ram.specs.Ports.{GoesBy}
use Rattle.guest_ram.proofs.Moves.{goes_then, goes_at_most, machine_goes}
use Rattle.flush.specs.Flushed.{page_steps}
use Rattle.flush.proofs.Flushings.{pages_flushed}
use Rattle.flush.proofs.flushes.flush_pages.Goals as goal

pub returns-clause-flushed : goal.returns-clause-flushed
returns-clause-flushed g c = pages_flushed _ (g.P.Look.shows c.try_lock.new.port) (g.P.Look.shows c.sweep.new.port) _ c.args.book.now c.args.page c.args.count c.if-book.false
    (machine_goes 1 IsOfTable _ _ c.unlock.ensures.goes ∙ machine_goes (6 * c.args.count) IsOfTable _ _ c.sweep.ensures.goes ∙ machine_goes 1 IsOfTable _ _ c.in-Ok.ensures.goes)
    c.in-Ok.ensures.size c.in-Ok.ensures.table c.sweep.ensures.swept c.unlock.ensures.size c.unlock.ensures.table c.unlock.ensures.freed

pub returns-clause-goes : goal.returns-clause-goes
returns-clause-goes g c = subst (λ (t : Bool). GoesBy (page_steps t c.args.book.now.size c.args.count) IsOfTable (g.P.Look.shows c.args.port.now) (g.P.Look.shows c.unlock.new.port)) (sym c.if-book.false)
    (goes_at_most (1 + 6 * c.args.count + 1) (6 * c.args.count + 2) IsOfTable _ _ (omega arith)
    (goes_then (1 + 6 * c.args.count) 1 IsOfTable _ _ _ (goes_then 1 (6 * c.args.count) IsOfTable _ _ _ c.in-Ok.ensures.goes c.sweep.ensures.goes) c.unlock.ensures.goes))
