use Rattle.std.proofs.Common.{◌+◌, arith, subst, sym}
use Rattle.rv64_exec.specs.declared.needs.FlushOf.{FlushOf}
use Rattle.flush.specs.Flushed.{full_steps}
use Rattle.guest_ram.specs.Areas.{IsOfTable}
use Rattle.guest_ram.proofs.Moves.{goes_at_most}
use Rattle.need_serving.specs.declared.ends.NeedEnd.{NeedEnd}
use Rattle.need_serving.specs.Serving.{HasFlushedOne}
use Rattle.need_serving.proofs.Answered.{all_flushed, page_flushed, page_goes}
use Rattle.need_serving.proofs.serving.flush_own.Goals as goal

pub returns-in-All-clause-flushed : goal.returns-in-All-clause-flushed
returns-in-All-clause-flushed g c = subst (λ (what : FlushOf). HasFlushedOne (g.P.Look.shows c.args.port.now) (g.P.Look.shows c.flush_all.new.port) c.args.book.now c.flush_all.new.book what c.of_flush.result) (sym c.in-All.is) (subst (λ (end : NeedEnd). HasFlushedOne (g.P.Look.shows c.args.port.now) (g.P.Look.shows c.flush_all.new.port) c.args.book.now c.flush_all.new.book FlushOf.All end) (sym c.of_flush.ensures)
    (all_flushed (g.P.Look.shows c.args.port.now) (g.P.Look.shows c.flush_all.new.port) c.args.book.now c.flush_all.new.book c.flush_all.result c.flush_all.ensures.flushed c.flush_all.ensures.busy c.flush_all.ensures.goes))

pub returns-in-Page-clause-flushed : goal.returns-in-Page-clause-flushed
returns-in-Page-clause-flushed g c = subst (λ (what : FlushOf). HasFlushedOne (g.P.Look.shows c.args.port.now) (g.P.Look.shows c.flush_pages.new.port) c.args.book.now c.flush_pages.new.book what c.of_flush-in-Page.result) (sym c.in-Page.is) (subst (λ (end : NeedEnd). HasFlushedOne (g.P.Look.shows c.args.port.now) (g.P.Look.shows c.flush_pages.new.port) c.args.book.now c.flush_pages.new.book (FlushOf.Page c.in-Page.page) end) (sym c.of_flush-in-Page.ensures)
    (page_flushed (g.P.Look.shows c.args.port.now) (g.P.Look.shows c.flush_pages.new.port) c.args.book.now c.flush_pages.new.book c.in-Page.page c.flush_pages.result c.flush_pages.ensures.flushed c.flush_pages.ensures.busy c.flush_pages.ensures.goes))

pub returns-in-All-clause-goes : goal.returns-in-All-clause-goes
returns-in-All-clause-goes g c = goes_at_most (full_steps c.args.book.now.size) (full_steps c.args.book.now.size + 8) IsOfTable _ _ (omega arith) c.flush_all.ensures.goes

pub returns-in-Page-clause-goes : goal.returns-in-Page-clause-goes
returns-in-Page-clause-goes g c = page_goes (g.P.Look.shows c.args.port.now) (g.P.Look.shows c.flush_pages.new.port) c.args.book.now c.flush_pages.new.book c.in-Page.page c.flush_pages.ensures.goes
