use Rattle.std.proofs.Common.{◌+◌, ◌*◌, ◌∙◌, sym, ap, arith}
use Rattle.guest_ram.specs.Areas.{IsOfTable}
use Rattle.guest_ram.proofs.Moves.{goes_then, goes_at_most}
use Rattle.tlb_entry.specs.declared.books.Book.{Book}
use Rattle.flush.proofs.Flushings.{flushed_all}
use Rattle.flush.proofs.flushes.flush_all.Goals as goal

pub returns-clause-flushed : goal.returns-clause-flushed
returns-clause-flushed g c = flushed_all _ (g.P.Look.shows c.try_lock.new.port) (g.P.Look.shows c.empty.new.port) _ c.args.book.now _ (c.unlock.ensures.size ∙ sym c.empty.ensures.inside.book.size ∙ ap (λ (b : Book). b.size) c.empty.ensures.book) c.empty.ensures.book
    c.in-Ok.ensures.table c.empty.ensures.invalid c.empty.ensures.left c.unlock.ensures.table c.unlock.ensures.freed

pub returns-clause-goes : goal.returns-clause-goes
returns-clause-goes g c = goes_at_most (1 + (3 * c.args.book.now.size + 25) + 1) _ IsOfTable _ _ (omega arith)
    (goes_then (1 + (3 * c.args.book.now.size + 25)) 1 IsOfTable _ _ _ (goes_then 1 (3 * c.args.book.now.size + 25) IsOfTable _ _ _ c.in-Ok.ensures.goes c.empty.ensures.goes) c.unlock.ensures.goes)
