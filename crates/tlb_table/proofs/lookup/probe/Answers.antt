use Rattle.std.proofs.Common.{arith}
use Rattle.guest_ram.specs.Areas.{IsOfTable}
use Rattle.guest_ram.proofs.Moves.{goes_at_most, goes_step, goes_then}
use Rattle.tlb_table.proofs.Loads.{load_alike, alike_then, book_alike}
use Rattle.tlb_table.proofs.lookup.probe.Goals as goal

pub returns-then-not-hits-clause-goes : goal.returns-then-not-hits-clause-goes
returns-then-not-hits-clause-goes g c = goes_at_most 1 2 IsOfTable _ _ (omega arith) (goes_step IsOfTable _ _ _ _ _ _ _ c.look-compare.ensures.step c.look-compare.ensures.allowed c.tlb_word.ensures.name tt)

pub returns-clause-goes : goal.returns-clause-goes
returns-clause-goes g c = goes_then 1 1 IsOfTable _ _ _ (goes_step IsOfTable _ _ _ _ _ _ _ c.look-compare.ensures.step c.look-compare.ensures.allowed c.tlb_word.ensures.name tt) (goes_step IsOfTable _ _ _ _ _ _ _ c.look-page.ensures.step c.look-page.ensures.allowed c.tlb_word-2.ensures.name tt)

pub returns-then-not-hits-clause-book : goal.returns-then-not-hits-clause-book
returns-then-not-hits-clause-book g c = book_alike c.args.book.now _ _ (load_alike _ _ _ _ _ _ _ c.look-compare.ensures.step c.tlb_word.ensures.name) c.requires.book

pub returns-clause-book : goal.returns-clause-book
returns-clause-book g c = book_alike c.args.book.now _ _ (alike_then _ _ _ (load_alike _ _ _ _ _ _ _ c.look-compare.ensures.step c.tlb_word.ensures.name) (load_alike _ _ _ _ _ _ _ c.look-page.ensures.step c.tlb_word-2.ensures.name)) c.requires.book

pub returns-then-not-hits-clause-alike : goal.returns-then-not-hits-clause-alike
returns-then-not-hits-clause-alike g c = load_alike _ _ _ _ _ _ _ c.look-compare.ensures.step c.tlb_word.ensures.name

pub returns-clause-alike : goal.returns-clause-alike
returns-clause-alike g c = alike_then _ _ _ (load_alike _ _ _ _ _ _ _ c.look-compare.ensures.step c.tlb_word.ensures.name) (load_alike _ _ _ _ _ _ _ c.look-page.ensures.step c.tlb_word-2.ensures.name)
