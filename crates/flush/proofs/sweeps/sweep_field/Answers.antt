use Rattle.std.proofs.Common.{◌%◌, ap, arith}
use Rattle.guest_ram.specs.Areas.{IsOfTable}
use Rattle.guest_ram.proofs.Moves.{goes_step, goes_then, goes_at_most}
use Rattle.flush.proofs.Wiped.{may_wipe, wiped, not_wiped, inside_read, inside_wiped}
use Rattle.flush.proofs.sweeps.sweep_field.Goals as goal
use Rattle.flush.proofs.sweeps.sweep_field.Goals.{else-compare-eq0-via-then-compare-eq0+else-compare-page, else-compare-eq0-via-else-compare-eq0}

pub store-requires-clause-may : goal.store-requires-clause-may
store-requires-clause-may g c = may_wipe c.args.book.now _ _ _ _ c.args.page _ c.args.field c.requires.inside c.requires.compare c.look-compare.ensures.step c.tlb_word-word.ensures.name

pub returns-then-compare-page-clause-swept : goal.returns-then-compare-page-clause-swept
returns-then-compare-page-clause-swept g c = wiped c.args.book.now _ _ _ _ c.args.page _ c.args.field c.requires.inside c.requires.compare c.look-compare.ensures.step c.tlb_word-word.ensures.name
    c.look-compare.ensures.last (ap (λ n. c.args.page % n) c.from.ensures) _ c.if-compare-page.true c.store.ensures.step

pub returns-then-compare-page-clause-goes : goal.returns-then-compare-page-clause-goes
returns-then-compare-page-clause-goes g c = goes_then 1 1 IsOfTable _ _ _ (goes_step IsOfTable _ _ _ _ _ _ _ c.look-compare.ensures.step c.look-compare.ensures.allowed c.tlb_word-word.ensures.name tt)
    (goes_step IsOfTable _ _ _ _ _ _ _ c.store.ensures.step c.store.ensures.allowed c.tlb_word-word.ensures.name tt)

pub returns-then-compare-page-clause-inside : goal.returns-then-compare-page-clause-inside
returns-then-compare-page-clause-inside g c = inside_wiped c.args.book.now _ _ _ _ c.args.page _ c.args.field c.requires.inside c.requires.compare c.look-compare.ensures.step c.tlb_word-word.ensures.name _ c.store.ensures.step

pub returns-else-compare-eq0-clause-goes : goal.returns-else-compare-eq0-clause-goes
returns-else-compare-eq0-clause-goes g c = goes_at_most 1 2 IsOfTable _ _ (omega arith) (goes_step IsOfTable _ _ _ _ _ _ _ c.look-compare.ensures.step c.look-compare.ensures.allowed c.tlb_word-word.ensures.name tt)

pub returns-else-compare-eq0-clause-inside : goal.returns-else-compare-eq0-clause-inside
returns-else-compare-eq0-clause-inside g c = inside_read c.args.book.now _ _ _ _ c.args.page _ c.args.field c.requires.inside c.requires.compare c.look-compare.ensures.step c.tlb_word-word.ensures.name

pub returns-else-compare-eq0-clause-swept : goal.returns-else-compare-eq0-clause-swept
returns-else-compare-eq0-clause-swept g c = not_wiped c.args.book.now _ _ _ _ c.args.page _ c.args.field c.requires.inside c.requires.compare c.look-compare.ensures.step c.tlb_word-word.ensures.name
    c.look-compare.ensures.last (ap (λ n. c.args.page % n) c.from.ensures)
    (λ even page. elim c.else-compare-eq0.branch [ else-compare-eq0-via-then-compare-eq0+else-compare-page w ↦ w.if-compare-page.false page | else-compare-eq0-via-else-compare-eq0 w ↦ w.if-compare-eq0.false even ])
