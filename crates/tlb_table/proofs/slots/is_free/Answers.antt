use Rattle.guest_ram.specs.Areas.{IsOfTable}
use Rattle.guest_ram.proofs.Moves.{goes_step, goes_then}
use Rattle.tlb_table.proofs.Loads.{load_alike, alike_then}
use Rattle.tlb_table.proofs.slots.is_free.Goals as goal

pub returns-then-write-eq1-clause-goes : goal.returns-then-write-eq1-clause-goes
returns-then-write-eq1-clause-goes g c = goes_then 2 1 IsOfTable _ _ _ (goes_then 1 1 IsOfTable _ _ _ (goes_step IsOfTable _ _ _ _ _ _ _ c.look-read.ensures.step c.look-read.ensures.allowed c.tlb_word.ensures.name tt) (goes_step IsOfTable _ _ _ _ _ _ _ c.look-write.ensures.step c.look-write.ensures.allowed c.tlb_word-2.ensures.name tt)) (goes_step IsOfTable _ _ _ _ _ _ _ c.look-code.ensures.step c.look-code.ensures.allowed c.tlb_word-3.ensures.name tt)

pub returns-then-write-eq1-clause-alike : goal.returns-then-write-eq1-clause-alike
returns-then-write-eq1-clause-alike g c = alike_then _ _ _ (alike_then _ _ _ (load_alike _ _ _ _ _ _ _ c.look-read.ensures.step c.tlb_word.ensures.name) (load_alike _ _ _ _ _ _ _ c.look-write.ensures.step c.tlb_word-2.ensures.name)) (load_alike _ _ _ _ _ _ _ c.look-code.ensures.step c.tlb_word-3.ensures.name)

pub returns-else-write-eq1-clause-goes : goal.returns-else-write-eq1-clause-goes
returns-else-write-eq1-clause-goes g c = goes_then 2 1 IsOfTable _ _ _ (goes_then 1 1 IsOfTable _ _ _ (goes_step IsOfTable _ _ _ _ _ _ _ c.look-read.ensures.step c.look-read.ensures.allowed c.tlb_word.ensures.name tt) (goes_step IsOfTable _ _ _ _ _ _ _ c.look-write.ensures.step c.look-write.ensures.allowed c.tlb_word-2.ensures.name tt)) (goes_step IsOfTable _ _ _ _ _ _ _ c.look-code.ensures.step c.look-code.ensures.allowed c.tlb_word-3.ensures.name tt)

pub returns-else-write-eq1-clause-alike : goal.returns-else-write-eq1-clause-alike
returns-else-write-eq1-clause-alike g c = alike_then _ _ _ (alike_then _ _ _ (load_alike _ _ _ _ _ _ _ c.look-read.ensures.step c.tlb_word.ensures.name) (load_alike _ _ _ _ _ _ _ c.look-write.ensures.step c.tlb_word-2.ensures.name)) (load_alike _ _ _ _ _ _ _ c.look-code.ensures.step c.tlb_word-3.ensures.name)
