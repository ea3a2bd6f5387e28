use Rattle.guest_ram.proofs.Moves.{goes_step, goes_then}
use Rattle.guest_boot.specs.Stored.{IsOfBoot}
use Rattle.guest_boot.proofs.words.clear_slot.Goals as goal

pub returns-clause-goes : goal.returns-clause-goes
returns-clause-goes g c = goes_then 2 1 IsOfBoot _ _ _
    (goes_then 1 1 IsOfBoot _ _ _ (goes_step IsOfBoot _ _ _ _ _ _ _ c.store.ensures.step c.store.ensures.allowed c.tlb_word.ensures.name tt) (goes_step IsOfBoot _ _ _ _ _ _ _ c.store-2.ensures.step c.store-2.ensures.allowed c.tlb_word-2.ensures.name tt))
    (goes_step IsOfBoot _ _ _ _ _ _ _ c.store-3.ensures.step c.store-3.ensures.allowed c.tlb_word-3.ensures.name tt)
