use Rattle.std.proofs.Common.{arith}
use Rattle.guest_ram.specs.Areas.{IsOfSection}
use Rattle.guest_ram.proofs.Moves.{goes_step, goes_then, goes_at_most}
use Rattle.exclusive.proofs.entering.enter.Goals as goal

pub returns-then-found-ne0-clause-goes : goal.returns-then-found-ne0-clause-goes
returns-then-found-ne0-clause-goes g c = let name = c.run_word-own.ensures.name in goes_then 2 1 IsOfSection _ _ _
    (goes_then 1 1 IsOfSection _ _ _ (goes_step IsOfSection _ _ _ _ _ _ _ c.store.ensures.step c.store.ensures.allowed name tt) (goes_step IsOfSection _ _ _ _ _ _ _ c.load-found.ensures.step c.load-found.ensures.allowed c.pend_word-pend.ensures.name tt))
    (goes_step IsOfSection _ _ _ _ _ _ _ c.store-then-found-ne0.ensures.step c.store-then-found-ne0.ensures.allowed name tt)

pub returns-clause-goes : goal.returns-clause-goes
returns-clause-goes g c = goes_at_most 2 3 IsOfSection _ _ (omega arith) (goes_then 1 1 IsOfSection _ _ _
    (goes_step IsOfSection _ _ _ _ _ _ _ c.store.ensures.step c.store.ensures.allowed c.run_word-own.ensures.name tt) (goes_step IsOfSection _ _ _ _ _ _ _ c.load-found.ensures.step c.load-found.ensures.allowed c.pend_word-pend.ensures.name tt))
