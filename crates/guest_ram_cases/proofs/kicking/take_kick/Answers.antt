use Rattle.guest_ram.specs.Areas.{IsOfCalls}
use Rattle.guest_ram.proofs.Moves.{goes_step, goes_then, goes_at_most}
use Rattle.std.proofs.Common.{arith}
use Rattle.guest_ram_cases.proofs.kicking.take_kick.Goals as goal

pub returns-then-found-eq0-clause-goes : goal.returns-then-found-eq0-clause-goes
returns-then-found-eq0-clause-goes g c = goes_at_most 1 2 IsOfCalls _ _ (omega arith) (goes_step IsOfCalls _ _ _ _ _ _ _ c.load-found.ensures.step c.load-found.ensures.allowed c.kick_word-own.ensures.name tt)

pub returns-clause-goes : goal.returns-clause-goes
returns-clause-goes g c = goes_then 1 1 IsOfCalls _ _ _ (goes_step IsOfCalls _ _ _ _ _ _ _ c.load-found.ensures.step c.load-found.ensures.allowed c.kick_word-own.ensures.name tt)
    (goes_step IsOfCalls _ _ _ _ _ _ _ c.store.ensures.step c.store.ensures.allowed c.kick_word-own.ensures.name tt)
