use Rattle.std.proofs.Common.{arith}
use Rattle.guest_ram.specs.Areas.{IsOfPlaces}
use Rattle.guest_ram.proofs.Moves.{goes_step, goes_then, goes_at_most}
use Rattle.guest_ram_cases.proofs.posting.post.Goals as goal

pub returns-then-standing-ne0-clause-goes : goal.returns-then-standing-ne0-clause-goes
returns-then-standing-ne0-clause-goes g c = goes_at_most 1 2 IsOfPlaces _ _ (omega arith) (goes_step IsOfPlaces _ _ _ _ _ _ _ c.load-standing.ensures.step c.load-standing.ensures.allowed c.place_word-word.ensures.name tt)

pub returns-clause-goes : goal.returns-clause-goes
returns-clause-goes g c = goes_then 1 1 IsOfPlaces _ _ _ (goes_step IsOfPlaces _ _ _ _ _ _ _ c.load-standing.ensures.step c.load-standing.ensures.allowed c.place_word-word.ensures.name tt)
    (goes_step IsOfPlaces _ _ _ _ _ _ _ c.store.ensures.step c.store.ensures.allowed c.place_word-word.ensures.name tt)
