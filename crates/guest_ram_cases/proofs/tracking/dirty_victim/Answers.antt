use Rattle.std.proofs.Common.{arith}
use Rattle.guest_ram.specs.Areas.{AnyWord, IsOfTable}
use Rattle.guest_ram.proofs.AreaLemmas.{any_word}
use Rattle.guest_ram.proofs.Moves.{goes_at_most, goes_then, goes_within}
use Rattle.guest_ram_cases.proofs.tracking.dirty_victim.Goals as goal

pub returns-then-is_err : goal.returns-then-is_err
returns-then-is_err g c = record { goes = goes_at_most 1 9 AnyWord _ _ (omega arith) (goes_within 1 IsOfTable AnyWord _ _ (any_word IsOfTable) c.lock.ensures.goes) }

pub returns : goal.returns
returns g c = record {
  goes = goes_then 8 1 AnyWord _ _ _ (goes_then 6 2 AnyWord _ _ _ (goes_then 1 5 AnyWord _ _ _ (goes_within 1 IsOfTable AnyWord _ _ (any_word IsOfTable) c.lock.ensures.goes)
      (goes_within 5 IsOfTable AnyWord _ _ (any_word IsOfTable) c.fill.ensures.goes)) c.dirty_slot.ensures.goes) (goes_within 1 IsOfTable AnyWord _ _ (any_word IsOfTable) c.unlock.ensures.goes);
}
