use Rattle.guest_ram.specs.Areas.{IsOfTable}
use Rattle.guest_ram.proofs.Moves.{goes_then}
use Rattle.tlb_table.proofs.slots.put.Goals as goal

pub returns-clause-goes : goal.returns-clause-goes
returns-clause-goes g c = goes_then 3 5 IsOfTable _ _ _ c.is_free-free.ensures.goes c.fill.ensures.goes
