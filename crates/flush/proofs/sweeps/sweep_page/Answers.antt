use Rattle.guest_ram.specs.Areas.{IsOfTable}
use Rattle.guest_ram.proofs.Moves.{goes_then}
use Rattle.flush.proofs.Wiped.{swept_page}
use Rattle.flush.proofs.sweeps.sweep_page.Goals as goal

pub returns-clause-swept : goal.returns-clause-swept
returns-clause-swept g c = swept_page _ _ _ _ c.args.page c.sweep_field.ensures.swept c.sweep_field-2.ensures.swept c.sweep_field-3.ensures.swept

pub returns-clause-goes : goal.returns-clause-goes
returns-clause-goes g c = goes_then 4 2 IsOfTable _ _ _ (goes_then 2 2 IsOfTable _ _ _ c.sweep_field.ensures.goes c.sweep_field-2.ensures.goes) c.sweep_field-3.ensures.goes
