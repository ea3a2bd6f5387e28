use Rattle.guest_ram.specs.Areas.{IsOfPlaces}
use Rattle.guest_ram.proofs.Moves.{goes_then}
use Rattle.guest_ram_cases.proofs.tracking.wait_for_both.Goals as goal

pub returns-clause-goes : goal.returns-clause-goes
returns-clause-goes g c = goes_then 16 8 IsOfPlaces _ _ _ (goes_then 8 8 IsOfPlaces _ _ _ c.await_drains-before.ensures.goes c.await_drains-between.ensures.goes) c.await_drains-behind.ensures.goes

pub returns-clause-second : goal.returns-clause-second
returns-clause-second g c = c.serve_drain-second.ensures.serving c.requires.second
