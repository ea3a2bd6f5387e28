use Rattle.guest_ram.specs.Areas.{IsOfStates}
use Rattle.guest_ram.proofs.Moves.{goes_then}
use Rattle.guest_ram_cases.proofs.running.run_and_stop.Goals as goal

pub returns-in-Some-clause-goes : goal.returns-in-Some-clause-goes
returns-in-Some-clause-goes g c = goes_then 4 2 IsOfStates _ _ _ c.take_start.ensures.goes c.stop_self-last.ensures.goes
