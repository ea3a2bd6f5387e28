use Rattle.guest_ram.specs.Areas.{IsOfStates}
use Rattle.guest_ram.proofs.Moves.{goes_then}
use Rattle.guest_ram_cases.proofs.running.start_twice.Goals as goal

pub returns-clause-goes : goal.returns-clause-goes
returns-clause-goes g c = goes_then 5 5 IsOfStates _ _ _ c.start_hart-first.ensures.goes c.start_hart-second.ensures.goes
