use Rattle.std.proofs.Common.{true}
use Rattle.guest_ram.specs.Areas.{IsOfStates}
use Rattle.guest_ram.proofs.Moves.{goes_then}
use Rattle.guest_ram_cases.proofs.running.stop_last.Goals as goal

pub returns-clause-rests : goal.returns-clause-rests
returns-clause-rests g c = c.stop_self-last.ensures.rests (c.hart_state-state.ensures.rests true c.requires.rests)

pub returns-clause-goes : goal.returns-clause-goes
returns-clause-goes g c = goes_then 1 2 IsOfStates _ _ _ c.hart_state-state.ensures.goes c.stop_self-last.ensures.goes
