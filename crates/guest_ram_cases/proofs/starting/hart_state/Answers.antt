use Rattle.guest_ram.specs.Areas.{IsOfStates}
use Rattle.step_laws.specs.Map.{Hsm}
use Rattle.guest_ram.proofs.Moves.{found_there, goes_step}
use Rattle.guest_ram_cases.proofs.Starts.{rests_loaded}
use Rattle.guest_ram_cases.proofs.starting.hart_state.Goals as goal

pub returns-clause-few : goal.returns-clause-few
returns-clause-few g c = found_there _ _ _ (Hsm c.args.hart) c.requires.acting c.load.ensures.known c.hsm_word-state.ensures.name

pub returns-clause-rests : goal.returns-clause-rests
returns-clause-rests g c = λ runs i. rests_loaded _ _ _ c.args.hart _ runs i c.load.ensures.step c.hsm_word-state.ensures.name

pub returns-clause-goes : goal.returns-clause-goes
returns-clause-goes g c = goes_step IsOfStates _ _ _ _ _ _ _ c.load.ensures.step c.load.ensures.allowed c.hsm_word-state.ensures.name tt
