use Rattle.guest_ram.specs.Areas.{IsOfStates}
use Rattle.guest_ram.proofs.Moves.{goes_step, goes_then}
use Rattle.guest_ram_cases.proofs.Starts.{rests_stopping, rests_stopped}
use Rattle.guest_ram_cases.proofs.starting.stop_self.Goals as goal

pub returns-clause-rests : goal.returns-clause-rests
returns-clause-rests g c = λ i. rests_stopped _ _ _ _ (rests_stopping _ _ _ c.actor.result c.actor.ensures i c.store.ensures.step c.hsm_word-state.ensures.name) c.fetch_add.ensures.step c.live_word.ensures.name

pub returns-clause-goes : goal.returns-clause-goes
returns-clause-goes g c = goes_then 1 1 IsOfStates _ _ _ (goes_step IsOfStates _ _ _ _ _ _ _ c.store.ensures.step c.store.ensures.allowed c.hsm_word-state.ensures.name tt)
    (goes_step IsOfStates _ _ _ _ _ _ _ c.fetch_add.ensures.step c.fetch_add.ensures.allowed c.live_word.ensures.name tt)
