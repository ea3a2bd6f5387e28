use Rattle.guest_ram.proofs.MaySteps.{may_take_live}
use Rattle.hart_calls.proofs.Starts.{acting_hsm, stop_owes, stops_itself}
use Rattle.hart_calls.proofs.states.stop_self.Goals as goal

pub store-requires-clause-may : goal.store-requires-clause-may
store-requires-clause-may g c = stops_itself _ _ _ c.requires.hart c.hsm_word.ensures.name c.requires.runner

pub fetch_add-requires-clause-may : goal.fetch_add-requires-clause-may
fetch_add-requires-clause-may g c = may_take_live _ _ c.live_word.ensures.name (acting_hsm _ _ _ _ _ _ _ c.store.ensures.step c.hsm_word.ensures.name c.requires.runner.acting)
    (stop_owes _ _ _ _ c.store.ensures.step c.hsm_word.ensures.name c.requires.hart)
