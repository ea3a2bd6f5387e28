use Rattle.std.proofs.Common.{arith}
use Rattle.guest_ram.proofs.MaySteps.{may_begin_start, may_set_start, may_set_opaque, may_add_live, may_end_start}
use Rattle.hart_calls.proofs.Starts.{acting_hsm, acting_start, acting_opaque, acting_live, start_begun, start_placed, start_handed, start_counted}
use Rattle.hart_calls.proofs.states.start_other.Goals as goal

pub compare_exchange-found-requires-clause-may : goal.compare_exchange-found-requires-clause-may
compare_exchange-found-requires-clause-may g c =
    may_begin_start _ _ _ c.hsm_word-state.ensures.name c.requires.runner.acting c.requires.runner.hart c.requires.runner.runs c.requires.runner.free c.requires.other c.requires.target

pub store-requires-clause-may : goal.store-requires-clause-may
store-requires-clause-may g c = let x = c.compare_exchange-found in
    may_set_start _ _ _ _ c.start_word.ensures.name (acting_hsm _ _ _ _ _ _ _ x.ensures.step c.hsm_word-state.ensures.name c.requires.runner.acting)
    (start_begun _ _ _ _ _ x.ensures.step c.hsm_word-state.ensures.name (omega arith)) c.requires.place

pub store-requires-2-clause-may : goal.store-requires-2-clause-may
store-requires-2-clause-may g c = let x = c.compare_exchange-found in
    may_set_opaque _ _ _ _ c.opaque_word.ensures.name
    (acting_start _ _ _ _ _ _ _ c.store.ensures.step c.start_word.ensures.name (acting_hsm _ _ _ _ _ _ _ x.ensures.step c.hsm_word-state.ensures.name c.requires.runner.acting))
    (start_placed _ _ _ _ _ c.store.ensures.step c.start_word.ensures.name)

pub fetch_add-requires-clause-may : goal.fetch_add-requires-clause-may
fetch_add-requires-clause-may g c = let x = c.compare_exchange-found in
    may_add_live _ _ _ c.live_word.ensures.name
    (acting_opaque _ _ _ _ _ _ _ c.store-2.ensures.step c.opaque_word.ensures.name (acting_start _ _ _ _ _ _ _ c.store.ensures.step c.start_word.ensures.name (acting_hsm _ _ _ _ _ _ _ x.ensures.step c.hsm_word-state.ensures.name c.requires.runner.acting)))
    (start_handed _ _ _ _ _ c.store-2.ensures.step c.opaque_word.ensures.name)

pub store-requires-3-clause-may : goal.store-requires-3-clause-may
store-requires-3-clause-may g c = let x = c.compare_exchange-found in
    may_end_start _ _ _ c.hsm_word-state.ensures.name
    (acting_live _ _ _ _ _ _ c.fetch_add.ensures.step c.live_word.ensures.name (acting_opaque _ _ _ _ _ _ _ c.store-2.ensures.step c.opaque_word.ensures.name (acting_start _ _ _ _ _ _ _ c.store.ensures.step c.start_word.ensures.name (acting_hsm _ _ _ _ _ _ _ x.ensures.step c.hsm_word-state.ensures.name c.requires.runner.acting))))
    (start_counted _ _ _ _ _ c.fetch_add.ensures.step c.live_word.ensures.name (start_handed _ _ _ _ _ c.store-2.ensures.step c.opaque_word.ensures.name))
