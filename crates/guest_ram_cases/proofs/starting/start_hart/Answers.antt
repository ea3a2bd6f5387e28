use Rattle.std.proofs.Common.{◌≡◌, ◌≢◌, ap, ◌∙◌, arith}
use Rattle.guest_ram.specs.Ports.{Shown}
use Rattle.guest_ram.specs.Areas.{IsOfStates}
use Rattle.guest_ram.proofs.Moves.{goes_step, goes_then, goes_at_most}
use Rattle.guest_ram.proofs.MaySteps.{may_set_start, may_set_opaque, may_add_live, may_end_start}
use Rattle.guest_ram_cases.proofs.Starts.{acting_hsm, acting_start, acting_opaque, acting_live, start_begun, start_placed, start_handed, start_counted, rests_refused, rests_begun, rests_placed, rests_handed, rests_counted, rests_started}
use Rattle.guest_ram_cases.proofs.starting.start_hart.Goals as goal

pub store-requires-clause-may : goal.store-requires-clause-may
store-requires-clause-may g c = let x = c.compare_exchange-found in
    may_set_start _ _ _ _ c.start_word.ensures.name (acting_hsm _ _ _ _ _ _ _ x.ensures.step c.hsm_word-state.ensures.name c.requires.acting)
    (start_begun _ _ _ _ _ x.ensures.step c.hsm_word-state.ensures.name (omega arith)) c.requires.place

pub store-requires-2-clause-may : goal.store-requires-2-clause-may
store-requires-2-clause-may g c = let x = c.compare_exchange-found in
    may_set_opaque _ _ _ _ c.opaque_word.ensures.name
    (acting_start _ _ _ _ _ _ _ c.store.ensures.step c.start_word.ensures.name (acting_hsm _ _ _ _ _ _ _ x.ensures.step c.hsm_word-state.ensures.name c.requires.acting))
    (start_placed _ _ _ _ _ c.store.ensures.step c.start_word.ensures.name)

pub fetch_add-requires-clause-may : goal.fetch_add-requires-clause-may
fetch_add-requires-clause-may g c = let x = c.compare_exchange-found in
    may_add_live _ _ _ c.live_word.ensures.name
    (acting_opaque _ _ _ _ _ _ _ c.store-2.ensures.step c.opaque_word.ensures.name (acting_start _ _ _ _ _ _ _ c.store.ensures.step c.start_word.ensures.name (acting_hsm _ _ _ _ _ _ _ x.ensures.step c.hsm_word-state.ensures.name c.requires.acting)))
    (start_handed _ _ _ _ _ c.store-2.ensures.step c.opaque_word.ensures.name)

pub store-requires-3-clause-may : goal.store-requires-3-clause-may
store-requires-3-clause-may g c = let x = c.compare_exchange-found in
    may_end_start _ _ _ c.hsm_word-state.ensures.name
    (acting_live _ _ _ _ _ _ c.fetch_add.ensures.step c.live_word.ensures.name (acting_opaque _ _ _ _ _ _ _ c.store-2.ensures.step c.opaque_word.ensures.name (acting_start _ _ _ _ _ _ _ c.store.ensures.step c.start_word.ensures.name (acting_hsm _ _ _ _ _ _ _ x.ensures.step c.hsm_word-state.ensures.name c.requires.acting))))
    (start_counted _ _ _ _ _ c.fetch_add.ensures.step c.live_word.ensures.name (start_handed _ _ _ _ _ c.store-2.ensures.step c.opaque_word.ensures.name))

pub returns-then-found-ne1-clause-rests : goal.returns-then-found-ne1-clause-rests
returns-then-found-ne1-clause-rests g c = λ i. rests_refused _ _ _ c.args.target _ i c.compare_exchange-found.ensures.step c.hsm_word-state.ensures.name (let z : c.compare_exchange-found.result ≢ 1 = λ e. omega (arith, e) in z)

pub returns-then-found-ne1-clause-goes : goal.returns-then-found-ne1-clause-goes
returns-then-found-ne1-clause-goes g c = goes_at_most 1 5 IsOfStates _ _ (omega arith) (goes_step IsOfStates _ _ _ _ _ _ _ c.compare_exchange-found.ensures.step c.compare_exchange-found.ensures.allowed c.hsm_word-state.ensures.name tt)

pub returns-clause-rests : goal.returns-clause-rests
returns-clause-rests g c = λ i. rests_started _ _ _ c.args.target (λ x. c.requires.other (x ∙ ap (λ (y : Shown). y.own.actor) c.fetch_add.ensures.step ∙ ap (λ (y : Shown). y.own.actor) c.store-2.ensures.step ∙ ap (λ (y : Shown). y.own.actor) c.store.ensures.step
    ∙ ap (λ (y : Shown). y.own.actor) c.compare_exchange-found.ensures.step))
    (rests_counted _ _ _ c.args.target _ (rests_handed _ _ _ c.args.target _ (rests_placed _ _ _ c.args.target _
    (rests_begun _ _ _ c.args.target _ i c.compare_exchange-found.ensures.step c.hsm_word-state.ensures.name (let z : c.compare_exchange-found.result ≡ 1 = omega arith in z))
    c.store.ensures.step c.start_word.ensures.name) c.store-2.ensures.step c.opaque_word.ensures.name) c.fetch_add.ensures.step c.live_word.ensures.name) c.store-3.ensures.step c.hsm_word-state.ensures.name

pub returns-clause-goes : goal.returns-clause-goes
returns-clause-goes g c = goes_then 4 1 IsOfStates _ _ _ (goes_then 3 1 IsOfStates _ _ _ (goes_then 2 1 IsOfStates _ _ _ (goes_then 1 1 IsOfStates _ _ _ (goes_step IsOfStates _ _ _ _ _ _ _ c.compare_exchange-found.ensures.step c.compare_exchange-found.ensures.allowed c.hsm_word-state.ensures.name tt)
    (goes_step IsOfStates _ _ _ _ _ _ _ c.store.ensures.step c.store.ensures.allowed c.start_word.ensures.name tt))
    (goes_step IsOfStates _ _ _ _ _ _ _ c.store-2.ensures.step c.store-2.ensures.allowed c.opaque_word.ensures.name tt))
    (goes_step IsOfStates _ _ _ _ _ _ _ c.fetch_add.ensures.step c.fetch_add.ensures.allowed c.live_word.ensures.name tt))
    (goes_step IsOfStates _ _ _ _ _ _ _ c.store-3.ensures.step c.store-3.ensures.allowed c.hsm_word-state.ensures.name tt)
