use Rattle.std.proofs.Common.{◌≡◌, ◌≤◌, ◌∙◌, sym, ap, arith}
use Rattle.step_laws.specs.declared.steps.WordOp.TheVariants.{Load}
use Rattle.guest_ram.specs.Ports.{Adds, Shown}
use Rattle.step_laws.specs.Map.{Opaque, number_of, monitor}
use Rattle.step_laws.proofs.Named.{name_number}
use Rattle.guest_ram.proofs.MaySteps.{may_load_hsm}
use Rattle.guest_ram.specs.Areas.{IsOfStates}
use Rattle.guest_ram.proofs.Moves.{actor_few, goes_at_most, goes_step, goes_then}
use Rattle.guest_ram_cases.proofs.Starts.{rests_loaded, rests_told, rests_given, rests_running, may_take_place, may_take_opaque, may_take_state}
use Rattle.guest_ram_cases.proofs.starting.take_start.Goals as goal

pub load-requires-clause-may : goal.load-requires-clause-may
load-requires-clause-may g c = may_load_hsm _ _ c.actor-own.result c.hsm_word-state.ensures.name c.requires.acting

pub load-at-requires-clause-may : goal.load-at-requires-clause-may
load-at-requires-clause-may g c = let few : c.actor-own.result ≤ monitor = omega (arith, c.actor-own.ensures, actor_few (g.P.Look.shows c.args.port.now) c.requires.acting) in may_take_place (g.P.Look.shows c.args.port.now) (g.P.Look.shows c.load.new.self) (g.P.Look.shows c.args.port.now) (g.P.Look.shows c.args.port.now) c.hsm_word-state.result c.start_word.result (number_of (Opaque c.actor-own.result)) c.actor-own.result c.load.result 0 0 c.requires.acting c.requires.stopped c.requires.paid c.actor-own.ensures c.hsm_word-state.ensures.name c.start_word.ensures.name (name_number (Opaque c.actor-own.result) (omega arith)) c.load.ensures.step (omega arith)

pub load-opaque-requires-clause-may : goal.load-opaque-requires-clause-may
load-opaque-requires-clause-may g c = may_take_opaque (g.P.Look.shows c.args.port.now) (g.P.Look.shows c.load.new.self) (g.P.Look.shows c.load-at.new.self) (g.P.Look.shows c.args.port.now) c.hsm_word-state.result c.start_word.result c.opaque_word.result c.actor-own.result c.load.result c.load-at.result 0 c.requires.acting c.requires.stopped c.requires.paid c.actor-own.ensures c.hsm_word-state.ensures.name c.start_word.ensures.name c.opaque_word.ensures.name c.load.ensures.step (omega arith) c.load-at.ensures.step

pub store-requires-clause-may : goal.store-requires-clause-may
store-requires-clause-may g c = may_take_state (g.P.Look.shows c.args.port.now) (g.P.Look.shows c.load.new.self) (g.P.Look.shows c.load-at.new.self) (g.P.Look.shows c.load-opaque.new.self) c.hsm_word-state.result c.start_word.result c.opaque_word.result c.actor-own.result c.load.result c.load-at.result c.load-opaque.result c.requires.acting c.requires.stopped c.requires.paid c.actor-own.ensures c.hsm_word-state.ensures.name c.start_word.ensures.name c.opaque_word.ensures.name c.load.ensures.step (omega arith) c.load-at.ensures.step c.load-opaque.ensures.step

pub returns-then-load-ne2-clause-still : goal.returns-then-load-ne2-clause-still
returns-then-load-ne2-clause-still g c = λ i. rests_loaded _ _ _ c.actor-own.result _ _ i c.load.ensures.step c.hsm_word-state.ensures.name

pub returns-then-load-ne2-clause-goes : goal.returns-then-load-ne2-clause-goes
returns-then-load-ne2-clause-goes g c = goes_at_most 1 4 IsOfStates _ _ (omega arith) (goes_step IsOfStates _ _ _ _ _ _ _ c.load.ensures.step c.load.ensures.allowed c.hsm_word-state.ensures.name tt)

pub returns-clause-runs : goal.returns-clause-runs
returns-clause-runs g c = λ i. rests_running _ _ _ c.actor-own.result (own c.load.ensures.step c.load-at.ensures.step c.load-opaque.ensures.step)
    (rests_given _ _ _ c.actor-own.result _ (rests_told _ _ _ c.actor-own.result _ (rests_loaded _ _ _ c.actor-own.result _ _ i c.load.ensures.step c.hsm_word-state.ensures.name) c.load-at.ensures.step c.start_word.ensures.name) c.load-opaque.ensures.step c.opaque_word.ensures.name)
    c.store.ensures.step c.hsm_word-state.ensures.name
  where
    own : Adds (g.P.Look.shows c.args.port.now) (g.P.Look.shows c.load.new.self) c.hsm_word-state.result Load 0 c.load.result → Adds (g.P.Look.shows c.load.new.self) (g.P.Look.shows c.load-at.new.self) c.start_word.result Load 0 c.load-at.result
        → Adds (g.P.Look.shows c.load-at.new.self) (g.P.Look.shows c.load-opaque.new.self) c.opaque_word.result Load 0 c.load-opaque.result → c.actor-own.result ≡ (g.P.Look.shows c.load-opaque.new.self).own.actor
    own a b d = c.actor-own.ensures ∙ sym (ap (λ (x : Shown). x.own.actor) d ∙ ap (λ (x : Shown). x.own.actor) b ∙ ap (λ (x : Shown). x.own.actor) a)

pub returns-clause-goes : goal.returns-clause-goes
returns-clause-goes g c = goes_then 3 1 IsOfStates _ _ _ (goes_then 2 1 IsOfStates _ _ _ (goes_then 1 1 IsOfStates _ _ _ (goes_step IsOfStates _ _ _ _ _ _ _ c.load.ensures.step c.load.ensures.allowed c.hsm_word-state.ensures.name tt)
    (goes_step IsOfStates _ _ _ _ _ _ _ c.load-at.ensures.step c.load-at.ensures.allowed c.start_word.ensures.name tt))
    (goes_step IsOfStates _ _ _ _ _ _ _ c.load-opaque.ensures.step c.load-opaque.ensures.allowed c.opaque_word.ensures.name tt))
    (goes_step IsOfStates _ _ _ _ _ _ _ c.store.ensures.step c.store.ensures.allowed c.hsm_word-state.ensures.name tt)
