use Rattle.std.proofs.Common.{◌≡◌, ◌≢◌, ◌∙◌, arith}
use Rattle.guest_ram.specs.Areas.{IsOfPlaces}
use Rattle.step_laws.specs.declared.steps.WordOp.TheVariants.{Load}
use Rattle.step_laws.specs.Map.{Place}
use Rattle.step_laws.specs.Marks.{last_place_next}
use Rattle.guest_ram.proofs.Moves.{fold_adds, goes_step}
use Rattle.guest_ram_cases.proofs.Drains.{may_wait, waits_still, waits_next}
use Rattle.guest_ram_cases.proofs.draining.await_drain.Goals as goal

pub load-found-requires-clause-may : goal.load-found-requires-clause-may
load-found-requires-clause-may g c = may_wait (g.P.Look.shows c.args.port.now) (g.P.Look.shows c.args.port.now) _ c.args.hart _ c.args.place 0 c.requires.stage c.requires.hart c.place_word-word.ensures.name c.actor.ensures

pub returns-then-found-ne0-clause-still : goal.returns-then-found-ne0-clause-still
returns-then-found-ne0-clause-still g c = waits_still _ _ _ c.args.hart _ c.args.place _ c.requires.stage c.requires.hart c.place_word-word.ensures.name c.actor.ensures c.load-found.ensures.step (let z : c.load-found.result ≢ 0 = λ e. omega (arith, e) in z)

pub returns-then-found-ne0-clause-goes : goal.returns-then-found-ne0-clause-goes
returns-then-found-ne0-clause-goes g c = goes_step IsOfPlaces _ _ _ _ _ _ _ c.load-found.ensures.step c.load-found.ensures.allowed c.place_word-word.ensures.name tt

pub returns-clause-stage : goal.returns-clause-stage
returns-clause-stage g c = waits_next _ _ _ c.args.hart _ c.args.place _ c.requires.stage c.requires.hart c.place_word-word.ensures.name c.actor.ensures c.load-found.ensures.step (let z : c.load-found.result ≡ 0 = omega arith in z) c.requires.place

pub returns-clause-goes : goal.returns-clause-goes
returns-clause-goes g c = goes_step IsOfPlaces _ _ _ _ _ _ _ c.load-found.ensures.step c.load-found.ensures.allowed c.place_word-word.ensures.name tt

pub returns-then-found-ne0-clause-loaded : goal.returns-then-found-ne0-clause-loaded
returns-then-found-ne0-clause-loaded g c = λ old t. fold_adds (last_place_next t) 0 _ _ _ 0 _ Load (Place c.args.hart c.actor.result c.args.place) c.load-found.ensures.step c.place_word-word.ensures.name ∙ old t

pub returns-clause-loaded : goal.returns-clause-loaded
returns-clause-loaded g c = λ old t. fold_adds (last_place_next t) 0 _ _ _ 0 _ Load (Place c.args.hart c.actor.result c.args.place) c.load-found.ensures.step c.place_word-word.ensures.name ∙ old t
