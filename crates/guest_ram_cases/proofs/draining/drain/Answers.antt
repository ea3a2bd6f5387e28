use Rattle.std.proofs.Common.{◌≡◌, arith}
use Rattle.guest_ram.specs.Areas.{IsOfPlaces}
use Rattle.guest_ram.proofs.Moves.{goes_step, goes_then, goes_at_most}
use Rattle.guest_ram_cases.proofs.Posts.{may_poll_place}
use Rattle.guest_ram_cases.proofs.Drains.{other_hart, drains_not, drains_next, places_drain, may_drain}
use Rattle.guest_ram_cases.proofs.draining.drain.Goals as goal

pub load-found-requires-clause-may : goal.load-found-requires-clause-may
load-found-requires-clause-may g c = may_poll_place _ _ c.args.hart _ c.args.place c.place_word-word.ensures.name c.actor.ensures c.requires.stage.acting (other_hart _ c.args.hart _ c.requires.stage c.requires.hart)

pub store-requires-clause-may : goal.store-requires-clause-may
store-requires-clause-may g c = may_drain _ _ _ c.args.hart _ c.args.place _ c.requires.stage c.requires.hart c.load-found.ensures.step c.place_word-word.ensures.name c.actor.ensures (let z : c.load-found.result ≡ 0 = omega arith in z) c.requires.place

pub returns-then-found-ne0-clause-still : goal.returns-then-found-ne0-clause-still
returns-then-found-ne0-clause-still g c = drains_not _ _ _ c.args.hart _ c.args.place _ c.requires.stage c.requires.hart c.load-found.ensures.step c.place_word-word.ensures.name c.actor.ensures

pub returns-then-found-ne0-clause-goes : goal.returns-then-found-ne0-clause-goes
returns-then-found-ne0-clause-goes g c = goes_at_most 1 2 IsOfPlaces _ _ (omega arith) (goes_step IsOfPlaces _ _ _ _ _ _ _ c.load-found.ensures.step c.load-found.ensures.allowed c.place_word-word.ensures.name tt)

pub returns-clause-stage : goal.returns-clause-stage
returns-clause-stage g c = drains_next _ _ _ c.args.hart _ c.args.place _ c.requires.stage c.requires.hart c.load-found.ensures.step c.place_word-word.ensures.name c.actor.ensures _ c.store.ensures.step

pub returns-clause-placed : goal.returns-clause-placed
returns-clause-placed g c = places_drain _ _ _ c.args.hart _ c.args.place _ c.requires.stage c.requires.hart c.load-found.ensures.step c.place_word-word.ensures.name c.actor.ensures _ c.store.ensures.step

pub returns-clause-goes : goal.returns-clause-goes
returns-clause-goes g c = goes_then 1 1 IsOfPlaces _ _ _ (goes_step IsOfPlaces _ _ _ _ _ _ _ c.load-found.ensures.step c.load-found.ensures.allowed c.place_word-word.ensures.name tt)
    (goes_step IsOfPlaces _ _ _ _ _ _ _ c.store.ensures.step c.store.ensures.allowed c.place_word-word.ensures.name tt)
