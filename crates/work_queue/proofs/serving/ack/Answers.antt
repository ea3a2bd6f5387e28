use Rattle.std.proofs.Common.{◌≤◌, arith}
use Rattle.step_laws.specs.Words.{monitor}
use Rattle.guest_ram.specs.Areas.{IsOfPlaces}
use Rattle.guest_ram.proofs.Moves.{goes_step}
use Rattle.work_queue.proofs.Acked.{may_ack_place, source_few}
use Rattle.work_queue.proofs.serving.ack.Goals as goal

pub store-requires-clause-may : goal.store-requires-clause-may
store-requires-clause-may g c = let s = c.args.source in let few : s ≤ monitor = source_few _ s c.requires.acting c.requires.source in
    may_ack_place _ _ c.actor.result s _ c.place_word.ensures.name c.actor.ensures c.requires.acting c.requires.other c.requires.hart (c.requires.served s (omega (arith, few))) c.requires.untouched c.requires.may

pub returns-clause-goes : goal.returns-clause-goes
returns-clause-goes g c = goes_step IsOfPlaces _ _ _ _ _ _ _ c.store.ensures.step c.store.ensures.allowed c.place_word.ensures.name tt
