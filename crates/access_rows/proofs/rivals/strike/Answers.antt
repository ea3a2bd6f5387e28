use Rattle.guest_ram.specs.Areas.{IsOfRam}
use Rattle.guest_ram.proofs.Moves.{goes_step}
use Rattle.access_rows.proofs.Beside.{rival_may, rival_on}
use Rattle.access_rows.proofs.rivals.strike.Goals as goal

pub store-requires-clause-may : goal.store-requires-clause-may
store-requires-clause-may g c = rival_may _ _ _ c.requires.rival c.ram_word_at-word.ensures.name

pub returns-clause-rival : goal.returns-clause-rival
returns-clause-rival g c = rival_on _ _ _ _ c.requires.rival c.store.ensures.step c.ram_word_at-word.ensures.name

pub returns-clause-goes : goal.returns-clause-goes
returns-clause-goes g c = goes_step IsOfRam _ _ _ _ _ _ _ c.store.ensures.step c.store.ensures.allowed c.ram_word_at-word.ensures.name tt
