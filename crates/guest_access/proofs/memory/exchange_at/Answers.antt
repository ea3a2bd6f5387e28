use Rattle.step_laws.specs.declared.steps.WordOp.TheVariants.{Exchange}
use Rattle.guest_access.proofs.Keeping.{may_write_at, stepped, word_below}
use Rattle.guest_access.proofs.memory.exchange_at.Goals as goal

pub ram_word-requires-clause-below : goal.ram_word-requires-clause-below
ram_word-requires-clause-below g c = word_below c.args.pa _ c.requires.may_load.acting c.requires.may_load.there

pub compare_exchange-requires-clause-place : goal.compare_exchange-requires-clause-place
compare_exchange-requires-clause-place g c = c.ram_word.ensures.within _ c.requires.may_load.there.below

pub compare_exchange-requires-clause-may : goal.compare_exchange-requires-clause-may
compare_exchange-requires-clause-may g c = may_write_at (Exchange c.args.old) c.args.pa _ _ _ tt c.ram_word.ensures.name c.requires

pub returns : goal.returns
returns g c = stepped (Exchange c.args.old) _ _ _ _ _ _ c.ram_word.ensures.number c.ram_word.ensures.name c.compare_exchange.ensures.step c.compare_exchange.ensures.allowed c.compare_exchange.type_inv
