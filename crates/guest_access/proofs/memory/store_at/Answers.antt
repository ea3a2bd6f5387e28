use Rattle.std.proofs.Common.{arith}
use Rattle.step_laws.specs.declared.steps.WordOp.TheVariants.{Store}
use Rattle.guest_access.proofs.Keeping.{may_write_at, stepped, word_below}
use Rattle.guest_access.proofs.memory.store_at.Goals as goal

pub ram_word-requires-clause-below : goal.ram_word-requires-clause-below
ram_word-requires-clause-below g c = word_below c.args.pa _ c.requires.may_load.acting c.requires.may_load.there

pub store-requires-clause-place : goal.store-requires-clause-place
store-requires-clause-place g c = c.ram_word.ensures.within _ c.requires.may_load.there.below

pub store-requires-clause-may : goal.store-requires-clause-may
store-requires-clause-may g c = may_write_at Store c.args.pa _ _ _ tt c.ram_word.ensures.name c.requires

pub returns : goal.returns
returns g c = stepped Store _ _ _ _ _ _ c.ram_word.ensures.number c.ram_word.ensures.name c.store.ensures.step c.store.ensures.allowed (omega arith)
