use Rattle.step_laws.specs.declared.steps.WordOp.TheVariants.{Load}
use Rattle.guest_access.proofs.Keeping.{may_load_at, stepped, word_below}
use Rattle.code_fetch.proofs.fetching.load_at.Goals as goal

pub ram_word-requires-clause-below : goal.ram_word-requires-clause-below
ram_word-requires-clause-below g c = word_below c.args.pa _ c.requires.acting c.requires.there

pub load-requires-clause-place : goal.load-requires-clause-place
load-requires-clause-place g c = c.ram_word.ensures.within _ c.requires.there.below

pub load-requires-clause-may : goal.load-requires-clause-may
load-requires-clause-may g c = may_load_at c.args.pa _ _ c.ram_word.ensures.name c.requires

pub returns : goal.returns
returns g c = stepped Load _ _ _ _ _ _ c.ram_word.ensures.number c.ram_word.ensures.name c.load.ensures.step c.load.ensures.allowed c.load.type_inv
