use Rattle.std.proofs.Common.{ap}
use Rattle.step_laws.specs.declared.steps.WordOp.TheVariants.{Swap, Add, And, Or, Xor, Min, Max}
use Rattle.guest_access.specs.Stepping.{whole_op}
use Rattle.guest_access.proofs.Keeping.{may_write_at, stepped, word_below}
use Rattle.guest_access.proofs.memory.operate_at.Goals as goal

pub ram_word-word-requires-clause-below : goal.ram_word-word-requires-clause-below
ram_word-word-requires-clause-below g c = word_below c.args.pa _ c.requires.may_load.acting c.requires.may_load.there

pub swap-requires-clause-place : goal.swap-requires-clause-place
swap-requires-clause-place g c = c.ram_word-word.ensures.within _ c.requires.may_load.there.below

pub swap-requires-clause-may : goal.swap-requires-clause-may
swap-requires-clause-may g c = may_write_at Swap c.args.pa _ _ _ tt c.ram_word-word.ensures.name c.requires

pub returns-in-Swap : goal.returns-in-Swap
returns-in-Swap g c = (Swap, ap whole_op c.in-Swap.is, stepped Swap _ _ _ _ _ _ c.ram_word-word.ensures.number c.ram_word-word.ensures.name c.swap.ensures.step c.swap.ensures.allowed c.swap.type_inv)

pub fetch_add-requires-clause-place : goal.fetch_add-requires-clause-place
fetch_add-requires-clause-place g c = c.ram_word-word.ensures.within _ c.requires.may_load.there.below

pub fetch_add-requires-clause-may : goal.fetch_add-requires-clause-may
fetch_add-requires-clause-may g c = may_write_at Add c.args.pa _ _ _ tt c.ram_word-word.ensures.name c.requires

pub returns-in-Add : goal.returns-in-Add
returns-in-Add g c = (Add, ap whole_op c.in-Add.is, stepped Add _ _ _ _ _ _ c.ram_word-word.ensures.number c.ram_word-word.ensures.name c.fetch_add.ensures.step c.fetch_add.ensures.allowed c.fetch_add.type_inv)

pub fetch_xor-requires-clause-place : goal.fetch_xor-requires-clause-place
fetch_xor-requires-clause-place g c = c.ram_word-word.ensures.within _ c.requires.may_load.there.below

pub fetch_xor-requires-clause-may : goal.fetch_xor-requires-clause-may
fetch_xor-requires-clause-may g c = may_write_at Xor c.args.pa _ _ _ tt c.ram_word-word.ensures.name c.requires

pub returns-in-Xor : goal.returns-in-Xor
returns-in-Xor g c = (Xor, ap whole_op c.in-Xor.is, stepped Xor _ _ _ _ _ _ c.ram_word-word.ensures.number c.ram_word-word.ensures.name c.fetch_xor.ensures.step c.fetch_xor.ensures.allowed c.fetch_xor.type_inv)

pub fetch_and-requires-clause-place : goal.fetch_and-requires-clause-place
fetch_and-requires-clause-place g c = c.ram_word-word.ensures.within _ c.requires.may_load.there.below

pub fetch_and-requires-clause-may : goal.fetch_and-requires-clause-may
fetch_and-requires-clause-may g c = may_write_at And c.args.pa _ _ _ tt c.ram_word-word.ensures.name c.requires

pub returns-in-And : goal.returns-in-And
returns-in-And g c = (And, ap whole_op c.in-And.is, stepped And _ _ _ _ _ _ c.ram_word-word.ensures.number c.ram_word-word.ensures.name c.fetch_and.ensures.step c.fetch_and.ensures.allowed c.fetch_and.type_inv)

pub fetch_or-requires-clause-place : goal.fetch_or-requires-clause-place
fetch_or-requires-clause-place g c = c.ram_word-word.ensures.within _ c.requires.may_load.there.below

pub fetch_or-requires-clause-may : goal.fetch_or-requires-clause-may
fetch_or-requires-clause-may g c = may_write_at Or c.args.pa _ _ _ tt c.ram_word-word.ensures.name c.requires

pub returns-in-Or : goal.returns-in-Or
returns-in-Or g c = (Or, ap whole_op c.in-Or.is, stepped Or _ _ _ _ _ _ c.ram_word-word.ensures.number c.ram_word-word.ensures.name c.fetch_or.ensures.step c.fetch_or.ensures.allowed c.fetch_or.type_inv)

pub fetch_min-requires-clause-place : goal.fetch_min-requires-clause-place
fetch_min-requires-clause-place g c = c.ram_word-word.ensures.within _ c.requires.may_load.there.below

pub fetch_min-requires-clause-may : goal.fetch_min-requires-clause-may
fetch_min-requires-clause-may g c = may_write_at Min c.args.pa _ _ _ tt c.ram_word-word.ensures.name c.requires

pub returns-in-MinU : goal.returns-in-MinU
returns-in-MinU g c = (Min, ap whole_op c.in-MinU.is, stepped Min _ _ _ _ _ _ c.ram_word-word.ensures.number c.ram_word-word.ensures.name c.fetch_min.ensures.step c.fetch_min.ensures.allowed c.fetch_min.type_inv)

pub fetch_max-requires-clause-place : goal.fetch_max-requires-clause-place
fetch_max-requires-clause-place g c = c.ram_word-word.ensures.within _ c.requires.may_load.there.below

pub fetch_max-requires-clause-may : goal.fetch_max-requires-clause-may
fetch_max-requires-clause-may g c = may_write_at Max c.args.pa _ _ _ tt c.ram_word-word.ensures.name c.requires

pub returns-in-MaxU : goal.returns-in-MaxU
returns-in-MaxU g c = (Max, ap whole_op c.in-MaxU.is, stepped Max _ _ _ _ _ _ c.ram_word-word.ensures.number c.ram_word-word.ensures.name c.fetch_max.ensures.step c.fetch_max.ensures.allowed c.fetch_max.type_inv)
