-- Records and histories in which a mark would be lost or a page invented, each refused.
use Rattle.std.proofs.Common.{true, true≢false, List, [], ◌∷◌, sym, arith}
use Rattle.step_laws.specs.declared.steps.Step.{Step}
use Rattle.step_laws.specs.declared.steps.WordOp.TheVariants.{Load, Store, Swap, Or}
use Rattle.step_laws.specs.Discipline.{IsPermitted, by_loader, by_actor, write_ram}
use Rattle.step_laws.specs.Map.{Ram, name_of}
use Rattle.step_laws.specs.Steps.{IsConsistent}
use Rattle.step_laws.proofs.Samples.{two, by}

-- hart 0 marked page 0 in one turn, acked the monitor's drain in the next, and is inside
abbrev acked : List Step
acked = by 0 1 Load 0 0 ∷ by 0 8 Store 1 0 ∷ by 0 216 Store 0 0 ∷ by 0 216 Load 0 3 ∷ by 0 2 Load 0 0 ∷ by 0 728 Or 1 0 ∷ []

-- a store on the old mark, which the monitor may have taken
pub store_behind_an_ack : IsPermitted two 0 true acked (Ram 0) Store 7 → ⊥
unfolding name_of
store_behind_an_ack (by_loader e m) = omega (arith, e)
store_behind_an_ack (by_actor who f (write_ram writes at)) = true≢false (sym at.2)

-- hart 0 is inside and has marked page 1
abbrev beside : List Step
beside = by 0 1 Load 0 0 ∷ by 0 8 Store 1 0 ∷ by 0 728 Or 2 0 ∷ []

-- a store on page 0
pub store_beside_the_mark : IsPermitted two 0 true beside (Ram 0) Store 7 → ⊥
unfolding name_of
store_beside_the_mark (by_loader e m) = omega (arith, e)
store_beside_the_mark (by_actor who f (write_ram writes at)) = true≢false (sym at.2)

-- a snapshot that finds its drain acked, though no hart acked it
pub finished_without_an_ack : IsConsistent two (by 8 216 Load 0 0 ∷ by 8 216 Store 3 0 ∷ []) → ⊥
finished_without_an_ack c = omega (arith, c.2)

-- a page that a take lists, though no hart marked it
pub taken_unmarked : IsConsistent two (by 8 728 Swap 0 1 ∷ []) → ⊥
taken_unmarked c = omega (arith, c.2)

-- and one that it leaves out, though a hart did
pub left_out : IsConsistent two (by 8 728 Swap 0 0 ∷ by 0 728 Or 1 0 ∷ []) → ⊥
left_out c = omega (arith, c.2)
