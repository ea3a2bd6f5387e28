-- A walk of the page tables as a call makes it (RISC-V Privileged Architecture, "Virtual Address Translation Process"): which loads it
-- makes, and how it ends by what they find. Lists are newest first.
use Rattle.std.specs.Prelude.{◌≡◌, ℕ, List, [], ◌∷◌, ◌++◌}
use Rattle.rv64_priv.specs.declared.state.Kind.{Kind}
use Rattle.rv64_priv.specs.declared.state.Regime.{Regime}
use Rattle.rv64_priv.specs.Walk.{Walked, Leaf, PageFault, AccessFault, walk_of}
use Rattle.rv64_priv.specs.Reads.{answering}
use Rattle.step_laws.specs.declared.steps.Step.{Step}
use Rattle.step_laws.specs.declared.steps.WordOp.TheVariants.{Load}
use Rattle.guest_ram.specs.Plays.{step_of}
use Rattle.guest_ram.specs.Ports.{Shown, layout_of}
use Rattle.guest_ram.specs.Rule.{record_of}
use Rattle.walk_laws.specs.WalkLoads.{Found, IsWalked, reads_of}
use Rattle.sv39_walk.specs.declared.tables.WalkEnd.{WalkEnd}
use Rattle.sv39_walk.specs.declared.tables.WalkEnd.TheVariants as ends

abbrev pub end_of : WalkEnd → Walked
end_of (ends.Leaf pte page level) = Leaf pte page level
end_of ends.PageFault = PageFault
end_of ends.AccessFault = AccessFault

-- the loads that found these words
abbrev pub loads_of : (actor : ℕ) → List Found → List Step
loads_of a [] = []
loads_of a (x ∷ xs) = step_of a x.word Load 0 x.value ∷ loads_of a xs

-- what is shown, with these steps more
abbrev pub grown : Shown → List Step → Shown
grown p added = record p { own = record_of p.own.actor p.own.runs (added ++ p.own.steps) }

-- the walk has this end by the words that its loads found, and these loads are the steps that were made
pub record HasWalked (r : Regime) (kind : Kind) (va : ℕ) (p q : Shown) (end : Walked) : Type 0 where
  pub finds : ℕ → ℕ
  pub is_end : walk_of (layout_of p).pages r kind (answering finds) va ≡ end
  pub loads : q ≡ grown p (loads_of p.own.actor (reads_of (layout_of p).pages r va finds))

-- the steps that were made show the walk
pub record ShowsWalk (r : Regime) (kind : Kind) (va : ℕ) (p q : Shown) (end : Walked) : Type 0 where
  pub added : List Step
  pub grows : q ≡ grown p added
  pub walked : IsWalked (layout_of p).pages r kind va end added
