-- Translations by a walk of long ago, as a TLB keeps them: which flushes end them (RISC-V Privileged Architecture, "Supervisor
-- Memory-Management Fence Instruction").
use Rattle.std.specs.Prelude.{◌≡◌, ◌⊎◌, ℕ, false, List, [], ◌∷◌, ◌++◌}
use Rattle.rv64_priv.specs.declared.state.Kind.{Kind}
use Rattle.rv64_priv.specs.declared.state.Regime.{Regime}
use Rattle.rv64_priv.specs.Flush.{Flush, covers}
use Rattle.rv64_priv.specs.Walk.{walk_of, Leaf}
use Rattle.rv64_priv.specs.Reads.{answering}
use Rattle.step_laws.specs.declared.steps.Step.{Step}
use Rattle.walk_laws.specs.WalkLoads.{Found, Loads, reads_of, IsWalked}

-- a hart's record in which each flush stands behind the steps by which it was made
pub data Item : Type 0 where
  made : Step → Item
  flushed : Flush → Item

-- these words were loaded so in this order, the last one first in the list, and no flush since the first of these loads covers the
-- address at this level
abbrev pub HasStood : (va level : ℕ) → List Found → List Item → Type 0
HasStood va level [] r = Unit {0}
HasStood va level (x ∷ xs) [] = ⊥
HasStood va level (x ∷ xs) (made s ∷ r) = (Loads x s × HasStood va level xs r) ⊎ HasStood va level (x ∷ xs) r
HasStood va level (x ∷ xs) (flushed what ∷ r) = (covers what va level ≡ false) × HasStood va level (x ∷ xs) r

-- a walk of the address gave this leaf: the loads of this call, or those of an entry that was filled long ago
pub record IsKept (pages : ℕ) (r : Regime) (kind : Kind) (va pte address level : ℕ) (items : List Item) : Type 0 where
  pub finds : ℕ → ℕ
  pub is_end : walk_of pages r kind (answering finds) va ≡ Leaf pte address level
  pub stood : HasStood va level (reads_of pages r va finds) items

-- steps alone
abbrev pub made_all : List Step → List Item
made_all [] = []
made_all (s ∷ r) = made s ∷ made_all r

-- a walk whose loads stand in a call's own steps is kept behind them
abbrev pub WalkIsKept : Type 0
WalkIsKept = (pages : ℕ) (r : Regime) (kind : Kind) (va pte address level : ℕ) (steps : List Step) (items : List Item)
    → IsWalked pages r kind va (Leaf pte address level) steps → IsKept pages r kind va pte address level (made_all steps ++ items)

-- over further steps
abbrev pub StaysOverSteps : Type 0
StaysOverSteps = (pages : ℕ) (r : Regime) (kind : Kind) (va pte address level : ℕ) (steps : List Step) (items : List Item)
    → IsKept pages r kind va pte address level items → IsKept pages r kind va pte address level (made_all steps ++ items)

-- and over a flush that doesn't cover it
abbrev pub StaysOverFlush : Type 0
StaysOverFlush = (pages : ℕ) (r : Regime) (kind : Kind) (va pte address level : ℕ) (what : Flush) (items : List Item) → covers what va level ≡ false
    → IsKept pages r kind va pte address level items → IsKept pages r kind va pte address level (flushed what ∷ items)
