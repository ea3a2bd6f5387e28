-- A walk that a record shows.
use Rattle.std.specs.Prelude.{◌≡◌, ℕ, IsTrue, List, [], ◌∷◌, Option, Some, None}
use Rattle.rv64_priv.specs.State.{Arch}
use Rattle.rv64_priv.specs.Csr.{regime}
use Rattle.rv64_priv.specs.declared.state.Kind.{Kind}
use Rattle.rv64_priv.specs.Walk.{Walked, walk_of}
use Rattle.machine_model.specs.Run.{renews}
use Rattle.rv64_priv.specs.Reads.{answering}
use Rattle.machine_model.specs.Access.{crosses_page, second_va, spot_of, is_at_ram}
use Rattle.machine_model.specs.Walks.{Wanted}
use Rattle.run_laws.proofs.Placed.{Placed, Stood}
use Rattle.walk_laws.specs.WalkLoads.{reads_of}

-- the walk's loads stand in the record, with nothing since the first of them that renews the walk: for a leaf a flush that
-- covers it, for a fault an event of the hart. It may have been a walk of long ago, which filled an entry of the TLB
pub record IsShown (pages h : ℕ) (a : Arch) (kind : Kind) (va : ℕ) (end : Walked) (p : List Placed) : Type 0 where
  pub finds : ℕ → ℕ
  pub is_end : walk_of pages (regime a) kind (answering finds) va ≡ end
  pub stood : Stood (renews h va end) (reads_of pages (regime a) va finds) p

-- the walks of an access
pub record AreShown (pages h : ℕ) (a : Arch) (w : Wanted) (walk second : Walked) (p : List Placed) : Type 0 where
  pub first_page : IsShown pages h a w.kind w.va walk p
  pub second_page : IsTrue (crosses_page w.va w.width) → IsTrue (is_at_ram (spot_of w.kind w.va walk))
      → IsShown pages h a w.kind (second_va w.va) second p

abbrev pub ShownFor : (pages h : ℕ) → Arch → Option Wanted → (walk second : Walked) → List Placed → Type 0
ShownFor pages h a None walk second p = Unit {0}
ShownFor pages h a (Some w) walk second p = AreShown pages h a w walk second p

-- those that were made before it was given up
abbrev pub ShownMade : (pages h : ℕ) → Arch → Option Wanted → List Walked → List Placed → Type 0
ShownMade pages h a w [] p = Unit {0}
ShownMade pages h a (Some w) (x ∷ []) p = IsShown pages h a w.kind w.va x p
ShownMade pages h a (Some w) (x ∷ y ∷ []) p = IsShown pages h a w.kind w.va x p × IsTrue (crosses_page w.va w.width)
    × IsTrue (is_at_ram (spot_of w.kind w.va x)) × IsShown pages h a w.kind (second_va w.va) y p
ShownMade pages h a _ _ p = ⊥
