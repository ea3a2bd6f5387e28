-- Laws of walks by the words that they find.
use Rattle.std.specs.Prelude.{◌≡◌, ℕ, ◌/◌, true}
use Rattle.rv64_priv.specs.declared.state.Kind.{Kind}
use Rattle.rv64_priv.specs.declared.state.Regime.{Regime}
use Rattle.rv64_priv.specs.Pte.{has_a_and_d, permits}
use Rattle.rv64_priv.specs.Walk.{Leaf, is_reachable, walk_of}
use Rattle.rv64_priv.specs.Reads.{answering}
use Rattle.walk_laws.specs.WalkLoads.{reads_of}

-- A leaf serves a kind: it permits it, its A and D are set as the access asks, and its page may be reached so. The walk by the same words
-- ends there for that kind too
abbrev pub LeafServes : Type 0
LeafServes = (pages : ℕ) (r : Regime) (kind other : Kind) (finds : ℕ → ℕ) (va pte page level : ℕ)
    → walk_of pages r kind (answering finds) va ≡ Leaf pte page level
    → permits pte other r ≡ true → has_a_and_d pte other ≡ true → is_reachable pages other page ≡ true
    → walk_of pages r other (answering finds) va ≡ Leaf pte page level

-- a walk depends on the page of its address alone
abbrev pub PageWalks : Type 0
PageWalks = (pages : ℕ) (r : Regime) (kind : Kind) (finds : ℕ → ℕ) (va other : ℕ) → other / 4096 ≡ va / 4096
    → (walk_of pages r kind (answering finds) other ≡ walk_of pages r kind (answering finds) va) × (reads_of pages r other finds ≡ reads_of pages r va finds)
