-- A walk depends on the words that it finds alone.
use Rattle.std.proofs.Common.{◌≡◌, refl, ℕ, zero, suc, ◌*◌, ◌%◌, ◌^◌, true, false, Bool, not, ap, ◌∙◌}
use Rattle.std.specs.Prelude.{if◌then◌else◌, IsTrue}
use Rattle.rv64_priv.specs.declared.state.Kind.{Kind}
use Rattle.rv64_priv.specs.declared.state.Regime.{Regime}
use Rattle.rv64_priv.specs.Bits.{aligned}
use Rattle.rv64_priv.specs.Pte.{is_bare, is_malformed, is_leaf, ppn}
use Rattle.rv64_priv.specs.Walk.{Levels, Walked, PageFault, AccessFault, walk_of, walk_from, at_leaf, reachable_leaf, is_ram, is_canonical, pte_address}
use Rattle.rv64_priv.specs.Reads.{answering, Finds, WalkIsFound}

abbrev step : ℕ → Regime → Kind → (va level pte : ℕ) → Walked → Walked
step pages r kind va level pte below = if is_malformed pte then PageFault else (if is_leaf pte then at_leaf pages r kind va level pte else below)

step_same : (pages : ℕ) (r : Regime) (kind : Kind) (va level pte : ℕ) (x y : Walked) → (is_malformed pte ≡ false → is_leaf pte ≡ false → x ≡ y) → step pages r kind va level pte x ≡ step pages r kind va level pte y
step_same pages r kind va level pte x y k = go (is_malformed pte) (is_leaf pte) refl refl
  where
    go : (p q : Bool) → is_malformed pte ≡ p → is_leaf pte ≡ q
        → (if p then PageFault else (if q then at_leaf pages r kind va level pte else x)) ≡ (if p then PageFault else (if q then at_leaf pages r kind va level pte else y))
    go true q e f = refl
    go false true e f = refl
    go false false e f = k e f

found_step : (pages : ℕ) (r : Regime) (kind : Kind) (va level : ℕ) (l : Levels) (a : ℕ → ℕ) (address : ℕ)
    → (IsTrue (is_ram pages address) → (l level address ≡ a level) × (is_malformed (a level) ≡ false → is_leaf (a level) ≡ false → Finds pages va l a level (ppn (a level) * 4096)))
    → ((table : ℕ) → Finds pages va l a level table → walk_from pages r kind l va level table ≡ walk_from pages r kind (answering a) va level table)
    → (if not (is_ram pages address) then AccessFault else step pages r kind va level (l level address) (walk_from pages r kind l va level (ppn (l level address) * 4096)))
    ≡ (if not (is_ram pages address) then AccessFault else step pages r kind va level (a level) (walk_from pages r kind (answering a) va level (ppn (a level) * 4096)))
found_step pages r kind va level l a address f below = go (is_ram pages address) refl
  where
    go : (b : Bool) → is_ram pages address ≡ b
        → (if not b then AccessFault else step pages r kind va level (l level address) (walk_from pages r kind l va level (ppn (l level address) * 4096)))
        ≡ (if not b then AccessFault else step pages r kind va level (a level) (walk_from pages r kind (answering a) va level (ppn (a level) * 4096)))
    go false e = refl
    go true e =
        ap (λ v. step pages r kind va level v (walk_from pages r kind l va level (ppn v * 4096))) ((f e).0)
        ∙ step_same pages r kind va level (a level) (walk_from pages r kind l va level (ppn (a level) * 4096)) (walk_from pages r kind (answering a) va level (ppn (a level) * 4096))
        (λ p q. below (ppn (a level) * 4096) ((f e).1 p q))

pub found_from : (pages : ℕ) (r : Regime) (kind : Kind) (va : ℕ) (l : Levels) (a : ℕ → ℕ) (levels table : ℕ) → Finds pages va l a levels table
    → walk_from pages r kind l va levels table ≡ walk_from pages r kind (answering a) va levels table
found_from pages r kind va l a zero table f = refl
found_from pages r kind va l a (suc level) table f = found_step pages r kind va level l a (pte_address table va level) f (λ t k. found_from pages r kind va l a level t k)

pub found_walk : WalkIsFound
unfolding walk_of
found_walk pages r kind va l a f = go (is_bare r) (is_canonical va) refl refl
  where
    go : (b c : Bool) → is_bare r ≡ b → is_canonical va ≡ c
        → (if b then reachable_leaf pages kind 0xcf (aligned 12 va) 0 else (if c then walk_from pages r kind l va 3 (r.satp % 2 ^ 44 * 4096) else PageFault))
        ≡ (if b then reachable_leaf pages kind 0xcf (aligned 12 va) 0 else (if c then walk_from pages r kind (answering a) va 3 (r.satp % 2 ^ 44 * 4096) else PageFault))
    go true c e k = refl
    go false false e k = refl
    go false true e k = found_from pages r kind va l a 3 (r.satp % 2 ^ 44 * 4096) (f e k)
