-- What an entry that was put is of, and what a walk's leaf serves.
use Rattle.std.proofs.Common.{◌≡◌, ℕ, zero, suc, ◌+◌, ◌*◌, ◌/◌, ◌%◌, ◌^◌, ◌≤◌, Bool, true, false, true≢false, refl, sym, ap, ◌∙◌, inl, inr, ⊎_elim, arith}
use Rattle.std.specs.Prelude.{◌⊎◌, ◌==◌, ◌&&◌, ◌||◌, not, nat_le, nat_lt, if◌then◌else◌}
use Rattle.std.proofs.lemmas.Bool.{and_parts, and_from, eqb-true}
use Rattle.rv64_priv.specs.declared.state.Kind.{Kind}
use Rattle.rv64_priv.specs.declared.state.Kind.TheVariants as kinds
use Rattle.rv64_priv.specs.declared.state.Regime.{Regime}
use Rattle.rv64_priv.specs.Bits.{aligned}
use Rattle.rv64_priv.specs.Pte.{allows, may_use, has_a_and_d, is_bare, is_leaf, is_malformed, permits, ppn}
use Rattle.rv64_priv.specs.Walk.{Walked, Leaf, AccessFault, PageFault, at_leaf, is_canonical, is_device, is_ram, is_reachable, is_usable, leaf_address, pages_of_level, pte_address, reachable_leaf, walk_from, walk_of}
use Rattle.rv64_priv.specs.Reads.{answering}
use Rattle.tlb_entry.specs.Filled.{is_open, serves}

or_cases : (a b : Bool) → (a || b) ≡ true → (a ≡ true) ⊎ (b ≡ true)
or_cases true b e = inl refl
or_cases false b e = inr e

is_end : Walked → Bool
is_end (Leaf p a l) = true
is_end w = false

pte_in : Walked → ℕ
pte_in (Leaf p a l) = p
pte_in w = 0

address_in : Walked → ℕ
address_in (Leaf p a l) = a
address_in w = 0

-- a leaf that a walk gave permits the access, has A and D set as it asks, and leads to what may be reached
pub record IsGood (pages : ℕ) (r : Regime) (kind : Kind) (pte page : ℕ) : Type 0 where
  pub permitted : permits pte kind r ≡ true
  pub set : has_a_and_d pte kind ≡ true
  pub reached : is_reachable pages kind page ≡ true

good_reach : (pages : ℕ) (r : Regime) (kind : Kind) (p a l pte page level : ℕ) → permits p kind r ≡ true → has_a_and_d p kind ≡ true → reachable_leaf pages kind p a l ≡ Leaf pte page level → IsGood pages r kind pte page
unfolding is_end pte_in address_in
good_reach pages r kind p a l pte page level may ad = go (is_reachable pages kind a) refl
  where
    go : (b : Bool) → is_reachable pages kind a ≡ b → (if b then Leaf p a l else AccessFault) ≡ Leaf pte page level → IsGood pages r kind pte page
    go false reach e = absurd (true≢false (sym (ap is_end e)))
    go true reach e = record { permitted = ap (λ n. permits n kind r) (sym (ap pte_in e)) ∙ may; set = ap (λ n. has_a_and_d n kind) (sym (ap pte_in e)) ∙ ad; reached = ap (is_reachable pages kind) (sym (ap address_in e)) ∙ reach }

good_at : (pages : ℕ) (r : Regime) (kind : Kind) (va at p pte page level : ℕ) → at_leaf pages r kind va at p ≡ Leaf pte page level → IsGood pages r kind pte page
unfolding is_end
good_at pages r kind va at p pte page level = go (is_usable r kind at p) refl
  where
    go : (b : Bool) → is_usable r kind at p ≡ b → (if b then reachable_leaf pages kind p (leaf_address p va at) at else PageFault) ≡ Leaf pte page level → IsGood pages r kind pte page
    go false u e = absurd (true≢false (sym (ap is_end e)))
    go true u e = let first = and_parts ((ppn p % pages_of_level at == 0) && permits p kind r) (has_a_and_d p kind) u in
        let second = and_parts (ppn p % pages_of_level at == 0) (permits p kind r) first.0 in
        good_reach pages r kind p (leaf_address p va at) at pte page level second.1 first.1 e

module _ (pages : ℕ) (r : Regime) (kind : Kind) (finds : ℕ → ℕ) (va pte page level : ℕ) where
  good_level : (ram malformed leaf : Bool) (at p : ℕ) (x : Walked) → (x ≡ Leaf pte page level → IsGood pages r kind pte page)
      → (if not ram then AccessFault else if malformed then PageFault else if leaf then at_leaf pages r kind va at p else x) ≡ Leaf pte page level → IsGood pages r kind pte page
  unfolding is_end
  good_level false m l at p x k e = absurd (true≢false (sym (ap is_end e)))
  good_level true true l at p x k e = absurd (true≢false (sym (ap is_end e)))
  good_level true false true at p x k e = good_at pages r kind va at p pte page level e
  good_level true false false at p x k e = k e

  good_from : (levels table : ℕ) → walk_from pages r kind (answering finds) va levels table ≡ Leaf pte page level → IsGood pages r kind pte page
  unfolding is_end
  good_from zero table e = absurd (true≢false (sym (ap is_end e)))
  good_from (suc at) table e = good_level (is_ram pages (pte_address table va at)) (is_malformed (finds at)) (is_leaf (finds at)) at (finds at)
      (walk_from pages r kind (answering finds) va at (ppn (finds at) * 4096)) (good_from at (ppn (finds at) * 4096)) e

  bare_permits : is_bare r ≡ true → permits 0xcf kind r ≡ true
  bare_permits b = ap (λ (t : Bool). t || (allows 0xcf kind r && may_use 0xcf kind r)) b

  bare_set : (k : Kind) → has_a_and_d 0xcf k ≡ true
  bare_set kinds.Fetch = refl
  bare_set kinds.Load = refl
  bare_set kinds.Store = refl

  pub good_walk : walk_of pages r kind (answering finds) va ≡ Leaf pte page level → IsGood pages r kind pte page
  unfolding walk_of is_end
  good_walk e = go (is_bare r) refl (is_canonical va) e
    where
      go : (b : Bool) → is_bare r ≡ b → (c : Bool) → (if b then reachable_leaf pages kind 0xcf (aligned 12 va) 0 else if c then walk_from pages r kind (answering finds) va 3 (r.satp % 2 ^ 44 * 4096) else PageFault) ≡ Leaf pte page level → IsGood pages r kind pte page
      go true bare c e = good_reach pages r kind 0xcf (aligned 12 va) 0 pte page level (bare_permits bare) (bare_set kind) e
      go false bare true e = good_from 3 (r.satp % 2 ^ 44 * 4096) e
      go false bare false e = absurd (true≢false (sym (ap is_end e)))

-- RAM has no devices
ram_no_device : (pages page : ℕ) → is_ram pages page ≡ true → is_device page ≡ false
ram_no_device pages page e = by (is_device page) refl
  where
    low : 2147483648 ≤ page
    low = grind (arith, (and_parts (nat_le 2147483648 page) (nat_lt page (2147483648 + 4096 * pages)) e).0)

    by : (b : Bool) → is_device page ≡ b → is_device page ≡ false
    by false d = d
    by true d = absurd (⊎_elim (λ (x : (page / 4096 == 0x10000) ≡ true). let y = eqb-true (page / 4096) 0x10000 x in let l = low in omega (arith, y, l))
        (λ (x : (page / 4096 == 0x100) ≡ true). let y = eqb-true (page / 4096) 0x100 x in let l = low in omega (arith, y, l)) (or_cases (page / 4096 == 0x10000) (page / 4096 == 0x100) d))

-- the leaf's entry serves the kind that it was walked for
pub good_serves : (pages : ℕ) (r : Regime) (kind : Kind) (pte page : ℕ) → IsGood pages r kind pte page → serves pte (is_device page) r kind ≡ true
good_serves pages r kind pte page g = and_from (permits pte kind r && has_a_and_d pte kind) (is_open (is_device page) kind) (and_from (permits pte kind r) (has_a_and_d pte kind) g.permitted g.set) (open_for kind g.reached)
  where
    open_for : (k : Kind) → is_reachable pages k page ≡ true → is_open (is_device page) k ≡ true
    open_for kinds.Fetch e = ap not (ram_no_device pages page e)
    open_for kinds.Load e = refl
    open_for kinds.Store e = refl

-- and each kind that it serves may reach the page
pub serves_reaches : (pages : ℕ) (r : Regime) (kind other : Kind) (pte page : ℕ) → is_reachable pages kind page ≡ true → is_open (is_device page) other ≡ true → is_reachable pages other page ≡ true
serves_reaches pages r kind other pte page e o = by kind other e o
  where
    both : (k : Kind) → is_reachable pages k page ≡ true → (is_ram pages page || is_device page) ≡ true
    both kinds.Fetch e = ap (λ (t : Bool). t || is_device page) e
    both kinds.Load e = e
    both kinds.Store e = e

    by : (k j : Kind) → is_reachable pages k page ≡ true → is_open (is_device page) j ≡ true → is_reachable pages j page ≡ true
    by k kinds.Load e o = both k e
    by k kinds.Store e o = both k e
    by k kinds.Fetch e o = ⊎_elim (λ (x : is_ram pages page ≡ true). x) (λ (x : is_device page ≡ true). absurd (true≢false (sym o ∙ ap not x))) (or_cases (is_ram pages page) (is_device page) (both k e))
