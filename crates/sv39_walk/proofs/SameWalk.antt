-- Walks by the same words: for other kinds of access, and of other addresses of a page.
use Rattle.std.proofs.Common.{◌≡◌, ℕ, zero, suc, ◌+◌, ◌-◌, ◌*◌, ◌/◌, ◌%◌, ◌^◌, Bool, true, false, true≢false, List, [], ◌∷◌, refl, sym, ap, ◌∙◌, arith}
use Rattle.std.specs.Prelude.{◌==◌, ◌&&◌, ◌||◌, not, if◌then◌else◌}
use Rattle.std.proofs.lemmas.Bool.{and_parts, and_from}
use Rattle.rv64_priv.specs.declared.state.Kind.{Kind}
use Rattle.rv64_priv.specs.declared.state.Regime.{Regime}
use Rattle.rv64_priv.specs.Bits.{aligned}
use Rattle.rv64_priv.specs.Pte.{has_a_and_d, is_bare, is_leaf, is_malformed, permits, ppn}
use Rattle.rv64_priv.specs.Walk.{Walked, Leaf, AccessFault, PageFault, at_leaf, is_canonical, is_ram, is_reachable, is_usable, leaf_address, pages_of_level, pte_address, reachable_leaf, walk_from, walk_of}
use Rattle.rv64_priv.specs.Reads.{answering}
use Rattle.step_laws.specs.Words.{ram_word}
use Rattle.walk_laws.specs.WalkLoads.{Found, found, reads_from, reads_of}
use Rattle.sv39_walk.specs.Laws.{LeafServes, PageWalks}

is_end : Walked → Bool
is_end (Leaf p a l) = true
is_end w = false

pte_in : Walked → ℕ
pte_in (Leaf p a l) = p
pte_in w = 0

address_in : Walked → ℕ
address_in (Leaf p a l) = a
address_in w = 0

-- a leaf that is reached for one kind and may be for another
reach_serves : (pages : ℕ) (kind other : Kind) (p a l pte page level : ℕ) → reachable_leaf pages kind p a l ≡ Leaf pte page level → is_reachable pages other page ≡ true
    → (reachable_leaf pages other p a l ≡ Leaf pte page level) × (p ≡ pte)
unfolding is_end pte_in address_in
reach_serves pages kind other p a l pte page level = go (is_reachable pages kind a)
  where
    go : (b : Bool) → (if b then Leaf p a l else AccessFault) ≡ Leaf pte page level → is_reachable pages other page ≡ true → (reachable_leaf pages other p a l ≡ Leaf pte page level) × (p ≡ pte)
    go false e reached = absurd (true≢false (sym (ap is_end e)))
    go true e reached = (ap (λ (t : Bool). if t then Leaf p a l else AccessFault) (ap (is_reachable pages other) (ap address_in e) ∙ reached) ∙ e, ap pte_in e)

leaf_serves_at : (pages : ℕ) (r : Regime) (kind other : Kind) (va at p pte page level : ℕ) → permits pte other r ≡ true → has_a_and_d pte other ≡ true → is_reachable pages other page ≡ true
    → at_leaf pages r kind va at p ≡ Leaf pte page level → at_leaf pages r other va at p ≡ Leaf pte page level
unfolding is_end
leaf_serves_at pages r kind other va at p pte page level may ad reached = go (is_usable r kind at p) refl
  where
    go : (b : Bool) → is_usable r kind at p ≡ b → (if b then reachable_leaf pages kind p (leaf_address p va at) at else PageFault) ≡ Leaf pte page level → at_leaf pages r other va at p ≡ Leaf pte page level
    go false u e = absurd (true≢false (sym (ap is_end e)))
    go true u e = let both = reach_serves pages kind other p (leaf_address p va at) at pte page level e reached in
        let first = and_parts ((ppn p % pages_of_level at == 0) && permits p kind r) (has_a_and_d p kind) u in
        let second = and_parts (ppn p % pages_of_level at == 0) (permits p kind r) first.0 in
        ap (λ (t : Bool). if t then reachable_leaf pages other p (leaf_address p va at) at else PageFault)
        (and_from ((ppn p % pages_of_level at == 0) && permits p other r) (has_a_and_d p other)
        (and_from (ppn p % pages_of_level at == 0) (permits p other r) second.0 (ap (λ n. permits n other r) both.1 ∙ may))
        (ap (λ n. has_a_and_d n other) both.1 ∙ ad)) ∙ both.0

module _ (pages : ℕ) (r : Regime) (kind other : Kind) (finds : ℕ → ℕ) (va pte page level : ℕ) (may : permits pte other r ≡ true) (ad : has_a_and_d pte other ≡ true) (open_to : is_reachable pages other page ≡ true) where
  level_serves : (ram malformed leaf : Bool) (at p : ℕ) (x y : Walked) → (x ≡ Leaf pte page level → y ≡ Leaf pte page level)
      → (if not ram then AccessFault else if malformed then PageFault else if leaf then at_leaf pages r kind va at p else x) ≡ Leaf pte page level
      → (if not ram then AccessFault else if malformed then PageFault else if leaf then at_leaf pages r other va at p else y) ≡ Leaf pte page level
  unfolding is_end
  level_serves false m l at p x y k e = absurd (true≢false (sym (ap is_end e)))
  level_serves true true l at p x y k e = absurd (true≢false (sym (ap is_end e)))
  level_serves true false true at p x y k e = leaf_serves_at pages r kind other va at p pte page level may ad open_to e
  level_serves true false false at p x y k e = k e

  from_serves : (levels table : ℕ) → walk_from pages r kind (answering finds) va levels table ≡ Leaf pte page level → walk_from pages r other (answering finds) va levels table ≡ Leaf pte page level
  unfolding is_end
  from_serves zero table e = absurd (true≢false (sym (ap is_end e)))
  from_serves (suc at) table e = level_serves (is_ram pages (pte_address table va at)) (is_malformed (finds at)) (is_leaf (finds at)) at (finds at)
      (walk_from pages r kind (answering finds) va at (ppn (finds at) * 4096)) (walk_from pages r other (answering finds) va at (ppn (finds at) * 4096)) (from_serves at (ppn (finds at) * 4096)) e

  walk_serves : walk_of pages r kind (answering finds) va ≡ Leaf pte page level → walk_of pages r other (answering finds) va ≡ Leaf pte page level
  unfolding walk_of is_end
  walk_serves e = go (is_bare r) (is_canonical va) e
    where
      go : (b c : Bool) → (if b then reachable_leaf pages kind 0xcf (aligned 12 va) 0 else if c then walk_from pages r kind (answering finds) va 3 (r.satp % 2 ^ 44 * 4096) else PageFault) ≡ Leaf pte page level
          → (if b then reachable_leaf pages other 0xcf (aligned 12 va) 0 else if c then walk_from pages r other (answering finds) va 3 (r.satp % 2 ^ 44 * 4096) else PageFault) ≡ Leaf pte page level
      go true c e = (reach_serves pages kind other 0xcf (aligned 12 va) 0 pte page level e open_to).0
      go false true e = from_serves 3 (r.satp % 2 ^ 44 * 4096) e
      go false false e = absurd (true≢false (sym (ap is_end e)))

pub leaf_serves : LeafServes
leaf_serves pages r kind other finds va pte page level e may ad open_to = walk_serves pages r kind other finds va pte page level may ad open_to e

-- a level of the walk of a page by its number
on_level : (pages : ℕ) → Regime → Kind → (finds : ℕ → ℕ) → (number level table : ℕ) → Walked → Walked
on_level pages r kind finds n level table below =
    if not (is_ram pages (table + 8 * (n / pages_of_level level % 512))) then AccessFault else
    if is_malformed (finds level) then PageFault else
    if is_leaf (finds level) then
    (if is_usable r kind level (finds level) then reachable_leaf pages kind (finds level) ((ppn (finds level) + n % pages_of_level level) * 4096) level else PageFault)
    else below

reads_on_level : (pages : ℕ) → (finds : ℕ → ℕ) → (number level table : ℕ) → (read more before : List Found) → List Found
reads_on_level pages finds n level table read more before = if is_ram pages (table + 8 * (n / pages_of_level level % 512)) then (if is_malformed (finds level) || is_leaf (finds level) then read else more) else before

module _ (pages : ℕ) (r : Regime) (kind : Kind) (finds : ℕ → ℕ) (va other : ℕ) (same : other / 4096 ≡ va / 4096) where
  from_page : (levels table : ℕ) → walk_from pages r kind (answering finds) other levels table ≡ walk_from pages r kind (answering finds) va levels table
  unfolding on_level
  from_page zero table = refl
  from_page (suc level) table = ap (λ n. on_level pages r kind finds n level table (walk_from pages r kind (answering finds) other level (ppn (finds level) * 4096))) same
      ∙ ap (on_level pages r kind finds (va / 4096) level table) (from_page level (ppn (finds level) * 4096))

  reads_page : (levels table : ℕ) (before : List Found) → reads_from pages other finds levels table before ≡ reads_from pages va finds levels table before
  unfolding reads_on_level
  reads_page zero table before = refl
  reads_page (suc level) table before = ap (λ n. reads_on_level pages finds n level table (found (ram_word (table + 8 * (n / pages_of_level level % 512))) (finds level) ∷ before)
      (reads_from pages other finds level (ppn (finds level) * 4096) (found (ram_word (table + 8 * (n / pages_of_level level % 512))) (finds level) ∷ before)) before) same
      ∙ ap (λ (more : List Found). reads_on_level pages finds (va / 4096) level table (found (ram_word (pte_address table va level)) (finds level) ∷ before) more before)
      (reads_page level (ppn (finds level) * 4096) (found (ram_word (pte_address table va level)) (finds level) ∷ before))

  canonical_page : is_canonical other ≡ is_canonical va
  canonical_page = ap (λ n. (n == 0) || (n == 2 ^ 26 - 1)) high
    where
      high : other / 2 ^ 38 ≡ va / 2 ^ 38
      high = omega (arith, same)

  walk_page : walk_of pages r kind (answering finds) other ≡ walk_of pages r kind (answering finds) va
  unfolding walk_of
  walk_page = ap (λ n. if is_bare r then reachable_leaf pages kind 0xcf (n * 2 ^ 12) 0 else if is_canonical other then walk_from pages r kind (answering finds) other 3 (r.satp % 2 ^ 44 * 4096) else PageFault) same
      ∙ ap (λ (c : Bool). if is_bare r then reachable_leaf pages kind 0xcf (aligned 12 va) 0 else if c then walk_from pages r kind (answering finds) other 3 (r.satp % 2 ^ 44 * 4096) else PageFault) canonical_page
      ∙ ap (λ (w : Walked). if is_bare r then reachable_leaf pages kind 0xcf (aligned 12 va) 0 else if is_canonical va then w else PageFault) (from_page 3 (r.satp % 2 ^ 44 * 4096))

  words_page : reads_of pages r other finds ≡ reads_of pages r va finds
  unfolding reads_of
  words_page = ap (λ (c : Bool). if is_bare r then [] else if c then reads_from pages other finds 3 (r.satp % 2 ^ 44 * 4096) [] else []) canonical_page
      ∙ ap (λ (l : List Found). if is_bare r then [] else if is_canonical va then l else []) (reads_page 3 (r.satp % 2 ^ 44 * 4096) [])

pub page_walks : PageWalks
page_walks pages r kind finds va other same = (walk_page pages r kind finds va other same, words_page pages r kind finds va other same)
