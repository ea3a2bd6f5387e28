-- An access in bare mode within a word of RAM leads there at once.
use Rattle.std.proofs.Common.{◌≡◌, refl, ℕ, ◌≤◌, ◌<◌, ◌+◌, ◌-◌, ◌*◌, ◌/◌, ◌%◌, ◌^◌, true, false, ◌||◌, arith, ap, sym, ◌∙◌, subst, Ok}
use Rattle.std.specs.Prelude.{if◌then◌else◌, slice_index}
use Rattle.std.proofs.lemmas.Bool.{le-leb, lt-ltb, le-ltb, ne_eqb}
use Rattle.rv64_priv.specs.declared.state.Kind.{Kind}
use Rattle.rv64_priv.specs.declared.state.Regime.{Regime}
use Rattle.rv64_priv.specs.Bits.{aligned}
use Rattle.rv64_priv.specs.Csr.{regime}
use Rattle.rv64_priv.specs.Pte.{is_bare}
use Rattle.rv64_priv.specs.Walk.{Levels, Leaf, PageFault, AccessFault, walk_of, walk_from, reachable_leaf, is_canonical, is_ram, is_device, is_reachable}
use Rattle.step_laws.specs.Words.{first_ram_word, ram_word}
use Rattle.machine_model.specs.Memory.{One, Two}
use Rattle.machine_model.specs.Access.{AtRam, AtDevice, InRam, spot_of, second_va, one_page, two_pages, reach}
use Rattle.rv64_priv.specs.State.{Arch}
use Rattle.ref_machine.specs.SharedState.{Shared, ram_reads}
use Rattle.ref_machine.specs.OneTurn.{IsBarePlace, IsBareWord, reach_of, walk_end}
use Rattle.ref_machine.specs.Translation.{IsWord}

bare_walk : (pages : ℕ) (r : Regime) (kind : Kind) (l : Levels) (va : ℕ) → is_bare r ≡ true → walk_of pages r kind l va ≡ reachable_leaf pages kind 0xcf (aligned 12 va) 0
unfolding walk_of
bare_walk pages r kind l va e =
    ap (λ b. if b then reachable_leaf pages kind 0xcf (aligned 12 va) 0 else (if is_canonical va then walk_from pages r kind l va 3 (r.satp % 2 ^ 44 * 4096) else PageFault)) e

-- the page of a place in RAM is there
page_there : (pages va : ℕ) → 2 ^ 31 ≤ va → va < 2 ^ 31 + 4096 * pages → is_ram pages (aligned 12 va) ≡ true
page_there pages va low high = rw (le-leb (2 ^ 31) (aligned 12 va) (omega (arith, low)), lt-ltb (aligned 12 va) (2 ^ 31 + 4096 * pages) (omega (arith, high))) refl

reachable : (pages : ℕ) (kind : Kind) (pa : ℕ) → is_ram pages pa ≡ true → is_reachable pages kind pa ≡ true
reachable pages Kind.Fetch pa e = e
reachable pages Kind.Load pa e = ap (λ b. b || is_device pa) e
reachable pages Kind.Store pa e = ap (λ b. b || is_device pa) e

pub no_device : (va : ℕ) → 2 ^ 31 ≤ va → is_device va ≡ false
no_device va low = rw (ne_eqb (va / 4096) 0x10000 (λ e. omega (arith, e, low)), ne_eqb (va / 4096) 0x100 (λ e. omega (arith, e, low))) refl

leaf_there : (pages : ℕ) (r : Regime) (kind : Kind) (l : Levels) (va : ℕ) → is_bare r ≡ true → 2 ^ 31 ≤ va → va < 2 ^ 31 + 4096 * pages → walk_of pages r kind l va ≡ Leaf 0xcf (aligned 12 va) 0
leaf_there pages r kind l va bare low high =
    bare_walk pages r kind l va bare
    ∙ ap (λ b. if b then Leaf 0xcf (aligned 12 va) 0 else AccessFault) (reachable pages kind (aligned 12 va) (page_there pages va low high))

quick_reach : (a : Arch) (b : Shared) (kind : Kind) (va width : ℕ) → is_bare (regime a) ≡ true → 2 ^ 31 ≤ va → va < 2 ^ 31 + 4096 * b.layout.pages → va % 8 + width ≤ 8
    → reach_of a b kind va width ≡ InRam (One (ram_word va) (va % 8) width)
quick_reach a b kind va width bare low high fits =
    let place : aligned 12 va + va % 4096 ≡ va = omega arith in
    ap (λ w. reach kind va width w (walk_end a b kind (second_va va))) (leaf_there b.layout.pages (regime a) kind (ram_reads b.ram) va bare low high)
    ∙ ap (λ c. if c then two_pages kind va width (spot_of kind va (Leaf 0xcf (aligned 12 va) 0)) (spot_of kind (second_va va) (walk_end a b kind (second_va va))) else one_page width (spot_of kind va (Leaf 0xcf (aligned 12 va) 0)))
    (le-ltb 4096 (va % 4096 + width) (omega (arith, fits)))
    ∙ ap (λ pa. one_page width (if is_device pa then AtDevice pa else AtRam pa)) place
    ∙ ap (λ d. one_page width (if d then AtDevice va else AtRam va)) (no_device va low)
    ∙ ap (λ c. InRam (if c then One (ram_word va) (va % 8) width else Two (ram_word va) (ram_word va + 1) (va % 8) width)) (le-leb (va % 8 + width) 8 fits)

pub bare_word : (a : Arch) (b : Shared) (va width index : ℕ) → IsBarePlace a b va index → va % 8 + width ≤ 8 → IsBareWord a b va width index
bare_word a b va width index place fits =
    let word : InRam (One (ram_word va) (va % 8) width) ≡ InRam (One (first_ram_word + index) (va % 8) width) = ap (λ i. InRam (One (first_ram_word + i) (va % 8) width)) (sym place.at) in
    record {
      there = place.there;
      fits = fits;
      load = quick_reach a b Kind.Load va width place.bare place.low place.high fits ∙ word;
      store = quick_reach a b Kind.Store va width place.bare place.low place.high fits ∙ word;
    }

bare_spot : (a : Arch) (b : Shared) (va index : ℕ) → IsBarePlace a b va index → spot_of Kind.Fetch va (walk_end a b Kind.Fetch va) ≡ AtRam va
bare_spot a b va index place =
    let whole : aligned 12 va + va % 4096 ≡ va = omega arith in
    ap (spot_of Kind.Fetch va) (leaf_there b.layout.pages (regime a) Kind.Fetch (ram_reads b.ram) va place.bare place.low place.high)
    ∙ ap (λ pa. if is_device pa then AtDevice pa else AtRam pa) whole
    ∙ ap (λ d. if d then AtDevice va else AtRam va) (no_device va place.low)

-- a fetch there finds half of the word
pub bare_fetch : (a : Arch) (b : Shared) (va index word : ℕ) → IsBarePlace a b va index → word ≡ slice_index b.ram index / 256 ^ (va % 8) % 2 ^ 32
    → IsWord b.ram (spot_of Kind.Fetch va (walk_end a b Kind.Fetch va)) (Ok word)
bare_fetch a b va index word place is =
    let at = place.at in
    let same : index ≡ ram_word va - first_ram_word = omega (arith, at) in
    subst (λ spot. IsWord b.ram spot (Ok word)) (sym (bare_spot a b va index place)) (ap Ok (is ∙ ap (λ i. slice_index b.ram i / 256 ^ (va % 8) % 2 ^ 32) same))
