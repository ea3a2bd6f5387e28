-- Where addresses and accesses lead, by the ends of their walks.
use Rattle.std.proofs.Common.{◌≡◌, refl, ℕ, ◌≤◌, ◌<◌, ◌+◌, ◌*◌, ◌/◌, ◌%◌, ◌^◌, true, false, Bool, ◌&&◌, ◌||◌, arith, ap, sym, ◌∙◌}
use Rattle.std.specs.Prelude.{◌==◌, nat_lt, nat_le, if◌then◌else◌}
use Rattle.std.proofs.lemmas.Bool.{leb-true, leb-false, ltb-true, ltb-false, ne_eqb}
use Rattle.rv64_priv.specs.declared.state.Kind.{Kind}
use Rattle.rv64_priv.specs.Walk.{Walked, Leaf, PageFault, AccessFault, is_ram, is_device, is_reachable}
use Rattle.step_laws.specs.Words.{first_ram_word, ram_word}
use Rattle.machine_model.specs.Memory.{Span, One, Two}
use Rattle.machine_model.specs.Access.{Spot, AtRam, AtDevice, Faults, Reach, InRam, spot_of, crosses_page, second_va, one_page, two_pages, reach}
use Rattle.ref_machine.specs.Translation.{IsInRam, IsSpotIn, IsSoundEnd}

and_left : (p q : Bool) → p && q ≡ true → p ≡ true
and_left true q h = refl
and_left false q h = h

and_right : (p q : Bool) → p && q ≡ true → q ≡ true
and_right true q h = h
and_right false q h = cc

or_not : (p q : Bool) → p || q ≡ true → q ≡ false → p ≡ true
or_not true q h e = refl
or_not false true h e = cc
or_not false false h e = h

page_device : (page place : ℕ) → page % 4096 ≡ 0 → place < 4096 → is_device (page + place) ≡ is_device page
page_device page place whole small = ap (λ n. (n == 0x10000) || (n == 0x100)) (let e : (page + place) / 4096 ≡ page / 4096 = omega (arith, whole, small) in e)

-- a page that can be reached and is no device's lies in RAM
ram_of : (pages : ℕ) (kind : Kind) (page : ℕ) → is_reachable pages kind page ≡ true → is_device page ≡ false → is_ram pages page ≡ true
ram_of pages Kind.Fetch page e d = e
ram_of pages Kind.Load page e d = or_not (is_ram pages page) (is_device page) e d
ram_of pages Kind.Store page e d = or_not (is_ram pages page) (is_device page) e d

place_in : (pages va page : ℕ) → is_ram pages page ≡ true → page % 4096 ≡ 0 → IsInRam pages va (page + va % 4096)
place_in pages va page e whole =
    let low = leb-true (2 ^ 31) page (and_left (nat_le (2 ^ 31) page) (nat_lt page (2 ^ 31 + 4096 * pages)) e) in
    let high = ltb-true page (2 ^ 31 + 4096 * pages) (and_right (nat_le (2 ^ 31) page) (nat_lt page (2 ^ 31 + 4096 * pages)) e) in
    (omega (arith, low), omega (arith, high, whole), omega (arith, whole))

pub spot_in : (pages : ℕ) (kind : Kind) (va : ℕ) (w : Walked) → IsSoundEnd pages kind w → IsSpotIn pages va (spot_of kind va w)
spot_in pages kind va PageFault k = tt
spot_in pages kind va AccessFault k = tt
spot_in pages kind va (Leaf pte page level) k = go (is_device (page + va % 4096)) refl
  where
    go : (b : Bool) → is_device (page + va % 4096) ≡ b → IsSpotIn pages va (if b then AtDevice (page + va % 4096) else AtRam (page + va % 4096))
    go true e = tt
    go false e = place_in pages va page (ram_of pages kind page k.0 (sym (page_device page (va % 4096) k.1 (omega arith)) ∙ e)) k.1

-- a fetch leads to no device
pub fetch_in : (pages va : ℕ) (w : Walked) → IsSoundEnd pages Kind.Fetch w → (pa : ℕ) → spot_of Kind.Fetch va w ≡ AtDevice pa → ⊥
fetch_in pages va PageFault k pa e = cc
fetch_in pages va AccessFault k pa e = cc
fetch_in pages va (Leaf pte page level) k pa e = go (is_device (page + va % 4096)) refl e
  where
    far : is_device page ≡ false
    far =
        let low = leb-true (2 ^ 31) page (and_left (nat_le (2 ^ 31) page) (nat_lt page (2 ^ 31 + 4096 * pages)) k.0) in
        rw (ne_eqb (page / 4096) 0x10000 (λ e. omega (arith, e, low)), ne_eqb (page / 4096) 0x100 (λ e. omega (arith, e, low))) refl

    go : (b : Bool) → is_device (page + va % 4096) ≡ b → (if b then AtDevice (page + va % 4096) else AtRam (page + va % 4096)) ≡ AtDevice pa → ⊥
    go true f e = let x : true ≡ false = sym f ∙ page_device page (va % 4096) k.1 (omega arith) ∙ far in cc
    go false f e = cc

-- the words of a reach are RAM's
abbrev pub IsWord : (words word : ℕ) → Type 0
IsWord words word = (first_ram_word ≤ word) × (word < first_ram_word + words)

abbrev pub IsSpanIn : (words : ℕ) → Span → Type 0
IsSpanIn words (One word offset width) = IsWord words word
IsSpanIn words (Two first second offset width) = IsWord words first × IsWord words second

abbrev pub IsReachIn : (words : ℕ) → Reach → Type 0
IsReachIn words (InRam span) = IsSpanIn words span
IsReachIn words _ = Unit {0}

pub word_in : (pages va pa : ℕ) → IsInRam pages va pa → IsWord (512 * pages) (ram_word pa)
word_in pages va pa k = let low = k.0 in let high = k.1 in (omega arith, omega (arith, low, high))

one_in : (pages va width : ℕ) (s : Spot) → IsSpotIn pages va s → va % 4096 + width ≤ 4096 → IsReachIn (512 * pages) (one_page width s)
one_in pages va width (AtDevice pa) k fits = tt
one_in pages va width (Faults cause tval) k fits = tt
one_in pages va width (AtRam pa) k fits = go (nat_le (pa % 8 + width) 8) refl
  where
    go : (b : Bool) → nat_le (pa % 8 + width) 8 ≡ b → IsSpanIn (512 * pages) (if b then One (ram_word pa) (pa % 8) width else Two (ram_word pa) (ram_word pa + 1) (pa % 8) width)
    go true e = word_in pages va pa k
    go false e =
        let over = leb-false (pa % 8 + width) 8 e in
        let low = k.0 in
        let high = k.1 in
        let same = k.2 in
        (word_in pages va pa k, (omega arith, omega (arith, low, high, same, over, fits)))

two_in : (kind : Kind) (pages va vb width : ℕ) (s t : Spot) → IsSpotIn pages va s → IsSpotIn pages vb t → IsReachIn (512 * pages) (two_pages kind va width s t)
two_in kind pages va vb width (AtDevice pa) t k l = tt
two_in kind pages va vb width (Faults cause tval) t k l = tt
two_in kind pages va vb width (AtRam pa) (AtDevice pb) k l = tt
two_in kind pages va vb width (AtRam pa) (Faults cause tval) k l = tt
two_in kind pages va vb width (AtRam pa) (AtRam pb) k l = go (nat_le (pa % 8 + width) 8)
  where
    go : (b : Bool) → IsSpanIn (512 * pages) (if b then One (ram_word pa) (pa % 8) width else Two (ram_word pa) (ram_word pb) (pa % 8) width)
    go true = word_in pages va pa k
    go false = (word_in pages va pa k, word_in pages vb pb l)

pub reach_in : (kind : Kind) (pages va width : ℕ) (first second : Walked) → IsSoundEnd pages kind first → IsSoundEnd pages kind second → IsReachIn (512 * pages) (reach kind va width first second)
reach_in kind pages va width first second k l = go (crosses_page va width) refl
  where
    go : (b : Bool) → crosses_page va width ≡ b
        → IsReachIn (512 * pages) (if b then two_pages kind va width (spot_of kind va first) (spot_of kind (second_va va) second) else one_page width (spot_of kind va first))
    go true e = two_in kind pages va (second_va va) width (spot_of kind va first) (spot_of kind (second_va va) second) (spot_in pages kind va first k) (spot_in pages kind (second_va va) second l)
    go false e = one_in pages va width (spot_of kind va first) (spot_in pages kind va first k) (ltb-false 4096 (va % 4096 + width) e)

-- the second walk matters where the access crosses a page
pub reach_same : (kind : Kind) (va width : ℕ) (first second other none : Walked) → second ≡ other
    → reach kind va width first (if crosses_page va width then second else none) ≡ reach kind va width first other
reach_same kind va width first second other none same = go (crosses_page va width)
  where
    go : (b : Bool)
        → (if b then two_pages kind va width (spot_of kind va first) (spot_of kind (second_va va) (if b then second else none)) else one_page width (spot_of kind va first))
        ≡ (if b then two_pages kind va width (spot_of kind va first) (spot_of kind (second_va va) other) else one_page width (spot_of kind va first))
    go true = ap (λ w. two_pages kind va width (spot_of kind va first) (spot_of kind (second_va va) w)) same
    go false = refl
