-- Fresh walks: where they lead, and that they depend on the words of RAM alone.
use Rattle.std.proofs.Common.{◌≡◌, refl, ℕ, zero, suc, ◌*◌, ◌+◌, ◌/◌, ◌%◌, ◌^◌, ◌<◌, ◌≤◌, true, false, Bool, not, ◌&&◌, ◌||◌, arith, ap, ◌∙◌, ◌-◌, List, sym, subst}
use Rattle.std.proofs.lemmas.Bool.{eqb-true, ltb-true}
use Rattle.std.specs.Prelude.{◌==◌, nat_le, nat_lt, if◌then◌else◌, slice_index}
use Rattle.rv64_priv.specs.declared.state.Kind.{Kind}
use Rattle.rv64_priv.specs.declared.state.Regime.{Regime}
use Rattle.rv64_priv.specs.Bits.{aligned}
use Rattle.rv64_priv.specs.Pte.{is_bare, is_malformed, is_leaf, ppn}
use Rattle.rv64_priv.specs.Walk.{Levels, Walked, Leaf, PageFault, AccessFault, walk_of, walk_from, at_leaf, reachable_leaf, is_reachable, is_ram, is_canonical, pte_address, leaf_address, is_device}
use Rattle.ref_machine.specs.Translation.{IsSoundEnd, IsSmall}
use Rattle.ref_machine.specs.SharedState.{ram_reads}

-- both find the same at every place in RAM
abbrev pub Agree : ℕ → Levels → Levels → Type 0
Agree pages l m = (level place : ℕ) → is_ram pages place ≡ true → l level place ≡ m level place

abbrev step : ℕ → Regime → Kind → (va level pte : ℕ) → Walked → Walked
step pages r kind va level pte below = if is_malformed pte then PageFault else (if is_leaf pte then at_leaf pages r kind va level pte else below)

agree_step : (pages : ℕ) (r : Regime) (kind : Kind) (va : ℕ) (l m : Levels) → Agree pages l m → (level place : ℕ)
    → ((table : ℕ) → walk_from pages r kind l va level table ≡ walk_from pages r kind m va level table)
    → (if not (is_ram pages place) then AccessFault else step pages r kind va level (l level place) (walk_from pages r kind l va level (ppn (l level place) * 4096)))
    ≡ (if not (is_ram pages place) then AccessFault else step pages r kind va level (m level place) (walk_from pages r kind m va level (ppn (m level place) * 4096)))
agree_step pages r kind va l m k level place below = go (is_ram pages place) refl
  where
    go : (b : Bool) → is_ram pages place ≡ b
        → (if not b then AccessFault else step pages r kind va level (l level place) (walk_from pages r kind l va level (ppn (l level place) * 4096)))
        ≡ (if not b then AccessFault else step pages r kind va level (m level place) (walk_from pages r kind m va level (ppn (m level place) * 4096)))
    go false e = refl
    go true e =
        ap (λ v. step pages r kind va level v (walk_from pages r kind l va level (ppn v * 4096))) (k level place e)
        ∙ ap (λ w. step pages r kind va level (m level place) w) (below (ppn (m level place) * 4096))

agree_from : (pages : ℕ) (r : Regime) (kind : Kind) (va : ℕ) (l m : Levels) → Agree pages l m → (levels table : ℕ)
    → walk_from pages r kind l va levels table ≡ walk_from pages r kind m va levels table
agree_from pages r kind va l m k zero table = refl
agree_from pages r kind va l m k (suc level) table = agree_step pages r kind va l m k level (pte_address table va level) (λ t. agree_from pages r kind va l m k level t)

pub agree_walk : (pages : ℕ) (r : Regime) (kind : Kind) (va : ℕ) (l m : Levels) → Agree pages l m → walk_of pages r kind l va ≡ walk_of pages r kind m va
unfolding walk_of
agree_walk pages r kind va l m k =
    ap (λ w. if is_bare r then reachable_leaf pages kind 0xcf (aligned 12 va) 0 else (if is_canonical va then w else PageFault)) (agree_from pages r kind va l m k 3 (r.satp % 2 ^ 44 * 4096))

whole_page : (n : ℕ) → n * 4096 % 4096 ≡ 0
whole_page n = omega arith

pub reached_sound : (pages : ℕ) (kind : Kind) (pte page level : ℕ) → page % 4096 ≡ 0 → IsSoundEnd pages kind (reachable_leaf pages kind pte page level)
reached_sound pages kind pte page level whole = go (is_reachable pages kind page) refl
  where
    go : (b : Bool) → is_reachable pages kind page ≡ b → IsSoundEnd pages kind (if b then Leaf pte page level else AccessFault)
    go true e = (e, whole)
    go false e = tt

pub leaf_if : (pages : ℕ) (kind : Kind) (b : Bool) (pte va level : ℕ) → IsSoundEnd pages kind (if b then reachable_leaf pages kind pte (leaf_address pte va level) level else PageFault)
leaf_if pages kind true pte va level = reached_sound pages kind pte (leaf_address pte va level) level (whole_page _)
leaf_if pages kind false pte va level = tt

step_sound : (pages : ℕ) (r : Regime) (kind : Kind) (va level pte : ℕ) (below : Walked) (a b c : Bool) → IsSoundEnd pages kind below
    → IsSoundEnd pages kind (if not a then AccessFault else (if b then PageFault else (if c then at_leaf pages r kind va level pte else below)))
step_sound pages r kind va level pte below false b c k = tt
step_sound pages r kind va level pte below true true c k = tt
step_sound pages r kind va level pte below true false true k = leaf_if pages kind _ pte va level
step_sound pages r kind va level pte below true false false k = k

pub from_sound : (pages : ℕ) (r : Regime) (kind : Kind) (l : Levels) (va levels table : ℕ) → IsSoundEnd pages kind (walk_from pages r kind l va levels table)
from_sound pages r kind l va zero table = tt
from_sound pages r kind l va (suc level) table =
    let place = pte_address table va level in
    let pte = l level place in
    step_sound pages r kind va level pte _ (is_ram pages place) (is_malformed pte) (is_leaf pte) (from_sound pages r kind l va level (ppn pte * 4096))

pub walk_sound : (pages : ℕ) (r : Regime) (kind : Kind) (l : Levels) (va : ℕ) → IsSoundEnd pages kind (walk_of pages r kind l va)
unfolding walk_of
walk_sound pages r kind l va = go (is_bare r) (is_canonical va)
  where
    go : (a b : Bool) → IsSoundEnd pages kind (if a then reachable_leaf pages kind 0xcf (aligned 12 va) 0 else (if b then walk_from pages r kind l va 3 (r.satp % 2 ^ 44 * 4096) else PageFault))
    go true b = reached_sound pages kind 0xcf (aligned 12 va) 0 (whole_page (va / 4096))
    go false true = from_sound pages r kind l va 3 (r.satp % 2 ^ 44 * 4096)
    go false false = tt

-- a page that can be reachable_leaf lies below 4 GiB
both : (p q : Bool) → p && q ≡ true → q ≡ true
both true q h = h
both false q h = cc

ram_small : (pages page : ℕ) → pages ≤ 4096 → is_ram pages page ≡ true → page < 2 ^ 32
ram_small pages page few e = let high = ltb-true page (2 ^ 31 + 4096 * pages) (both (nat_le (2 ^ 31) page) (nat_lt page (2 ^ 31 + 4096 * pages)) e) in omega (arith, high, few)

device_small : (page : ℕ) (a b : Bool) → (page / 4096 == 0x10000) ≡ a → (page / 4096 == 0x100) ≡ b → a || b ≡ true → page < 2 ^ 32
device_small page true b e f k = let at = eqb-true (page / 4096) 0x10000 e in omega (arith, at)
device_small page false true e f k = let at = eqb-true (page / 4096) 0x100 f in omega (arith, at)
device_small page false false e f k = cc

either_small : (pages page : ℕ) (a b : Bool) → pages ≤ 4096 → is_ram pages page ≡ a → is_device page ≡ b → a || b ≡ true → page < 2 ^ 32
either_small pages page true b few e f k = ram_small pages page few e
either_small pages page false true few e f k = device_small page (page / 4096 == 0x10000) (page / 4096 == 0x100) refl refl f
either_small pages page false false few e f k = cc

reachable_small : (pages : ℕ) (kind : Kind) (page : ℕ) → pages ≤ 4096 → is_reachable pages kind page ≡ true → page < 2 ^ 32
reachable_small pages Kind.Fetch page few e = ram_small pages page few e
reachable_small pages Kind.Load page few e = either_small pages page (is_ram pages page) (is_device page) few refl refl e
reachable_small pages Kind.Store page few e = either_small pages page (is_ram pages page) (is_device page) few refl refl e

pub sound_small : (pages : ℕ) (kind : Kind) (w : Walked) → pages ≤ 4096 → IsSoundEnd pages kind w → IsSmall w
sound_small pages kind PageFault few k = tt
sound_small pages kind AccessFault few k = tt
sound_small pages kind (Leaf pte page level) few k = reachable_small pages kind page few k.0

-- A STEP OF A WALK

down_by : (pages : ℕ) (r : Regime) (kind : Kind) (l : Levels) (va level table : ℕ) (a b c : Bool) → is_ram pages (pte_address table va level) ≡ a
    → is_malformed (l level (pte_address table va level)) ≡ b → is_leaf (l level (pte_address table va level)) ≡ c
    → walk_from pages r kind l va (suc level) table
    ≡ (if not a then AccessFault else (if b then PageFault else (if c then at_leaf pages r kind va level (l level (pte_address table va level)) else walk_from pages r kind l va level (ppn (l level (pte_address table va level)) * 4096))))
down_by pages r kind l va level table a b c e f g =
    ap (λ x. if not x then AccessFault else step pages r kind va level (l level (pte_address table va level)) (walk_from pages r kind l va level (ppn (l level (pte_address table va level)) * 4096))) e
    ∙ ap (λ x. if not a then AccessFault else (if x then PageFault else (if is_leaf (l level (pte_address table va level)) then at_leaf pages r kind va level (l level (pte_address table va level)) else walk_from pages r kind l va level (ppn (l level (pte_address table va level)) * 4096)))) f
    ∙ ap (λ x. if not a then AccessFault else (if b then PageFault else (if x then at_leaf pages r kind va level (l level (pte_address table va level)) else walk_from pages r kind l va level (ppn (l level (pte_address table va level)) * 4096)))) g

-- the word that a walk reads at a place of RAM
abbrev word_at : List ℕ → ℕ → ℕ
word_at ram place = slice_index ram ((place - 2 ^ 31) / 8)

from_suc : (pages : ℕ) (r : Regime) (kind : Kind) (l : Levels) (va levels level table : ℕ) (a b c : Bool) → levels ≡ suc level → is_ram pages (pte_address table va level) ≡ a
    → is_malformed (l level (pte_address table va level)) ≡ b → is_leaf (l level (pte_address table va level)) ≡ c
    → walk_from pages r kind l va levels table
    ≡ (if not a then AccessFault else (if b then PageFault else (if c then at_leaf pages r kind va level (l level (pte_address table va level)) else walk_from pages r kind l va level (ppn (l level (pte_address table va level)) * 4096))))
from_suc pages r kind l va levels level table a b c same e f g = ap (λ n. walk_from pages r kind l va n table) same ∙ down_by pages r kind l va level table a b c e f g

-- the walk from a table on, by what stands at a place of RAM
pub from_step : (pages : ℕ) (r : Regime) (kind : Kind) (ram : List ℕ) (va levels level table place : ℕ) (a b c : Bool) → levels ≡ suc level → place ≡ pte_address table va level
    → is_ram pages place ≡ a → is_malformed (slice_index ram ((place - 2 ^ 31) / 8)) ≡ b → is_leaf (slice_index ram ((place - 2 ^ 31) / 8)) ≡ c
    → walk_from pages r kind (ram_reads ram) va levels table
    ≡ (if not a then AccessFault else (if b then PageFault else (if c then at_leaf pages r kind va level (slice_index ram ((place - 2 ^ 31) / 8)) else walk_from pages r kind (ram_reads ram) va level (ppn (slice_index ram ((place - 2 ^ 31) / 8)) * 4096))))
from_step pages r kind ram va levels level table place a b c same at =
    subst (λ n. is_ram pages n ≡ a → is_malformed (word_at ram n) ≡ b → is_leaf (word_at ram n) ≡ c
    → walk_from pages r kind (ram_reads ram) va levels table
    ≡ (if not a then AccessFault else (if b then PageFault else (if c then at_leaf pages r kind va level (word_at ram n) else walk_from pages r kind (ram_reads ram) va level (ppn (word_at ram n) * 4096)))))
    (sym at) (from_suc pages r kind (ram_reads ram) va levels level table a b c same)
