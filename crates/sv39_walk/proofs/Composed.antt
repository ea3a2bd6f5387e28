-- A walk from its levels.
use Rattle.std.proofs.Common.{◌≡◌, ℕ, suc, ◌*◌, ◌%◌, ◌^◌, Bool, true, false, List, [], ◌∷◌, ◌++◌, refl, sym, ap, subst, ◌∙◌, arith, inl, inr}
use Rattle.std.specs.Prelude.{◌==◌, ◌||◌, not, if◌then◌else◌}
use Rattle.std.proofs.lemmas.Bool.{eq-eqb, ne_eqb}
use Rattle.rv64_priv.specs.declared.state.Kind.{Kind}
use Rattle.rv64_priv.specs.declared.state.Regime.{Regime}
use Rattle.rv64_priv.specs.Bits.{aligned}
use Rattle.rv64_priv.specs.Pte.{is_bare, is_leaf, is_malformed, ppn}
use Rattle.rv64_priv.specs.Walk.{Walked, AccessFault, PageFault, at_leaf, is_canonical, is_ram, pte_address, reachable_leaf, walk_from, walk_of}
use Rattle.rv64_priv.specs.Reads.{answering}
use Rattle.step_laws.specs.declared.steps.Step.{Step}
use Rattle.step_laws.specs.declared.steps.WordOp.TheVariants.{Load}
use Rattle.step_laws.specs.Words.{ram_word}
use Rattle.guest_ram.specs.Plays.{step_of}
use Rattle.guest_ram.specs.Ports.{Shown, after_step, layout_of}
use Rattle.guest_ram.specs.Rule.{record_of}
use Rattle.walk_laws.specs.WalkLoads.{AreLoaded, Found, found, reads_from, reads_of}
use Rattle.sv39_walk.specs.declared.tables.WalkEnd.{WalkEnd}
use Rattle.sv39_walk.specs.declared.tables.Stop.TheVariants.{End, Table}
use Rattle.sv39_walk.specs.Walking.{HasWalked, ShowsWalk, end_of, loads_of}
use Rattle.sv39_walk.specs.Levels.{AgreeBelow, HasStepped, WalksFrom, outside, reads}

-- one level, by whether its entry is in RAM, and is malformed or a leaf
tree : (ram malformed leaf : Bool) → (end below : Walked) → Walked
tree ram malformed leaf end below = if not ram then AccessFault else if malformed then PageFault else if leaf then end else below

loads_here : (ram malformed leaf : Bool) → (read more before : List Found) → List Found
loads_here ram malformed leaf read more before = if ram then (if malformed || leaf then read else more) else before

module _ (pages : ℕ) (r : Regime) (kind : Kind) (va level table : ℕ) (others : ℕ → ℕ) where
  abbrev address : ℕ
  address = pte_address table va level

  abbrev beneath : Walked
  beneath = walk_from pages r kind (answering others) va level (ppn (others level) * 4096)

  step_walk : (b m l : Bool) → is_ram pages address ≡ b → is_malformed (others level) ≡ m → is_leaf (others level) ≡ l
      → walk_from pages r kind (answering others) va (suc level) table ≡ tree b m l (at_leaf pages r kind va level (others level)) beneath
  unfolding tree
  step_walk b m l e f g = ap (λ (t : Bool). tree t (is_malformed (others level)) (is_leaf (others level)) (at_leaf pages r kind va level (others level)) beneath) e
      ∙ ap (λ (t : Bool). tree b t (is_leaf (others level)) (at_leaf pages r kind va level (others level)) beneath) f
      ∙ ap (λ (t : Bool). tree b m t (at_leaf pages r kind va level (others level)) beneath) g

  step_reads : (before : List Found) (b m l : Bool) → is_ram pages address ≡ b → is_malformed (others level) ≡ m → is_leaf (others level) ≡ l
      → reads_from pages va others (suc level) table before
      ≡ loads_here b m l (found (ram_word address) (others level) ∷ before) (reads_from pages va others level (ppn (others level) * 4096) (found (ram_word address) (others level) ∷ before)) before
  unfolding loads_here
  step_reads before b m l e f g = let read : List Found = found (ram_word address) (others level) ∷ before in let more : List Found = reads_from pages va others level (ppn (others level) * 4096) read in
      ap (λ (t : Bool). loads_here t (is_malformed (others level)) (is_leaf (others level)) read more before) e
      ∙ ap (λ (t : Bool). loads_here b t (is_leaf (others level)) read more before) f
      ∙ ap (λ (t : Bool). loads_here b m t read more before) g

-- nothing but the loads made before
kept_loads : (p : Shown) (before : List Found) (first : List Step) → p.own.steps ≡ loads_of p.own.actor before ++ first → p ≡ record p { own = record_of p.own.actor p.own.runs (loads_of p.own.actor before ++ first) }
kept_loads p before first is = ap (λ (l : List Step). record p { own = record_of p.own.actor p.own.runs l }) is

grow_loads : (p : Shown) (x y : List Found) (first : List Step) → x ≡ y → record p { own = record_of p.own.actor p.own.runs (loads_of p.own.actor x ++ first) } ≡ record p { own = record_of p.own.actor p.own.runs (loads_of p.own.actor y ++ first) }
grow_loads p x y first e = ap (λ (l : List Found). record p { own = record_of p.own.actor p.own.runs (loads_of p.own.actor l ++ first) }) e

pub outside_ends : (r : Regime) (kind : Kind) (va level table : ℕ) (p q : Shown) (end : Walked) → is_ram (layout_of p).pages (pte_address table va level) ≡ false → q ≡ p → end ≡ AccessFault
    → WalksFrom r kind va (suc level) table p q end
unfolding tree loads_here
outside_ends r kind va level table p q end off same is = record {
  finds = λ _. 0;
  is_end = λ others agree. step_walk p.machine.layout.pages r kind va level table others false (is_malformed (others level)) (is_leaf (others level)) off refl refl ∙ sym is;
  loads = λ others agree before first here. same ∙ kept_loads p before first here
      ∙ grow_loads p _ _ first (sym (step_reads p.machine.layout.pages r kind va level table others before false (is_malformed (others level)) (is_leaf (others level)) off refl refl));
}

after_load : (p : Shown) (word value : ℕ) (before : List Found) (first : List Step) → p.own.steps ≡ loads_of p.own.actor before ++ first
    → after_step p word Load 0 value ≡ record p { own = record_of p.own.actor p.own.runs (loads_of p.own.actor (found word value ∷ before) ++ first) }
after_load p word value before first is = ap (λ (l : List Step). record p { own = record_of p.own.actor p.own.runs (step_of p.own.actor word Load 0 value ∷ l) }) is

-- the walk ends at the entry that was loaded
module _ (r : Regime) (kind : Kind) (va level table : ℕ) (p q : Shown) (pte : ℕ) (end : Walked) (there : is_ram (layout_of p).pages (pte_address table va level) ≡ true)
    (made : q ≡ after_step p (ram_word (pte_address table va level)) Load 0 pte) where
  found_reads : (others : ℕ → ℕ) → others level ≡ pte → (b l : Bool) → is_malformed (others level) ≡ b → is_leaf (others level) ≡ l → (b || l) ≡ true → (before : List Found) (first : List Step)
      → p.own.steps ≡ loads_of p.own.actor before ++ first
      → q ≡ record p { own = record_of p.own.actor p.own.runs (loads_of p.own.actor (reads_from (layout_of p).pages va others (suc level) table before) ++ first) }
  unfolding loads_here
  found_reads others at b l m f stops before first here = let read : List Found = found (ram_word (pte_address table va level)) (others level) ∷ before in
      let more : List Found = reads_from (layout_of p).pages va others level (ppn (others level) * 4096) read in
      made ∙ after_load p _ pte before first here
      ∙ grow_loads p _ _ first (ap (λ n. found (ram_word (pte_address table va level)) n ∷ before) (sym at)
      ∙ sym (step_reads p.machine.layout.pages r kind va level table others before true b l there m f ∙ ap (λ (t : Bool). if t then read else more) stops))

  pub malformed_ends : is_malformed pte ≡ true → end ≡ PageFault → WalksFrom r kind va (suc level) table p q end
  unfolding tree
  malformed_ends m is = record {
    finds = λ _. pte;
    is_end = λ others agree. let at : others level ≡ pte = agree level (omega arith) in
        step_walk p.machine.layout.pages r kind va level table others true true (is_leaf (others level)) there (ap is_malformed at ∙ m) refl ∙ sym is;
    loads = λ others agree before first here. let at : others level ≡ pte = agree level (omega arith) in
        found_reads others at true (is_leaf (others level)) (ap is_malformed at ∙ m) refl refl before first here;
  }

  pub leaf_ends : is_malformed pte ≡ false → is_leaf pte ≡ true → end ≡ at_leaf (layout_of p).pages r kind va level pte → WalksFrom r kind va (suc level) table p q end
  unfolding tree
  leaf_ends m l is = record {
    finds = λ _. pte;
    is_end = λ others agree. let at : others level ≡ pte = agree level (omega arith) in
        step_walk p.machine.layout.pages r kind va level table others true false true there (ap is_malformed at ∙ m) (ap is_leaf at ∙ l) ∙ ap (λ n. at_leaf (layout_of p).pages r kind va level n) at ∙ sym is;
    loads = λ others agree before first here. let at : others level ≡ pte = agree level (omega arith) in
        found_reads others at false true (ap is_malformed at ∙ m) (ap is_leaf at ∙ l) refl before first here;
  }

-- what was found at one level and below
with_level : (level pte : ℕ) → (ℕ → ℕ) → ℕ → ℕ
with_level level pte finds n = if n == level then pte else finds n

-- and goes on below a pointer
pub pointer_goes : (r : Regime) (kind : Kind) (va level table : ℕ) (p q s : Shown) (pte below : ℕ) (end : Walked) → is_ram (layout_of p).pages (pte_address table va level) ≡ true
    → q ≡ after_step p (ram_word (pte_address table va level)) Load 0 pte → is_malformed pte ≡ false → is_leaf pte ≡ false → below ≡ ppn pte * 4096
    → WalksFrom r kind va level below q s end → WalksFrom r kind va (suc level) table p s end
unfolding tree loads_here with_level
pointer_goes r kind va level table p q s pte below end there made m l at_below walks =
    let w : WalksFrom r kind va level (ppn pte * 4096) (after_step p (ram_word (pte_address table va level)) Load 0 pte) s end =
    subst (λ (x : Shown). WalksFrom r kind va level (ppn pte * 4096) x s end) made (subst (λ t. WalksFrom r kind va level t q s end) at_below walks) in
    record {
      finds = with_level level pte w.finds;
      is_end = λ others agree. let at : others level ≡ pte = agree level (omega arith) ∙ ap (λ (t : Bool). if t then pte else w.finds level) (eq-eqb level level refl) in
          let agrees : AgreeBelow level w.finds others = λ n less. agree n (omega (arith, less)) ∙ ap (λ (t : Bool). if t then pte else w.finds n) (ne_eqb n level (λ e. omega (arith, e, less))) in
          step_walk p.machine.layout.pages r kind va level table others true false false there (ap is_malformed at ∙ m) (ap is_leaf at ∙ l)
          ∙ ap (λ n. walk_from (layout_of p).pages r kind (answering others) va level (ppn n * 4096)) at ∙ w.is_end others agrees;
      loads = λ others agree before first here. let at : others level ≡ pte = agree level (omega arith) ∙ ap (λ (t : Bool). if t then pte else w.finds level) (eq-eqb level level refl) in
          let agrees : AgreeBelow level w.finds others = λ n less. agree n (omega (arith, less)) ∙ ap (λ (t : Bool). if t then pte else w.finds n) (ne_eqb n level (λ e. omega (arith, e, less))) in
          let word : ℕ = ram_word (pte_address table va level) in
          w.loads others agrees (found word pte ∷ before) first (ap (λ (x : List Step). step_of p.own.actor word Load 0 pte ∷ x) here)
          ∙ grow_loads p _ _ first (ap (λ n. reads_from (layout_of p).pages va others level (ppn n * 4096) (found word n ∷ before)) (sym at)
          ∙ sym (step_reads p.machine.layout.pages r kind va level table others before true false false there (ap is_malformed at ∙ m) (ap is_leaf at ∙ l)));
    }

-- below level 0 there is no table
pub bottom_ends : (r : Regime) (kind : Kind) (va table : ℕ) (p : Shown) → WalksFrom r kind va 0 table p p PageFault
bottom_ends r kind va table p = record { finds = λ _. 0; is_end = λ others agree. refl; loads = λ others agree before first here. kept_loads p before first here }

pub step_ends : (r : Regime) (kind : Kind) (va level table : ℕ) (p q : Shown) (end : WalkEnd) → HasStepped r kind va level table p q (End end) → WalksFrom r kind va (suc level) table p q (end_of end)
step_ends r kind va level table p q end (outside off same is) = outside_ends r kind va level table p q (end_of end) off same is
step_ends r kind va level table p q end (reads pte there made (inl m)) = malformed_ends r kind va level table p q pte (end_of end) there made m.0 m.1
step_ends r kind va level table p q end (reads pte there made (inr l)) = leaf_ends r kind va level table p q pte (end_of end) there made l.0 l.1 l.2

pub step_goes : (r : Regime) (kind : Kind) (va level table below : ℕ) (p q s : Shown) (end : Walked) → HasStepped r kind va level table p q (Table below) → WalksFrom r kind va level below q s end
    → WalksFrom r kind va (suc level) table p s end
step_goes r kind va level table below p q s end (outside off same is) w = absurd is
step_goes r kind va level table below p q s end (reads pte there made stops) w = pointer_goes r kind va level table p q s pte below end there made stops.0 stops.1 stops.2 w

-- the walk of an address
pub from_root : (r : Regime) (kind : Kind) (va root : ℕ) (p q : Shown) (end : Walked) → is_bare r ≡ false → is_canonical va ≡ true → root ≡ r.satp % 2 ^ 44 * 4096 → WalksFrom r kind va 3 root p q end → HasWalked r kind va p q end
unfolding walk_of reads_of
from_root r kind va root p q end b c at walks = let w : WalksFrom r kind va 3 (r.satp % 2 ^ 44 * 4096) p q end = subst (λ t. WalksFrom r kind va 3 t p q end) at walks in record {
  finds = w.finds;
  is_end = ap (λ (t : Bool). if t then reachable_leaf (layout_of p).pages kind 0xcf (aligned 12 va) 0 else (if is_canonical va then walk_from (layout_of p).pages r kind (answering w.finds) va 3 (r.satp % 2 ^ 44 * 4096) else PageFault)) b
      ∙ ap (λ (t : Bool). if t then walk_from (layout_of p).pages r kind (answering w.finds) va 3 (r.satp % 2 ^ 44 * 4096) else PageFault) c ∙ w.is_end w.finds (λ _ _. refl);
  loads = w.loads w.finds (λ _ _. refl) [] p.own.steps refl ∙ grow_loads p _ _ p.own.steps (sym (ap (λ (t : Bool). if t then [] else (if is_canonical va then reads_from (layout_of p).pages va w.finds 3 (r.satp % 2 ^ 44 * 4096) [] else [])) b
      ∙ ap (λ (t : Bool). if t then reads_from (layout_of p).pages va w.finds 3 (r.satp % 2 ^ 44 * 4096) [] else []) c));
}

pub in_bare : (r : Regime) (kind : Kind) (va : ℕ) (p : Shown) (end : Walked) → is_bare r ≡ true → end ≡ reachable_leaf (layout_of p).pages kind 0xcf (aligned 12 va) 0 → HasWalked r kind va p p end
unfolding walk_of reads_of
in_bare r kind va p end b is = record {
  finds = λ _. 0;
  is_end = ap (λ (t : Bool). if t then reachable_leaf (layout_of p).pages kind 0xcf (aligned 12 va) 0 else (if is_canonical va then walk_from (layout_of p).pages r kind (answering (λ _. 0)) va 3 (r.satp % 2 ^ 44 * 4096) else PageFault)) b ∙ sym is;
  loads = grow_loads p [] _ p.own.steps (sym (ap (λ (t : Bool). if t then [] else (if is_canonical va then reads_from (layout_of p).pages va (λ _. 0) 3 (r.satp % 2 ^ 44 * 4096) [] else [])) b));
}

pub not_canonical : (r : Regime) (kind : Kind) (va : ℕ) (p : Shown) → is_bare r ≡ false → is_canonical va ≡ false → HasWalked r kind va p p PageFault
unfolding walk_of reads_of
not_canonical r kind va p b c = record {
  finds = λ _. 0;
  is_end = ap (λ (t : Bool). if t then reachable_leaf (layout_of p).pages kind 0xcf (aligned 12 va) 0 else (if is_canonical va then walk_from (layout_of p).pages r kind (answering (λ _. 0)) va 3 (r.satp % 2 ^ 44 * 4096) else PageFault)) b
      ∙ ap (λ (t : Bool). if t then walk_from (layout_of p).pages r kind (answering (λ _. 0)) va 3 (r.satp % 2 ^ 44 * 4096) else PageFault) c;
  loads = grow_loads p [] _ p.own.steps (sym (ap (λ (t : Bool). if t then [] else (if is_canonical va then reads_from (layout_of p).pages va (λ _. 0) 3 (r.satp % 2 ^ 44 * 4096) [] else [])) b
      ∙ ap (λ (t : Bool). if t then reads_from (layout_of p).pages va (λ _. 0) 3 (r.satp % 2 ^ 44 * 4096) [] else []) c));
}

all_loaded : (a : ℕ) (xs : List Found) → AreLoaded xs (loads_of a xs)
all_loaded a [] = tt
all_loaded a (x ∷ xs) = inl ((refl, refl, refl), all_loaded a xs)

-- the steps show the walk
pub shows_walk : (r : Regime) (kind : Kind) (va : ℕ) (p q : Shown) (end : Walked) → HasWalked r kind va p q end → ShowsWalk r kind va p q end
shows_walk r kind va p q end w = record {
  added = loads_of p.own.actor (reads_of (layout_of p).pages r va w.finds);
  grows = w.loads;
  walked = record { finds = w.finds; is_end = w.is_end; loaded = all_loaded p.own.actor (reads_of (layout_of p).pages r va w.finds) };
}
