-- The stages of a snapshot from hart to hart.
use Rattle.std.proofs.Common.{◌≡◌, ℕ, suc, ◌+◌, ◌<◌, ◌≤◌, Bool, true, false, List, [], length, refl, sym, ap, subst, ◌∙◌, arith}
use Rattle.std.specs.Prelude.{◌==◌, if◌then◌else◌}
use Rattle.std.proofs.lemmas.Bool.{eq-eqb, ne_eqb}
use Rattle.step_laws.specs.declared.steps.WordOp.{WordOp}
use Rattle.step_laws.specs.Map.{Word, Place}
use Rattle.step_laws.specs.Marks.{Stage, last_place, last_place_next}
use Rattle.step_laws.specs.Places.{posts, posts_next, post_place, ring_place}
use Rattle.guest_ram.specs.Areas.{IsOfRam, IsOfTable}
use Rattle.guest_ram.specs.Ports.{Machine, Shown, GoesBy}
use Rattle.guest_ram.proofs.Moves.{fold_goes, actor_goes}
use Rattle.guest_ram_cases.specs.Sweeps.{IsAtStage, HasNoPost, HasPlaced}

-- before this hart: at it, or behind the last
abbrev pub stage_before : Stage → (ℕ → Stage) → Shown → ℕ → Stage
stage_before last at p i = if i == p.machine.layout.harts then last else at i

module _ (last : Stage) (at : ℕ → Stage) where
  pub comes_first : (p : Shown) → 0 < p.machine.layout.harts → IsAtStage p (at 0) → IsAtStage p (stage_before last at p 0)
  comes_first p l s = subst (IsAtStage p) (sym (ap (λ (t : Bool). if t then last else at 0) (ne_eqb 0 p.machine.layout.harts (λ e. omega (arith, e, l))))) s

  pub comes_to : (p : Shown) (i : ℕ) → i < p.machine.layout.harts → IsAtStage p (stage_before last at p i) → IsAtStage p (at i)
  comes_to p i l s = subst (IsAtStage p) (ap (λ (t : Bool). if t then last else at i) (ne_eqb i p.machine.layout.harts (λ e. omega (arith, e, l)))) s

  pub comes_back : (p : Shown) (i : ℕ) → i < p.machine.layout.harts → IsAtStage p (at i) → IsAtStage p (stage_before last at p i)
  comes_back p i l s = subst (IsAtStage p) (sym (ap (λ (t : Bool). if t then last else at i) (ne_eqb i p.machine.layout.harts (λ e. omega (arith, e, l))))) s

  pub comes_past : (p : Shown) (i : ℕ) → i ≡ p.machine.layout.harts → IsAtStage p (stage_before last at p i) → IsAtStage p last
  comes_past p i e s = subst (IsAtStage p) (ap (λ (t : Bool). if t then last else at i) (eq-eqb i p.machine.layout.harts e)) s

  pub comes_next : (p q : Shown) (i : ℕ) → q.machine ≡ p.machine → IsAtStage q (if suc i == p.machine.layout.harts then last else at (suc i)) → IsAtStage q (stage_before last at q (i + 1))
  comes_next p q i m s = subst (IsAtStage q) (ap (λ n. if n == p.machine.layout.harts then last else at n) (add_one i) ∙ ap (λ (x : Machine). if i + 1 == x.layout.harts then last else at (i + 1)) (sym m)) s
    where
      add_one : (n : ℕ) → suc n ≡ n + 1
      add_one n = omega arith

-- words that are no places
posts_ram : (t a : ℕ) (w : Word) (op : WordOp) (arg answer : ℕ) (x : List ℕ) → IsOfRam w → posts_next t a w op arg answer x ≡ x
posts_ram t a (Place u s k) op arg answer x off = absurd off
posts_ram t a w op arg answer x off = refl

posts_table : (t a : ℕ) (w : Word) (op : WordOp) (arg answer : ℕ) (x : List ℕ) → IsOfTable w → posts_next t a w op arg answer x ≡ x
posts_table t a (Place u s k) op arg answer x off = absurd off
posts_table t a w op arg answer x off = refl

last_ram : (t : ℕ) (w : Word) (op : WordOp) (arg answer x : ℕ) → IsOfRam w → last_place_next t w op arg answer x ≡ x
last_ram t (Place u s k) op arg answer x off = absurd off
last_ram t w op arg answer x off = refl

last_table : (t : ℕ) (w : Word) (op : WordOp) (arg answer x : ℕ) → IsOfTable w → last_place_next t w op arg answer x ≡ x
last_table t (Place u s k) op arg answer x off = absurd off
last_table t w op arg answer x off = refl

pub no_post_ram : (n : ℕ) (p q : Shown) → GoesBy n IsOfRam p q → HasNoPost p → HasNoPost q
no_post_ram n p q g h = record {
  posts_none = λ t. ap (λ a. posts t a q.own.steps) (actor_goes n IsOfRam p q g) ∙ fold_goes (posts_next t p.own.actor) [] n IsOfRam p q (posts_ram t p.own.actor) g ∙ h.posts_none t;
  no_last = λ t. fold_goes (last_place_next t) 0 n IsOfRam p q (last_ram t) g ∙ h.no_last t;
}

pub no_post_table : (n : ℕ) (p q : Shown) → GoesBy n IsOfTable p q → HasNoPost p → HasNoPost q
no_post_table n p q g h = record {
  posts_none = λ t. ap (λ a. posts t a q.own.steps) (actor_goes n IsOfTable p q g) ∙ fold_goes (posts_next t p.own.actor) [] n IsOfTable p q (posts_table t p.own.actor) g ∙ h.posts_none t;
  no_last = λ t. fold_goes (last_place_next t) 0 n IsOfTable p q (last_table t) g ∙ h.no_last t;
}

-- no post at this hart nor at a later one, and all that there are in the first places
pub record ArePosted (p : Shown) (i : ℕ) : Type 0 where
  pub posts_none : (t : ℕ) → i ≤ t → posts t p.own.actor p.own.steps ≡ []
  pub no_last : (t : ℕ) → last_place t p.own.steps ≡ 0

pub first_place_next : (p : Shown) (i : ℕ) → ArePosted p i → 0 ≡ post_place i p.own.actor p.own.steps
first_place_next p i a = sym (ap (λ (xs : List ℕ). ring_place (length xs)) (a.posts_none i (omega arith)))

pub posted_more : (p q : Shown) (i : ℕ) → HasPlaced p q i 0 → ArePosted p i → ArePosted q (i + 1)
posted_more p q i h a = record {
  posts_none = λ t l. h.others t (λ e. omega (arith, e, l)) ∙ a.posts_none t (omega (arith, l));
  no_last = λ t. h.last t ∙ by (t == i) (last_place t p.own.steps) (a.no_last t);
}
  where
    by : (b : Bool) (n : ℕ) → n ≡ 0 → (if b then 0 else n) ≡ 0
    by true n e = refl
    by false n e = e
