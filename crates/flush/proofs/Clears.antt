-- Slots that are cleared one after another.
use Rattle.std.proofs.Common.{◌≡◌, ◌≢◌, ℕ, ◌+◌, ◌<◌, ◌≤◌, Bool, true, false, refl, sym, ap, subst, ◌∙◌, inl, inr, ⊎_elim, arith}
use Rattle.std.specs.Prelude.{◌⊎◌, ◌&&◌, ◌||◌, nat_lt, nat_le}
use Rattle.std.proofs.lemmas.Bool.{cases_eq, lt-ltb, ltb-true}
use Rattle.step_laws.specs.declared.map.TlbField.{TlbField}
use Rattle.step_laws.specs.declared.map.TlbField.TheVariants.{Read, Write, Code, Page}
use Rattle.step_laws.specs.Map.{Tlb}
use Rattle.step_laws.specs.Tables.{is_clear_due, is_compare, is_swept, is_victim, size_of, table_word}
use Rattle.guest_ram.specs.Ports.{Shown, GoesBy}
use Rattle.guest_ram.specs.Areas.{IsOfTable}
use Rattle.guest_ram.proofs.Moves.{machine_goes, actor_goes}
use Rattle.tlb_entry.specs.declared.books.Book.{Book}
use Rattle.tlb_entry.specs.Books.{GoesWith}
use Rattle.tlb_table.specs.Changes.{OwesNoMore}
use Rattle.flush.specs.Flushed.{IsLeft}
use Rattle.flush.specs.Sweeping.{HasCleared, IsInside}

page_only : (f : TlbField) → is_compare f ≡ false → f ≡ Page
page_only Read e = absurd (cc)
page_only Write e = absurd (cc)
page_only Code e = absurd (cc)
page_only Page e = refl

-- what clearing one slot does
pub record ClearsSlot (slot : ℕ) (p q : Shown) : Type 0 where
  pub machine : q.machine ≡ p.machine
  pub actor : q.own.actor ≡ p.own.actor
  pub size : size_of q.own.actor q.own.steps ≡ size_of p.own.actor p.own.steps
  pub invalid : (f : TlbField) → is_compare f ≡ true → table_word (Tlb q.own.actor slot f) q.own.steps ≡ 1
  pub page : IsLeft p q slot Page
  pub others : (j : ℕ) (f : TlbField) → j ≢ slot → IsLeft p q j f
  pub owes : OwesNoMore p q
  pub pays : (f : TlbField) → is_compare f ≡ true → is_clear_due q.own.actor slot f q.own.steps ≡ false

pub cleared_none : (p : Shown) → HasCleared (λ j. j < 0) p p
cleared_none p = record {
  machine = refl;
  actor = refl;
  size = refl;
  invalid = λ j f s c. absurd (omega (arith, s));
  left = λ j f off. refl;
  owes = λ j f c x. ⊎_elim (λ (s : j < 0). absurd (omega (arith, s))) (λ (e : is_clear_due p.own.actor j f p.own.steps ≡ false). e) x;
}

pub cleared_more : (S : ℕ → Type 0) (p m q : Shown) (slot : ℕ) → HasCleared S p m → ClearsSlot slot m q → HasCleared (λ j. S j ⊎ (j ≡ slot)) p q
cleared_more S p m q slot a b = record {
  machine = b.machine ∙ a.machine;
  actor = b.actor ∙ a.actor;
  size = b.size ∙ a.size;
  invalid = λ j f s c. ⊎_elim
      (λ (e : j ≡ slot). here j f e c)
      (λ (ne : j ≢ slot). b.others j f ne ∙ ⊎_elim (λ (x : S j). a.invalid j f x c) (λ (e : j ≡ slot). absurd (ne e)) s) (cases_eq j slot);
  left = λ j f off. ⊎_elim
      (λ (e : is_compare f ≡ false). ⊎_elim (λ (is : j ≡ slot). page_left j f is e) (λ (ne : j ≢ slot). b.others j f ne) (cases_eq j slot) ∙ a.left j f (inl e))
      (λ (n : (S j ⊎ (j ≡ slot)) → ⊥). b.others j f (λ e. n (inr e)) ∙ a.left j f (inr (λ s. n (inl s)))) off;
  owes = λ j f c x. ⊎_elim
      (λ (s : S j ⊎ (j ≡ slot)). ⊎_elim (λ (y : S j). b.owes j f c (a.owes j f c (inl y))) (λ (e : j ≡ slot). subst (λ k. is_clear_due q.own.actor k f q.own.steps ≡ false) (sym e) (b.pays f c)) s)
      (λ (d : is_clear_due p.own.actor j f p.own.steps ≡ false). b.owes j f c (a.owes j f c (inr d))) x;
}
  where
    here : (j : ℕ) (f : TlbField) → j ≡ slot → is_compare f ≡ true → table_word (Tlb q.own.actor j f) q.own.steps ≡ 1
    here j f e c = ap (λ k. table_word (Tlb q.own.actor k f) q.own.steps) e ∙ b.invalid f c

    page_left : (j : ℕ) (f : TlbField) → j ≡ slot → is_compare f ≡ false → IsLeft m q j f
    page_left j f is e = subst (λ k. IsLeft m q k f) (sym is) (subst (λ g. IsLeft m q slot g) (sym (page_only f e)) b.page)

pub cleared_as : (S T : ℕ → Type 0) (p q : Shown) → ((j : ℕ) → S j → T j) → ((j : ℕ) → T j → S j) → HasCleared S p q → HasCleared T p q
cleared_as S T p q to from a = record {
  machine = a.machine;
  actor = a.actor;
  size = a.size;
  invalid = λ j f s c. a.invalid j f (from j s) c;
  left = λ j f off. a.left j f (⊎_elim (λ (e : is_compare f ≡ false). inl e) (λ (n : T j → ⊥). inr (λ s. n (to j s))) off);
  owes = λ j f c x. a.owes j f c (⊎_elim (λ (s : T j). inl (from j s)) (λ (d : is_clear_due p.own.actor j f p.own.steps ≡ false). inr d) x);
}

-- the slots below one, and the victims below one
pub cleared_next : (p m q : Shown) (to : ℕ) → HasCleared (λ j. j < to) p m → ClearsSlot to m q → HasCleared (λ j. j < to + 1) p q
cleared_next p m q to a b = cleared_as (λ j. (j < to) ⊎ (j ≡ to)) (λ j. j < to + 1) p q
    (λ j s. ⊎_elim (λ (x : j < to). omega (arith, x)) (λ (e : j ≡ to). omega (arith, e)) s)
    (λ j s. ⊎_elim (λ (e : j ≡ to). inr e) (λ (ne : j ≢ to). inl (omega (arith, s, ne))) (cases_eq j to))
    (cleared_more (λ j. j < to) p m q to a b)

abbrev pub IsBelowOr : (size to : ℕ) → ℕ → Type 0
IsBelowOr size to j = (j < size) ⊎ ((1024 ≤ j) × (j < to))

pub cleared_first : (p q : Shown) (size : ℕ) → HasCleared (λ j. j < size) p q → HasCleared (IsBelowOr size 1024) p q
cleared_first p q size a = cleared_as (λ j. j < size) (IsBelowOr size 1024) p q (λ j s. inl s)
    (λ j s. ⊎_elim (λ (x : j < size). x) (λ (x : (1024 ≤ j) × (j < 1024)). absurd (let a = x.0 in let b = x.1 in omega (arith, a, b))) s) a

pub cleared_victim : (p m q : Shown) (size to : ℕ) → 1024 ≤ to → HasCleared (IsBelowOr size to) p m → ClearsSlot to m q → HasCleared (IsBelowOr size (to + 1)) p q
cleared_victim p m q size to l a b = cleared_as (λ j. IsBelowOr size to j ⊎ (j ≡ to)) (IsBelowOr size (to + 1)) p q on back (cleared_more (IsBelowOr size to) p m q to a b)
  where
    on : (j : ℕ) → IsBelowOr size to j ⊎ (j ≡ to) → IsBelowOr size (to + 1) j
    on j (inl (inl x)) = inl x
    on j (inl (inr x)) = inr (x.0, let y = x.1 in omega (arith, y))
    on j (inr e) = inr (omega (arith, e, l), omega (arith, e))

    back : (j : ℕ) → IsBelowOr size (to + 1) j → IsBelowOr size to j ⊎ (j ≡ to)
    back j (inl x) = inl (inl x)
    back j (inr x) = ⊎_elim (λ (e : j ≡ to). inr e) (λ (ne : j ≢ to). inl (inr (x.0, let y = x.1 in omega (arith, y, ne)))) (cases_eq j to)

-- the slots that a store of SIZE asks for
or_cases : (a b : Bool) → (a || b) ≡ true → (a ≡ true) ⊎ (b ≡ true)
or_cases true b e = inl refl
or_cases false b e = inr e

and_left : (a b : Bool) → (a && b) ≡ true → a ≡ true
and_left true b e = refl
and_left false b e = absurd (cc)

and_right : (a b : Bool) → (a && b) ≡ true → b ≡ true
and_right true b e = e
and_right false b e = absurd (cc)

pub is_victim_slot : (j : ℕ) → is_victim j ≡ true → (1024 ≤ j) × (j < 1032)
is_victim_slot j e = (grind (arith, and_left (nat_le 1024 j) (nat_lt j 1032) e), ltb-true j 1032 (and_right (nat_le 1024 j) (nat_lt j 1032) e))

pub swept_slot : (size j : ℕ) → 64 ≤ size → is_swept size 64 j ≡ true → IsBelowOr size 1032 j
swept_slot size j l e = by (or_cases (nat_lt j size) (nat_lt j 64 || is_victim j) e)
  where
    more : (nat_lt j 64 ≡ true) ⊎ (is_victim j ≡ true) → IsBelowOr size 1032 j
    more (inl x) = inl (let y = ltb-true j 64 x in omega (arith, y, l))
    more (inr v) = inr (is_victim_slot j v)

    by : (nat_lt j size ≡ true) ⊎ ((nat_lt j 64 || is_victim j) ≡ true) → IsBelowOr size 1032 j
    by (inl x) = inl (ltb-true j size x)
    by (inr x) = more (or_cases (nat_lt j 64) (is_victim j) x)

le_true : (m n : ℕ) → m ≤ n → nat_le m n ≡ true
le_true m n l = grind (arith, l)

or_right : (a : Bool) → (a || true) ≡ true
or_right true = refl
or_right false = refl

pub slot_swept : (size j : ℕ) → IsBelowOr size 1032 j → is_swept size 64 j ≡ true
slot_swept size j (inl x) = ap (λ (t : Bool). t || (nat_lt j 64 || is_victim j)) (lt-ltb j size x)
slot_swept size j (inr x) = ap (λ (t : Bool). nat_lt j size || (nat_lt j 64 || t)) (ap (λ (t : Bool). t && nat_lt j 1032) (le_true 1024 j x.0) ∙ lt-ltb j 1032 x.1)
    ∙ ap (λ (t : Bool). nat_lt j size || t) (or_right (nat_lt j 64)) ∙ or_right (nat_lt j size)

pub below_swept : (size j : ℕ) → j < 64 → is_swept size 64 j ≡ true
below_swept size j l = ap (λ (t : Bool). nat_lt j size || (t || is_victim j)) (lt-ltb j 64 l) ∙ or_right (nat_lt j size)

pub victim_swept : (size j : ℕ) → is_victim j ≡ true → is_swept size 64 j ≡ true
victim_swept size j v = ap (λ (t : Bool). nat_lt j size || (nat_lt j 64 || t)) v ∙ ap (λ (t : Bool). nat_lt j size || t) (or_right (nat_lt j 64)) ∙ or_right (nat_lt j size)

pub not_both : (b : Bool) → b ≡ true → b ≡ false → ⊥
not_both true x y = absurd (cc)
not_both false x y = absurd (cc)

pub either : (b : Bool) → (b ≡ true) ⊎ (b ≡ false)
either true = inl refl
either false = inr refl

pub cleared_first_at : (p q : Shown) (to size : ℕ) → to ≡ size → HasCleared (λ j. j < to) p q → HasCleared (IsBelowOr size 1024) p q
cleared_first_at p q to size e a = cleared_first p q size (subst (λ n. HasCleared (λ j. j < n) p q) e a)

pub cleared_last : (p q : Shown) (to size : ℕ) → to ≡ 1032 → HasCleared (IsBelowOr size to) p q → HasCleared (IsBelowOr size 1032) p q
cleared_last p q to size e a = subst (λ n. HasCleared (IsBelowOr size n) p q) e a

-- one call of clear, by a hart that holds its lock
pub clears_slot : (b : Book) (p q : Shown) (slot : ℕ) → IsInside b p → GoesBy 3 IsOfTable p q → GoesWith b q.own.actor q.own.steps
    → ((f : TlbField) → is_compare f ≡ true → table_word (Tlb q.own.actor slot f) q.own.steps ≡ 1) → IsLeft p q slot Page → ((j : ℕ) (f : TlbField) → j ≢ slot → IsLeft p q j f) → OwesNoMore p q
    → ((f : TlbField) → is_compare f ≡ true → is_clear_due q.own.actor slot f q.own.steps ≡ false) → ClearsSlot slot p q
clears_slot b p q slot inside goes book invalid page others owes pays = record {
  machine = machine_goes 3 IsOfTable p q goes;
  actor = actor_goes 3 IsOfTable p q goes;
  size = sym book.size ∙ inside.book.size;
  invalid = invalid;
  page = page;
  others = others;
  owes = owes;
  pays = pays;
}

pub inside_still : (b : Book) (n : ℕ) (p q : Shown) → IsInside b p → GoesBy n IsOfTable p q → p.own.actor < p.machine.layout.harts → q.own.actor < q.machine.layout.harts
inside_still b n p q inside goes less = subst (λ (x : Shown). x.own.actor < x.machine.layout.harts) (sym goes.grown) less
