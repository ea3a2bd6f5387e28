-- Words of pages that are made invalid one after another.
use Rattle.std.proofs.Common.{◌≡◌, ◌≢◌, ℕ, suc, ◌+◌, ◌/◌, ◌%◌, ◌<◌, true, false, refl, sym, ap, subst, ◌∙◌, inl, inr, ⊎_elim, arith}
use Rattle.std.specs.Prelude.{◌⊎◌}
use Rattle.std.proofs.lemmas.Bool.{cases_eq}
use Rattle.step_laws.specs.declared.map.TlbField.{TlbField}
use Rattle.step_laws.specs.declared.map.TlbField.TheVariants.{Read, Write, Code, Page}
use Rattle.step_laws.specs.Fields.{invalid_bit}
use Rattle.step_laws.specs.declared.steps.WordOp.TheVariants.{Load, Store}
use Rattle.step_laws.specs.Map.{Tlb, name_of, same_field}
use Rattle.step_laws.specs.TableLaws.{IsLastField, IsLastStored}
use Rattle.step_laws.specs.Tables.{is_compare, size_of, table_word}
use Rattle.guest_ram.specs.Ports.{Shown, Adds, May}
use Rattle.guest_ram.proofs.Moves.{acting_adds}
use Rattle.tlb_entry.specs.declared.books.Book.{Book}
use Rattle.tlb_table.specs.Lookups.{IsAlike}
use Rattle.tlb_entry.specs.Kept.{used_next, used_of, was_free}
use Rattle.tlb_table.proofs.Loads.{load_alike, book_alike}
use Rattle.tlb_table.proofs.Stores.{IsOwning, HasStored, has_stored, may_compare}
use Rattle.flush.specs.Flushed.{IsLeft, IsWithin}
use Rattle.flush.specs.Sweeping.{HasSwept, IsInside, OnField, OnPage}

pub field_or_not : (f g : TlbField) → (f ≡ g) ⊎ (same_field f g ≡ false)
field_or_not Read Read = inl refl
field_or_not Write Write = inl refl
field_or_not Code Code = inl refl
field_or_not Page Page = inl refl
field_or_not f g = inr refl

last_bit : (f : TlbField) (last found : ℕ) → IsLastField f last found → found % 2 ≡ last % 2
last_bit Read last found e = ap (λ n. n % 2) e
last_bit Write last found e = e.1
last_bit Code last found e = ap (λ n. n % 2) e
last_bit Page last found e = ap (λ n. n % 2) e

last_page : (f : TlbField) (last found : ℕ) → IsLastField f last found → found / 4096 ≡ last / 4096
last_page Read last found e = ap (λ n. n / 4096) e
last_page Write last found e = let x = e.0 in omega (arith, x)
last_page Code last found e = ap (λ n. n / 4096) e
last_page Page last found e = ap (λ n. n / 4096) e

pub one_invalid : (n : ℕ) → n ≡ 1 → invalid_bit n ≡ 0 → ⊥
one_invalid n e z = let x : n % 2 ≡ 0 = z in omega (arith, e, x)

abbrev word_at : Shown → ℕ → TlbField → ℕ
word_at p j f = table_word (Tlb p.own.actor j f) p.own.steps

-- the word was loaded and isn't valid for the page
pub swept_none : (p q : Shown) (slot number found : ℕ) (f : TlbField) → IsAlike p q → slot ≡ number % size_of p.own.actor p.own.steps → IsLastField f (word_at p slot f) found
    → (found % 2 ≡ 0 → found / 4096 ≡ number → ⊥) → HasSwept (OnField number f) p q
swept_none p q slot number found f a is last not_so = record {
  machine = a.machine;
  actor = a.actor;
  size = a.size;
  gone = λ j g c valid at on. gone j g valid at on.0 on.1;
  words = λ j g. inl (a.words j g);
  owes = λ j g c e. a.due j g ∙ e;
}
  where
    gone : (j : ℕ) (g : TlbField) → invalid_bit (word_at q j g) ≡ 0 → word_at q j g / 4096 % size_of q.own.actor q.own.steps ≡ j → word_at q j g / 4096 ≡ number → g ≡ f → ⊥
    gone j g valid at on field =
        let j_is : j ≡ slot = sym at ∙ ap (λ n. n % size_of q.own.actor q.own.steps) on ∙ ap (λ n. number % n) a.size ∙ sym is in
        let w : word_at q j g ≡ word_at p slot f = a.words j g ∙ ap (λ k. word_at p k g) j_is ∙ ap (λ h. word_at p slot h) field in
        not_so (last_bit f (word_at p slot f) found last ∙ ap (λ n. n % 2) (sym w) ∙ valid) (last_page f (word_at p slot f) found last ∙ ap (λ n. n / 4096) (sym w) ∙ on)

-- it was, and 1 was stored there
pub swept_one : (p m q : Shown) (own slot number found : ℕ) (f : TlbField) → is_compare f ≡ true → IsAlike p m → slot ≡ number % size_of p.own.actor p.own.steps → IsLastField f (word_at p slot f) found
    → found / 4096 ≡ number → HasStored m q own slot f 1 → m.own.actor ≡ own → HasSwept (OnField number f) p q
swept_one p m q own slot number found f compare a is last page s own_is = record {
  machine = s.machine ∙ a.machine;
  actor = (sym s.owning.own_is ∙ sym own_is) ∙ a.actor;
  size = s.size ∙ a.size;
  gone = λ j g c valid at on. gone j g valid at on.0 on.1;
  words = λ j g. words j g (cases_eq j slot) (field_or_not g f);
  owes = λ j g c e. s.owes j g c (a.due j g ∙ e);
}
  where
    gone : (j : ℕ) (g : TlbField) → invalid_bit (word_at q j g) ≡ 0 → word_at q j g / 4096 % size_of q.own.actor q.own.steps ≡ j → word_at q j g / 4096 ≡ number → g ≡ f → ⊥
    gone j g valid at on field =
        let j_is : j ≡ slot = sym at ∙ ap (λ n. n % size_of q.own.actor q.own.steps) on ∙ ap (λ n. number % n) (s.size ∙ a.size) ∙ sym is in
        one_invalid (word_at q j g) (ap (λ k. word_at q k g) j_is ∙ ap (λ h. word_at q slot h) field ∙ s.here) valid

    words : (j : ℕ) (g : TlbField) → (j ≡ slot) ⊎ (j ≢ slot) → (g ≡ f) ⊎ (same_field g f ≡ false)
        → IsLeft p q j g ⊎ ((is_compare g ≡ true) × (word_at q j g ≡ 1) × OnField number f (word_at p j g / 4096) g)
    words j g (inr ne) k = inl (s.still j g (inl ne) ∙ a.words j g)
    words j g (inl e) (inr off) = inl (s.still j g (inr off) ∙ a.words j g)
    words j g (inl e) (inl field) = inr (
      ap is_compare field ∙ compare,
      ap (λ k. word_at q k g) e ∙ ap (λ h. word_at q slot h) field ∙ s.here,
      (ap (λ k. word_at p k g / 4096) e ∙ ap (λ h. word_at p slot h / 4096) field ∙ sym (last_page f (word_at p slot f) found last) ∙ page, field),
    )

pub swept_then : (T U : ℕ → TlbField → Type 0) (p m q : Shown) → HasSwept T p m → HasSwept U m q → HasSwept (λ n f. T n f ⊎ U n f) p q
swept_then T U p m q a b = record {
  machine = b.machine ∙ a.machine;
  actor = b.actor ∙ a.actor;
  size = b.size ∙ a.size;
  gone = λ j f c valid at on. gone j f c valid at on (b.words j f);
  words = λ j f. words j f (a.words j f) (b.words j f);
  owes = λ j f c e. b.owes j f c (a.owes j f c e);
}
  where
    gone : (j : ℕ) (f : TlbField) → is_compare f ≡ true → invalid_bit (word_at q j f) ≡ 0 → word_at q j f / 4096 % size_of q.own.actor q.own.steps ≡ j → T (word_at q j f / 4096) f ⊎ U (word_at q j f / 4096) f
        → IsLeft m q j f ⊎ ((is_compare f ≡ true) × (word_at q j f ≡ 1) × U (word_at m j f / 4096) f) → ⊥
    gone j f c valid at (inr u) w = b.gone j f c valid at u
    gone j f c valid at (inl t) (inr x) = one_invalid (word_at q j f) x.1 valid
    gone j f c valid at (inl t) (inl e) = a.gone j f c (ap invalid_bit (sym e) ∙ valid) (ap (λ n. word_at m j f / 4096 % n) (sym b.size) ∙ ap (λ n. n / 4096 % size_of q.own.actor q.own.steps) (sym e) ∙ at)
        (subst (λ n. T (n / 4096) f) e t)

    words : (j : ℕ) (f : TlbField) → IsLeft p m j f ⊎ ((is_compare f ≡ true) × (word_at m j f ≡ 1) × T (word_at p j f / 4096) f)
        → IsLeft m q j f ⊎ ((is_compare f ≡ true) × (word_at q j f ≡ 1) × U (word_at m j f / 4096) f)
        → IsLeft p q j f ⊎ ((is_compare f ≡ true) × (word_at q j f ≡ 1) × (T (word_at p j f / 4096) f ⊎ U (word_at p j f / 4096) f))
    words j f (inl e) (inl h) = inl (h ∙ e)
    words j f (inr x) (inl h) = inr (x.0, h ∙ x.1, inl x.2)
    words j f (inl e) (inr y) = inr (y.0, y.1, inr (subst (λ n. U (n / 4096) f) e y.2))
    words j f (inr x) (inr y) = inr (y.0, y.1, inl x.2)

pub swept_as : (T U : ℕ → TlbField → Type 0) (p q : Shown) → ((n : ℕ) (f : TlbField) → T n f → U n f) → ((n : ℕ) (f : TlbField) → is_compare f ≡ true → U n f → T n f) → HasSwept T p q → HasSwept U p q
swept_as T U p q to from a = record {
  machine = a.machine;
  actor = a.actor;
  size = a.size;
  gone = λ j f c valid at on. a.gone j f c valid at (from (word_at q j f / 4096) f c on);
  words = λ j f. words j f (a.words j f);
  owes = a.owes;
}
  where
    words : (j : ℕ) (f : TlbField) → IsLeft p q j f ⊎ ((is_compare f ≡ true) × (word_at q j f ≡ 1) × T (word_at p j f / 4096) f)
        → IsLeft p q j f ⊎ ((is_compare f ≡ true) × (word_at q j f ≡ 1) × U (word_at p j f / 4096) f)
    words j f (inl e) = inl e
    words j f (inr x) = inr (x.0, x.1, to (word_at p j f / 4096) f x.2)

abbrev OnThree : ℕ → ℕ → TlbField → Type 0
OnThree number n f = (OnField number Read n f ⊎ OnField number Write n f) ⊎ OnField number Code n f

of_three : (number n : ℕ) (f : TlbField) → OnThree number n f → OnPage number n f
of_three number n f (inl (inl x)) = x.0
of_three number n f (inl (inr x)) = x.0
of_three number n f (inr x) = x.0

one_of_three : (number n : ℕ) (f : TlbField) → is_compare f ≡ true → OnPage number n f → OnThree number n f
one_of_three number n Read c e = inl (inl (e, refl))
one_of_three number n Write c e = inl (inr (e, refl))
one_of_three number n Code c e = inr (e, refl)
one_of_three number n Page c e = absurd (cc)

pub swept_page : (p m1 m2 q : Shown) (number : ℕ) → HasSwept (OnField number Read) p m1 → HasSwept (OnField number Write) m1 m2 → HasSwept (OnField number Code) m2 q → HasSwept (OnPage number) p q
swept_page p m1 m2 q number a b c = swept_as (OnThree number) (OnPage number) p q (of_three number) (one_of_three number)
    (swept_then (λ n f. OnField number Read n f ⊎ OnField number Write n f) (OnField number Code) p m2 q (swept_then (OnField number Read) (OnField number Write) p m1 m2 a b) c)

pub swept_first : (p : Shown) (first : ℕ) → HasSwept (λ n _. IsWithin first 0 n) p p
swept_first p first = record {
  machine = refl;
  actor = refl;
  size = refl;
  gone = λ j f c valid at on. absurd (let x = on.0 in let y = on.1 in omega (arith, x, y));
  words = λ j f. inl refl;
  owes = λ j f c e. e;
}

pub swept_next : (p m q : Shown) (first i number : ℕ) → number ≡ first + i → HasSwept (λ n _. IsWithin first i n) p m → HasSwept (OnPage number) m q → HasSwept (λ n _. IsWithin first (i + 1) n) p q
swept_next p m q first i number e a b = swept_as (λ n f. IsWithin first i n ⊎ OnPage number n f) (λ n _. IsWithin first (i + 1) n) p q on back (swept_then (λ n _. IsWithin first i n) (OnPage number) p m q a b)
  where
    on : (n : ℕ) (f : TlbField) → IsWithin first i n ⊎ OnPage number n f → IsWithin first (i + 1) n
    on n f (inl x) = (x.0, let y = x.1 in omega (arith, y))
    on n f (inr x) = (omega (arith, x, e), omega (arith, x, e))

    back : (n : ℕ) (f : TlbField) → is_compare f ≡ true → IsWithin first (i + 1) n → IsWithin first i n ⊎ OnPage number n f
    back n f c x = ⊎_elim (λ (is : n ≡ number). inr is) (λ (ne : n ≢ number). inl (x.0, let y = x.1 in omega (arith, y, ne, e))) (cases_eq n number)

module _ (b : Book) (p m : Shown) (word slot number found : ℕ) (f : TlbField) (inside : IsInside b p) (compare : is_compare f ≡ true) (read : Adds p m word Load 0 found) (named : name_of word ≡ Tlb b.hart slot f) where
  owning : IsOwning p b.hart
  owning = record { acting = inside.acting; own_is = inside.book.number; hart = inside.hart; held = inside.held }

  alike : IsAlike p m
  alike = load_alike p m word found b.hart slot f read named

  owning_still : IsOwning m b.hart
  owning_still = record {
    acting = acting_adds p m word 0 found Load (Tlb b.hart slot f) read named (λ _. refl) inside.acting;
    own_is = inside.book.number ∙ sym alike.actor;
    hart = subst (λ (x : Shown). x.own.actor < x.machine.layout.harts) (sym read) inside.hart;
    held = alike.held ∙ inside.held ∙ ap suc (sym alike.actor);
  }

  pub may_wipe : May m word Store 1
  may_wipe = may_compare m word b.hart slot 1 owning_still f compare (inr refl) (λ _ z. absurd (omega (arith, z))) named

  module _ (last : IsLastStored (name_of word) (table_word (name_of word) p.own.steps) found) (is : slot ≡ number % b.size) where
    last_there : IsLastField f (word_at p slot f) found
    last_there = subst (λ w. IsLastStored w (table_word w p.own.steps) found) (named ∙ ap (λ a. Tlb a slot f) inside.book.number) last

    slot_there : slot ≡ number % size_of p.own.actor p.own.steps
    slot_there = is ∙ ap (λ n. number % n) inside.book.size

    pub wiped : (q : Shown) → found / 4096 ≡ number → Adds m q word Store 1 0 → HasSwept (OnField number f) p q
    wiped q page made = swept_one p m q b.hart slot number found f compare alike slot_there last_there page (has_stored m q word b.hart slot 1 f owning_still made named) (sym owning_still.own_is)

    pub not_wiped : (found % 2 ≡ 0 → found / 4096 ≡ number → ⊥) → HasSwept (OnField number f) p m
    not_wiped not_so = swept_none p m slot number found f alike slot_there last_there not_so

  pub inside_read : IsInside b m
  inside_read = record { acting = owning_still.acting; hart = owning_still.hart; book = book_alike b p m alike inside.book; held = owning_still.held }

  pub inside_wiped : (q : Shown) → Adds m q word Store 1 0 → IsInside b q
  inside_wiped q made = let s = has_stored m q word b.hart slot 1 f owning_still made named in record {
    acting = s.owning.acting;
    hart = s.owning.hart;
    book = record {
      number = s.owning.own_is;
      sized = inside.book.sized;
      size = inside_read.book.size ∙ sym s.size;
      used = inside_read.book.used ∙ sym (s.used ∙ not_page f compare);
    };
    held = s.owning.held;
  }
    where
      not_page : (g : TlbField) → is_compare g ≡ true → used_next m.own.actor (Tlb b.hart slot g) Store (λ j. was_free m.own.actor j m.own.steps) (size_of m.own.actor m.own.steps) (used_of m.own.actor m.own.steps) ≡ used_of m.own.actor m.own.steps
      not_page Read c = refl
      not_page Write c = refl
      not_page Code c = refl
      not_page Page c = absurd (cc)

pub swept_last : (p q : Shown) (first i count : ℕ) → i ≡ count → HasSwept (λ n _. IsWithin first i n) p q → HasSwept (λ n _. IsWithin first count n) p q
swept_last p q first i count e a = subst (λ k. HasSwept (λ n _. IsWithin first k n) p q) e a
