-- What a whole flush comes to, from its steps.
use Rattle.std.proofs.Common.{◌≡◌, ℕ, ◌+◌, ◌*◌, ◌/◌, ◌%◌, ◌<◌, Bool, true, false, List, [], ◌∷◌, ◌++◌, refl, sym, ap, subst, ◌∙◌, inl, inr, ⊎_elim, arith}
use Rattle.std.specs.Prelude.{◌⊎◌, ◌==◌, ◌||◌, not, min, max}
use Rattle.std.proofs.lemmas.Bool.{eqb-true, ltb-true}
use Rattle.rv64_priv.specs.declared.state.Kind.{Kind}
use Rattle.rv64_priv.specs.declared.state.Kind.TheVariants as kinds
use Rattle.rv64_priv.specs.declared.state.Regime.{Regime}
use Rattle.rv64_priv.specs.Flush.{Pages, covers}
use Rattle.rv64_priv.specs.Walk.{is_device}
use Rattle.step_laws.specs.declared.map.TlbField.{TlbField}
use Rattle.step_laws.specs.declared.map.TlbField.TheVariants.{Read, Write, Code, Page}
use Rattle.step_laws.specs.declared.steps.Step.{Step}
use Rattle.step_laws.specs.Fields.{invalid_bit, compare_page, request_kind}
use Rattle.step_laws.specs.Map.{Tlb}
use Rattle.step_laws.specs.Tables.{IsClean, IsNamed, is_compare, is_swept, is_victim, size_of, table_word}
use Rattle.guest_ram.specs.Ports.{Shown, Machine}
use Rattle.walk_laws.specs.WalkLoads.{reads_of}
use Rattle.walk_laws.specs.KeptWalks.{Item, HasStood, made_all}
use Rattle.tlb_entry.specs.declared.books.Book.{Book}
use Rattle.tlb_entry.specs.Compare.{compare_word, field_of}
use Rattle.tlb_entry.specs.Kept.{kept, kept_word}
use Rattle.tlb_lock.specs.Locking.{HasFreed}
use Rattle.kept_fills.specs.Fills.{Fill, in_mode, has_large, IsAmong, IsBacked, Ends, GoesWithFills}
use Rattle.kept_fills.proofs.Staying.{steps_behind, stood_more, stood_spared, walk_more}
use Rattle.flush.specs.Flushed.{behind_flush, IsLeft, IsWithin, IsForPages, HasFlushedAll, HasFlushedPages, HasFlushed}
use Rattle.flush.specs.Sweeping.{HasSwept}
use Rattle.flush.proofs.Clears.{below_swept, victim_swept, either}
use Rattle.flush.proofs.Wiped.{one_invalid}

compare_of : (kind : Kind) → is_compare (field_of kind) ≡ true
compare_of kinds.Load = refl
compare_of kinds.Store = refl
compare_of kinds.Fetch = refl

kept_bit : (f : TlbField) (n : ℕ) → invalid_bit (kept_word f n) ≡ invalid_bit n
kept_bit Read n = refl
kept_bit Write n = omega arith
kept_bit Code n = refl
kept_bit Page n = refl

kept_page : (f : TlbField) (n : ℕ) → kept_word f n / 4096 ≡ n / 4096
kept_page Read n = refl
kept_page Write n = omega arith
kept_page Code n = refl
kept_page Page n = refl

-- one field of the compare words of a kind
kind_of : (f : TlbField) → is_compare f ≡ true → (kind : Kind) × (field_of kind ≡ f)
kind_of Read c = (kinds.Load, refl)
kind_of Write c = (kinds.Store, refl)
kind_of Code c = (kinds.Fetch, refl)
kind_of Page c = absurd (cc)

zero_or_one : (n : ℕ) → (invalid_bit n ≡ 1) ⊎ (invalid_bit n ≡ 0)
zero_or_one n = ⊎_elim (λ (e : (n % 2 == 1) ≡ true). inl (eqb-true (n % 2) 1 e)) (λ (e : (n % 2 == 1) ≡ false). inr (let x : n % 2 ≡ 0 = grind (arith, e) in x)) (either (n % 2 == 1))

abbrev word_at : Shown → ℕ → TlbField → ℕ
word_at p j f = table_word (Tlb p.own.actor j f) p.own.steps

-- a full flush
module _ (p m1 m2 q : Shown) (b b' : Book) (size : size_of q.own.actor q.own.steps ≡ 64) (book : b' ≡ record { hart = b.hart; size = 64; used = 0; large = false })
    (locked : (j : ℕ) (f : TlbField) → IsLeft p m1 j f) (invalid : (j : ℕ) (f : TlbField) → is_compare f ≡ true → is_swept b.size 64 j ≡ true → word_at m2 j f ≡ 1)
    (left : (j : ℕ) (f : TlbField) → (is_compare f ≡ false) ⊎ (is_swept b.size 64 j ≡ false) → IsLeft m1 m2 j f) (unlocked : (j : ℕ) (f : TlbField) → IsLeft m2 q j f) (freed : HasFreed b.hart m2 q) where
  all_invalid : (j : ℕ) (f : TlbField) → is_compare f ≡ true → is_swept b.size 64 j ≡ true → word_at q j f ≡ 1
  all_invalid j f c s = unlocked j f ∙ invalid j f c s

  in_use_invalid : (j : ℕ) (f : TlbField) → is_compare f ≡ true → (j < size_of q.own.actor q.own.steps) ⊎ (is_victim j ≡ true) → word_at q j f ≡ 1
  in_use_invalid j f c (inl l) = all_invalid j f c (below_swept b.size j (subst (λ n. j < n) size l))
  in_use_invalid j f c (inr v) = all_invalid j f c (victim_swept b.size j v)

  none_valid : (j : ℕ) (kind : Kind) → j < size_of q.own.actor q.own.steps → invalid_bit (kept q.own.actor j (field_of kind) q.own.steps) ≡ 0 → ⊥
  none_valid j kind l valid = one_invalid (word_at q j (field_of kind)) (in_use_invalid j (field_of kind) (compare_of kind) (inl l)) (sym (kept_bit (field_of kind) (word_at q j (field_of kind))) ∙ valid)

  pub flushed_all : HasFlushedAll p q b b'
  flushed_all = record {
    invalid = all_invalid;
    others = λ j f off. unlocked j f ∙ left j f off ∙ locked j f;
    book = book;
    goes = λ added r later items fills e g. record {
      steps_are = steps_behind added items ∙ ap (λ l. added ++ l) g.steps_are ∙ sym e;
      large = ap (λ (x : Book). x.large) book;
      walked = λ f a. absurd a;
      backed = λ j kind l valid. absurd (none_valid j kind l valid);
      victims = λ j f v c. ap invalid_bit (in_use_invalid j f c (inr v));
    };
    none = λ r fills j kind f l valid a is. absurd (none_valid j kind l valid);
    clean = λ request j f c used. inl (ap invalid_bit (in_use_invalid j f c used));
    ended = (m2, freed);
  }

-- a flush of pages covers a leaf of 4 KiB exactly where it names its page
or_left : (a b : Bool) → (a || b) ≡ false → a ≡ false
or_left true b e = e
or_left false b e = refl

or_right : (a b : Bool) → (a || b) ≡ false → b ≡ false
or_right true b e = absurd (cc)
or_right false b e = e

not_false : (a : Bool) → not a ≡ false → a ≡ true
not_false true e = refl
not_false false e = absurd (cc)

no_large : (f : Fill) (fills : List Fill) → IsAmong f fills → has_large fills ≡ false → f.level ≡ 0
no_large f [] i e = absurd i
no_large f (h ∷ fills) (inl q) e = ap (λ (n : Fill). n.level) q ∙ eqb-true h.level 0 (not_false (h.level == 0) (or_left (not (h.level == 0)) (has_large fills) e))
no_large f (h ∷ fills) (inr i) e = no_large f fills i (or_right (not (h.level == 0)) (has_large fills) e)

not_within : (first count va : ℕ) → (IsWithin first count (va / 4096) → ⊥) → covers (Pages first count) va 0 ≡ false
not_within first count va out = by (covers (Pages first count) va 0) refl
  where
    by : (t : Bool) → covers (Pages first count) va 0 ≡ t → covers (Pages first count) va 0 ≡ false
    by false e = e
    by true e = absurd (let l : max first (va / 4096 / 1 * 1) < min (first + count) (va / 4096 / 1 * 1 + 1) = ltb-true _ _ e in out (omega (arith, l), omega (arith, l)))

not_covered : (first count va level : ℕ) → level ≡ 0 → (IsWithin first count (va / 4096) → ⊥) → covers (Pages first count) va level ≡ false
not_covered first count va level e out = ap (λ l. covers (Pages first count) va l) e ∙ not_within first count va out

key_page : (va : ℕ) (device user : Bool) → compare_word va false device user / 4096 ≡ va / 4096
key_page va true true = omega arith
key_page va true false = omega arith
key_page va false true = omega arith
key_page va false false = omega arith

module _ (p m1 m2 q : Shown) (b : Book) (first count : ℕ) (no_big : b.large ≡ false) (machine : q.machine ≡ p.machine) (size1 : size_of m1.own.actor m1.own.steps ≡ size_of p.own.actor p.own.steps)
    (locked : (j : ℕ) (f : TlbField) → IsLeft p m1 j f) (swept : HasSwept (λ n _. IsWithin first count n) m1 m2)
    (size2 : size_of q.own.actor q.own.steps ≡ size_of m2.own.actor m2.own.steps) (unlocked : (j : ℕ) (f : TlbField) → IsLeft m2 q j f) (freed : HasFreed b.hart m2 q) where
  size_same : size_of q.own.actor q.own.steps ≡ size_of p.own.actor p.own.steps
  size_same = size2 ∙ swept.size ∙ size1

  words : (j : ℕ) (f : TlbField) → IsLeft p q j f ⊎ ((is_compare f ≡ true) × (word_at q j f ≡ 1) × IsWithin first count (word_at p j f / 4096))
  words j f = by (swept.words j f)
    where
      by : IsLeft m1 m2 j f ⊎ ((is_compare f ≡ true) × (word_at m2 j f ≡ 1) × IsWithin first count (word_at m1 j f / 4096))
          → IsLeft p q j f ⊎ ((is_compare f ≡ true) × (word_at q j f ≡ 1) × IsWithin first count (word_at p j f / 4096))
      by (inl e) = inl (unlocked j f ∙ e ∙ locked j f)
      by (inr x) = inr (x.0, unlocked j f ∙ x.1, subst (λ n. IsWithin first count (n / 4096)) (locked j f) x.2)

  page_left : (j : ℕ) → IsLeft p q j Page
  page_left j = ⊎_elim (λ (e : IsLeft p q j Page). e) (λ (x : (is_compare Page ≡ true) × (word_at q j Page ≡ 1) × IsWithin first count (word_at p j Page / 4096)). absurd (let y = x.0 in cc)) (words j Page)

  -- a valid word is as it was, and not on one of the pages where it stands in its slot
  valid_left : (j : ℕ) (f : TlbField) → invalid_bit (word_at q j f) ≡ 0 → IsLeft p q j f
  valid_left j f valid = ⊎_elim (λ (e : IsLeft p q j f). e)
      (λ (x : (is_compare f ≡ true) × (word_at q j f ≡ 1) × IsWithin first count (word_at p j f / 4096)). absurd (one_invalid (word_at q j f) x.1 valid)) (words j f)

  out : (j : ℕ) (f : TlbField) → is_compare f ≡ true → invalid_bit (word_at q j f) ≡ 0 → word_at q j f / 4096 % size_of q.own.actor q.own.steps ≡ j → IsWithin first count (word_at q j f / 4096) → ⊥
  out j f c valid at x = swept.gone j f c (ap invalid_bit (sym (unlocked j f)) ∙ valid)
      (ap (λ n. word_at m2 j f / 4096 % n) (sym size2) ∙ ap (λ n. n / 4096 % size_of q.own.actor q.own.steps) (sym (unlocked j f)) ∙ at)
      (subst (λ n. IsWithin first count (n / 4096)) (unlocked j f) x)

  module _ (r : Regime) (items : List Item) (fills : List Fill) (g : GoesWithFills p b r items fills) where
    valid_word : (j : ℕ) (kind : Kind) → invalid_bit (kept q.own.actor j (field_of kind) q.own.steps) ≡ 0 → invalid_bit (word_at q j (field_of kind)) ≡ 0
    valid_word j kind valid = sym (kept_bit (field_of kind) (word_at q j (field_of kind))) ∙ valid

    kept_left : (j : ℕ) (kind : Kind) → invalid_bit (kept q.own.actor j (field_of kind) q.own.steps) ≡ 0 → kept q.own.actor j (field_of kind) q.own.steps ≡ kept p.own.actor j (field_of kind) p.own.steps
    kept_left j kind valid = ap (kept_word (field_of kind)) (valid_left j (field_of kind) (valid_word j kind valid))

    was_backed : (j : ℕ) (kind : Kind) → j < size_of q.own.actor q.own.steps → invalid_bit (kept q.own.actor j (field_of kind) q.own.steps) ≡ 0 → IsBacked p r items fills j kind
    was_backed j kind l valid = g.backed j kind (subst (λ n. j < n) size_same l) (ap invalid_bit (sym (kept_left j kind valid)) ∙ valid)

    page_of : (j : ℕ) (kind : Kind) (va : ℕ) (device user : Bool) → kept q.own.actor j (field_of kind) q.own.steps ≡ compare_word va false device user → word_at q j (field_of kind) / 4096 ≡ va / 4096
    page_of j kind va device user key = sym (kept_page (field_of kind) (word_at q j (field_of kind))) ∙ ap (λ n. n / 4096) key ∙ key_page va device user

    in_place : (j : ℕ) (kind : Kind) → (l : j < size_of q.own.actor q.own.steps) (valid : invalid_bit (kept q.own.actor j (field_of kind) q.own.steps) ≡ 0)
        → (k : IsBacked p r items fills j kind) → word_at q j (field_of kind) / 4096 % size_of q.own.actor q.own.steps ≡ j
    in_place j kind l valid k = ap (λ n. n % size_of q.own.actor q.own.steps) (page_of j kind k.fill.va (is_device k.fill.address) k.fill.user (kept_left j kind valid ∙ k.is_of.key))
        ∙ ap (λ n. k.fill.va / 4096 % n) size_same ∙ k.slot_is

    -- whatever fill a valid entry is of isn't covered
    spared : (j : ℕ) (kind : Kind) (f : Fill) (device user : Bool) → (l : j < size_of q.own.actor q.own.steps) (valid : invalid_bit (kept q.own.actor j (field_of kind) q.own.steps) ≡ 0)
        → IsAmong f fills → kept q.own.actor j (field_of kind) q.own.steps ≡ compare_word f.va false device user → covers (Pages first count) f.va f.level ≡ false
    spared j kind f device user l valid a key = not_covered first count f.va f.level (no_large f fills a (sym g.large ∙ no_big))
        (λ x. out j (field_of kind) (compare_of kind) (valid_word j kind valid) (in_place j kind l valid (was_backed j kind l valid))
        (subst (λ n. IsWithin first count n) (sym (page_of j kind f.va device user key)) x))

    backed_still : (added : List Step) (j : ℕ) (kind : Kind) → (l : j < size_of q.own.actor q.own.steps) (valid : invalid_bit (kept q.own.actor j (field_of kind) q.own.steps) ≡ 0)
        → IsBacked p r items fills j kind → IsBacked q r (behind_flush (Pages first count) added items) fills j kind
    backed_still added j kind l valid k = record {
      fill = k.fill;
      among = k.among;
      slot_is = ap (λ n. k.fill.va / 4096 % n) size_same ∙ k.slot_is;
      is_of = record {
        key = kept_left j kind valid ∙ k.is_of.key;
        page_is = page_left j ∙ k.is_of.page_is;
        ends = subst (λ (x : Machine). Ends x.layout.pages r kind k.fill) (sym machine) k.is_of.ends;
      };
      stood = subst (λ (x : Machine). HasStood k.fill.va k.fill.level (reads_of x.layout.pages (in_mode r k.fill.user) k.fill.va k.fill.finds) (behind_flush (Pages first count) added items)) (sym machine)
          (stood_spared k.fill.va k.fill.level (Pages first count) (reads_of p.machine.layout.pages (in_mode r k.fill.user) k.fill.va k.fill.finds) (made_all added ++ items)
          (spared j kind k.fill (is_device k.fill.address) k.fill.user l valid k.among (kept_left j kind valid ∙ k.is_of.key))
          (stood_more k.fill.va k.fill.level (reads_of p.machine.layout.pages (in_mode r k.fill.user) k.fill.va k.fill.finds) added items k.stood));
    }

    victims_still : (j : ℕ) (f : TlbField) → is_victim j ≡ true → is_compare f ≡ true → invalid_bit (word_at q j f) ≡ 1
    victims_still j f v c = ⊎_elim (λ (e : IsLeft p q j f). ap invalid_bit e ∙ g.victims j f v c)
        (λ (x : (is_compare f ≡ true) × (word_at q j f ≡ 1) × IsWithin first count (word_at p j f / 4096)). ap invalid_bit x.1) (words j f)

    goes_on : (added : List Step) → q.own.steps ≡ added ++ p.own.steps → GoesWithFills q b r (behind_flush (Pages first count) added items) fills
    goes_on added e = record {
      steps_are = steps_behind added items ∙ ap (λ l. added ++ l) g.steps_are ∙ sym e;
      large = g.large;
      walked = λ f a. walk_more p q r f added e machine (g.walked f a);
      backed = λ j kind l valid. backed_still added j kind l valid (was_backed j kind l valid);
      victims = victims_still;
    }

    clean_for : (request : ℕ) → IsForPages request first count → IsClean q.own.actor request q.own.steps
    clean_for request names j f c (inr v) = inl (victims_still j f v c)
    clean_for request names j f c (inl l) = by (zero_or_one (word_at q j f))
      where
        kind_field : (kind : Kind) × (field_of kind ≡ f)
        kind_field = kind_of f c

        valid_kept : invalid_bit (word_at q j f) ≡ 0 → invalid_bit (kept q.own.actor j (field_of kind_field.0) q.own.steps) ≡ 0
        valid_kept valid = kept_bit (field_of kind_field.0) (word_at q j (field_of kind_field.0)) ∙ ap (λ h. invalid_bit (word_at q j h)) kind_field.1 ∙ valid

        at : invalid_bit (word_at q j f) ≡ 0 → word_at q j f / 4096 % size_of q.own.actor q.own.steps ≡ j
        at valid = subst (λ h. word_at q j h / 4096 % size_of q.own.actor q.own.steps ≡ j) kind_field.1
            (in_place j kind_field.0 l (valid_kept valid) (was_backed j kind_field.0 l (valid_kept valid)))

        within : IsNamed request (compare_page (word_at q j f)) → IsWithin first count (word_at q j f / 4096)
        within (inl one) = absurd (let x = names.0 in let y : request_kind request ≡ 1 = one in omega (arith, x, y))
        within (inr x) = let lo = names.1 in let hi = names.2 in let a = x.1 in let b = x.2 in let same : compare_page (word_at q j f) / 4096 ≡ word_at q j f / 4096 = omega arith in
            (omega (arith, lo, a, same), omega (arith, hi, b, same))

        by : (invalid_bit (word_at q j f) ≡ 1) ⊎ (invalid_bit (word_at q j f) ≡ 0) → (invalid_bit (word_at q j f) ≡ 1) ⊎ (IsNamed request (compare_page (word_at q j f)) → ⊥)
        by (inl one) = inl one
        by (inr valid) = inr (λ named. out j f c valid (at valid) (within named))

  flushed_pages : HasFlushedPages p q b b first count
  flushed_pages = record {
    words = words;
    book = refl;
    goes = λ added r items fills e g. goes_on r items fills g added e;
    none = λ r items fills g j kind f l valid a is. spared r items fills g j kind f (is_device f.address) f.user l valid a is.key;
    clean = λ r items fills request g names. clean_for r items fills g request names;
    ended = (m2, freed);
  }

  pub pages_flushed : HasFlushed b.large p q b b first count
  pages_flushed = subst (λ (x : Bool). HasFlushed x p q b b first count) (sym no_big) flushed_pages
