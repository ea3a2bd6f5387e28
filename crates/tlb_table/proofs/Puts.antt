-- What puts and clears come to.
use Rattle.std.proofs.Common.{◌≡◌, ◌≢◌, ℕ, ◌%◌, ◌<◌, Bool, true, false, refl, sym, ap, subst, ◌∙◌, inl, inr}
use Rattle.std.specs.Prelude.{◌==◌, ◌&&◌, nat_lt, if◌then◌else◌}
use Rattle.std.proofs.lemmas.Bool.{and_from, eq-eqb, lt-ltb}
use Rattle.step_laws.specs.declared.map.TlbField.{TlbField}
use Rattle.step_laws.specs.declared.map.TlbField.TheVariants.{Read, Write, Code, Page}
use Rattle.step_laws.specs.declared.words.Layout.{Layout}
use Rattle.step_laws.specs.Discipline.{IsInUse}
use Rattle.step_laws.specs.Map.{Tlb}
use Rattle.step_laws.specs.Marks.{MayClear, is_page}
use Rattle.step_laws.specs.Tables.{is_clear_due, is_compare, size_of, table_word}
use Rattle.guest_ram.specs.Ports.{Shown}
use Rattle.tlb_entry.specs.declared.books.Book.{Book}
use Rattle.tlb_entry.specs.declared.entries.Entry.{Entry}
use Rattle.tlb_entry.specs.Books.{GoesWith}
use Rattle.tlb_entry.specs.Filled.{entry_word}
use Rattle.tlb_entry.specs.Kept.{counted, is_free, used_of, was_free}
use Rattle.tlb_table.specs.Changes.{IsKnownIn, OwesNoMore}
use Rattle.tlb_table.proofs.Stores.{HasStored}

free_words : (r w c r' w' c' : ℕ) → r ≡ r' → w ≡ w' → c ≡ c' → ((r % 2 == 1) && ((w % 2 == 1) && (c % 2 == 1))) ≡ ((r' % 2 == 1) && ((w' % 2 == 1) && (c' % 2 == 1)))
free_words r w c r' w' c' e f g = ap (λ n. (n % 2 == 1) && ((w % 2 == 1) && (c % 2 == 1))) e ∙ ap (λ n. (r' % 2 == 1) && ((n % 2 == 1) && (c % 2 == 1))) f ∙ ap (λ n. (r' % 2 == 1) && ((w' % 2 == 1) && (n % 2 == 1))) g

counts : (b c : Bool) (n m k l : ℕ) → b ≡ c → n ≡ m → k ≡ l → counted b n k ≡ counted c m l
counts b c n m k l e f g = ap (λ (t : Bool). counted t n k) e ∙ ap (λ i. counted c i k) f ∙ ap (λ i. counted c m i) g

pub used_on : (p q : Shown) (own slot arg : ℕ) (f : TlbField) → HasStored p q own slot f arg → IsInUse p.own.actor slot p.own.steps → IsInUse q.own.actor slot q.own.steps
used_on p q own slot arg f a (inl x) = inl (subst (λ n. slot < n) (sym a.size) x)
used_on p q own slot arg f a (inr x) = inr x

pub record IsFilled (p q : Shown) (own slot : ℕ) (e : Entry) : Type 0 where
  pub words : (field : TlbField) → table_word (Tlb q.own.actor slot field) q.own.steps ≡ entry_word e field
  pub others : (other : ℕ) (field : TlbField) → other ≢ slot → table_word (Tlb q.own.actor other field) q.own.steps ≡ table_word (Tlb p.own.actor other field) p.own.steps
  pub used : used_of q.own.actor q.own.steps ≡ counted (is_free p.own.actor slot p.own.steps) (size_of p.own.actor p.own.steps) (used_of p.own.actor p.own.steps)
  pub size : size_of q.own.actor q.own.steps ≡ size_of p.own.actor p.own.steps
  pub owes : OwesNoMore p q

module _ (p0 p1 p2 p3 p4 : Shown) (own slot : ℕ) (e : Entry) (a1 : HasStored p0 p1 own slot Write 1) (a2 : HasStored p1 p2 own slot Page e.page) (a3 : HasStored p2 p3 own slot Read e.read) (a4 : HasStored p3 p4 own slot Code e.code) where
  page_there : table_word (Tlb p4.own.actor slot Page) p4.own.steps ≡ e.page
  page_there = a4.still slot Page (inr refl) ∙ a3.still slot Page (inr refl) ∙ a2.here

  pub fill_clear : IsKnownIn e.page p0 → MayClear p4.machine.layout p4.own.actor slot p4.own.steps
  fill_clear known page less is = a4.known page ∙ a3.known page ∙ a2.known page ∙ a1.known page
      ∙ known page (subst (λ (l : Layout). page < l.pages) (ap (λ m. m.layout) (a4.machine ∙ a3.machine ∙ a2.machine ∙ a1.machine)) less) (ap (is_page page) (sym page_there) ∙ is)

  was_as : was_free p1.own.actor slot p1.own.steps ≡ is_free p0.own.actor slot p0.own.steps
  was_as = free_words _ _ _ _ _ _ (a1.still slot Read (inr refl)) a1.before (a1.still slot Code (inr refl))

  pub fill_done : (p5 : Shown) → HasStored p4 p5 own slot Write e.write → slot < 1024 → IsFilled p0 p5 own slot e
  fill_done p5 a5 less = record {
    words = words;
    others = λ j f ne. a5.still j f (inl ne) ∙ a4.still j f (inl ne) ∙ a3.still j f (inl ne) ∙ a2.still j f (inl ne) ∙ a1.still j f (inl ne);
    used = a5.used ∙ a4.used ∙ a3.used ∙ a2.used
        ∙ ap (λ (t : Bool). if t then counted (was_free p1.own.actor slot p1.own.steps) (size_of p1.own.actor p1.own.steps) (used_of p1.own.actor p1.own.steps) else used_of p1.own.actor p1.own.steps)
        (and_from (own == p1.own.actor) (nat_lt slot 1024) (eq-eqb own p1.own.actor a1.owning.own_is) (lt-ltb slot 1024 less))
        ∙ counts _ _ _ _ _ _ was_as a1.size a1.used;
    size = a5.size ∙ a4.size ∙ a3.size ∙ a2.size ∙ a1.size;
    owes = λ j f c paid. a5.owes j f c (a4.owes j f c (a3.owes j f c (a2.owes j f c (a1.owes j f c paid))));
  }
    where
      words : (field : TlbField) → table_word (Tlb p5.own.actor slot field) p5.own.steps ≡ entry_word e field
      words Read = a5.still slot Read (inr refl) ∙ a4.still slot Read (inr refl) ∙ a3.here
      words Write = a5.here
      words Code = a5.still slot Code (inr refl) ∙ a4.here
      words Page = a5.still slot Page (inr refl) ∙ page_there

pub record IsCleared (p q : Shown) (slot : ℕ) : Type 0 where
  pub invalid : (field : TlbField) → is_compare field ≡ true → table_word (Tlb q.own.actor slot field) q.own.steps ≡ 1
  pub page : table_word (Tlb q.own.actor slot Page) q.own.steps ≡ table_word (Tlb p.own.actor slot Page) p.own.steps
  pub others : (other : ℕ) (field : TlbField) → other ≢ slot → table_word (Tlb q.own.actor other field) q.own.steps ≡ table_word (Tlb p.own.actor other field) p.own.steps
  pub owes : OwesNoMore p q
  pub pays : (field : TlbField) → is_compare field ≡ true → is_clear_due q.own.actor slot field q.own.steps ≡ false
  pub book : (b : Book) → GoesWith b p.own.actor p.own.steps → GoesWith b q.own.actor q.own.steps

pub clear_done : (p0 p1 p2 p3 : Shown) (own slot : ℕ) → own ≡ p0.own.actor → HasStored p0 p1 own slot Read 1 → HasStored p1 p2 own slot Write 1 → HasStored p2 p3 own slot Code 1 → IsCleared p0 p3 slot
clear_done p0 p1 p2 p3 own slot is a1 a2 a3 = record {
  invalid = invalid;
  page = a3.still slot Page (inr refl) ∙ a2.still slot Page (inr refl) ∙ a1.still slot Page (inr refl);
  others = λ j f ne. a3.still j f (inl ne) ∙ a2.still j f (inl ne) ∙ a1.still j f (inl ne);
  owes = λ j f c paid. a3.owes j f c (a2.owes j f c (a1.owes j f c paid));
  pays = pays;
  book = λ b g. record {
    number = g.number ∙ sym is ∙ a3.owning.own_is;
    sized = g.sized;
    size = g.size ∙ sym (a3.size ∙ a2.size ∙ a1.size);
    used = g.used ∙ sym (a3.used ∙ a2.used ∙ a1.used);
  };
}
  where
    invalid : (field : TlbField) → is_compare field ≡ true → table_word (Tlb p3.own.actor slot field) p3.own.steps ≡ 1
    invalid Read c = a3.still slot Read (inr refl) ∙ a2.still slot Read (inr refl) ∙ a1.here
    invalid Write c = a3.still slot Write (inr refl) ∙ a2.here
    invalid Code c = a3.here
    invalid Page c = absurd (cc)

    pays : (field : TlbField) → is_compare field ≡ true → is_clear_due p3.own.actor slot field p3.own.steps ≡ false
    pays Read c = a3.owes slot Read c (a2.owes slot Read c (a1.pays refl))
    pays Write c = a3.owes slot Write c (a2.pays refl)
    pays Code c = a3.pays refl
    pays Page c = absurd (cc)
