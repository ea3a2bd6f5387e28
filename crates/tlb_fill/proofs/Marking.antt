-- Marks by addresses, and the step that clears bit 1.
use Rattle.std.proofs.Common.{◌≡◌, ℕ, suc, ◌+◌, ◌-◌, ◌/◌, ◌^◌, ◌<◌, ◌≤◌, Bool, true, false, List, [], ◌∷◌, ◌++◌, refl, sym, ap, subst, ◌∙◌, arith}
use Rattle.std.proofs.lemmas.Bool.{eqb-true, eq-eqb}
use Rattle.step_laws.specs.declared.map.TlbField.{TlbField}
use Rattle.step_laws.specs.declared.map.TlbField.TheVariants.{Write, Page}
use Rattle.step_laws.specs.declared.steps.WordOp.{WordOp}
use Rattle.step_laws.specs.declared.steps.WordOp.TheVariants.{And}
use Rattle.step_laws.specs.Map.{Word, Dirty, Lock, Ram, Size, Tlb, name_of}
use Rattle.step_laws.specs.Marks.{is_armed, is_known_dirty, is_page}
use Rattle.step_laws.specs.Tables.{held_lock, held_lock_next, is_clear_due, is_clear_due_next, size_of, table_boot, table_next, table_word}
use Rattle.guest_ram.specs.Ports.{Shown, Adds, May, IsActing, AreAllowed, GoesBy, Machine}
use Rattle.guest_ram.proofs.MaySteps.{may_clear_clean}
use Rattle.guest_ram.proofs.Moves.{acting_adds, armed_goes, fold_adds, fold_goes, lock_adds, machine_goes, actor_goes}
use Rattle.tlb_entry.specs.declared.books.Book.{Book}
use Rattle.tlb_entry.specs.Books.{GoesWith}
use Rattle.tlb_entry.specs.Kept.{used_next, used_of, was_free}
use Rattle.tlb_table.specs.Changes.{IsKnownIn}
use Rattle.tlb_table.proofs.Aside.{IsOffTable, book_goes}
use Rattle.kept_fills.specs.Fills.{HasSameTable}
use Rattle.guest_ram.specs.Areas.{IsOfRam, IsOfTable, IsSteady}
use Rattle.step_laws.specs.declared.steps.Step.{Step}
use Rattle.kept_fills.specs.Beside.{IsBeside}
use Rattle.tlb_table.specs.Lookups.{IsAlike}
use Rattle.tlb_fill.specs.Stepping.{answer, IsArmedAt, IsOfFill, IsOfHit, IsOfMarks}
use Rattle.tlb_fill.specs.Outcomes.{ArmsAt}
use Rattle.tlb_fill.specs.declared.translation.Translated.{Translated}

page_is : (n address : ℕ) → is_page n address ≡ true → address / 4096 ≡ 524288 + n
page_is n address e = eqb-true (address / 4096) (2 ^ 31 / 4096 + n) e

pub below_ram : (n address : ℕ) → address / 4096 < 524288 → is_page n address ≡ true → ⊥
below_ram n address l e = let x = page_is n address e in omega (arith, l, x)

pub above_ram : (n address pages : ℕ) → 524288 ≤ address / 4096 → pages ≤ address / 4096 - 524288 → n < pages → is_page n address ≡ true → ⊥
above_ram n address pages lo l less e = let x = page_is n address e in omega (arith, lo, l, less, x)

pub is_number : (n address : ℕ) → 524288 ≤ address / 4096 → n ≡ address / 4096 - 524288 → is_page n address ≡ true
is_number n address lo e = eq-eqb (address / 4096) (2 ^ 31 / 4096 + n) (omega (arith, lo, e))

same_number : (n m address : ℕ) → is_page n address ≡ true → is_page m address ≡ true → n ≡ m
same_number n m address a b = let x = page_is n address a in let y = page_is m address b in omega (arith, x, y)

pub known_there : (q : Shown) (number address : ℕ) → is_page number address ≡ true → is_known_dirty q.own.actor number q.own.steps ≡ true → IsKnownIn address q
known_there q number address is known n less e = subst (λ m. is_known_dirty q.own.actor m q.own.steps ≡ true) (same_number number n address is e) known

pub armed_there : (q : Shown) (number address : ℕ) → is_page number address ≡ true → is_armed q.own.actor number q.own.steps ≡ true → IsArmedAt address q
armed_there q number address is armed n less e = subst (λ m. is_armed q.own.actor m q.own.steps ≡ true) (same_number number n address is e) armed

-- words off the table
word_aside : (a j : ℕ) (f : TlbField) (w : Word) (op : WordOp) (arg answer n : ℕ) → IsOffTable w → table_next (Tlb a j f) w op arg answer n ≡ n
word_aside a j f (Size h) op arg answer n off = absurd off
word_aside a j f (Tlb h i g) op arg answer n off = absurd off
word_aside a j f w op arg answer n off = refl

size_aside : (a : ℕ) (w : Word) (op : WordOp) (arg answer n : ℕ) → IsOffTable w → table_next (Size a) w op arg answer n ≡ n
size_aside a (Size h) op arg answer n off = absurd off
size_aside a (Tlb h i g) op arg answer n off = absurd off
size_aside a w op arg answer n off = refl

pub same_goes : (n : ℕ) (A : Word → Type 0) (p q : Shown) → ((w : Word) → A w → IsOffTable w) → GoesBy n A p q → HasSameTable p q
same_goes n A p q aside goes = record {
  machine = machine_goes n A p q goes;
  actor = actor_goes n A p q goes;
  size = ap (λ (x : Shown). size_of x.own.actor q.own.steps) goes.grown ∙ fold_goes (table_next (Size p.own.actor)) (table_boot (Size p.own.actor)) n A p q (λ w op arg answer x t. size_aside p.own.actor w op arg answer x (aside w t)) goes;
  words = λ j f. ap (λ (x : Shown). table_word (Tlb x.own.actor j f) q.own.steps) goes.grown
      ∙ fold_goes (table_next (Tlb p.own.actor j f)) (table_boot (Tlb p.own.actor j f)) n A p q (λ w op arg answer x t. word_aside p.own.actor j f w op arg answer x (aside w t)) goes;
}

pub marks_aside : (w : Word) → IsOfMarks w → IsOffTable w
marks_aside (Dirty i) m = tt
marks_aside w m = absurd m

pub same_then : (p q r : Shown) → HasSameTable p q → HasSameTable q r → HasSameTable p r
same_then p q r a b = record { machine = b.machine ∙ a.machine; actor = b.actor ∙ a.actor; size = b.size ∙ a.size; words = λ j f. b.words j f ∙ a.words j f }

pub same_none : (p : Shown) → HasSameTable p p
same_none p = record { machine = refl; actor = refl; size = refl; words = λ j f. refl }

-- bit 1 of a WRITE word is cleared
pub may_settle : (p : Shown) (word slot address : ℕ) (b : Book) → name_of word ≡ Tlb b.hart slot Write → b.hart ≡ p.own.actor → IsActing p → held_lock p.own.steps ≡ suc p.own.actor
    → table_word (Tlb p.own.actor slot Page) p.own.steps ≡ address → IsKnownIn address p → May p word And (2 ^ 64 - 3)
may_settle p word slot address b e own acting held page known = may_clear_clean p word slot (e ∙ ap (λ a. Tlb a slot Write) own) acting held (λ n less is. known n less (ap (is_page n) (sym page) ∙ is))

module _ (p q : Shown) (word slot hart arg found : ℕ) (made : Adds p q word And arg found) (e : name_of word ≡ Tlb hart slot Write) where
  pub same_settled : HasSameTable p q
  same_settled = record {
    machine = ap (λ (x : Shown). x.machine) made;
    actor = ap (λ (x : Shown). x.own.actor) made;
    size = ap (λ (x : Shown). size_of x.own.actor q.own.steps) made ∙ fold_adds (table_next (Size p.own.actor)) (table_boot (Size p.own.actor)) p q word arg found And (Tlb hart slot Write) made e;
    words = λ j f. ap (λ (x : Shown). table_word (Tlb x.own.actor j f) q.own.steps) made ∙ fold_adds (table_next (Tlb p.own.actor j f)) (table_boot (Tlb p.own.actor j f)) p q word arg found And (Tlb hart slot Write) made e;
  }

  pub due_settled : (j : ℕ) (f : TlbField) → is_clear_due q.own.actor j f q.own.steps ≡ is_clear_due p.own.actor j f p.own.steps
  due_settled j f = ap (λ (x : Shown). is_clear_due x.own.actor j f x.own.steps) made
      ∙ ap (λ v. is_clear_due_next p.own.actor j f v And arg (size_of p.own.actor p.own.steps) (is_clear_due p.own.actor j f p.own.steps)) e

  pub held_settled : held_lock q.own.steps ≡ held_lock p.own.steps
  held_settled = lock_adds p q word arg found And (Tlb hart slot Write) made e

  pub acting_settled : IsActing p → IsActing q
  acting_settled a = acting_adds p q word arg found And (Tlb hart slot Write) made e (λ _. refl) a

  pub used_settled : used_of q.own.actor q.own.steps ≡ used_of p.own.actor p.own.steps
  used_settled = ap (λ (x : Shown). used_of x.own.actor x.own.steps) made
      ∙ ap (λ v. used_next p.own.actor v And (λ j. was_free p.own.actor j p.own.steps) (size_of p.own.actor p.own.steps) (used_of p.own.actor p.own.steps)) e

  pub book_settled : (b : Book) → GoesWith b p.own.actor p.own.steps → GoesWith b q.own.actor q.own.steps
  book_settled b g = record { number = g.number ∙ sym same_settled.actor; sized = g.sized; size = g.size ∙ sym same_settled.size; used = g.used ∙ sym used_settled }

pub table_hit : (w : Word) → IsOfTable w → IsOfHit w
table_hit (Lock h) t = tt
table_hit (Size h) t = tt
table_hit (Tlb h j f) t = tt
table_hit w t = absurd t

pub marks_hit : (w : Word) → IsOfMarks w → IsOfHit w
marks_hit (Dirty i) t = tt
marks_hit w t = absurd t

-- who is armed stays so over steps on the table
table_steady : (w : Word) → IsOfTable w → IsSteady w
table_steady (Lock h) t = tt
table_steady (Size h) t = tt
table_steady (Tlb h j f) t = tt
table_steady w t = absurd t

pub armed_on : (n : ℕ) (p q : Shown) (address : ℕ) → GoesBy n IsOfTable p q → IsArmedAt address p → IsArmedAt address q
armed_on n p q address goes a page less is = armed_goes n IsOfTable p q page table_steady goes (a page (subst (λ (m : Machine). page < m.layout.pages) (machine_goes n IsOfTable p q goes) less) is)

pub arms_answer : (q : Shown) (device : Bool) (page va : ℕ) (result : Translated) → result ≡ answer device page va → IsArmedAt page q → ArmsAt page q result
arms_answer q device page va result e a = subst (ArmsAt page q) (sym e) (by device)
  where
    by : (d : Bool) → ArmsAt page q (answer d page va)
    by true = a
    by false = a

pub ram_aside : (w : Word) → IsOfRam w → IsOffTable w
ram_aside (Ram i) t = tt
ram_aside (Dirty i) t = tt
ram_aside w t = absurd t

held_aside : (w : Word) (op : WordOp) (arg answer n : ℕ) → IsOfRam w → held_lock_next w op arg answer n ≡ n
held_aside (Ram i) op arg answer n t = refl
held_aside (Dirty i) op arg answer n t = refl
held_aside w op arg answer n t = absurd t

due_aside : (a j : ℕ) (f : TlbField) (w : Word) (op : WordOp) (arg size : ℕ) (b : Bool) → IsOfRam w → is_clear_due_next a j f w op arg size b ≡ b
due_aside a j f (Ram i) op arg size b t = refl
due_aside a j f (Dirty i) op arg size b t = refl
due_aside a j f w op arg size b t = absurd t

due_behind : (p : Shown) (a j : ℕ) (f : TlbField) (added r : List Step) → AreAllowed IsOfRam p added → is_clear_due a j f (added ++ r) ≡ is_clear_due a j f r
due_behind p a j f [] r all = refl
due_behind p a j f (s ∷ added) r all = due_aside a j f (name_of s.word) s.op s.arg (size_of a (added ++ r)) (is_clear_due a j f (added ++ r)) all.0.0 ∙ due_behind p a j f added r all.1

-- a walk leaves the hart beside its table
pub beside_walk : (b : Book) (n : ℕ) (p q : Shown) → IsBeside b p → GoesBy n IsOfRam p q → IsActing q → IsBeside b q
beside_walk b n p q k goes acting = record {
  acting = acting;
  hart = subst (λ (x : Shown). x.own.actor < x.machine.layout.harts) (sym goes.grown) k.hart;
  book = book_goes b n IsOfRam p q ram_aside goes k.book;
  free = fold_goes held_lock_next 0 n IsOfRam p q (λ w op arg answer x t. held_aside w op arg answer x t) goes ∙ k.free;
  owes = λ j f c. ap (λ (x : Shown). is_clear_due x.own.actor j f x.own.steps) goes.grown ∙ due_behind p p.own.actor j f goes.added p.own.steps goes.allowed ∙ k.owes j f c;
}

pub beside_alike : (b : Book) (p q : Shown) → IsBeside b p → IsAlike p q → GoesWith b q.own.actor q.own.steps → IsActing q → IsBeside b q
beside_alike b p q k a book acting = record {
  acting = acting;
  hart = subst (λ (m : Machine). q.own.actor < m.layout.harts) (sym a.machine) (subst (λ n. n < p.machine.layout.harts) (sym a.actor) k.hart);
  book = book;
  free = a.held ∙ k.free;
  owes = λ j f c. a.due j f ∙ k.owes j f c;
}

pub same_alike : (p q : Shown) → IsAlike p q → HasSameTable p q
same_alike p q a = record { machine = a.machine; actor = a.actor; size = a.size; words = a.words }

pub ram_fill : (w : Word) → IsOfRam w → IsOfFill w
ram_fill (Ram i) t = tt
ram_fill (Dirty i) t = tt
ram_fill w t = absurd t

pub hit_fill : (w : Word) → IsOfHit w → IsOfFill w
hit_fill (Lock h) t = tt
hit_fill (Size h) t = tt
hit_fill (Tlb h j f) t = tt
hit_fill (Dirty i) t = tt
hit_fill w t = absurd t
