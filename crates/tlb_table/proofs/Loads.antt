-- What a load of a word of the own table leaves as it is: all that the record says of that table.
use Rattle.std.proofs.Common.{◌≡◌, ℕ, Bool, true, false, refl, sym, ap, subst, ◌∙◌}
use Rattle.std.specs.Prelude.{◌&&◌, if◌then◌else◌}
use Rattle.step_laws.specs.declared.map.TlbField.{TlbField}
use Rattle.step_laws.specs.declared.map.TlbField.TheVariants.{Write, Page}
use Rattle.step_laws.specs.declared.steps.WordOp.TheVariants.{Load}
use Rattle.step_laws.specs.Map.{Size, Tlb, name_of, same_field}
use Rattle.step_laws.specs.Marks.{is_clear, is_known_dirty, is_known_dirty_next, is_page}
use Rattle.step_laws.specs.Tables.{is_clear_due, is_clear_due_next, size_of, table_boot, table_next, table_word}
use Rattle.guest_ram.specs.Ports.{Shown, Adds}
use Rattle.guest_ram.proofs.Moves.{fold_adds, lock_adds}
use Rattle.tlb_entry.specs.declared.books.Book.{Book}
use Rattle.tlb_entry.specs.Books.{GoesWith}
use Rattle.tlb_entry.specs.Kept.{used_next, used_of, was_free}
use Rattle.tlb_table.specs.Lookups.{IsAlike}

known_more : (a page : ℕ) (at : ℕ → ℕ) (h j answer : ℕ) (f : TlbField) (b : Bool) → b ≡ true → is_known_dirty_next a page at (Tlb h j f) Load 0 answer b ≡ true
known_more a page at h j answer f b e = by (same_field f Write && (is_page page (at j) && is_clear answer))
  where
    by : (t : Bool) → (if t then true else b) ≡ true
    by true = refl
    by false = e

pub load_alike : (p q : Shown) (word answer h slot : ℕ) (f : TlbField) → Adds p q word Load 0 answer → name_of word ≡ Tlb h slot f → IsAlike p q
load_alike p q word answer h slot f made e = record {
  machine = ap (λ (x : Shown). x.machine) made;
  actor = ap (λ (x : Shown). x.own.actor) made;
  words = λ j g. ap (λ (x : Shown). table_word (Tlb x.own.actor j g) q.own.steps) made ∙ fold_adds (table_next (Tlb p.own.actor j g)) (table_boot (Tlb p.own.actor j g)) p q word 0 answer Load (Tlb h slot f) made e;
  size = ap (λ (x : Shown). size_of x.own.actor q.own.steps) made ∙ fold_adds (table_next (Size p.own.actor)) (table_boot (Size p.own.actor)) p q word 0 answer Load (Tlb h slot f) made e;
  used = ap (λ (x : Shown). used_of x.own.actor x.own.steps) made
      ∙ ap (λ v. used_next p.own.actor v Load (λ j. was_free p.own.actor j p.own.steps) (size_of p.own.actor p.own.steps) (used_of p.own.actor p.own.steps)) e;
  held = lock_adds p q word 0 answer Load (Tlb h slot f) made e;
  due = λ j g. ap (λ (x : Shown). is_clear_due x.own.actor j g x.own.steps) made
      ∙ ap (λ v. is_clear_due_next p.own.actor j g v Load 0 (size_of p.own.actor p.own.steps) (is_clear_due p.own.actor j g p.own.steps)) e;
  known = λ page k. ap (λ (x : Shown). is_known_dirty x.own.actor page x.own.steps) made
      ∙ ap (λ v. is_known_dirty_next p.own.actor page (λ j. table_word (Tlb p.own.actor j Page) p.own.steps) v Load 0 answer (is_known_dirty p.own.actor page p.own.steps)) e
      ∙ known_more p.own.actor page (λ j. table_word (Tlb p.own.actor j Page) p.own.steps) h slot answer f (is_known_dirty p.own.actor page p.own.steps) k;
}

pub alike_then : (p q r : Shown) → IsAlike p q → IsAlike q r → IsAlike p r
alike_then p q r a b = record {
  machine = b.machine ∙ a.machine;
  actor = b.actor ∙ a.actor;
  words = λ j g. b.words j g ∙ a.words j g;
  size = b.size ∙ a.size;
  used = b.used ∙ a.used;
  held = b.held ∙ a.held;
  due = λ j g. b.due j g ∙ a.due j g;
  known = λ page k. b.known page (subst (λ n. is_known_dirty n page q.own.steps ≡ true) refl (a.known page k));
}

pub book_alike : (b : Book) (p q : Shown) → IsAlike p q → GoesWith b p.own.actor p.own.steps → GoesWith b q.own.actor q.own.steps
book_alike b p q a g = record { number = g.number ∙ sym a.actor; sized = g.sized; size = g.size ∙ sym a.size; used = g.used ∙ sym a.used }
