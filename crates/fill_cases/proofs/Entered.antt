-- A hart that enters stays beside its table; one inside stays inside over its TLB's steps.
use Rattle.std.proofs.Common.{◌≡◌, refl, ap, sym, subst, ◌∙◌, ℕ, ◌<◌, Bool, List, [], ◌∷◌, ◌++◌}
use Rattle.step_laws.specs.declared.map.TlbField.{TlbField}
use Rattle.step_laws.specs.declared.steps.Step.{Step}
use Rattle.step_laws.specs.declared.steps.WordOp.{WordOp}
use Rattle.step_laws.specs.Map.{Word, Pend, Run, Ram, Dirty, Lock, Size, Tlb, name_of}
use Rattle.step_laws.specs.Sections.{inside, phase}
use Rattle.step_laws.specs.Tables.{held_lock_next, is_clear_due, is_clear_due_next}
use Rattle.guest_ram.specs.Areas.{IsAside, IsOfSection, IsOfTable}
use Rattle.guest_ram.specs.Ports.{Shown, IsActing, AreAllowed, GoesBy}
use Rattle.guest_ram.proofs.Moves.{fold_goes, stands_goes}
use Rattle.tlb_entry.specs.declared.books.Book.{Book}
use Rattle.tlb_table.proofs.Aside.{IsOffTable, book_goes}
use Rattle.kept_fills.specs.Beside.{IsBeside}
use Rattle.tlb_fill.specs.Stepping.{IsOfFill}

section_off : (w : Word) → IsOfSection w → IsOffTable w
section_off Pend t = tt
section_off (Run a) t = tt
section_off w t = absurd t

held_aside : (w : Word) (op : WordOp) (arg answer n : ℕ) → IsOfSection w → held_lock_next w op arg answer n ≡ n
held_aside Pend op arg answer n t = refl
held_aside (Run a) op arg answer n t = refl
held_aside w op arg answer n t = absurd t

due_aside : (a j : ℕ) (f : TlbField) (w : Word) (op : WordOp) (arg size : ℕ) (b : Bool) → IsOfSection w → is_clear_due_next a j f w op arg size b ≡ b
due_aside a j f Pend op arg size b t = refl
due_aside a j f (Run h) op arg size b t = refl
due_aside a j f w op arg size b t = absurd t

due_behind : (p : Shown) (a j : ℕ) (f : TlbField) (added r : List Step) → AreAllowed IsOfSection p added → is_clear_due a j f (added ++ r) ≡ is_clear_due a j f r
due_behind p a j f [] r all = refl
due_behind p a j f (s ∷ added) r all = due_aside a j f (name_of s.word) s.op s.arg _ (is_clear_due a j f (added ++ r)) all.0.0 ∙ due_behind p a j f added r all.1

pub beside_entered : (b : Book) (n : ℕ) (p q : Shown) → IsBeside b p → GoesBy n IsOfSection p q → IsActing q → IsBeside b q
beside_entered b n p q k goes acting = record {
  acting = acting;
  hart = subst (λ (x : Shown). x.own.actor < x.machine.layout.harts) (sym goes.grown) k.hart;
  book = book_goes b n IsOfSection p q section_off goes k.book;
  free = fold_goes held_lock_next 0 n IsOfSection p q (λ w op arg answer x t. held_aside w op arg answer x t) goes ∙ k.free;
  owes = λ j f c. ap (λ (x : Shown). is_clear_due x.own.actor j f x.own.steps) goes.grown ∙ due_behind p p.own.actor j f goes.added p.own.steps goes.allowed ∙ k.owes j f c;
}

fill_aside : (w : Word) → IsOfFill w → IsAside w
fill_aside (Ram i) t = tt
fill_aside (Dirty i) t = tt
fill_aside (Lock h) t = tt
fill_aside (Size h) t = tt
fill_aside (Tlb h j f) t = tt
fill_aside w t = absurd t

table_aside : (w : Word) → IsOfTable w → IsAside w
table_aside (Lock h) t = tt
table_aside (Size h) t = tt
table_aside (Tlb h j f) t = tt
table_aside w t = absurd t

pub inside_filled : (n : ℕ) (p q : Shown) → GoesBy n IsOfFill p q → phase p.own.steps ≡ inside → phase q.own.steps ≡ inside
inside_filled n p q goes is = (stands_goes n IsOfFill p q fill_aside goes).phase ∙ is

pub inside_flushed : (n : ℕ) (p q : Shown) → GoesBy n IsOfTable p q → phase p.own.steps ≡ inside → phase q.own.steps ≡ inside
inside_flushed n p q goes is = (stands_goes n IsOfTable p q table_aside goes).phase ∙ is
