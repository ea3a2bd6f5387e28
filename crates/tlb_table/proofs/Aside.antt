-- A book goes with its hart's record over steps that are on no word of a table: on locks, marks, RAM and all others. For callers.
use Rattle.std.proofs.Common.{◌≡◌, ℕ, Bool, List, [], ◌∷◌, ◌++◌, refl, sym, ap, ◌∙◌}
use Rattle.step_laws.specs.declared.steps.Step.{Step}
use Rattle.step_laws.specs.declared.steps.WordOp.{WordOp}
use Rattle.step_laws.specs.Map.{Word, Size, Tlb, name_of}
use Rattle.step_laws.specs.Tables.{size_of, table_boot, table_next}
use Rattle.guest_ram.specs.Ports.{Shown, Adds, AreAllowed, GoesBy}
use Rattle.guest_ram.proofs.Moves.{fold_adds, fold_goes}
use Rattle.tlb_entry.specs.declared.books.Book.{Book}
use Rattle.tlb_entry.specs.Books.{GoesWith}
use Rattle.tlb_entry.specs.Kept.{used_next, used_of, was_free}

abbrev pub IsOffTable : Word → Type 0
IsOffTable (Size h) = ⊥
IsOffTable (Tlb h j f) = ⊥
IsOffTable _ = Unit {0}

used_aside : (a : ℕ) (w : Word) (op : WordOp) (free : ℕ → Bool) (size n : ℕ) → IsOffTable w → used_next a w op free size n ≡ n
used_aside a (Size h) op free size n off = absurd off
used_aside a (Tlb h j f) op free size n off = absurd off
used_aside a w op free size n off = refl

size_aside : (a : ℕ) (w : Word) (op : WordOp) (arg answer n : ℕ) → IsOffTable w → table_next (Size a) w op arg answer n ≡ n
size_aside a (Size h) op arg answer n off = absurd off
size_aside a (Tlb h j f) op arg answer n off = absurd off
size_aside a w op arg answer n off = refl

used_behind : (A : Word → Type 0) (p : Shown) (a : ℕ) (added r : List Step) → ((w : Word) → A w → IsOffTable w) → AreAllowed A p added → used_of a (added ++ r) ≡ used_of a r
used_behind A p a [] r aside all = refl
used_behind A p a (s ∷ added) r aside all = used_aside a (name_of s.word) s.op (λ j. was_free a j (added ++ r)) (size_of a (added ++ r)) (used_of a (added ++ r)) (aside (name_of s.word) all.0.0)
    ∙ used_behind A p a added r aside all.1

-- over a call
pub book_goes : (b : Book) (n : ℕ) (A : Word → Type 0) (p q : Shown) → ((w : Word) → A w → IsOffTable w) → GoesBy n A p q → GoesWith b p.own.actor p.own.steps → GoesWith b q.own.actor q.own.steps
book_goes b n A p q aside goes g = record {
  number = g.number ∙ ap (λ (x : Shown). x.own.actor) (sym goes.grown);
  sized = g.sized;
  size = g.size ∙ sym (ap (λ (x : Shown). size_of x.own.actor q.own.steps) goes.grown
      ∙ fold_goes (table_next (Size p.own.actor)) (table_boot (Size p.own.actor)) n A p q (λ w op arg answer x t. size_aside p.own.actor w op arg answer x (aside w t)) goes);
  used = g.used ∙ sym (ap (λ (x : Shown). used_of x.own.actor x.own.steps) goes.grown ∙ used_behind A p p.own.actor goes.added p.own.steps aside goes.allowed);
}

-- over one step
pub book_adds : (b : Book) (p q : Shown) (word arg answer : ℕ) (op : WordOp) (w : Word) → Adds p q word op arg answer → name_of word ≡ w → IsOffTable w → GoesWith b p.own.actor p.own.steps → GoesWith b q.own.actor q.own.steps
book_adds b p q word arg answer op w made e off g = record {
  number = g.number ∙ ap (λ (x : Shown). x.own.actor) (sym made);
  sized = g.sized;
  size = g.size ∙ sym (ap (λ (x : Shown). size_of x.own.actor q.own.steps) made ∙ fold_adds (table_next (Size p.own.actor)) (table_boot (Size p.own.actor)) p q word arg answer op w made e
      ∙ size_aside p.own.actor w op arg answer (size_of p.own.actor p.own.steps) off);
  used = g.used ∙ sym (ap (λ (x : Shown). used_of x.own.actor x.own.steps) made
      ∙ ap (λ v. used_next p.own.actor v op (λ j. was_free p.own.actor j p.own.steps) (size_of p.own.actor p.own.steps) (used_of p.own.actor p.own.steps)) e
      ∙ used_aside p.own.actor w op (λ j. was_free p.own.actor j p.own.steps) (size_of p.own.actor p.own.steps) (used_of p.own.actor p.own.steps) off);
}
