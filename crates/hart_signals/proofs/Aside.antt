-- What steps leave that are on other words: a hart's place beside its table, and what its record says of hart states. For callers too.
use Rattle.std.proofs.Common.{◌≡◌, ℕ, ◌<◌, Bool, false, List, [], ◌∷◌, ◌++◌, refl, sym, ap, subst, ◌∙◌}
use Rattle.step_laws.specs.declared.map.TlbField.{TlbField}
use Rattle.step_laws.specs.declared.steps.Step.{Step}
use Rattle.step_laws.specs.declared.steps.WordOp.{WordOp}
use Rattle.step_laws.specs.Harts.{Opening, closed, is_owing, is_owing_next, is_running, is_running_next, opening, opening_next, Taking, idle, taking, taking_next}
use Rattle.step_laws.specs.Map.{Word, Live, Hsm, Lock, Opaque, Size, Start, Tlb, name_of}
use Rattle.step_laws.specs.Tables.{held_lock_next, is_clear_due, is_clear_due_next}
use Rattle.guest_ram.specs.Areas.{IsOfTable}
use Rattle.guest_ram.specs.Ports.{Shown, AreAllowed, GoesBy, IsActing}
use Rattle.guest_ram.proofs.Moves.{fold_goes}
use Rattle.tlb_entry.specs.declared.books.Book.{Book}
use Rattle.tlb_table.proofs.Aside.{IsOffTable, book_goes}
use Rattle.kept_fills.specs.Beside.{IsBeside}
use Rattle.hart_signals.specs.Starts.{IsOfStart}

-- words of no table, and no lock
abbrev pub IsOffLock : Word → Type 0
IsOffLock (Lock h) = ⊥
IsOffLock w = IsOffTable w

off_table : (w : Word) → IsOffLock w → IsOffTable w
off_table (Lock h) off = absurd off
off_table w off = off

held_aside : (w : Word) (op : WordOp) (arg answer n : ℕ) → IsOffLock w → held_lock_next w op arg answer n ≡ n
held_aside (Lock h) op arg answer n off = absurd off
held_aside w op arg answer n off = refl

due_aside : (a j : ℕ) (f : TlbField) (w : Word) (op : WordOp) (arg size : ℕ) (b : Bool) → IsOffLock w → is_clear_due_next a j f w op arg size b ≡ b
due_aside a j f (Lock h) op arg size b off = absurd off
due_aside a j f (Size h) op arg size b off = absurd off
due_aside a j f (Tlb h i g) op arg size b off = absurd off
due_aside a j f w op arg size b off = refl

due_behind : (A : Word → Type 0) (p : Shown) (a j : ℕ) (f : TlbField) (added r : List Step) → ((w : Word) → A w → IsOffLock w) → AreAllowed A p added → is_clear_due a j f (added ++ r) ≡ is_clear_due a j f r
due_behind A p a j f [] r aside all = refl
due_behind A p a j f (s ∷ added) r aside all = due_aside a j f (name_of s.word) s.op s.arg _ (is_clear_due a j f (added ++ r)) (aside (name_of s.word) all.0.0) ∙ due_behind A p a j f added r aside all.1

pub beside_goes : (b : Book) (n : ℕ) (A : Word → Type 0) (p q : Shown) → ((w : Word) → A w → IsOffLock w) → GoesBy n A p q → IsActing q → IsBeside b p → IsBeside b q
beside_goes b n A p q aside goes acting k = record {
  acting = acting;
  hart = subst (λ (x : Shown). x.own.actor < x.machine.layout.harts) (sym goes.grown) k.hart;
  book = book_goes b n A p q (λ w t. off_table w (aside w t)) goes k.book;
  free = fold_goes held_lock_next 0 n A p q (λ w op arg answer x t. held_aside w op arg answer x (aside w t)) goes ∙ k.free;
  owes = λ j f c. ap (λ (x : Shown). is_clear_due x.own.actor j f x.own.steps) goes.grown ∙ due_behind A p p.own.actor j f goes.added p.own.steps aside goes.allowed ∙ k.owes j f c;
}

-- words that say nothing of hart states
abbrev pub IsOffStates : Word → Type 0
IsOffStates Live = ⊥
IsOffStates (Hsm h) = ⊥
IsOffStates (Start h) = ⊥
IsOffStates (Opaque h) = ⊥
IsOffStates _ = Unit {0}

pub table_off_states : (w : Word) → IsOfTable w → IsOffStates w
table_off_states (Lock h) t = tt
table_off_states (Size h) t = tt
table_off_states (Tlb h j f) t = tt
table_off_states w t = absurd t

running_aside : (a : ℕ) (w : Word) (op : WordOp) (arg answer : ℕ) (b : Bool) → IsOffStates w → is_running_next a w op arg answer b ≡ b
running_aside a (Hsm h) op arg answer b off = absurd off
running_aside a w op arg answer b off = refl

owing_aside : (a : ℕ) (w : Word) (op : WordOp) (arg answer : ℕ) (b : Bool) → IsOffStates w → is_owing_next a w op arg answer b ≡ b
owing_aside a Live op arg answer b off = absurd off
owing_aside a (Hsm h) op arg answer b off = absurd off
owing_aside a w op arg answer b off = refl

opening_aside : (w : Word) (op : WordOp) (arg answer : ℕ) (o : Opening) → IsOffStates w → opening_next w op arg answer o ≡ o
opening_aside Live op arg answer o off = absurd off
opening_aside (Hsm h) op arg answer o off = absurd off
opening_aside (Start h) op arg answer o off = absurd off
opening_aside (Opaque h) op arg answer o off = absurd off
opening_aside w op arg answer o off = refl

taking_aside : (a : ℕ) (w : Word) (op : WordOp) (arg answer : ℕ) (t : Taking) → IsOffStates w → taking_next a w op arg answer t ≡ t
taking_aside a (Hsm h) op arg answer t off = absurd off
taking_aside a (Start h) op arg answer t off = absurd off
taking_aside a (Opaque h) op arg answer t off = absurd off
taking_aside a w op arg answer t off = refl

module _ (n : ℕ) (A : Word → Type 0) (p q : Shown) (aside : (w : Word) → A w → IsOffStates w) (goes : GoesBy n A p q) where
  pub running_goes : is_running q.own.actor q.own.runs q.own.steps ≡ is_running p.own.actor p.own.runs p.own.steps
  running_goes = ap (λ (x : Shown). is_running x.own.actor x.own.runs q.own.steps) goes.grown
      ∙ fold_goes (is_running_next p.own.actor) p.own.runs n A p q (λ w op arg answer x t. running_aside p.own.actor w op arg answer x (aside w t)) goes

  pub owing_goes : is_owing q.own.actor q.own.steps ≡ is_owing p.own.actor p.own.steps
  owing_goes = ap (λ (x : Shown). is_owing x.own.actor q.own.steps) goes.grown
      ∙ fold_goes (is_owing_next p.own.actor) false n A p q (λ w op arg answer x t. owing_aside p.own.actor w op arg answer x (aside w t)) goes

  pub opening_goes : opening q.own.steps ≡ opening p.own.steps
  opening_goes = fold_goes opening_next closed n A p q (λ w op arg answer x t. opening_aside w op arg answer x (aside w t)) goes

  pub taking_goes : taking q.own.actor q.own.steps ≡ taking p.own.actor p.own.steps
  taking_goes = ap (λ (x : Shown). taking x.own.actor q.own.steps) goes.grown
      ∙ fold_goes (taking_next p.own.actor) idle n A p q (λ w op arg answer x t. taking_aside p.own.actor w op arg answer x (aside w t)) goes

-- words of the own table are those of a start too
pub table_start : (w : Word) → IsOfTable w → IsOfStart w
table_start (Lock h) t = tt
table_start (Size h) t = tt
table_start (Tlb h j f) t = tt
table_start w t = absurd t
