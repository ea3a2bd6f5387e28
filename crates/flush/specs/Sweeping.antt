-- Words that the proofs of flushes need alone: what is known between their steps.
use Rattle.std.specs.Prelude.{◌≡◌, ◌⊎◌, ℕ, suc, ◌/◌, ◌%◌, ◌<◌, true, false}
use Rattle.step_laws.specs.declared.map.TlbField.{TlbField}
use Rattle.step_laws.specs.Fields.{invalid_bit}
use Rattle.step_laws.specs.Map.{Tlb}
use Rattle.step_laws.specs.Tables.{held_lock, is_clear_due, is_compare, size_of, table_word}
use Rattle.guest_ram.specs.Ports.{Shown, IsActing, layout_of}
use Rattle.tlb_entry.specs.declared.books.Book.{Book}
use Rattle.tlb_entry.specs.Books.{GoesWith}
use Rattle.flush.specs.Flushed.{IsLeft}

-- a hart that holds its lock, with its book
pub record IsInside (b : Book) (p : Shown) : Type 0 where
  pub acting : IsActing p
  pub hart : p.own.actor < (layout_of p).harts
  pub book : GoesWith b p.own.actor p.own.steps
  pub held : held_lock p.own.steps ≡ suc p.own.actor

-- The compare words of these slots are 1, and all others stand as they stood. A word owes nothing that is one of them, or that owed
-- nothing
pub record HasCleared (Slots : ℕ → Type 0) (p q : Shown) : Type 0 where
  pub machine : q.machine ≡ p.machine
  pub actor : q.own.actor ≡ p.own.actor
  pub size : size_of q.own.actor q.own.steps ≡ size_of p.own.actor p.own.steps
  pub invalid : (slot : ℕ) (field : TlbField) → Slots slot → is_compare field ≡ true → table_word (Tlb q.own.actor slot field) q.own.steps ≡ 1
  pub left : (slot : ℕ) (field : TlbField) → (is_compare field ≡ false) ⊎ (Slots slot → ⊥) → IsLeft p q slot field
  pub owes : (slot : ℕ) (field : TlbField) → is_compare field ≡ true → Slots slot ⊎ (is_clear_due p.own.actor slot field p.own.steps ≡ false) → is_clear_due q.own.actor slot field q.own.steps ≡ false

-- The valid compare words on pages of a set, that stand in the main slot of their page, are 1, and all others stand as they stood
pub record HasSwept (On : ℕ → TlbField → Type 0) (p q : Shown) : Type 0 where
  pub machine : q.machine ≡ p.machine
  pub actor : q.own.actor ≡ p.own.actor
  pub size : size_of q.own.actor q.own.steps ≡ size_of p.own.actor p.own.steps
  pub gone : (slot : ℕ) (field : TlbField) → is_compare field ≡ true → invalid_bit (table_word (Tlb q.own.actor slot field) q.own.steps) ≡ 0
      → table_word (Tlb q.own.actor slot field) q.own.steps / 4096 % size_of q.own.actor q.own.steps ≡ slot → On (table_word (Tlb q.own.actor slot field) q.own.steps / 4096) field → ⊥
  pub words : (slot : ℕ) (field : TlbField) → IsLeft p q slot field
      ⊎ ((is_compare field ≡ true) × (table_word (Tlb q.own.actor slot field) q.own.steps ≡ 1) × On (table_word (Tlb p.own.actor slot field) p.own.steps / 4096) field)
  pub owes : (slot : ℕ) (field : TlbField) → is_compare field ≡ true → is_clear_due p.own.actor slot field p.own.steps ≡ false → is_clear_due q.own.actor slot field q.own.steps ≡ false

abbrev pub OnPage : (number : ℕ) → ℕ → TlbField → Type 0
OnPage number n field = n ≡ number

-- one field of the words on a page
abbrev pub OnField : (number : ℕ) → TlbField → ℕ → TlbField → Type 0
OnField number at n field = (n ≡ number) × (field ≡ at)
