-- A hart beside its own table, between its uses.
use Rattle.std.specs.Prelude.{◌≡◌, ◌<◌, ℕ, true, false}
use Rattle.step_laws.specs.declared.map.TlbField.{TlbField}
use Rattle.step_laws.specs.Tables.{held_lock, is_clear_due, is_compare}
use Rattle.guest_ram.specs.Ports.{Shown, IsActing, layout_of}
use Rattle.tlb_entry.specs.declared.books.Book.{Book}
use Rattle.tlb_entry.specs.Books.{GoesWith}

-- No store of SIZE asks any more that words are cleared. So it is of every record that keeps to the discipline, where no lock is held
abbrev pub OwesNothing : Shown → Type 0
OwesNothing p = (slot : ℕ) (field : TlbField) → is_compare field ≡ true → is_clear_due p.own.actor slot field p.own.steps ≡ false

-- a hart that hasn't made its last step and holds no lock, with a book that goes with its record
pub record IsBeside (b : Book) (p : Shown) : Type 0 where
  pub acting : IsActing p
  pub hart : p.own.actor < (layout_of p).harts
  pub book : GoesWith b p.own.actor p.own.steps
  pub free : held_lock p.own.steps ≡ 0
  pub owes : OwesNothing p
