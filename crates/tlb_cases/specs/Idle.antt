-- A hart beside its own table.
use Rattle.std.specs.Prelude.{◌≡◌, ◌<◌, ℕ, true, false}
use Rattle.step_laws.specs.declared.map.TlbField.{TlbField}
use Rattle.step_laws.specs.Tables.{held_lock, is_clear_due, is_compare}
use Rattle.guest_ram.specs.Ports.{Shown, IsActing, layout_of}
use Rattle.tlb_entry.specs.declared.books.Book.{Book}
use Rattle.tlb_entry.specs.Books.{GoesWith}

-- no store of SIZE asks for anything any more
abbrev pub IsPaid : Shown → Type 0
IsPaid p = (slot : ℕ) (field : TlbField) → is_compare field ≡ true → is_clear_due p.own.actor slot field p.own.steps ≡ false

-- with its book, which goes with its record, and with so many locks: 0, or its own
pub record IsWith (b : Book) (lock : ℕ) (p : Shown) : Type 0 where
  pub acting : IsActing p
  pub hart : p.own.actor < (layout_of p).harts
  pub book : GoesWith b p.own.actor p.own.steps
  pub lock_is : held_lock p.own.steps ≡ lock
  pub paid : IsPaid p
