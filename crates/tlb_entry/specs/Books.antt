-- A hart's book beside its record.
use Rattle.std.specs.Prelude.{◌≡◌, ℕ, List}
use Rattle.step_laws.specs.declared.steps.Step.{Step}
use Rattle.step_laws.specs.Fields.{IsSize}
use Rattle.step_laws.specs.Tables.{size_of}
use Rattle.tlb_entry.specs.declared.books.Book.{Book}
use Rattle.tlb_entry.specs.Kept.{used_of}

-- the book is this hart's, and holds what the steps of its record give; what it says of large leaves is left out, since no step shows it
pub record GoesWith (b : Book) (hart : ℕ) (r : List Step) : Type 0 where
  pub number : b.hart ≡ hart
  pub sized : IsSize b.size
  pub size : b.size ≡ size_of hart r
  pub used : b.used ≡ used_of hart r
