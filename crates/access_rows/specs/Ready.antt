-- A hart that can make accesses.
use Rattle.std.specs.Prelude.{◌≡◌, ◌≤◌, true, false}
use Rattle.rv64_priv.specs.State.{Arch}
use Rattle.rv64_priv.specs.Csr.{regime}
use Rattle.step_laws.specs.Layout.{IsInLimits}
use Rattle.step_laws.specs.Marks.{is_armed}
use Rattle.step_laws.specs.Output.{is_finished}
use Rattle.step_laws.specs.Sections.{phase, inside}
use Rattle.guest_ram.specs.Ports.{Shown, layout_of}
use Rattle.tlb_entry.specs.declared.books.Book.{Book}
use Rattle.guest_access.specs.Reaching.{CanAccess, KnowsFills}

-- beside its table, inside or in its section, with a book that goes with its record by some fills
pub record IsReady (b : Book) (a : Arch) (p : Shown) : Type 0 where
  pub access : CanAccess b p
  pub fills : KnowsFills b (regime a) p

-- hart 1 inside, armed for the page of the word of RAM at 0x80020000, which is its page 32
pub record IsRival (p : Shown) : Type 0 where
  pub limits : IsInLimits (layout_of p)
  pub one : p.own.actor ≡ 1
  pub harts : 2 ≤ (layout_of p).harts
  pub going : is_finished p.own.steps ≡ false
  pub stands : phase p.own.steps ≡ inside
  pub armed : is_armed p.own.actor 32 p.own.steps ≡ true
