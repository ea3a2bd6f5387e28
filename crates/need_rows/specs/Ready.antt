-- A hart whose needs can be served, and one that can be started.
use Rattle.std.specs.Prelude.{◌≡◌, false}
use Rattle.rv64_priv.specs.State.{Arch}
use Rattle.rv64_priv.specs.Csr.{regime}
use Rattle.step_laws.specs.Harts.{is_owing, is_running}
use Rattle.guest_ram.specs.Ports.{Shown}
use Rattle.tlb_entry.specs.declared.books.Book.{Book}
use Rattle.kept_fills.specs.Beside.{IsBeside}
use Rattle.guest_access.specs.Reaching.{CanAccess, KnowsFills}
use Rattle.hart_calls.specs.States.{IsRunner}

-- beside its table and inside, with a book that goes with its record by some fills; it runs and makes no start
pub record IsReady (b : Book) (a : Arch) (p : Shown) : Type 0 where
  pub access : CanAccess b p
  pub fills : KnowsFills b (regime a) p
  pub runner : IsRunner p

-- beside its table, and stopped, with nothing that it owes LIVE
pub record IsHalted (b : Book) (p : Shown) : Type 0 where
  pub beside : IsBeside b p
  pub stopped : is_running p.own.actor p.own.runs p.own.steps ≡ false
  pub paid : is_owing p.own.actor p.own.steps ≡ false
