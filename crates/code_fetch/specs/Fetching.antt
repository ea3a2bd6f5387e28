-- What a fetch comes to.
use Rattle.std.specs.Prelude.{ℕ, ◌%◌}
use Rattle.rv64_priv.specs.declared.state.Kind.{Kind}
use Rattle.rv64_priv.specs.declared.state.Regime.{Regime}
use Rattle.rv64_priv.specs.Trap.{access_fault}
use Rattle.step_laws.specs.declared.steps.WordOp.TheVariants.{Load}
use Rattle.machine_model.specs.Memory.{number_in}
use Rattle.guest_ram.specs.Ports.{Shown}
use Rattle.tlb_entry.specs.declared.books.Book.{Book}
use Rattle.tlb_fill.specs.declared.translation.Translated.TheVariants as gives
use Rattle.tlb_lock.specs.declared.lock.Busy.{Busy}
use Rattle.guest_access.specs.Reaching.{Translates}
use Rattle.guest_access.specs.Stepping.{HasStepped}
use Rattle.code_fetch.specs.declared.fetching.Fetched.{Fetched}
use Rattle.code_fetch.specs.declared.fetching.Fetched.TheVariants as comes

-- pc was translated, and then the word of RAM loaded that has the four bytes there; or the translation's fault is the fetch's, that of a
-- device's page an access fault at pc; or the lock was held
pub data HasFetched (p q : Shown) (b b' : Book) (r : Regime) (pc : ℕ) : Fetched → Type 0 where
  word : (m : Shown) (pa found : ℕ) → Translates p m b b' r Kind.Fetch pc (gives.Ram pa) → HasStepped Load pa 0 found m q → HasFetched p q b b' r pc (comes.Word (number_in found (pa % 8) 4))
  on_device : (pa : ℕ) → Translates p q b b' r Kind.Fetch pc (gives.Device pa) → HasFetched p q b b' r pc (comes.Fault (access_fault Kind.Fetch) pc)
  faulted : (cause tval : ℕ) → Translates p q b b' r Kind.Fetch pc (gives.Fault cause tval) → HasFetched p q b b' r pc (comes.Fault cause tval)
  held : (busy : Busy) → Translates p q b b' r Kind.Fetch pc (gives.Busy busy) → HasFetched p q b b' r pc (comes.Busy busy)
