-- Laws of fetches: what the steps of a fetch are to its hart's log.
use Rattle.std.specs.Prelude.{ℕ, Bool}
use Rattle.rv64_priv.specs.Csr.{regime}
use Rattle.rv64_priv.specs.State.{Arch}
use Rattle.machine_model.specs.Own.{Own}
use Rattle.machine_model.specs.State.{Setup}
use Rattle.guest_ram.specs.Ports.{Shown}
use Rattle.tlb_entry.specs.declared.books.Book.{Book}
use Rattle.guest_access.specs.Reaching.{CanAccess}
use Rattle.code_fetch.specs.Fetching.{HasFetched}
use Rattle.code_fetch.specs.declared.fetching.Fetched.{Fetched}
use Rattle.turn_pieces.specs.Log.{Log}
use Rattle.fetch_pieces.specs.Fetching.{IsLogged, MayFetch}

-- a fetch at pc is in each log of a hart that may fetch
abbrev pub FetchesAreLogged : Type 0
FetchesAreLogged = (p q : Shown) (b b' : Book) (c : Arch) (f : Fetched) → CanAccess b p → HasFetched p q b b' (regime c) c.pc f
    → (others : ℕ → Bool) (o : Own) (u : Setup) (a : ℕ) (l : Log) → MayFetch others o p b c u a l → IsLogged f others o p q b' c u a l
