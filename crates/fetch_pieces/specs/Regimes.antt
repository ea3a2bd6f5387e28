-- Under which regimes a log tells of a port: the mode says nothing of the entries of a table.
use Rattle.std.specs.Prelude.{◌≡◌, ℕ, Bool, List}
use Rattle.rv64_priv.specs.Csr.{regime}
use Rattle.rv64_priv.specs.State.{Arch}
use Rattle.rv64_priv.specs.Trap.{trapped}
use Rattle.rv64_priv.specs.declared.state.Regime.{Regime}
use Rattle.machine_model.specs.Own.{Own}
use Rattle.machine_model.specs.State.{Setup}
use Rattle.guest_ram.specs.Ports.{Shown}
use Rattle.walk_laws.specs.KeptWalks.{Item}
use Rattle.tlb_entry.specs.declared.books.Book.{Book}
use Rattle.kept_fills.specs.Fills.{Fill, GoesWithFills}
use Rattle.turn_pieces.specs.Log.{Log}
use Rattle.access_pieces.specs.Serving.{Rests, Tells}

-- satp, SUM and MXR are the same
pub record IsAlike (r later : Regime) : Type 0 where
  pub satp : later.satp ≡ r.satp
  pub sum : later.sum ≡ r.sum
  pub mxr : later.mxr ≡ r.mxr

-- a book goes with its record by the same fills
abbrev pub FillsAgree : Type 0
FillsAgree = (p : Shown) (b : Book) (r later : Regime) (items : List Item) (fills : List Fill) → IsAlike r later → GoesWithFills p b r items fills → GoesWithFills p b later items fills

-- so a log tells of the port as before
abbrev pub TellsAgree : Type 0
TellsAgree = (o : Own) (p : Shown) (b : Book) (r later : Regime) (u : Setup) (a : ℕ) (l : Log) → IsAlike r later → Tells o p b r u a l → Tells o p b later u a l

abbrev pub RestsAgree : Type 0
RestsAgree = (others : ℕ → Bool) (o : Own) (p : Shown) (b : Book) (r later : Regime) (u : Setup) (a : ℕ) (l : Log) → IsAlike r later → Rests others o p b r u a l → Rests others o p b later u a l

-- and under the regime that a trap leaves
abbrev pub TrapsRest : Type 0
TrapsRest = (others : ℕ → Bool) (o : Own) (p : Shown) (b : Book) (c : Arch) (cause tval : ℕ) (u : Setup) (a : ℕ) (l : Log)
    → Rests others o p b (regime c) u a l → Rests others o p b (regime (trapped c cause tval)) u a l
