-- A log at which a call may be executed, and one in which it was.
use Rattle.std.specs.Prelude.{◌≡◌, ℕ, true}
use Rattle.rv64_priv.specs.declared.state.Regime.{Regime}
use Rattle.machine_model.specs.Own.{Own}
use Rattle.machine_model.specs.Run.{counts, last_of, passes}
use Rattle.machine_model.specs.State.{Setup}
use Rattle.guest_ram.specs.Ports.{Shown}
use Rattle.tlb_entry.specs.declared.books.Book.{Book}
use Rattle.turn_pieces.specs.Folds.{was_last}
use Rattle.turn_pieces.specs.Kept.{HasSaid}
use Rattle.turn_pieces.specs.Log.{Log, events_of, steps_of}
use Rattle.turn_pieces.specs.Owed.{nothing, owed}
use Rattle.access_pieces.specs.Serving.{Tells}

-- it tells of the port, and its last step owes no event
pub record Idles (o : Own) (p : Shown) (b : Book) (r : Regime) (u : Setup) (a : ℕ) (l : Log) : Type 0 where
  pub tells : Tells o p b r u a l
  pub idle : owed l ≡ nothing

-- it tells of the port, and the hart's last event in it counts an instruction: the execution, or the stop of all behind it
pub record Called (o : Own) (p : Shown) (b : Book) (r : Regime) (u : Setup) (a : ℕ) (l : Log) : Type 0 where
  pub tells : Tells o p b r u a l
  pub counts : passes counts (last_of a (events_of l)) ≡ true

-- a hart that took the last one from LIVE says that all harts have stopped
abbrev pub HasSaidLast : (a : ℕ) → Log → Type 0
HasSaidLast a l = was_last a (steps_of l) ≡ true → HasSaid l

-- such a log behind a call that stopped its hart
pub record Halted (o : Own) (p : Shown) (b : Book) (r : Regime) (u : Setup) (a : ℕ) (l : Log) : Type 0 where
  pub called : Called o p b r u a l
  pub said : HasSaidLast a l
