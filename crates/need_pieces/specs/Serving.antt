-- What a served need comes to in its hart's log of steps and events.
use Rattle.std.specs.Prelude.{◌≡◌, ℕ, ◌<◌, ◌^◌, Bool, true}
use Rattle.rv64_priv.specs.declared.state.Regime.{Regime}
use Rattle.rv64_exec.specs.declared.needs.Answer.{Answer}
use Rattle.rv64_exec.specs.declared.needs.Need.{Need}
use Rattle.machine_model.specs.Event.{only}
use Rattle.machine_model.specs.Own.{Own, own_executed}
use Rattle.machine_model.specs.State.{Setup}
use Rattle.guest_ram.specs.Ports.{Shown}
use Rattle.tlb_entry.specs.declared.books.Book.{Book}
use Rattle.turn_pieces.specs.Log.{Log}
use Rattle.access_pieces.specs.Serving.{Counted, MayGiveUp, Rests}
use Rattle.call_pieces.specs.Idle.{HasSaidLast}
use Rattle.table_pieces.specs.Flushing.{IsNotDue}
use Rattle.need_serving.specs.declared.ends.NeedEnd.{NeedEnd}
use Rattle.need_serving.specs.declared.ends.NeedEnd.TheVariants as ends

-- a value that an instruction hands on is a register's
abbrev pub IsOfRegister : Need → Type 0
IsOfRegister (Need.Store va width value) = value < 2 ^ 64
IsOfRegister (Need.Amo va op wide value) = value < 2 ^ 64
IsOfRegister _ = Unit {0}

-- the log tells of the port and rests, and its hart, which runs and isn't to stop at its limit, may execute what it holds
pub record MayServe (others : ℕ → Bool) (o : Own) (p : Shown) (b : Book) (r : Regime) (u : Setup) (a : ℕ) (l : Log) : Type 0 where
  pub rests : Rests others o p b r u a l
  pub not_due : IsNotDue o u a l
  pub runs : o.runs ≡ true

-- the hart behind an instruction with this answer, and behind one that stopped it
abbrev pub answered : Answer → Own → Own
answered answer o = own_executed (only answer) o

abbrev pub halted : Own → Own
halted o = own_executed (record (only Answer.Nothing) { stops = true }) o

-- a stop is counted, and where the hart was the last it is said that all have stopped
pub record Stopped (others : ℕ → Bool) (o : Own) (q : Shown) (b : Book) (r : Regime) (u : Setup) (a : ℕ) (l : Log) : Type 0 where
  pub counted : Counted others o q b r u a l
  pub said : HasSaidLast a l

-- the instruction was executed with this answer, or stopped its hart, and the hart's last event then counts an instruction; or it is as it was and
-- may be given up
abbrev pub IsServedIn : (others : ℕ → Bool) → Own → NeedEnd → Shown → Book → Regime → Setup → ℕ → Log → Type 0
IsServedIn others o (ends.Done answer) q b r u a l = Counted others (answered answer o) q b r u a l
IsServedIn others o ends.Stopped q b r u a l = Stopped others (halted o) q b r u a l
IsServedIn others o end q b r u a l = MayGiveUp others o q b r u a l
