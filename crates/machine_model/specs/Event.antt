-- The events of the reference machine. An event carries what came of it: the ends of its walks, the word fetched, what an instruction
-- did, and where a hart begins.
use Rattle.std.specs.Prelude.{ℕ, Bool, false, List, [], Option, Some, None}
use Rattle.rv64_priv.specs.Flush.{Flush}
use Rattle.rv64_priv.specs.Walk.{Walked}
use Rattle.rv64_exec.specs.Code.{Code}
use Rattle.rv64_exec.specs.declared.needs.Answer.{Answer}
use Rattle.step_laws.specs.Map.{monitor}
use Rattle.machine_model.specs.declared.reason.Reason.{Reason}
use Rattle.machine_model.specs.Memory.{StoreEntry}

-- a hart that is to be started
pub record Starting : Type 0 where
  pub target : ℕ
  pub at : ℕ
  pub opaque : ℕ

-- what an instruction did: the answer that it got, the entry that it wrote, the bytes that it printed, the reason
-- that it gave, the hart that it started, and whether it stopped its own
pub record Outcome : Type 0 where
  pub answer : Answer
  pub entry : Option StoreEntry
  pub bytes : List ℕ
  pub reason : Option Reason
  pub starts : Option Starting
  pub stops : Bool

-- the answer alone
abbrev pub only : Answer → Outcome
only answer = record { answer = answer; entry = None; bytes = []; reason = None; starts = None; stops = false }

-- A walk that an access doesn't make means nothing.
pub data Event : Type 0 where
  Fetch : (hart : ℕ) (walk : Walked) (code : Code) → Event
  Exec : (hart : ℕ) (walk second : Walked) (did : Outcome) → Event
  -- with the walks that were made, the first page's first
  GiveUp : (hart : ℕ) (walks : List Walked) → Event
  Interrupt : (hart : ℕ) → Event
  Flushes : (hart : ℕ) (what : Flush) → Event
  -- at this address, with this in a1
  Start : (hart at opaque : ℕ) → Event
  Stop : (by : ℕ) (reason : Reason) → Event
  Await : (count : ℕ) → Event
  SnapBegin : Event
  SnapEnd : (pages : List ℕ) → Event
  Dump : (at : ℕ) (bytes : List ℕ) → Event

-- who makes an event; those of the script are the monitor's
abbrev pub actor_of : Event → ℕ
actor_of (Fetch h walk code) = h
actor_of (Exec h walk second did) = h
actor_of (GiveUp h walks) = h
actor_of (Interrupt h) = h
actor_of (Flushes h what) = h
actor_of (Start h at opaque) = h
actor_of (Stop by reason) = by
actor_of _ = monitor

-- what an event did besides changing its hart
abbrev pub did_of : Event → Outcome
did_of (Exec h walk second did) = did
did_of (Stop by reason) = record (only Answer.Nothing) { reason = Some reason }
did_of _ = only Answer.Nothing

-- the store entry that it added
abbrev pub entry_stored : Event → Option StoreEntry
entry_stored e = (did_of e).entry
