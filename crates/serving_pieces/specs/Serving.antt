-- What a served request comes to in its hart's log of steps and events. Lists are newest first.
use Rattle.std.specs.Prelude.{◌≡◌, ◌≢◌, ℕ, Bool, List, [], ◌∷◌, ◌++◌}
use Rattle.rv64_priv.specs.Flush.{Full}
use Rattle.rv64_priv.specs.declared.state.Regime.{Regime}
use Rattle.step_laws.specs.declared.request.Request.{Request}
use Rattle.step_laws.specs.declared.request.Request.TheVariants.{FlushAll, FlushPages, Drain}
use Rattle.step_laws.specs.declared.steps.Step.{Step}
use Rattle.step_laws.specs.Discipline.{IsUnlock}
use Rattle.machine_model.specs.Event.{Event, Flushes}
use Rattle.machine_model.specs.Own.{Own}
use Rattle.machine_model.specs.State.{Setup}
use Rattle.guest_ram.specs.Ports.{Shown}
use Rattle.tlb_entry.specs.declared.books.Book.{Book}
use Rattle.work_queue.specs.declared.rings.Served.{Served}
use Rattle.turn_pieces.specs.Grows.{Grows}
use Rattle.turn_pieces.specs.Log.{AtLast, Log, did, events_of, made}
use Rattle.turn_pieces.specs.Writers.{quietly}
use Rattle.access_pieces.specs.Serving.{Rests}
use Rattle.table_pieces.specs.Flushing.{IsNotDue, flush_made}
use Rattle.request_serving.specs.Served.{HasGone, HasMoved, idle, more, nobody, none, one}

-- the log with the flush that the request asks for; a drain asks for none
abbrev pub with_flush : Request → (large : Bool) → (a : ℕ) → Log → Log
with_flush FlushAll large a l = did (Flushes a Full) ∷ l
with_flush (FlushPages page count) large a l = did (Flushes a (flush_made large page count)) ∷ l
with_flush Drain large a l = l

-- the log tells of the port and rests, and its hart isn't to stop at its limit
pub record IsAtRest (others : ℕ → Bool) (o : Own) (p : Shown) (b : Book) (r : Regime) (u : Setup) (a : ℕ) (l : Log) : Type 0 where
  pub rests : Rests others o p b r u a l
  pub not_due : IsNotDue o u a l

-- The log goes on by the load, the flush's steps with its event where the lock is freed, and the ack, to one that tells of the port behind
pub record IsServedIn (others : ℕ → Bool) (o : Own) (p q : Shown) (b b' : Book) (r : Regime) (request : Request) (u : Setup) (a : ℕ) (l : Log) : Type 0 where
  pub load : Step
  pub added : List Step
  pub ack : Step
  pub steps_are : q.own.steps ≡ ack ∷ (added ++ load ∷ p.own.steps)
  pub unlocks : request ≢ Drain → AtLast (IsUnlock a) (quietly added (made load ∷ l))
  pub grows : Grows u a l (made ack ∷ with_flush request b.large a (quietly added (made load ∷ l)))
  pub rests : IsAtRest others o q b' r u a (made ack ∷ with_flush request b.large a (quietly added (made load ∷ l)))

-- it goes on by steps alone
pub record IsPassedIn (others : ℕ → Bool) (o : Own) (p q : Shown) (b' : Book) (r : Regime) (u : Setup) (a : ℕ) (l : Log) : Type 0 where
  pub added : List Step
  pub steps_are : q.own.steps ≡ added ++ p.own.steps
  pub grows : Grows u a l (quietly added l)
  pub rests : IsAtRest others o q b' r u a (quietly added l)

-- the flush of a source's turn, if it made one, and those of a round
abbrev pub flush_of_turn : {source : ℕ} {s : Served} {p : Shown} {b : Book} {any : Bool} {s' : Served} {q : Shown} {b' : Book} {now : Bool} → HasMoved source s p b any s' q b' now → (a : ℕ) → List Event
flush_of_turn (nobody absent) a = []
flush_of_turn (idle found) a = []
flush_of_turn {b = b} (one x) a = events_of (with_flush x.request b.large a [])

abbrev pub flushes_of_round : {s : Served} {p : Shown} {b : Book} {n : ℕ} {t : Served} {q : Shown} {c : Book} {any : Bool} → HasGone s p b n t q c any → (a : ℕ) → List Event
flushes_of_round none a = []
flushes_of_round (more before now) a = flush_of_turn now a ++ flushes_of_round before a

-- it goes on to one that tells of the port behind, with these events more
pub record EndsWith (added : List Event) (others : ℕ → Bool) (o : Own) (q : Shown) (b' : Book) (r : Regime) (u : Setup) (a : ℕ) (l : Log) : Type 0 where
  pub late : Log
  pub grows : Grows u a l late
  pub events_are : events_of late ≡ added ++ events_of l
  pub rests : IsAtRest others o q b' r u a late
