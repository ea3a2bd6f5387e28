-- What a flush comes to in its hart's log of steps and events. Lists are newest first.
use Rattle.std.specs.Prelude.{◌≡◌, ℕ, Bool, true, false, IsTrue, if◌then◌else◌, List, ◌∷◌, ◌++◌}
use Rattle.rv64_priv.specs.Flush.{Flush, Full, Pages}
use Rattle.rv64_priv.specs.declared.state.Regime.{Regime}
use Rattle.step_laws.specs.declared.steps.Step.{Step}
use Rattle.step_laws.specs.Discipline.{IsUnlock}
use Rattle.step_laws.specs.Harts.{taking}
use Rattle.step_laws.specs.Map.{Place}
use Rattle.machine_model.specs.Event.{Flushes}
use Rattle.machine_model.specs.Lawful.{Flushed}
use Rattle.machine_model.specs.Own.{Own}
use Rattle.machine_model.specs.Run.{includes, is_due}
use Rattle.machine_model.specs.State.{Setup}
use Rattle.guest_ram.specs.Ports.{Shown}
use Rattle.tlb_entry.specs.declared.books.Book.{Book}
use Rattle.turn_pieces.specs.Folds.{is_waiting}
use Rattle.turn_pieces.specs.Grows.{Grows}
use Rattle.turn_pieces.specs.Kept.{has_flushed_all}
use Rattle.turn_pieces.specs.Log.{AtLast, Log, did, events_of, steps_of}
use Rattle.turn_pieces.specs.Requests.{HasFetched, HasFlushed, flush_of}
use Rattle.turn_pieces.specs.Writers.{quietly}
use Rattle.access_pieces.specs.Serving.{Rests}

-- what is flushed where pages are asked for: everything where a leaf of 2 MiB or 1 GiB was entered
abbrev pub flush_made : (large : Bool) → (page count : ℕ) → Flush
flush_made large page count = if large then Full else Pages page count

-- the hart is not to stop at its limit
abbrev pub IsNotDue : Own → Setup → ℕ → Log → Type 0
IsNotDue o u a l = is_due u.limit (events_of l) a o.count ≡ false

-- The log goes on by the flush's steps alone, the last of which frees the lock, and there by its event, to one that tells of the port behind,
-- under a regime that may be another. What is asked for of the own hart, if no more, is flushed since its last fetch; so is a request that was
-- fetched before, and so is a hart that waits to begin
pub record IsPlaced (others : ℕ → Bool) (o : Own) (p q : Shown) (b' : Book) (later : Regime) (what : Flush) (u : Setup) (a : ℕ) (l : Log) : Type 0 where
  pub added : List Step
  pub steps_are : q.own.steps ≡ added ++ p.own.steps
  pub unlocks : AtLast (IsUnlock a) (quietly added l)
  pub grows : Grows u a l (did (Flushes a what) ∷ quietly added l)
  pub rests : Rests others o q b' later u a (did (Flushes a what) ∷ quietly added l)
  pub flushes : (asked : Flush) → IsTrue (includes what asked) → Flushed (events_of (did (Flushes a what) ∷ quietly added l)) a a asked
  pub begins : IsTrue (includes what Full) → is_waiting (taking a (steps_of l)) ≡ true → has_flushed_all a (did (Flushes a what) ∷ quietly added l) ≡ true
  pub serves : (source place request : ℕ) → HasFetched (Place a source place) request l → IsTrue (includes what (flush_of request))
      → HasFlushed a (Place a source place) request (did (Flushes a what) ∷ quietly added l)
