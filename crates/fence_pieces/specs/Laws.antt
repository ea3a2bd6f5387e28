-- Laws of fences: what they are to the log of the hart that makes them.
use Rattle.std.specs.Prelude.{◌≡◌, ◌≢◌, ◌≤◌, ◌<◌, ℕ, Bool, List, ◌++◌, Some}
use Rattle.std.specs.List.{AllByRecursion}
use Rattle.rv64_priv.specs.Flush.{Flush}
use Rattle.rv64_priv.specs.declared.state.Regime.{Regime}
use Rattle.machine_model.specs.Event.{Event}
use Rattle.machine_model.specs.Lawful.{Flushed}
use Rattle.machine_model.specs.Own.{Own}
use Rattle.machine_model.specs.State.{Setup}
use Rattle.guest_ram.specs.Ports.{GoesBy, Shown}
use Rattle.tlb_entry.specs.declared.books.Book.{Book}
use Rattle.kept_fills.specs.Beside.{IsBeside}
use Rattle.hart_calls.specs.Spans.{flush_of}
use Rattle.hart_calls.specs.declared.spans.Span.{Span}
use Rattle.sbi_calls.specs.Spans.{piece_of}
use Rattle.sbi_calls.specs.Fences.{HasBeenBusyAt, HasBeenHeld, HasFlushedOwn, HaveFlushed, IsAnsweredAt, IsOfAsks}
use Rattle.turn_pieces.specs.Grows.{Grows}
use Rattle.turn_pieces.specs.Log.{Log, events_of, steps_of}
use Rattle.turn_pieces.specs.Requests.{HasAsked}
use Rattle.turn_pieces.specs.Right.{AreFenced}
use Rattle.access_pieces.specs.Serving.{Rests}
use Rattle.table_pieces.specs.Flushing.{IsNotDue}
use Rattle.fence_pieces.specs.Asking.{HasPassed}
use Rattle.fence_pieces.specs.Behind.{AreNoFetches, IsBehind}
use Rattle.fence_pieces.specs.Owning.{AreFlushedIn, AreFlushedUpTo, ArePiecesFlushed, asked_by, flushes_of}

-- a hart at which each piece of a fence was answered since the base was asked for all of it since the actor's last fetch
abbrev pub FencesAreAsked : Type 0
FencesAreAsked = (span : Span) (t : ℕ) (p : Shown) (a : ℕ) (base l : Log) → a ≡ p.own.actor → steps_of l ≡ p.own.steps → IsBehind a base l → IsAnsweredAt span t (steps_of base) p → HasAsked a t (flush_of span) l

-- the own pieces from one number on, up to another, are in each log that told of the port before, and the hart is beside its table behind them
abbrev pub PiecesAreFlushed : Type 0
PiecesAreFlushed = (span : Span) (from to : ℕ) (p q : Shown) (b c : Book) (r : Regime) → IsBeside b p → (x : HaveFlushed span from p b to q c)
    → (others : ℕ → Bool) (o : Own) (u : Setup) (a : ℕ) (l : Log) → Rests others o p b r u a l → IsNotDue o u a l → IsBeside c q × AreFlushedIn span from to (flushes_of x a) others o q c r u a l

-- and so where the lock was found held behind them
abbrev pub PiecesAreHeld : Type 0
PiecesAreHeld = (span : Span) (from to holder : ℕ) (p q : Shown) (b c : Book) (r : Regime) → IsBeside b p → (x : HasBeenBusyAt span from to holder p q b c)
    → (others : ℕ → Bool) (o : Own) (u : Setup) (a : ℕ) (l : Log) → Rests others o p b r u a l → IsNotDue o u a l → AreFlushedIn span from to (flushes_of x.flushed a) others o q c r u a l

-- a turn of a fence that came to an answer other than that the lock is held is in each log that told of the port before, and leaves the hart beside
-- its table: the log goes on with the events of the own pieces alone
abbrev pub TurnsAreMade : Type 0
TurnsAreMade = (span : Span) (from to : ℕ) (p q : Shown) (b c : Book) (r : Regime) → IsBeside b p → (x : HasFlushedOwn span from to p q b c)
    → (others : ℕ → Bool) (o : Own) (u : Setup) (a : ℕ) (l : Log) → Rests others o p b r u a l → IsNotDue o u a l → IsBeside c q × AreFlushedIn span from to (flushes_of x.flushed a) others o q c r u a l

-- and so one that found the lock held
abbrev pub TurnsAreHeld : Type 0
TurnsAreHeld = (span : Span) (from to holder : ℕ) (p q : Shown) (b c : Book) (r : Regime) → IsBeside b p → (x : HasBeenHeld span from to holder p q b c)
    → (others : ℕ → Bool) (o : Own) (u : Setup) (a : ℕ) (l : Log) → Rests others o p b r u a l → IsNotDue o u a l → AreFlushedIn span from to (flushes_of x.busy.flushed a) others o q c r u a l

-- where the pieces up to one number were flushed since the actor's last fetch, and more of them are in a log behind with no fetch between, those up
-- to the end of these are
abbrev pub TurnsGoOn : Type 0
TurnsGoOn = (span : Span) (from to a : ℕ) (l late : Log) → IsBehind a l late → AreFlushedUpTo from span a a (events_of l) → ((i : ℕ) → from ≤ i → i < to → Flushed (events_of late) a a (asked_by (piece_of span i)))
    → AreFlushedUpTo to span a a (events_of late)

-- posts and polls of the actor's own are in each log that told of the port before, and leave the hart beside its table
abbrev pub AsksRest : Type 0
AsksRest = (most : ℕ) (p q : Shown) (b : Book) (r : Regime) → IsBeside b p → GoesBy most (IsOfAsks p.own.actor) p q
    → (others : ℕ → Bool) (o : Own) (u : Setup) (a : ℕ) (l : Log) → Rests others o p b r u a l → IsNotDue o u a l → IsBeside b q × HasPassed others o p q b r u a l

-- where all pieces are flushed since the actor's last fetch, all that the fence names is
abbrev pub PiecesAreWhole : Type 0
PiecesAreWhole = (span : Span) (a t : ℕ) (run : List Event) → ArePiecesFlushed span a t run → Flushed run a t (flush_of span)

-- Where each hart named is the own one, and all pieces are flushed, or another, and each piece was answered there since the base, the log has the
-- flushes that the execution of the fence asks for
abbrev pub FencesStand : Type 0
FencesStand = (span : Span) (p : Shown) (a : ℕ) (base l : Log) (harts : List ℕ) → a ≡ p.own.actor → steps_of l ≡ p.own.steps → IsBehind a base l
    → AllByRecursion (λ t. (t ≡ a → ArePiecesFlushed span a a (events_of l)) × (t ≢ a → IsAnsweredAt span t (steps_of base) p)) harts → AreFenced a l (Some (record { harts = harts; what = flush_of span }))

-- a log that goes on with these events more, none of them a fetch of the actor's, stands behind what it was
abbrev pub GrownIsBehind : Type 0
GrownIsBehind = (u : Setup) (a : ℕ) (l late : Log) (added : List Event) → Grows u a l late → events_of late ≡ added ++ events_of l → AreNoFetches a added → IsBehind a l late

-- what stands behind a log that stands behind another stands behind that
abbrev pub BehindStays : Type 0
BehindStays = (a : ℕ) (base l m : Log) → IsBehind a base l → IsBehind a l m → IsBehind a base m

-- and what was flushed since the actor's last fetch still is
abbrev pub FlushesStay : Type 0
FlushesStay = (a t : ℕ) (what : Flush) (base l : Log) → IsBehind a base l → Flushed (events_of base) a t what → Flushed (events_of l) a t what
