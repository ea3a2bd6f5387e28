-- What the own pieces of a fence come to in its hart's log. Lists are newest first.
use Rattle.std.specs.Prelude.{◌≡◌, ◌≤◌, ◌<◌, ℕ, Bool, List, [], ◌∷◌, ◌++◌}
use Rattle.rv64_priv.specs.Flush.{Flush, Full, Pages}
use Rattle.rv64_priv.specs.declared.state.Regime.{Regime}
use Rattle.step_laws.specs.declared.request.Request.{Request}
use Rattle.step_laws.specs.declared.request.Request.TheVariants.{FlushAll, FlushPages, Drain}
use Rattle.machine_model.specs.Event.{Event, Flushes}
use Rattle.machine_model.specs.Lawful.{Flushed}
use Rattle.machine_model.specs.Own.{Own}
use Rattle.machine_model.specs.State.{Setup}
use Rattle.guest_ram.specs.Ports.{Shown}
use Rattle.tlb_entry.specs.declared.books.Book.{Book}
use Rattle.hart_calls.specs.declared.spans.Span.{Span}
use Rattle.sbi_calls.specs.Fences.{HaveFlushed, more, none}
use Rattle.sbi_calls.specs.Spans.{piece_of, pieces_of}
use Rattle.turn_pieces.specs.Grows.{Grows}
use Rattle.turn_pieces.specs.Log.{Log, events_of}
use Rattle.access_pieces.specs.Serving.{Rests}
use Rattle.table_pieces.specs.Flushing.{IsNotDue, flush_made}
use Rattle.fence_pieces.specs.Behind.{IsBehind}

-- what a piece asks for
abbrev pub asked_by : Request → Flush
asked_by FlushAll = Full
asked_by (FlushPages page count) = Pages page count
-- isn't reached: no piece is a drain
asked_by Drain = Pages 0 0

-- and what is flushed for it: everything where a leaf of 2 MiB or 1 GiB was entered
abbrev pub made_for : Request → (large : Bool) → Flush
made_for (FlushPages page count) large = flush_made large page count
made_for request large = Full

-- the events of pieces
abbrev pub flushes_of : {span : Span} {from : ℕ} {p : Shown} {b : Book} {to : ℕ} {q : Shown} {c : Book} → HaveFlushed span from p b to q c → (a : ℕ) → List Event
flushes_of none a = []
flushes_of {span = span} (more {n = n} {c = c} before now goes beside) a = Flushes a (made_for (piece_of span n) c.large) ∷ flushes_of before a

-- The log goes on with these events more to one that tells of the port behind and rests, of a hart that isn't to stop at its limit; each piece is
-- flushed since its last fetch
pub record AreFlushedIn (span : Span) (from to : ℕ) (added : List Event) (others : ℕ → Bool) (o : Own) (q : Shown) (c : Book) (r : Regime) (u : Setup) (a : ℕ) (l : Log) : Type 0 where
  pub late : Log
  pub grows : Grows u a l late
  pub behind : IsBehind a l late
  pub events_are : events_of late ≡ added ++ events_of l
  pub rests : Rests others o q c r u a late
  pub not_due : IsNotDue o u a late
  pub flushed : (i : ℕ) → from ≤ i → i < to → Flushed (events_of late) a a (asked_by (piece_of span i))

-- each piece with a lower number than this is flushed at t since the last fetch of a
abbrev pub AreFlushedUpTo : ℕ → Span → (a t : ℕ) → List Event → Type 0
AreFlushedUpTo to span a t run = (i : ℕ) → i < to → Flushed run a t (asked_by (piece_of span i))

-- all pieces are
abbrev pub ArePiecesFlushed : Span → (a t : ℕ) → List Event → Type 0
ArePiecesFlushed span a t run = AreFlushedUpTo (pieces_of span) span a t run
