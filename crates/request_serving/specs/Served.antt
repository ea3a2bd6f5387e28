-- What serving a request comes to.
use Rattle.std.specs.Prelude.{◌≡◌, ◌≢◌, ◌≤◌, ◌⊎◌, ℕ, ◌+◌, Bool, true, false, List}
use Rattle.rv64_priv.specs.declared.state.Regime.{Regime}
use Rattle.step_laws.specs.declared.request.Request.{Request}
use Rattle.step_laws.specs.declared.request.Request.TheVariants.{FlushAll, FlushPages, Drain}
use Rattle.step_laws.specs.Words.{monitor}
use Rattle.guest_ram.specs.Ports.{Shown, GoesBy, layout_of}
use Rattle.guest_ram.specs.Areas.{IsOfTable}
use Rattle.kept_fills.specs.Beside.{IsBeside}
use Rattle.walk_laws.specs.KeptWalks.{Item}
use Rattle.tlb_entry.specs.declared.books.Book.{Book}
use Rattle.tlb_lock.specs.declared.lock.Busy.{Busy as TheBusy}
use Rattle.kept_fills.specs.Fills.{Fill, GoesWithFills}
use Rattle.flush.specs.Flushed.{HasBeenBusy, HasFlushed, HasFlushedAll, full_steps}
use Rattle.work_queue.specs.declared.rings.Served.{Served}
use Rattle.work_queue.specs.Acks.{HasAcked, HasFoundNone, HasFoundRequest}
use Rattle.work_queue.specs.Rings.{next_ack, served_on}
use Rattle.request_serving.specs.declared.serving.Serving.{Serving}
use Rattle.request_serving.specs.declared.serving.Serving.TheVariants.{Idle, Served as IsServed, Busy}

-- the entries of the table are of some fills
abbrev pub HasFills : Book → Shown → Type 0
HasFills b p = (r : Regime) × (items : List Item) × (fills : List Fill) × GoesWithFills p b r items fills

-- what the request asks for was flushed in the own table
abbrev pub HasFlushedFor : Request → (p q : Shown) → (b b' : Book) → Type 0
HasFlushedFor FlushAll p q b b' = HasFlushedAll p q b b'
HasFlushedFor (FlushPages page count) p q b b' = HasFlushed b.large p q b b' page count
HasFlushedFor Drain p q b b' = (q ≡ p) × (b' ≡ b)

-- What a request that was loaded asks for was flushed, by permitted steps on the hart's table that left it beside that, and then it was acked
pub record HasDone (request : Request) (source : ℕ) (served served' : Served) (p q : Shown) (b b' : Book) : Type 0 where
  pub flushed : Shown
  pub flushes : HasFlushedFor request p flushed b b'
  pub goes : GoesBy (full_steps b.size + 386) IsOfTable p flushed
  pub beside : IsBeside b' flushed
  pub acks : HasAcked source (next_ack served source) flushed q
  pub moved : served' ≡ served_on served source

-- the source's next request was loaded, and that done
pub record HasServed (source : ℕ) (served served' : Served) (p q : Shown) (b b' : Book) : Type 0 where
  pub request : Request
  pub loaded : Shown
  pub finds : HasFoundRequest request source (next_ack served source) p loaded
  pub done : HasDone request source served served' loaded q b b'

-- it was loaded and asks for a flush, and the own lock was found held
pub record HasFoundHeld (source place holder : ℕ) (p q : Shown) (b b' : Book) : Type 0 where
  pub request : Request
  pub loaded : Shown
  pub finds : HasFoundRequest request source place p loaded
  pub asks : request ≢ Drain
  pub busy : HasBeenBusy holder loaded q b b'

abbrev pub IfIdle : Serving → Type 0 → Type 0
IfIdle Idle A = A
IfIdle _ A = Unit {0}

abbrev pub IfServed : Serving → Type 0 → Type 0
IfServed IsServed A = A
IfServed _ A = Unit {0}

abbrev pub IfBusy : Serving → (TheBusy → Type 0) → Type 0
IfBusy (Busy busy) A = A busy
IfBusy _ A = Unit {0}

abbrev pub UnlessServed : Serving → Type 0 → Type 0
UnlessServed IsServed A = Unit {0}
UnlessServed _ A = A

-- A source's turn in a round: there is no such source, it had no request, or one was served. Whether one was served so far goes on from turn
-- to turn
pub data HasMoved (source : ℕ) (s : Served) (p : Shown) (b : Book) (any : Bool) : Served → Shown → Book → Bool → Type 0 where
  nobody : (source ≡ p.own.actor) ⊎ (((layout_of p).harts ≤ source) × (source ≢ monitor)) → HasMoved source s p b any s p b any
  idle : {q : Shown} → HasFoundNone source (next_ack s source) p q → HasMoved source s p b any s q b any
  one : {s' : Served} {q : Shown} {b' : Book} → HasServed source s s' p q b b' → HasMoved source s p b any s' q b' true

-- the sources below one had their turns, in order
pub data HasGone (s : Served) (p : Shown) (b : Book) : ℕ → Served → Shown → Book → Bool → Type 0 where
  none : HasGone s p b 0 s p b false
  more : {n : ℕ} {t u : Served} {q r : Shown} {c d : Book} {any now : Bool} → HasGone s p b n t q c any → HasMoved n t q c any u r d now → HasGone s p b (n + 1) u r d now

-- so they had, and then the own lock was found held for a request of the next
pub record HasStopped (s s' : Served) (holder : ℕ) (p q : Shown) (b b' : Book) : Type 0 where
  pub source : ℕ
  pub before : Shown
  pub book : Book
  pub any : Bool
  pub gone : HasGone s p b source s' before book any
  pub held : HasFoundHeld source (next_ack s' source) holder before q book b'
