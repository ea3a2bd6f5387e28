-- How far a remote fence has come, as the record of the hart that makes it shows. Lists of steps are newest first.
use Rattle.std.specs.Prelude.{◌≡◌, ◌≢◌, ◌≤◌, ◌<◌, ℕ, ◌+◌, ◌-◌, ◌%◌, Bool, true, List, ◌++◌, slice_index}
use Rattle.step_laws.specs.declared.request.Request.{Request}
use Rattle.step_laws.specs.declared.request.Request.TheVariants.{FlushAll, FlushPages, Drain}
use Rattle.step_laws.specs.declared.steps.Step.{Step}
use Rattle.step_laws.specs.declared.steps.WordOp.TheVariants.{Load, Store}
use Rattle.step_laws.specs.Fields.{IsWordOf}
use Rattle.step_laws.specs.Map.{Word, Kick, Lock, Place, Size, Tlb, name_of, number_of}
use Rattle.step_laws.specs.Past.{Anything, Earlier}
use Rattle.guest_ram.specs.declared.port.Seen.{Seen}
use Rattle.guest_ram.specs.Areas.{IsOfTable}
use Rattle.guest_ram.specs.Ports.{Shown, Made, GoesBy}
use Rattle.tlb_entry.specs.declared.books.Book.{Book}
use Rattle.kept_fills.specs.Beside.{IsBeside}
use Rattle.flush.specs.Flushed.{HasBeenBusy, HasFlushed, HasFlushedAll, full_steps, page_steps}
use Rattle.work_queue.specs.declared.rings.Sent.{Sent}
use Rattle.work_queue.specs.Rings.{next_post}
use Rattle.sbi_calls.specs.declared.spans.Fence.{Fence}
use Rattle.hart_calls.specs.declared.spans.Span.{Span}
use Rattle.hart_calls.specs.Spans.{IsSpan}
use Rattle.sbi_calls.specs.Spans.{is_named, piece_of, pieces_of}

-- the request was posted in a place of the actor's at the target
abbrev pub IsPost : (actor target place : ℕ) → Request → Step → Type 0
IsPost a t k request s = (name_of s.word ≡ Place t a k) × (s.op ≡ Store) × IsWordOf request s.arg

abbrev pub HasAsked : (actor target place : ℕ) → Request → List Step → Type 0
HasAsked a t k request steps = Earlier (IsPost a t k request) Anything steps

-- the place was loaded as 0
abbrev pub IsFreed : (actor target place : ℕ) → Step → Type 0
IsFreed a t k s = (name_of s.word ≡ Place t a k) × (s.op ≡ Load) × (s.answer ≡ 0)

-- the request was posted there, and behind that the place was loaded as 0
abbrev pub HasAnswered : (actor target place : ℕ) → Request → List Step → Type 0
HasAnswered a t k request steps = Earlier (IsFreed a t k) (HasAsked a t k request) steps

-- the place of a piece, where so many were posted in a ring that has come to its next place
abbrev pub place_of : (next posted number : ℕ) → ℕ
place_of next posted i = (next + 8 - posted + i) % 8

-- Of the steps since the base: so many pieces were posted at the target, each in its place, and so many of them answered
pub record IsFenceAt (span : Span) (next target posted acked : ℕ) (base : List Step) (p : Shown) : Type 0 where
  pub since : List Step
  pub is : p.own.steps ≡ since ++ base
  pub most : posted ≤ pieces_of span
  pub few : acked ≤ posted
  pub asked : (i : ℕ) → i < posted → HasAsked p.own.actor target (place_of next posted i) (piece_of span i) since
  pub answered : (i : ℕ) → i < acked → HasAnswered p.own.actor target (place_of next posted i) (piece_of span i) since

-- the hart is named, and not the one that makes the fence
abbrev pub IsTarget : (harts : ℕ) → Shown → (target : ℕ) → Type 0
IsTarget harts p t = (t < 16) × (is_named harts t ≡ true) × (t ≢ p.own.actor)

-- what is kept of a fence goes with a record, of which it began behind the base
pub record GoesWithFence (harts : ℕ) (span : Span) (sent : Sent) (fence : Fence) (base : List Step) (p : Shown) : Type 0 where
  pub at : (t : ℕ) → IsTarget harts p t → IsFenceAt span (next_post sent t) t (slice_index fence.posted t) (slice_index fence.acked t) base p
  pub own : slice_index fence.acked p.own.actor ≤ pieces_of span

-- at some base
abbrev pub IsFencing : (harts : ℕ) → Span → Sent → Fence → Shown → Type 0
IsFencing harts span sent fence p = (base : List Step) × GoesWithFence harts span sent fence base p

abbrev pub IsPolling : (harts : ℕ) → Sent → Fence → Shown → Type 0
IsPolling harts sent fence p = (span : Span) × IsSpan span × IsFencing harts span sent fence p

-- Since the base each piece was posted at the hart, and behind its post its place was loaded as 0
pub record IsAnsweredAt (span : Span) (target : ℕ) (base : List Step) (p : Shown) : Type 0 where
  pub since : List Step
  pub is : p.own.steps ≡ since ++ base
  pub answered : (i : ℕ) → i < pieces_of span → (k : ℕ) × HasAnswered p.own.actor target k (piece_of span i) since

-- by the last step a place at the hart was loaded as what was seen, which isn't 0
pub record HasFoundFull (seen : Seen) (target : ℕ) (q : Shown) : Type 0 where
  pub place : ℕ
  pub before : Shown
  pub finds : Made before q (Place target before.own.actor place) Load 0 seen.value
  pub word : seen.word ≡ number_of (Place target before.own.actor place)
  pub stands : seen.value ≢ 0

-- and the hart is one of those named
abbrev pub HasFoundOpen : (harts : ℕ) → Seen → Shown → Type 0
HasFoundOpen harts seen q = (t : ℕ) × IsTarget harts q t × HasFoundFull seen t q

-- one piece of the own table was flushed
abbrev pub HasFlushedPiece : Request → (p q : Shown) → (b b' : Book) → Type 0
HasFlushedPiece FlushAll p q b b' = HasFlushedAll p q b b'
HasFlushedPiece (FlushPages page count) p q b b' = HasFlushed b.large p q b b' page count
HasFlushedPiece Drain p q b b' = ⊥

-- how many steps the flush of a piece makes at most
abbrev pub piece_steps : (large : Bool) → (size : ℕ) → Request → ℕ
piece_steps large size FlushAll = full_steps size
piece_steps large size (FlushPages page count) = page_steps large size count
piece_steps large size Drain = 0

-- the pieces from one number on, up to another, were flushed in the own table, one behind another, each by permitted steps on it, which left the
-- hart beside it
pub data HaveFlushed (span : Span) (from : ℕ) (p : Shown) (b : Book) : ℕ → Shown → Book → Type 0 where
  none : HaveFlushed span from p b from p b
  more : {n : ℕ} {q r : Shown} {c d : Book} → HaveFlushed span from p b n q c → HasFlushedPiece (piece_of span n) q r c d → GoesBy (piece_steps c.large c.size (piece_of span n)) IsOfTable q r → IsBeside d r
      → HaveFlushed span from p b (n + 1) r d

-- so many were, and then the lock was found held, by one exchange
pub record HasBeenBusyAt (span : Span) (from to holder : ℕ) (p q : Shown) (b b' : Book) : Type 0 where
  pub between : Shown
  pub book : Book
  pub flushed : HaveFlushed span from p b to between book
  pub busy : HasBeenBusy holder between q book b'

-- the words of one source's posts: its places, and KICK
abbrev pub IsOfAsks : (source : ℕ) → Word → Type 0
IsOfAsks a (Place t s k) = s ≡ a
IsOfAsks a (Kick h) = Unit {0}
IsOfAsks a _ = ⊥

-- and those of its polls
abbrev pub IsOfPolls : (source : ℕ) → Word → Type 0
IsOfPolls a (Place t s k) = s ≡ a
IsOfPolls a _ = ⊥

-- the words that fences touch: those of posts, and those of the own table with its lock
abbrev pub IsOfFence : Word → Type 0
IsOfFence (Place t s k) = Unit {0}
IsOfFence (Kick h) = Unit {0}
IsOfFence (Lock h) = Unit {0}
IsOfFence (Size h) = Unit {0}
IsOfFence (Tlb h j f) = Unit {0}
IsOfFence _ = ⊥

-- posts of the own were made, then the own pieces from one number on, up to another, were flushed, and then own places polled
pub record HasFlushedOwn (span : Span) (from to : ℕ) (p q : Shown) (b b' : Book) : Type 0 where
  pub asked : Shown
  pub served : Shown
  pub posts : GoesBy 216 (IsOfAsks p.own.actor) p asked
  pub flushed : HaveFlushed span from asked b to served b'
  pub polls : GoesBy 64 (IsOfPolls served.own.actor) served q

-- and the same up to where the own lock was found held
pub record HasBeenHeld (span : Span) (from to holder : ℕ) (p q : Shown) (b b' : Book) : Type 0 where
  pub asked : Shown
  pub posts : GoesBy 216 (IsOfAsks p.own.actor) p asked
  pub busy : HasBeenBusyAt span from to holder asked q b b'
