-- Which event may stand behind a log: what the log shows of it.
use Rattle.std.specs.Prelude.{◌≡◌, ◌≢◌, ◌≤◌, ◌<◌, ℕ, ◌+◌, ◌-◌, ◌/◌, ◌%◌, ◌^◌, true, false, IsTrue, IsSome, List, [], ◌∷◌, length, Option, Some, None}
use Rattle.std.specs.List.{AllByRecursion}
use Rattle.rv64_priv.specs.State.{Arch}
use Rattle.rv64_priv.specs.Csr.{regime}
use Rattle.rv64_priv.specs.declared.state.Kind.{Kind}
use Rattle.rv64_priv.specs.Walk.{Walked, Leaf, walk_of}
use Rattle.rv64_decode.specs.Encoding.{Decodes}
use Rattle.rv64_exec.specs.Code.{Code, no_code}
use Rattle.step_laws.specs.declared.steps.Step.{Step}
use Rattle.step_laws.specs.declared.steps.WordOp.TheVariants.{Load, Store}
use Rattle.step_laws.specs.Words.{ipi_word, ram_word}
use Rattle.step_laws.specs.Map.{Cons, Hsm, Start, Opaque, name_of}
use Rattle.step_laws.specs.Words.{monitor}
use Rattle.step_laws.specs.Sections.{IsInSection}
use Rattle.machine_model.specs.declared.mode.Mode.TheVariants.{Started}
use Rattle.machine_model.specs.declared.reason.Reason.{Reason}
use Rattle.machine_model.specs.Event.{Event, Outcome, Fetch, Exec, GiveUp, Interrupt, Flushes, Start as Begin, Stop, Await, SnapBegin, SnapEnd, Dump, actor_of}
use Rattle.machine_model.specs.State.{Setup, AwaitBytes, Snapshot, DumpBytes, StopAll}
use Rattle.machine_model.specs.Own.{Own}
use Rattle.machine_model.specs.Sbi.{bytes_from}
use Rattle.rv64_priv.specs.Reads.{answering}
use Rattle.machine_model.specs.Access.{crosses_page, second_va, spot_of, is_at_ram}
use Rattle.machine_model.specs.Walks.{Wanted, need_held, access_of}
use Rattle.machine_model.specs.Perform.{Surroundings, perform}
use Rattle.step_laws.specs.Words.{console_places}
use Rattle.machine_model.specs.Lawful.{is_pending}
use Rattle.machine_model.specs.Run.{is_of, last_of, passes, leaves, is_snap_begin, is_due, renews}
use Rattle.machine_model.specs.Lawful.{Flushing, Flushed, flushing, NextLine}
use Rattle.walk_laws.specs.WalkLoads.{found}
use Rattle.walk_laws.specs.WalkLoads.{reads_of}
use Rattle.turn_pieces.specs.Folds.{script_of, was_last}
use Rattle.turn_pieces.specs.Doing.{AreFollowing, first_drawn}
use Rattle.turn_pieces.specs.Shared.{IsShared, mode_named}
use Rattle.turn_pieces.specs.Log.{Log, steps_of, events_of, before, AtLast, HasStood}
use Rattle.turn_pieces.specs.Kept.{own_part, known_word, places, handed_on, has_flushed_all}
use Rattle.turn_pieces.specs.Requests.{HasAsked}
use Rattle.turn_pieces.specs.Snapshots.{TakesFirst, IsReply, is_going, pages_taken}
use Rattle.turn_pieces.specs.Owed.{HasPaid}

-- the walk's loads stand in the log, with nothing since the first of them that renews the walk
pub record IsSeen (pages h : ℕ) (a : Arch) (kind : Kind) (va : ℕ) (end : Walked) (l : Log) : Type 0 where
  pub finds : ℕ → ℕ
  pub is_end : walk_of pages (regime a) kind (answering finds) va ≡ end
  pub stood : HasStood (renews h va end) (reads_of pages (regime a) va finds) l

pub record AreSeen (pages h : ℕ) (a : Arch) (w : Wanted) (walk second : Walked) (l : Log) : Type 0 where
  pub first_page : IsSeen pages h a w.kind w.va walk l
  pub second_page : IsTrue (crosses_page w.va w.width) → IsTrue (is_at_ram (spot_of w.kind w.va walk))
      → IsSeen pages h a w.kind (second_va w.va) second l

abbrev pub SeenFor : (pages h : ℕ) → Arch → Option Wanted → (walk second : Walked) → Log → Type 0
SeenFor pages h a None walk second l = Unit {0}
SeenFor pages h a (Some w) walk second l = AreSeen pages h a w walk second l

abbrev pub SeenMade : (pages h : ℕ) → Arch → Option Wanted → List Walked → Log → Type 0
SeenMade pages h a w [] l = Unit {0}
SeenMade pages h a (Some w) (x ∷ []) l = IsSeen pages h a w.kind w.va x l
SeenMade pages h a (Some w) (x ∷ y ∷ []) l = IsSeen pages h a w.kind w.va x l × IsTrue (crosses_page w.va w.width)
    × IsTrue (is_at_ram (spot_of w.kind w.va x)) × IsSeen pages h a w.kind (second_va w.va) y l
SeenMade pages h a _ _ l = ⊥

-- what the last step says of the machine as it is made
abbrev pub HeldHere : Setup → Surroundings → Step → Type 0
HeldHere u w s = (IsShared (name_of s.word) → s.op ≢ Store → w.memory s.word ≡ s.answer)
    × ((t : ℕ) → t < u.layout.harts → name_of s.word ≡ Hsm t → s.op ≢ Store → w.modes t ≡ mode_named s.answer)

-- what the reference machine may be behind the log, for all that it says
pub record MayBe (u : Setup) (a : ℕ) (l : Log) (w : Surroundings) : Type 0 where
  pub layout : w.layout ≡ u.layout
  pub words : (x : ℕ) → w.memory x < 2 ^ 64
  -- the word of the last step held what it answered, and so did a hart's state
  pub here : AtLast (HeldHere u w) l
  -- in section the words hold what was loaded
  pub section : IsInSection u.layout a (steps_of l) → (x v : ℕ) → IsShared (name_of x) → known_word x l ≡ Some v → w.memory x ≡ v
  -- the places drawn for the event follow one another, as in each history
  pub follow : AreFollowing (places l)
  -- and from the first on all are free
  pub room : (i : ℕ) → first_drawn (places l) ≡ Some i → w.room ≡ console_places - i
  -- a hart that runs by its own events is started
  pub started : a < u.layout.harts → (own_part u a l).runs ≡ true → w.modes a ≡ Started

-- the flushes of an instruction: the own ones stand, the others are asked for and answered, since its Fetch
abbrev pub AreFenced : (a : ℕ) → Log → Option Flushing → Type 0
AreFenced a l None = Unit {0}
AreFenced a l (Some f) = AllByRecursion (λ t. (t ≡ a → Flushed (events_of l) a a f.what) × (t ≢ a → HasAsked a t f.what l)) f.harts

-- the code word that the step loaded; none where the walk faults
abbrev pub FetchedAt : Step → (va : ℕ) → Walked → Code → Type 0
FetchedAt s va (Leaf pte page level) code = (s.word ≡ ram_word (page + va % 4096)) × (s.op ≡ Load)
    × (code.word ≡ s.answer / 256 ^ ((page + va % 4096) % 8) % 2 ^ 32) × Decodes code.word code.instr
FetchedAt s va _ code = code ≡ no_code

pub record IsFetch (u : Setup) (a : ℕ) (l : Log) (walk : Walked) (code : Code) (o : Own) : Type 0 where
  pub runs : o.runs ≡ true
  pub holds_none : o.held ≡ None
  pub not_due : is_due u.limit (events_of l) a o.count ≡ false
  -- IPI as it was loaded since the last event
  pub ipi : ℕ
  pub loaded : HasStood (is_of a) (found ipi_word ipi ∷ []) l
  pub quiet : is_pending o.arch a ipi ≡ false
  pub shown : IsSeen u.layout.pages a o.arch Kind.Fetch o.arch.pc walk l
  pub fetched : AtLast (λ s. FetchedAt s o.arch.pc walk code) l

pub record IsExec (u : Setup) (a : ℕ) (l : Log) (walk second : Walked) (did : Outcome) (o : Own) : Type 0 where
  pub holds : IsSome o.held
  pub shown : SeenFor u.layout.pages a o.arch (access_of (need_held o.arch o.held)) walk second l
  pub flushed : (w : Surroundings) → MayBe u a l w → AreFenced a l (flushing w a o.arch (need_held o.arch o.held))
  pub right : (w : Surroundings) → MayBe u a l w → did ≡ perform w a o.arch walk second (need_held o.arch o.held)

pub record IsGiveUp (u : Setup) (a : ℕ) (l : Log) (walks : List Walked) (o : Own) : Type 0 where
  pub holds : IsSome o.held
  pub shown : SeenMade u.layout.pages a o.arch (access_of (need_held o.arch o.held)) walks l

abbrev pub IsCalled : (a : ℕ) → Arch → Step → Type 0
IsCalled a now s = (s.word ≡ ipi_word) × (s.op ≡ Load) × IsTrue (is_pending now a s.answer)

pub record IsInterrupt (u : Setup) (a : ℕ) (l : Log) (o : Own) : Type 0 where
  pub runs : o.runs ≡ true
  pub holds_none : o.held ≡ None
  pub not_due : is_due u.limit (events_of l) a o.count ≡ false
  pub called : AtLast (IsCalled a o.arch) l

abbrev pub IsOwnStart : (a : ℕ) → Step → Type 0
IsOwnStart a s = (name_of s.word ≡ Hsm a) × (s.op ≡ Store) × (s.arg ≡ 0)

pub record IsStart (u : Setup) (a : ℕ) (l : Log) (at opaque : ℕ) (o : Own) : Type 0 where
  pub not_due : is_due u.limit (events_of l) a o.count ≡ false
  pub stored : AtLast (IsOwnStart a) l
  -- what stood before the step: START and OPAQUE as they were loaded, and a full flush
  pub at_is : handed_on a (Start a) (before l) ≡ Some at
  pub opaque_is : handed_on a (Opaque a) (before l) ≡ Some opaque
  pub flushed_all : has_flushed_all a (before l) ≡ true

abbrev pub IsStop : Setup → (a : ℕ) → Log → Reason → Own → Type 0
IsStop u a l (Reason.Limit h) o = (h ≡ a) × (a < u.layout.harts) × (is_due u.limit (events_of l) a o.count ≡ true)
IsStop u a l Reason.AllStopped o = IsTrue (passes leaves (last_of a (events_of l))) × (was_last a (steps_of (before l)) ≡ true)
IsStop u a l Reason.Stopped o = (a ≡ monitor) × NextLine (script_of u.script (events_of l)) StopAll
IsStop u a l _ o = ⊥

abbrev pub IsCount : (count : ℕ) → Step → Type 0
IsCount count s = (name_of s.word ≡ Cons) × (s.op ≡ Load) × (count ≤ s.answer)

-- the output is at least so long as CONS was loaded, where it has room
pub record IsAwait (u : Setup) (l : Log) (count : ℕ) : Type 0 where
  pub line : NextLine (script_of u.script (events_of l)) (AwaitBytes count)
  pub loaded : AtLast (IsCount count) l
  pub room : count ≤ console_places
  pub none_open : places l ≡ []

-- at its first swap
pub record IsSnapBegin (u : Setup) (l : Log) : Type 0 where
  pub line : NextLine (script_of u.script (events_of l)) Snapshot
  pub none_begun : passes is_snap_begin (last_of monitor (events_of l)) ≡ false
  pub takes : AtLast TakesFirst l

-- at the last reply, with the pages that its swaps took
pub record IsSnapEnd (u : Setup) (l : Log) (pages : List ℕ) : Type 0 where
  pub line : NextLine (script_of u.script (events_of l)) Snapshot
  pub begun : IsTrue (passes is_snap_begin (last_of monitor (events_of l)))
  pub replied : AtLast IsReply l
  pub finished : is_going u.layout (steps_of l) ≡ false
  pub pages_are : pages ≡ pages_taken u.layout.pages (steps_of l)

abbrev pub IsFit : Setup → (a : ℕ) → Log → Event → Own → Type 0
IsFit u a l (Fetch h walk code) o = (a < u.layout.harts) × IsFetch u a l walk code o
IsFit u a l (Exec h walk second did) o = (a < u.layout.harts) × IsExec u a l walk second did o
IsFit u a l (GiveUp h walks) o = (a < u.layout.harts) × IsGiveUp u a l walks o
IsFit u a l (Interrupt h) o = (a < u.layout.harts) × IsInterrupt u a l o
IsFit u a l (Flushes h what) o = (a < u.layout.harts) × (is_due u.limit (events_of l) a o.count ≡ false)
IsFit u a l (Begin h at opaque) o = (a < u.layout.harts) × IsStart u a l at opaque o
IsFit u a l (Stop by reason) o = IsStop u a l reason o
IsFit u a l (Await count) o = (a ≡ monitor) × IsAwait u l count
IsFit u a l SnapBegin o = (a ≡ monitor) × IsSnapBegin u l
IsFit u a l (SnapEnd pages) o = (a ≡ monitor) × IsSnapEnd u l pages
IsFit u a l (Dump at bytes) o = (a ≡ monitor) × NextLine (script_of u.script (events_of l)) (DumpBytes at (length bytes))
    × ((w : Surroundings) → MayBe u a l w → bytes ≡ bytes_from w.memory at (length bytes))

-- the event is the actor's, the log shows it, and it pays what the last step owes
pub record IsRight (u : Setup) (a : ℕ) (l : Log) (e : Event) : Type 0 where
  pub own : actor_of e ≡ a
  pub fit : IsFit u a l e (own_part u a l)
  pub pays : HasPaid a l e
