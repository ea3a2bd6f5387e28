-- Which event may stand at a step, after the events that stand there before it: what its actor's own record shows of it.
use Rattle.std.specs.Prelude.{◌≡◌, ◌≢◌, ◌⊎◌, ◌≤◌, ◌<◌, ℕ, ◌+◌, ◌-◌, ◌^◌, ◌==◌, Bool, true, false, IsTrue, IsSome, List, [], ◌∷◌, length, drop, Option, Some, None}
use Rattle.std.specs.List.{AllByRecursion}
use Rattle.rv64_priv.specs.declared.state.Kind.{Kind}
use Rattle.rv64_priv.specs.Flush.{Flush, Full, Pages}
use Rattle.rv64_priv.specs.Walk.{Walked}
use Rattle.rv64_exec.specs.Code.{Code}
use Rattle.step_laws.specs.declared.steps.Step.{Step}
use Rattle.step_laws.specs.declared.steps.WordOp.TheVariants.{Load, Store}
use Rattle.step_laws.specs.Words.{ipi_word}
use Rattle.step_laws.specs.Map.{Cons, Hsm, Start, Opaque, Place, name_of}
use Rattle.step_laws.specs.Words.{monitor}
use Rattle.step_laws.specs.Sections.{IsInSection}
use Rattle.machine_model.specs.declared.reason.Reason.{Reason}
use Rattle.machine_model.specs.Event.{Event, Outcome, Fetch, Exec, GiveUp, Interrupt, Flushes, Start as Begin, Stop, Await, SnapBegin, SnapEnd, Dump, actor_of}
use Rattle.machine_model.specs.State.{Setup, AwaitBytes, Snapshot, DumpBytes, StopAll}
use Rattle.machine_model.specs.Sbi.{bytes_from}
use Rattle.machine_model.specs.Walks.{need_held, access_of}
use Rattle.machine_model.specs.Perform.{Surroundings, perform}
use Rattle.step_laws.specs.Words.{console_places}
use Rattle.machine_model.specs.Lawful.{is_pending}
use Rattle.machine_model.specs.Run.{is_of, fetches, last_of, passes, leaves, is_snap_begin, is_due}
use Rattle.machine_model.specs.Lawful.{Flushing, Flushed, flushing, NextLine}
use Rattle.run_laws.proofs.Placed.{Placed, placed, steps, run_of, Spares, Stood}
use Rattle.walk_laws.specs.WalkLoads.{found}
use Rattle.run_laws.proofs.Shown.{IsShown, ShownFor, ShownMade}
use Rattle.run_laws.proofs.Kept.{part_at, held_at, drawn, handed_word, flushed_waiting}
use Rattle.turn_pieces.specs.Folds.{script_of, was_last}
use Rattle.turn_pieces.specs.Doing.{AreFollowing, first_drawn}
use Rattle.machine_model.specs.declared.mode.Mode.TheVariants.{Started}
use Rattle.turn_pieces.specs.Right.{FetchedAt}
use Rattle.turn_pieces.specs.Shared.{IsShared, mode_named}
use Rattle.turn_pieces.specs.Requests.{Names}

abbrev pub runs_first : ℕ → Bool
runs_first a = a == 0

-- what the reference machine may be as the step s is made, for all that the actor's record says, of which s is the last step
pub record Sees (u : Setup) (a : ℕ) (s : Step) (p : List Placed) (w : Surroundings) : Type 0 where
  pub layout : w.layout ≡ u.layout
  pub words : (x : ℕ) → w.memory x < 2 ^ 64
  -- the word of the step held what it answered
  pub here : IsShared (name_of s.word) → s.op ≢ Store → w.memory s.word ≡ s.answer
  -- in section the words hold what was loaded
  pub section : IsInSection u.layout a (steps p) → (x v : ℕ) → IsShared (name_of x) → held_at x p ≡ Some v → w.memory x ≡ v
  -- the places drawn for the event follow one another
  pub follow : AreFollowing (drawn p)
  -- and from the first on all are free
  pub room : (i : ℕ) → first_drawn (drawn p) ≡ Some i → w.room ≡ console_places - i
  -- a hart's state is what the step answered
  pub modes : (t : ℕ) → t < u.layout.harts → name_of s.word ≡ Hsm t → s.op ≢ Store → w.modes t ≡ mode_named s.answer
  -- and the own one is started where it runs by its own events
  pub started : a < u.layout.harts → (part_at u a p).runs ≡ true → w.modes a ≡ Started

-- a request of the page, or of all, is posted at the place of t, and since then the actor fetched nothing
abbrev pub Posted : (a t k : ℕ) → Option ℕ → List Placed → Type 0
Posted a t k page [] = ⊥
Posted a t k page (x ∷ p) = Spares (fetches a) x.events
    × (((name_of x.step.word ≡ Place t a k) × (x.step.op ≡ Store) × Names x.step.arg page) ⊎ Posted a t k page p)

-- and its place was loaded as 0 behind it
abbrev pub Answered : (a t k : ℕ) → Option ℕ → List Placed → Type 0
Answered a t k page [] = ⊥
Answered a t k page (x ∷ p) = Spares (fetches a) x.events
    × (((name_of x.step.word ≡ Place t a k) × (x.step.op ≡ Load) × (x.step.answer ≡ 0) × Posted a t k page p) ⊎ Answered a t k page p)

abbrev pub AskedFor : (a t : ℕ) → Flush → List Placed → Type 0
AskedFor a t Full p = (k : ℕ) × Answered a t k None p
AskedFor a t (Pages page count) p = (q : ℕ) → page ≤ q → q < page + count → (k : ℕ) × Answered a t k (Some q) p

-- the flushes of an instruction: the own ones are placed, the others asked for and answered, since its Fetch
abbrev pub FencesShown : (a : ℕ) → List Placed → Option Flushing → Type 0
FencesShown a p None = Unit {0}
FencesShown a p (Some f) = AllByRecursion (λ t. (t ≡ a → Flushed (run_of p) a a f.what) × (t ≢ a → AskedFor a t f.what p)) f.harts

pub record FitsFetch (u : Setup) (a : ℕ) (s : Step) (p : List Placed) (walk : Walked) (code : Code) : Type 0 where
  pub runs : (part_at u a p).runs ≡ true
  pub holds_none : (part_at u a p).held ≡ None
  pub not_due : is_due u.limit (run_of p) a (part_at u a p).count ≡ false
  -- IPI as it was loaded since the last event
  pub ipi : ℕ
  pub loaded : Stood (is_of a) (found ipi_word ipi ∷ []) p
  pub quiet : is_pending (part_at u a p).arch a ipi ≡ false
  pub shown : IsShown u.layout.pages a (part_at u a p).arch Kind.Fetch (part_at u a p).arch.pc walk p
  pub fetched : FetchedAt s (part_at u a p).arch.pc walk code

pub record FitsExec (u : Setup) (a : ℕ) (s : Step) (p : List Placed) (walk second : Walked) (did : Outcome) : Type 0 where
  pub holds : IsSome (part_at u a p).held
  pub shown : ShownFor u.layout.pages a (part_at u a p).arch (access_of (need_held (part_at u a p).arch (part_at u a p).held)) walk second p
  pub flushed : (w : Surroundings) → Sees u a s p w → FencesShown a p (flushing w a (part_at u a p).arch (need_held (part_at u a p).arch (part_at u a p).held))
  pub right : (w : Surroundings) → Sees u a s p w → did ≡ perform w a (part_at u a p).arch walk second (need_held (part_at u a p).arch (part_at u a p).held)

pub record FitsGiveUp (u : Setup) (a : ℕ) (p : List Placed) (walks : List Walked) : Type 0 where
  pub holds : IsSome (part_at u a p).held
  pub shown : ShownMade u.layout.pages a (part_at u a p).arch (access_of (need_held (part_at u a p).arch (part_at u a p).held)) walks p

pub record FitsInterrupt (u : Setup) (a : ℕ) (s : Step) (p : List Placed) : Type 0 where
  pub runs : (part_at u a p).runs ≡ true
  pub holds_none : (part_at u a p).held ≡ None
  pub not_due : is_due u.limit (run_of p) a (part_at u a p).count ≡ false
  pub word : s.word ≡ ipi_word
  pub op : s.op ≡ Load
  pub pending : IsTrue (is_pending (part_at u a p).arch a s.answer)

pub record FitsStart (u : Setup) (a : ℕ) (s : Step) (p : List Placed) (at opaque : ℕ) : Type 0 where
  pub not_due : is_due u.limit (run_of p) a (part_at u a p).count ≡ false
  pub word : name_of s.word ≡ Hsm a
  pub op : s.op ≡ Store
  pub arg : s.arg ≡ 0
  -- what stood before the step: START and OPAQUE as they were loaded, and a full flush
  pub at_is : handed_word a (Start a) (drop 1 p) ≡ Some at
  pub opaque_is : handed_word a (Opaque a) (drop 1 p) ≡ Some opaque
  pub flushed : flushed_waiting a (drop 1 p) ≡ true

abbrev pub FitsStop : Setup → (a : ℕ) → List Placed → Reason → Type 0
FitsStop u a p (Reason.Limit h) = (h ≡ a) × (a < u.layout.harts) × (is_due u.limit (run_of p) a (part_at u a p).count ≡ true)
FitsStop u a p Reason.AllStopped = IsTrue (passes leaves (last_of a (run_of p))) × (was_last a (steps (drop 1 p)) ≡ true)
FitsStop u a p Reason.Stopped = (a ≡ monitor) × NextLine (script_of u.script (run_of p)) StopAll
FitsStop u a p _ = ⊥

-- the output is at least so long as CONS was loaded, where it has room
pub record FitsAwait (u : Setup) (s : Step) (p : List Placed) (count : ℕ) : Type 0 where
  pub line : NextLine (script_of u.script (run_of p)) (AwaitBytes count)
  pub word : name_of s.word ≡ Cons
  pub op : s.op ≡ Load
  pub enough : count ≤ s.answer
  pub room : count ≤ console_places
  pub none_open : drawn p ≡ []

-- p is the record up to the step s, with the events below this one at s
abbrev pub Fits : Setup → (a : ℕ) → Step → List Placed → Event → Type 0
Fits u a s p (Fetch h walk code) = (a < u.layout.harts) × FitsFetch u a s p walk code
Fits u a s p (Exec h walk second did) = (a < u.layout.harts) × FitsExec u a s p walk second did
Fits u a s p (GiveUp h walks) = (a < u.layout.harts) × FitsGiveUp u a p walks
Fits u a s p (Interrupt h) = (a < u.layout.harts) × FitsInterrupt u a s p
Fits u a s p (Flushes h what) = (a < u.layout.harts) × (is_due u.limit (run_of p) a (part_at u a p).count ≡ false)
Fits u a s p (Begin h at opaque) = (a < u.layout.harts) × FitsStart u a s p at opaque
Fits u a s p (Stop by reason) = FitsStop u a p reason
Fits u a s p (Await count) = (a ≡ monitor) × FitsAwait u s p count
Fits u a s p SnapBegin = (a ≡ monitor) × NextLine (script_of u.script (run_of p)) Snapshot × (passes is_snap_begin (last_of a (run_of p)) ≡ false)
Fits u a s p (SnapEnd pages) = (a ≡ monitor) × NextLine (script_of u.script (run_of p)) Snapshot × IsTrue (passes is_snap_begin (last_of a (run_of p)))
Fits u a s p (Dump at bytes) = (a ≡ monitor) × NextLine (script_of u.script (run_of p)) (DumpBytes at (length bytes))
    × ((w : Surroundings) → Sees u a s p w → bytes ≡ bytes_from w.memory at (length bytes))

-- the events of a step, each of its actor and fit behind those below it
abbrev pub AllFit : Setup → (a : ℕ) → Step → List Placed → List Event → Type 0
AllFit u a s r [] = Unit {0}
AllFit u a s r (e ∷ es) = (actor_of e ≡ a) × Fits u a s (placed s es ∷ r) e × AllFit u a s r es
