-- How a hart goes with its log of steps and events, between the parts of its turns. Lists are newest first.
use Rattle.std.specs.Prelude.{◌≡◌, ℕ, ◌==◌, Bool, true, false, ◌∷◌, Some, None, Option, slice_index}
use Rattle.rv64_priv.specs.Csr.{regime}
use Rattle.rv64_priv.specs.State.{Arch}
use Rattle.rv64_exec.specs.Code.{Code}
use Rattle.rv64_exec.specs.declared.needs.Need.{Need}
use Rattle.step_laws.specs.declared.steps.Step.{Step}
use Rattle.machine_model.specs.State.{Setup}
use Rattle.machine_model.specs.Run.{is_due}
use Rattle.machine_model.specs.Walks.{need_held}
use Rattle.guest_ram.specs.Ports.{Shown}
use Rattle.work_queue.specs.declared.rings.Sent.{Sent}
use Rattle.hart_calls.specs.declared.spans.Span.{Span}
use Rattle.sbi_calls.specs.declared.spans.Fence.{Fence}
use Rattle.sbi_calls.specs.Fences.{GoesWithFence}
use Rattle.turn_pieces.specs.Grows.{Ends, LooksAtStop, Part}
use Rattle.turn_pieces.specs.Log.{Log, events_of, made, steps_of}
use Rattle.turn_pieces.specs.Owed.{nothing, owed}
use Rattle.access_pieces.specs.Serving.{Settles}
use Rattle.call_pieces.specs.Idle.{HasSaidLast}
use Rattle.table_pieces.specs.Flushing.{IsNotDue}
use Rattle.fence_pieces.specs.Behind.{IsBehind}
use Rattle.fence_pieces.specs.Owning.{AreFlushedUpTo}
use Rattle.fetch_pieces.specs.Fetching.{MayFetch}
use Rattle.signal_pieces.specs.Signalling.{nobody}
use Rattle.hart_turn.specs.declared.hart.Call.{Call}
use Rattle.hart_turn.specs.declared.hart.Hart.{Hart}
use Rattle.hart_turn.specs.Harts.{own_of}

-- The hart holds the word of its fence's call, and since it fetched that the pieces were posted and answered that the fence counts, and the own
-- ones flushed
pub record IsFenceIn (harts : ℕ) (span : Span) (fence : Fence) (sent : Sent) (c : Arch) (p : Shown) (held : Option Code) (a : ℕ) (l : Log) : Type 0 where
  pub code : Code
  pub holds : held ≡ Some code
  pub need_is : need_held c held ≡ Need.Sbi
  pub base : Log
  pub behind : IsBehind a base l
  pub goes : GoesWithFence harts span sent fence (steps_of base) p
  pub flushed : AreFlushedUpTo (slice_index fence.acked a) span a a (events_of l)

-- it holds no word, or that of its call in progress
abbrev pub IsCallIn : Call → Sent → Arch → Shown → (held : Option Code) → (a : ℕ) → Log → Type 0
IsCallIn Call.Nothing sent c p held a l = held ≡ None
IsCallIn (Call.Fence harts span fence) sent c p held a l = IsFenceIn harts span fence sent c p held a l

-- The log tells of the hart and its port, with nothing open and no mark that waits for its store; the hart isn't to stop at its limit, and where it
-- stopped as the last one that is said
pub record AtEnd (h : Hart) (p : Shown) (u : Setup) (a : ℕ) (l : Log) : Type 0 where
  pub limit_is : u.limit ≡ h.limit
  pub held : Option Code
  pub settles : Settles nobody (own_of h held) p h.book (regime h.arch) u a l
  pub not_due : IsNotDue (own_of h held) u a l
  pub said : HasSaidLast a l
  pub call : IsCallIn h.call h.sent h.arch p held a l

-- and its last step owes no event
pub record AtWork (h : Hart) (p : Shown) (u : Setup) (a : ℕ) (l : Log) : Type 0 where
  pub ends : AtEnd h p u a l
  pub idle : owed l ≡ nothing

-- so that the hart, which runs, holds no word and found no interrupt that it takes, may fetch
pub record AtFetch (h : Hart) (p : Shown) (u : Setup) (a : ℕ) (l : Log) : Type 0 where
  pub limit_is : u.limit ≡ h.limit
  pub may : MayFetch nobody (own_of h None) p h.book h.arch u a l
  pub said : HasSaidLast a l

-- each log of the hart at work goes on to one of it at work, as it is then
abbrev pub WorksOn : (h k : Hart) (p q : Shown) → Type 0
WorksOn h k p q = Part (AtWork h p) (AtWork k q)

-- and each log of it at the end of its work, to one there
abbrev pub Finishes : (h k : Hart) (p q : Shown) → Type 0
Finishes h k p q = Part (AtEnd h p) (AtEnd k q)

-- each log of the hart at work goes on to one of it at the end of its work
abbrev pub WorksToEnd : (h k : Hart) (p q : Shown) → Type 0
WorksToEnd h k p q = Part (AtWork h p) (AtEnd k q)

-- a turn began with a look at STOP, and behind that this holds of the log
pub record HasBegun (l : Log) (Q : Log → Type 0) : Type 0 where
  pub look : Step
  pub looks : LooksAtStop look
  pub behind : Q (made look ∷ l)

-- each log of the hart between turns goes on with the look at STOP, and the hart is at work then
abbrev pub Begins : (h : Hart) (p q : Shown) → Type 0
Begins h p q = (u : Setup) (a : ℕ) (l : Log) → AtEnd h p u a l → HasBegun l (AtWork h q u a)

-- and so it does where it ends with its machine, and then goes on to one at the end of its work
abbrev pub BeginsAndEnds : (h k : Hart) (p q : Shown) → Type 0
BeginsAndEnds h k p q = (u : Setup) (a : ℕ) (l : Log) → AtEnd h p u a l → HasBegun l (λ m. Ends u a m (AtEnd k q u a))

-- where the hart took an interrupt its work is at its end, and where not it may fetch
abbrev pub IsAfterLook : (taken : Bool) → Hart → Shown → Setup → ℕ → Log → Type 0
IsAfterLook true k q u a l = AtEnd k q u a l
IsAfterLook false k q u a l = AtFetch k q u a l

abbrev pub LooksOn : (taken : Bool) (h k : Hart) (p q : Shown) → Type 0
LooksOn taken h k p q = Part (AtWork h p) (IsAfterLook taken k q)

-- Behind an instruction that was counted: the log tells of the hart and its port as in the end, but the hart is to stop where that brought its count
-- to the limit
pub record AtCount (h : Hart) (p : Shown) (u : Setup) (a : ℕ) (l : Log) : Type 0 where
  pub limit_is : u.limit ≡ h.limit
  pub settles : Settles nobody (own_of h None) p h.book (regime h.arch) u a l
  pub due_is : is_due u.limit (events_of l) a h.count ≡ (h.count == u.limit)
  pub free : h.call ≡ Call.Nothing
  pub said : HasSaidLast a l
