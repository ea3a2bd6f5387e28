-- Where each event is lawful, and the runs of the reference machine.
use Rattle.std.specs.Prelude.{◌≡◌, ℕ, suc, ◌+◌, ◌%◌, ◌<◌, ◌≤◌, Bool, true, false, ◌&&◌, IsTrue, IsSome, List, [], ◌∷◌, length, Option, Some, None}
use Rattle.std.specs.List.{AllByRecursion}
use Rattle.rv64_priv.specs.State.{Arch}
use Rattle.rv64_priv.specs.declared.state.Kind.{Kind}
use Rattle.rv64_priv.specs.Bits.{is_set}
use Rattle.rv64_priv.specs.Trap.{takes_interrupts}
use Rattle.rv64_priv.specs.Walk.{Walked, Leaf}
use Rattle.rv64_priv.specs.Flush.{Flush, Full, Pages}
use Rattle.rv64_decode.specs.Encoding.{Decodes}
use Rattle.rv64_exec.specs.Code.{Code, no_code}
use Rattle.rv64_exec.specs.declared.needs.Need.{Need}
use Rattle.rv64_exec.specs.declared.needs.FlushOf.{FlushOf}
use Rattle.step_laws.specs.Words.{ipi_word}
use Rattle.step_laws.specs.Map.{monitor}
use Rattle.machine_model.specs.declared.reason.Reason.{Reason}
use Rattle.machine_model.specs.Past.{Since, HasSince}
use Rattle.machine_model.specs.Event.{Event, Outcome, Fetch, Exec, GiveUp, Interrupt, Flushes, Start, Stop, Await, SnapBegin, SnapEnd, Dump}
use Rattle.machine_model.specs.declared.mode.Mode.TheVariants.{Started, Pending}
use Rattle.machine_model.specs.State.{Setup, State, Command, AwaitBytes, Snapshot, DumpBytes, StopAll, hart, memory, all_halted}
use Rattle.machine_model.specs.Run.{state_of, memory_at, fetches, starts_hart, flushes, ends_quiet, renews, last_of, passes, leaves, is_snap_begin, is_due, says_all_stopped}
use Rattle.machine_model.specs.Memory.{Memory}
use Rattle.machine_model.specs.Access.{crosses_page, second_va, spot_of, is_at_ram, code_word}
use Rattle.machine_model.specs.Sbi.{Call, Fences, sbi_of, bytes_from}
use Rattle.machine_model.specs.Walks.{Wanted, walked, need, access_of}
use Rattle.machine_model.specs.Perform.{Surroundings, surroundings, perform}

-- the word at the walk's end, in this memory, and what it decodes as; none where it faults
abbrev pub IsCode : Memory → (va : ℕ) → Walked → Code → Type 0
IsCode m va (Leaf pte address level) code = (code.word ≡ code_word m (address + va % 4096)) × Decodes code.word code.instr
IsCode m va _ code = code ≡ no_code

-- an enabled interrupt of the hart is pending where IPI is this
abbrev pub is_pending : Arch → (h ipi : ℕ) → Bool
is_pending a h ipi = takes_interrupts a && is_set ipi h

-- The end of a walk is that of reads in order, of moments up to now. For a leaf they are since the hart's last flush
-- that covers it, for a fault since the hart's last event.
pub record IsAllowed (u : Setup) (run : List Event) (h : ℕ) (kind : Kind) (va : ℕ) (end : Walked) : Type 0 where
  -- of the read at each level
  pub moment : ℕ → List Event
  pub in_order : (level : ℕ) → Since (renews h va end) (moment (suc level)) (moment level)
  pub past : Since (renews h va end) (moment 0) run
  pub is_end : walked u.layout.pages (hart (state_of u run) h).arch kind va (λ level. memory_at u (moment level)) ≡ end

-- the walks that an access makes: the second where it crosses pages and the first gave RAM
pub record WalksAllowed (u : Setup) (run : List Event) (h : ℕ) (walk second : Walked) (w : Wanted) : Type 0 where
  pub first_page : IsAllowed u run h w.kind w.va walk
  pub second_page : IsTrue (crosses_page w.va w.width) → IsTrue (is_at_ram (spot_of w.kind w.va walk))
      → IsAllowed u run h w.kind (second_va w.va) second

abbrev pub AllowedFor : Setup → List Event → (h : ℕ) → (walk second : Walked) → Option Wanted → Type 0
AllowedFor u run h walk second None = Unit {0}
AllowedFor u run h walk second (Some w) = WalksAllowed u run h walk second w

-- walks that an access made before it was given up: none, the first page's, or both
abbrev pub WalksMade : Setup → List Event → (h : ℕ) → Option Wanted → List Walked → Type 0
WalksMade u run h w [] = Unit {0}
WalksMade u run h (Some w) (x ∷ []) = IsAllowed u run h w.kind w.va x
WalksMade u run h (Some w) (x ∷ y ∷ []) = IsAllowed u run h w.kind w.va x × IsTrue (crosses_page w.va w.width)
    × IsTrue (is_at_ram (spot_of w.kind w.va x)) × IsAllowed u run h w.kind (second_va w.va) y
WalksMade u run h _ _ = ⊥

-- the harts that are to flush before an instruction, and what
pub record Flushing : Type 0 where
  pub harts : List ℕ
  pub what : Flush

abbrev pub flush_named : FlushOf → Flush
flush_named FlushOf.All = Full
flush_named (FlushOf.Page page) = Pages page 1

abbrev pub flushing_of_call : Call → Option Flushing
flushing_of_call (Fences harts what) = Some (record { harts = harts; what = what })
flushing_of_call _ = None

unfoldable pub flushing : Surroundings → (h : ℕ) → Arch → Need → Option Flushing
flushing w h a (Need.Flush what) = Some (record { harts = h ∷ []; what = flush_named what })
flushing w h a Need.Sbi = flushing_of_call (sbi_of w.layout w.modes w.memory a)
flushing w h a _ = None

-- since the last Fetch of h the hart t has flushed all this: everything, or each of its pages
abbrev pub Flushed : List Event → (h t : ℕ) → Flush → Type 0
Flushed run h t Full = HasSince (fetches h) (flushes t Full) run
Flushed run h t (Pages page count) = (p : ℕ) → page ≤ p → p < page + count → HasSince (fetches h) (flushes t (Pages p 1)) run

abbrev pub FlushesDone : List Event → (h : ℕ) → Option Flushing → Type 0
FlushesDone run h None = Unit {0}
FlushesDone run h (Some f) = AllByRecursion (λ t. Flushed run h t f.what) f.harts

-- at some moment since the hart's last event none was
pub record Uninterrupted (u : Setup) (run : List Event) (a : Arch) (h : ℕ) : Type 0 where
  pub moment : List Event
  pub past : Since (ends_quiet h) moment run
  pub quiet : is_pending a h (memory_at u moment ipi_word) ≡ false

pub record IsFetch (u : Setup) (run : List Event) (s : State) (h : ℕ) (walk : Walked) (code : Code) : Type 0 where
  pub there : h < length s.harts
  pub started : (hart s h).mode ≡ Started
  pub holds_none : (hart s h).held ≡ None
  pub not_due : is_due u.limit run h (hart s h).count ≡ false
  pub uninterrupted : Uninterrupted u run (hart s h).arch h
  pub allowed : IsAllowed u run h Kind.Fetch (hart s h).arch.pc walk
  pub decoded : IsCode (memory u s) (hart s h).arch.pc walk code

pub record IsExec (u : Setup) (run : List Event) (s : State) (h : ℕ) (walk second : Walked) (did : Outcome) : Type 0 where
  pub there : h < length s.harts
  pub holds : IsSome (hart s h).held
  pub allowed : AllowedFor u run h walk second (access_of (need s h))
  pub flushed : FlushesDone run h (flushing (surroundings u s) h (hart s h).arch (need s h))
  pub right : did ≡ perform (surroundings u s) h (hart s h).arch walk second (need s h)

pub record IsGiveUp (u : Setup) (run : List Event) (s : State) (h : ℕ) (walks : List Walked) : Type 0 where
  pub there : h < length s.harts
  pub holds : IsSome (hart s h).held
  pub made : WalksMade u run h (access_of (need s h)) walks

pub record IsInterrupt (u : Setup) (run : List Event) (s : State) (h : ℕ) : Type 0 where
  pub there : h < length s.harts
  pub started : (hart s h).mode ≡ Started
  pub holds_none : (hart s h).held ≡ None
  pub not_due : is_due u.limit run h (hart s h).count ≡ false
  pub pending : IsTrue (is_pending (hart s h).arch h (memory u s ipi_word))

pub record IsStart (u : Setup) (run : List Event) (s : State) (h at opaque : ℕ) : Type 0 where
  pub there : h < length s.harts
  pub pending : (hart s h).mode ≡ Pending
  pub not_due : is_due u.limit run h (hart s h).count ≡ false
  pub flushed : HasSince (starts_hart h) (flushes h Full) run
  pub at_is : at ≡ (hart s h).start
  pub opaque_is : opaque ≡ (hart s h).opaque

-- the script's next line
abbrev pub NextLine : List Command → Command → Type 0
NextLine script line = (more : List Command) × (script ≡ line ∷ more)

-- a hart's last event brought its count to the limit, or stopped the last of the harts; the script says stop
abbrev pub IsStop : Setup → List Event → State → ℕ → Reason → Type 0
IsStop u run s by (Reason.Limit h) = (h ≡ by) × (is_due u.limit run by (hart s by).count ≡ true)
IsStop u run s by Reason.AllStopped = IsTrue (passes leaves (last_of by run)) × IsTrue (all_halted s)
IsStop u run s by Reason.Stopped = (by ≡ monitor) × NextLine s.script StopAll
IsStop u run s by _ = ⊥

-- an event is lawful in a state that a run leaves
abbrev pub IsLawfulIn : Setup → List Event → State → Event → Type 0
IsLawfulIn u run s (Fetch h walk code) = IsFetch u run s h walk code
IsLawfulIn u run s (Exec h walk second did) = IsExec u run s h walk second did
IsLawfulIn u run s (GiveUp h walks) = IsGiveUp u run s h walks
IsLawfulIn u run s (Interrupt h) = IsInterrupt u run s h
IsLawfulIn u run s (Flushes h what) = (h < length s.harts) × (is_due u.limit run h (hart s h).count ≡ false)
IsLawfulIn u run s (Start h at opaque) = IsStart u run s h at opaque
IsLawfulIn u run s (Stop by reason) = IsStop u run s by reason
IsLawfulIn u run s (Await n) = NextLine s.script (AwaitBytes n) × (n ≤ length s.output)
IsLawfulIn u run s SnapBegin = NextLine s.script Snapshot × (passes is_snap_begin (last_of monitor run) ≡ false)
IsLawfulIn u run s (SnapEnd pages) = NextLine s.script Snapshot × IsTrue (passes is_snap_begin (last_of monitor run))
IsLawfulIn u run s (Dump at bytes) = NextLine s.script (DumpBytes at (length bytes)) × (bytes ≡ bytes_from (memory u s) at (length bytes))

abbrev pub IsLawful : Setup → List Event → Event → Type 0
IsLawful u run e = IsLawfulIn u run (state_of u run) e

-- a run: each event is lawful after those before it
abbrev pub IsRun : Setup → List Event → Type 0
IsRun u [] = Unit {0}
IsRun u (e ∷ run) = IsLawful u run e × IsRun u run

-- A run that a machine leaves behind when it ends is settled: every stop that is due has come. Where all harts are stopped, that was
-- said behind the last instruction that stopped one. A beginning of a run need not be settled.
pub record IsSettled (u : Setup) (run : List Event) : Type 0 where
  pub limits : (h : ℕ) → h < length (state_of u run).harts → is_due u.limit run h (hart (state_of u run) h).count ≡ false
  pub stopped : IsTrue (all_halted (state_of u run)) → HasSince leaves says_all_stopped run
