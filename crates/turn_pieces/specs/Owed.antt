-- What the last step of a log owes, which steps may be made where something is owed, and which events pay it.
use Rattle.std.specs.Prelude.{◌≡◌, ◌≢◌, ◌⊎◌, ◌≤◌, ◌<◌, ℕ, zero, suc, ◌+◌, ◌==◌, nat_lt, if◌then◌else◌, Bool, true, false, List, [], ◌∷◌, length, Option, Some, None}
use Rattle.step_laws.specs.declared.steps.Step.{Step}
use Rattle.step_laws.specs.declared.steps.WordOp.{WordOp}
use Rattle.step_laws.specs.declared.steps.WordOp.TheVariants.{Load, Store, Swap, Add, Exchange}
use Rattle.step_laws.specs.Steps.{new_of}
use Rattle.step_laws.specs.Map.{Word, Pend, Run, Stop, Cons, Ipi, Hsm, Start, Opaque, Dirty, Console, Ram, name_of}
use Rattle.step_laws.specs.Sections.{IsInSection}
use Rattle.machine_model.specs.declared.reason.Reason.{Reason}
use Rattle.machine_model.specs.Memory.{StoreEntry, write_of}
use Rattle.machine_model.specs.Event.{Event, Starting, Start as Begin, SnapBegin, did_of}
use Rattle.machine_model.specs.State.{Setup}
use Rattle.step_laws.specs.Words.{console_places, monitor}
use Rattle.turn_pieces.specs.Folds.{Unstored, unstored_next}
use Rattle.turn_pieces.specs.Doing.{HasDone, is_begin, IsQuiet, AreFollowing, HasRoom, IsCutShort, last_start}
use Rattle.machine_model.specs.Run.{last_of, passes, is_snap_begin}
use Rattle.machine_model.specs.ReasonWords.{reason_word}
use Rattle.turn_pieces.specs.Log.{made, did, Log, steps_of, events_of}
use Rattle.turn_pieces.specs.Kept.{places, bytes}
use Rattle.turn_pieces.specs.Requests.{Acks}
use Rattle.turn_pieces.specs.Draws.{Drawing}

-- what a step demands of the next event
pub data Owed : Type 0 where
  -- nothing: plain events may stand here
  nothing : Owed
  -- its event stands: the next event stands behind another step
  paid : Owed
  -- a word of memory was written
  writes : (n value : ℕ) → Owed
  -- or stored by itself, as by the first half of a crossing store
  stores : (n value : ℕ) → Owed
  -- or by the second half
  joins : (m v n value : ℕ) → Owed
  -- a console place was drawn
  draws : (place : ℕ) → Owed
  -- a byte of a call was stored
  fills : Owed
  -- STOP was exchanged
  gives : (number : ℕ) → Owed
  -- a hart was taken that was stopped
  takes : (target : ℕ) → Owed
  -- a snapshot's first word was taken
  snaps : Owed
  -- the own hart begins, or stops
  begun : Owed
  left : Owed

abbrev pub owes_store : Owed → (n arg : ℕ) → Owed
owes_store (stores m v) n arg = joins m v n arg
owes_store _ n arg = stores n arg

abbrev pub owes_byte : Option Unstored → Owed
owes_byte None = fills
owes_byte (Some k) = nothing

abbrev pub owes_own : (arg : ℕ) → Owed
owes_own zero = begun
owes_own (suc zero) = left
owes_own _ = nothing

abbrev pub owes : Owed → Option Unstored → Word → WordOp → (n arg answer : ℕ) → Owed
owes o k (Ram i) Load n arg answer = nothing
owes o k (Ram i) Store n arg answer = owes_store o n arg
owes o k (Ram i) (Exchange old) n arg answer = if old == answer then writes n (new_of (Exchange old) answer arg) else nothing
owes o k (Ram i) op n arg answer = writes n (new_of op answer arg)
owes o k Ipi Load n arg answer = nothing
owes o k Ipi (Exchange old) n arg answer = if old == answer then writes n (new_of (Exchange old) answer arg) else nothing
owes o k Ipi op n arg answer = writes n (new_of op answer arg)
owes o k Cons Add n arg answer = if nat_lt answer console_places then draws answer else nothing
owes o k (Console i) Store n arg answer = owes_byte k
owes o k Stop (Exchange old) n arg answer = gives arg
owes o k (Hsm t) (Exchange old) n arg answer = if old == answer then takes t else nothing
owes o k (Hsm t) Store n arg answer = owes_own arg
owes o k (Dirty zero) Swap n arg answer = snaps
owes o k w op n arg answer = nothing

-- a byte whose event stands and that still has to be stored in its place
abbrev pub unstored_did : Owed → List ℕ → Option Unstored → Option Unstored
unstored_did (draws i) (b ∷ []) k = Some (record { place = i; byte = b })
unstored_did _ bs k = k

abbrev pub pays : Owed → Owed
pays nothing = nothing
pays _ = paid

-- what the last step owes, and the byte that is to be stored
pub record Due : Type 0 where
  pub owes_now : Owed
  pub byte : Option Unstored

abbrev pub due_made : Word → WordOp → (n arg answer : ℕ) → Due → Due
due_made w op n arg answer d = record { owes_now = owes d.owes_now d.byte w op n arg answer; byte = unstored_next w op answer [] d.byte }

abbrev pub due_did : List ℕ → Due → Due
due_did bs d = record { owes_now = pays d.owes_now; byte = unstored_did d.owes_now bs d.byte }

abbrev pub due : Log → Due
due [] = record { owes_now = paid; byte = None }
due (made s ∷ l) = due_made (name_of s.word) s.op s.word s.arg s.answer (due l)
due (did e ∷ l) = due_did (did_of e).bytes (due l)

abbrev pub owed : Log → Owed
owed l = (due l).owes_now

abbrev pub unstored : Log → Option Unstored
unstored l = (due l).byte

-- what a log says to a step or an event behind it
pub record Books : Type 0 where
  pub steps : List Step
  pub events : List Event
  pub places : List ℕ
  pub bytes : List ℕ
  pub unstored : Option Unstored

abbrev pub books : Log → Books
books l = record { steps = steps_of l; events = events_of l; places = places l; bytes = bytes l; unstored = unstored l }

-- the step before may stand without an event
abbrev pub Rests : Setup → (a : ℕ) → Books → Owed → Type 0
Rests u a b nothing = Unit {0}
Rests u a b paid = Unit {0}
Rests u a b (draws i) = IsInSection u.layout a b.steps
Rests u a b fills = Unit {0}
Rests u a b _ = ⊥

-- a byte goes where it was to go: that of an event which stands, or one of a call in section
abbrev pub IsPromised : Books → (i arg : ℕ) → Type 0
IsPromised b i arg = (byte : ℕ) × (b.unstored ≡ Some (record { place = i; byte = byte })) × (arg ≡ byte + 256) × (b.places ≡ [])

pub record IsNext (u : Setup) (a : ℕ) (b : Books) (i arg : ℕ) : Type 0 where
  pub inside : IsInSection u.layout a b.steps
  pub others : List ℕ
  pub drawn : b.places ≡ i ∷ others
  pub is_byte : 256 ≤ arg
  pub count : suc (length b.bytes) ≡ length b.places
  pub none : b.unstored ≡ None

-- steps on the words that the reference machine has too, and on those by which an actor enters and leaves
abbrev pub May : Setup → (a : ℕ) → Books → Word → WordOp → (arg answer : ℕ) → Type 0
May u a b Cons Load arg answer = Unit {0}
May u a b Cons Add arg answer = arg ≡ 1
May u a b Cons op arg answer = ⊥
May u a b (Console i) Load arg answer = Unit {0}
May u a b (Console i) Store arg answer = IsPromised b i arg ⊎ IsNext u a b i arg
May u a b (Console i) op arg answer = ⊥
May u a b Stop Load arg answer = Unit {0}
May u a b Stop (Exchange old) arg answer = old ≡ 0
May u a b Stop op arg answer = ⊥
May u a b (Hsm t) Load arg answer = Unit {0}
May u a b (Hsm t) (Exchange old) arg answer = old ≡ answer → (old ≡ 1) × (arg ≡ 3)
May u a b (Hsm t) Store arg answer = (arg ≡ 2) ⊎ ((t ≡ a) × (arg < 2))
May u a b (Hsm t) op arg answer = ⊥
May u a b (Start t) Load arg answer = Unit {0}
May u a b (Start t) Store arg answer = (opaque : ℕ) × (last_start b.events ≡ Some (record { target = t; at = arg; opaque = opaque }))
May u a b (Start t) op arg answer = ⊥
May u a b (Opaque t) Load arg answer = Unit {0}
May u a b (Opaque t) Store arg answer = (at : ℕ) × (last_start b.events ≡ Some (record { target = t; at = at; opaque = arg }))
May u a b (Opaque t) op arg answer = ⊥
May u a b (Dirty zero) Swap arg answer = passes is_snap_begin (last_of monitor b.events) ≡ false
May u a b (Run c) op arg answer = b.places ≡ []
May u a b Pend op arg answer = b.places ≡ []
May u a b w op arg answer = Unit {0}

-- the second half of a crossing store
abbrev pub IsJoin : (m : ℕ) → Word → WordOp → (n : ℕ) → Type 0
IsJoin m (Ram i) Store n = m ≢ n
IsJoin m _ _ n = ⊥

-- the step may be made where this is owed
abbrev pub MayBehind : Setup → (a : ℕ) → Books → Owed → Word → WordOp → (n arg answer : ℕ) → Type 0
MayBehind u a b (stores m v) w op n arg answer = IsInSection u.layout a b.steps × IsJoin m w op n
MayBehind u a b o w op n arg answer = Rests u a b o × May u a b w op arg answer

-- and what more it needs of the log: the flush of a request that it acks, and that places beyond the last are drawn once
pub record MayMake (u : Setup) (a : ℕ) (l : Log) (s : Step) : Type 0 where
  pub behind : MayBehind u a (books l) (owed l) (name_of s.word) s.op s.word s.arg s.answer
  pub acks : Acks a l (name_of s.word) s.op
  pub draws_last : Drawing (steps_of l) (name_of s.word) s.op

-- what is paid by what the event did
pub record Pays (e : Event) (entry : Option StoreEntry) (bytes : List ℕ) (reason : Option Reason) (starts : Option Starting) (stops : Bool) : Type 0 where
  pub does : HasDone e entry bytes reason starts stops
  pub begins_not : is_begin e ≡ false

pub record PrintsOne (b : Books) (i : ℕ) (e : Event) : Type 0 where
  pub byte : ℕ
  pub pays : Pays e None (byte ∷ []) None None false
  pub alone : b.places ≡ i ∷ []
  pub none : b.unstored ≡ None

pub record PrintsAll (b : Books) (e : Event) : Type 0 where
  pub pays : Pays e None b.bytes None None false
  -- no port tells that the places follow one another, as they do in each history: where they don't, nothing is owed of them
  pub fits : AreFollowing b.places → HasRoom b.places

pub record Ends (b : Books) (number : ℕ) (e : Event) : Type 0 where
  pub reason : Reason
  pub is : number ≡ reason_word reason
  pub pays : Pays e None b.bytes (Some reason) None false
  pub fills_it : AreFollowing b.places → IsCutShort b.places b.bytes

pub record Starts (t : ℕ) (e : Event) : Type 0 where
  pub at : ℕ
  pub opaque : ℕ
  pub pays : Pays e None [] None (Some (record { target = t; at = at; opaque = opaque })) false

-- the event may stand where this is owed
abbrev pub PaysFor : (a : ℕ) → Books → Owed → Event → Type 0
PaysFor a b nothing e = IsQuiet e
PaysFor a b paid e = ⊥
PaysFor a b (writes n v) e = Pays e (Some (write_of n v ∷ [])) [] None None false
PaysFor a b (stores n v) e = Pays e (Some (write_of n v ∷ [])) [] None None false
PaysFor a b (joins m v n x) e = Pays e (Some (write_of m v ∷ write_of n x ∷ [])) [] None None false
PaysFor a b (draws i) e = PrintsOne b i e
PaysFor a b fills e = PrintsAll b e
PaysFor a b (gives number) e = Ends b number e
PaysFor a b (takes t) e = Starts t e
PaysFor a b snaps e = e ≡ SnapBegin
PaysFor a b begun e = (at : ℕ) × (opaque : ℕ) × (e ≡ Begin a at opaque)
PaysFor a b left e = Pays e None [] None None true

abbrev pub HasPaid : (a : ℕ) → Log → Event → Type 0
HasPaid a l e = PaysFor a (books l) (owed l) e
