-- Which step an actor may make after its record. Records are newest first. Whether a step is permitted doesn't depend on its answer.
use Rattle.std.specs.Prelude.{◌≡◌, ◌≢◌, ℕ, suc, ◌+◌, ◌-◌, ◌%◌, ◌<◌, ◌≤◌, ◌^◌, ◌/◌, ◌⊎◌, Bool, true, false, Some, List, [], ◌∷◌}
use Rattle.step_laws.specs.declared.words.Layout.{Layout}
use Rattle.step_laws.specs.declared.map.TlbField.{TlbField}
use Rattle.step_laws.specs.declared.map.TlbField.TheVariants.{Write, Page}
use Rattle.step_laws.specs.declared.steps.Step.{Step}
use Rattle.step_laws.specs.declared.steps.WordOp.{WordOp}
use Rattle.step_laws.specs.declared.steps.WordOp.TheVariants.{Load, Store, Swap, Add, And, Or, Exchange}
use Rattle.step_laws.specs.Map.{Word, Zero, Pend, Stop, Live, Cons, Ipi, Run, Kick, Done, Lock, Size, Hsm, Start, Opaque, Place, Dirty, Tlb, Console, Ram, name_of, monitor, loader}
use Rattle.step_laws.specs.Fields.{IsReason, IsByteWord, IsRequestWord, IsSize, invalid_bit, request_kind}
use Rattle.step_laws.specs.Past.{Since, Anything}
use Rattle.step_laws.specs.Sections.{phase, raised, is_claimant, IsOut, MayTouch}
use Rattle.step_laws.specs.Places.{last_load, post_place, ack_place}
use Rattle.step_laws.specs.Tables.{held_lock, is_first_slot, is_compare, is_victim, size_of, table_word, is_clear_due, IsClean}
use Rattle.step_laws.specs.Marks.{MayWrite, MayClear, swapping, passing, stage, IsSwept}
use Rattle.step_laws.specs.Harts.{is_running, closed, opened, placed, handed, counted, opening, called, with_start, with_both, taking, is_owing}
use Rattle.step_laws.specs.Loader.{has_split, IsBooted}
use Rattle.step_laws.specs.Output.{is_drawn, has_touched, is_finished}

-- a hart of the machine, or the monitor
abbrev pub IsActor : Layout → ℕ → Type 0
IsActor layout a = (a < layout.harts) ⊎ (a ≡ monitor)

abbrev pub IsAway : Word → Step → Type 0
IsAway w x = name_of x.word ≢ w

-- the load of this request in the place
abbrev pub IsFetch : Word → ℕ → Step → Type 0
IsFetch w q x = (name_of x.word ≡ w) × (x.op ≡ Load) × (x.answer ≡ q)

-- the end of a lock section of the hart's own lock
abbrev pub IsUnlock : ℕ → Step → Type 0
IsUnlock a x = (name_of x.word ≡ Lock a) × (x.op ≡ Store) × (x.arg ≡ 0)

abbrev pub IsDrain : ℕ → Type 0
IsDrain q = request_kind q ≡ 3

-- the request q, which the place w was loaded as, was served since that load: a drain at once, a flush by a lock section at whose end
-- no valid entry is left on a page that it names
abbrev pub IsServed : (a : ℕ) → Word → (q : ℕ) → List Step → Type 0
IsServed a w q r = (IsDrain q × Since (IsAway w) (IsFetch w q) Anything r)
    ⊎ Since (IsAway w) (IsUnlock a) (λ xs. IsClean a q xs × Since (IsAway w) (IsFetch w q) Anything xs) r

-- a word of the own table that may be stored: any of a slot in use, and else only an invalid compare word
abbrev pub IsInUse : (a j : ℕ) → List Step → Type 0
IsInUse a j r = (j < size_of a r) ⊎ (is_victim j ≡ true)

-- what LIVE is added to take one from it
abbrev pub minus_one : ℕ
minus_one = 2 ^ 64 - 1

-- an operation that may write
abbrev pub Writes : WordOp → Type 0
Writes Load = ⊥
Writes _ = Unit {0}

-- the loader's kinds of step. It stores before its first load of word 0 only
pub data LoaderMay (layout : Layout) (r : List Step) : Word → WordOp → ℕ → Type 0 where
  boot_live : has_split r ≡ false → LoaderMay layout r Live Store 1
  boot_hsm : {h : ℕ} → has_split r ≡ false → 1 ≤ h → h < layout.harts → LoaderMay layout r (Hsm h) Store 1
  boot_size : {h : ℕ} → has_split r ≡ false → h < layout.harts → LoaderMay layout r (Size h) Store 64
  boot_slot : {h j : ℕ} {f : TlbField} → has_split r ≡ false → h < layout.harts → is_first_slot j ≡ true → is_compare f ≡ true → LoaderMay layout r (Tlb h j f) Store 1
  boot_ram : {i arg : ℕ} → has_split r ≡ false → LoaderMay layout r (Ram i) Store arg
  load_first : IsBooted layout r → LoaderMay layout r Zero Load 0
  load_more : has_split r ≡ true → LoaderMay layout r Zero Load 0

-- the kinds of step of the harts and the monitor
pub data ActorMay (layout : Layout) (a : ℕ) (runs : Bool) (r : List Step) : Word → WordOp → ℕ → Type 0 where
  -- sections: to enter, store 1 in the own RUN
  raise : IsOut r → ActorMay layout a runs r (Run a) Store 1
  -- then load PEND
  ask : phase r ≡ raised → ActorMay layout a runs r Pend Load 0
  -- to leave
  lower : ActorMay layout a runs r (Run a) Store 0
  -- to claim the section
  claim : IsOut r → ActorMay layout a runs r Pend (Exchange 0) (a + 1)
  -- a claimant looks whether another is outside
  check : {b : ℕ} → b ≢ a → is_claimant r ≡ true → ActorMay layout a runs r (Run b) Load 0
  release : is_claimant r ≡ true → ActorMay layout a runs r Pend Store 0
  -- call a hart out
  kick : {b : ℕ} → b ≢ a → b < layout.harts → ActorMay layout a runs r (Kick b) Store 1
  load_kick : a < layout.harts → ActorMay layout a runs r (Kick a) Load 0
  clear_kick : a < layout.harts → ActorMay layout a runs r (Kick a) Store 0
  -- inside or in section
  read_ram : {i : ℕ} → MayTouch layout a r → ActorMay layout a runs r (Ram i) Load 0
  write_ram : {i arg : ℕ} {op : WordOp} → Writes op → MayWrite layout a i r → ActorMay layout a runs r (Ram i) op arg
  touch_ipi : {arg : ℕ} {op : WordOp} → MayTouch layout a r → ActorMay layout a runs r Ipi op arg
  -- output and end
  load_stop : ActorMay layout a runs r Stop Load 0
  set_stop : {reason : ℕ} → IsReason layout reason → ActorMay layout a runs r Stop (Exchange 0) reason
  sign_off : ActorMay layout a runs r (Done a) Store 1
  draw : MayTouch layout a r → ActorMay layout a runs r Cons Add 1
  print : {i arg : ℕ} → MayTouch layout a r → is_drawn i r ≡ true → IsByteWord arg → ActorMay layout a runs r (Console i) Store arg
  load_cons : MayTouch layout a r → ActorMay layout a runs r Cons Load 0
  load_console : {i : ℕ} → MayTouch layout a r → ActorMay layout a runs r (Console i) Load 0
  -- locks: of the own hart
  lock_own : held_lock r ≡ 0 → a < layout.harts → ActorMay layout a runs r (Lock a) (Exchange 0) (a + 1)
  -- and by the monitor of each, in a snapshot's pass
  lock_other : {h : ℕ} → held_lock r ≡ 0 → a ≡ monitor → h < layout.harts → stage layout r ≡ passing h → ActorMay layout a runs r (Lock h) (Exchange 0) (a + 1)
  unlock : {h : ℕ} → held_lock r ≡ suc h → (h ≡ a → (j : ℕ) (f : TlbField) → is_compare f ≡ true → is_clear_due a j f r ≡ false) → (h ≢ a → IsSwept h r) → ActorMay layout a runs r (Lock h) Store 0
  -- tables
  load_slot : {j : ℕ} {f : TlbField} → a < layout.harts → ActorMay layout a runs r (Tlb a j f) Load 0
  load_size : a < layout.harts → ActorMay layout a runs r (Size a) Load 0
  put_compare : {j arg : ℕ} {f : TlbField} → held_lock r ≡ suc a → is_compare f ≡ true → IsInUse a j r ⊎ (arg ≡ 1) → (f ≡ Write → arg % 4 ≡ 0 → MayClear layout a j r)
      → ActorMay layout a runs r (Tlb a j f) Store arg
  put_page : {j arg : ℕ} → held_lock r ≡ suc a → IsInUse a j r → invalid_bit (table_word (Tlb a j Write) r) ≡ 1 → ActorMay layout a runs r (Tlb a j Page) Store arg
  put_size : {size : ℕ} → held_lock r ≡ suc a → IsSize size → ActorMay layout a runs r (Size a) Store size
  -- a page of the own table is dirty from now on
  clear_clean : {j : ℕ} → held_lock r ≡ suc a → MayClear layout a j r → ActorMay layout a runs r (Tlb a j Write) And (2 ^ 64 - 3)
  -- the monitor in the lock section of h
  load_other_size : {h : ℕ} → a ≡ monitor → held_lock r ≡ suc h → ActorMay layout a runs r (Size h) Load 0
  set_clean : {h j : ℕ} → a ≡ monitor → held_lock r ≡ suc h → ActorMay layout a runs r (Tlb h j Write) Or 2
  -- dirty marks: a hart's mark of a page
  mark : {i p arg : ℕ} → a < layout.harts → p < layout.pages → i ≡ p / 64 → arg ≡ 2 ^ (p % 64) → ActorMay layout a runs r (Dirty i) Or arg
  -- the monitor takes the next word
  take : {i : ℕ} → a ≡ monitor → stage layout r ≡ swapping i → ActorMay layout a runs r (Dirty i) Swap 0
  -- places: the source loads one
  poll : {t k : ℕ} → t ≢ a → ActorMay layout a runs r (Place t a k) Load 0
  -- and posts in the next, where its last step on it is a load that answered 0
  post : {t q k : ℕ} → t ≢ a → t < layout.harts → k ≡ post_place t a r → IsRequestWord q → last_load (Place t a k) r ≡ Some 0 → ActorMay layout a runs r (Place t a k) Store q
  -- the target loads the next
  fetch : {s k : ℕ} → s ≢ a → a < layout.harts → k ≡ ack_place a s r → has_touched r ≡ false → ActorMay layout a runs r (Place a s k) Load 0
  -- and acks it, once it is served
  ack : {s q k : ℕ} → s ≢ a → a < layout.harts → k ≡ ack_place a s r → has_touched r ≡ false → IsRequestWord q → last_load (Place a s k) r ≡ Some q → IsServed a (Place a s k) q r
      → ActorMay layout a runs r (Place a s k) Store 0
  -- hart states
  load_hsm : {h : ℕ} → ActorMay layout a runs r (Hsm h) Load 0
  -- a running hart begins a start of another
  begin_start : {h : ℕ} → a < layout.harts → is_running a runs r ≡ true → opening r ≡ closed → h ≢ a → h < layout.harts → ActorMay layout a runs r (Hsm h) (Exchange 1) 3
  set_start : {h at : ℕ} → opening r ≡ opened h → at % 4 ≡ 0 → ActorMay layout a runs r (Start h) Store at
  set_opaque : {h arg : ℕ} → opening r ≡ placed h → ActorMay layout a runs r (Opaque h) Store arg
  add_live : {h : ℕ} → opening r ≡ handed h → ActorMay layout a runs r Live Add 1
  end_start : {h : ℕ} → opening r ≡ counted h → ActorMay layout a runs r (Hsm h) Store 2
  -- the started hart
  load_start : taking a r ≡ called → ActorMay layout a runs r (Start a) Load 0
  load_opaque : taking a r ≡ with_start → ActorMay layout a runs r (Opaque a) Load 0
  take_start : taking a r ≡ with_both → is_running a runs r ≡ false → is_owing a r ≡ false → ActorMay layout a runs r (Hsm a) Store 0
  -- a running hart stops
  stop : a < layout.harts → is_running a runs r ≡ true → opening r ≡ closed → ActorMay layout a runs r (Hsm a) Store 1
  take_live : is_owing a r ≡ true → ActorMay layout a runs r Live Add minus_one

-- the actor a, whose hart runs at the beginning or not, may make this step after the record r
pub data IsPermitted (layout : Layout) (a : ℕ) (runs : Bool) (r : List Step) (w : Word) (op : WordOp) (arg : ℕ) : Type 0 where
  by_loader : a ≡ loader → LoaderMay layout r w op arg → IsPermitted layout a runs r w op arg
  -- no step comes after the one that says that the actor is done
  by_actor : IsActor layout a → is_finished r ≡ false → ActorMay layout a runs r w op arg → IsPermitted layout a runs r w op arg

-- each step of the record is permitted after those before it
abbrev pub IsDisciplined : Layout → ℕ → Bool → List Step → Type 0
IsDisciplined layout a runs [] = Unit {0}
IsDisciplined layout a runs (s ∷ r) = IsPermitted layout a runs r (name_of s.word) s.op s.arg × IsDisciplined layout a runs r
