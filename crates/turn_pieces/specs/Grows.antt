-- Logs that go on by lawful steps and events, parts of turns, and turns.
use Rattle.std.specs.Prelude.{◌≡◌, ◌≢◌, ℕ, suc, true, false, [], ◌∷◌, None}
use Rattle.step_laws.specs.declared.steps.Step.{Step}
use Rattle.step_laws.specs.declared.steps.WordOp.{WordOp}
use Rattle.step_laws.specs.declared.steps.WordOp.TheVariants.{Load}
use Rattle.step_laws.specs.Map.{Word, Stop, name_of}
use Rattle.step_laws.specs.Harts.{is_owing}
use Rattle.machine_model.specs.Event.{Event}
use Rattle.machine_model.specs.State.{Setup}
use Rattle.machine_model.specs.Run.{is_due, last_of, passes, is_snap_begin}
use Rattle.turn_pieces.specs.Folds.{was_last}
use Rattle.turn_pieces.specs.Log.{made, did, Log, steps_of, events_of}
use Rattle.turn_pieces.specs.Kept.{own_part, places, HasSaid}
use Rattle.turn_pieces.specs.Owed.{Owed, nothing, paid, owed, unstored, MayMake}
use Rattle.turn_pieces.specs.Right.{IsRight}
use Rattle.turn_pieces.specs.Draws.{filled, beyond}
use Rattle.turn_pieces.specs.Marks.{is_awaited}
use Rattle.turn_pieces.specs.Snapshots.{is_going}
use Rattle.step_laws.specs.Words.{monitor}
use Rattle.step_laws.specs.Output.{is_finished}

-- a log goes on by steps that may be made and events that are right
pub data Grows (u : Setup) (a : ℕ) (l : Log) : Log → Type 0 where
  stays : Grows u a l l
  makes : {m : Log} (s : Step) → Grows u a l m → MayMake u a m s → Grows u a l (made s ∷ m)
  does : {m : Log} (e : Event) → Grows u a l m → IsRight u a m e → Grows u a l (did e ∷ m)

-- it goes on to one of which this holds
pub record Ends (u : Setup) (a : ℕ) (l : Log) (Q : Log → Type 0) : Type 0 where
  pub late : Log
  pub grows : Grows u a l late
  pub holds : Q late

-- each log of which the one holds goes on to one of which the other holds
abbrev pub Part : (P Q : Setup → ℕ → Log → Type 0) → Type 0
Part P Q = (u : Setup) (a : ℕ) (l : Log) → P u a l → Ends u a l (Q u a)

-- no step owes an event
abbrev pub IsClear : Owed → Type 0
IsClear nothing = Unit {0}
IsClear paid = Unit {0}
IsClear _ = ⊥

-- nothing is left open behind a turn
pub record IsClosed (u : Setup) (a : ℕ) (l : Log) : Type 0 where
  pub clear : IsClear (owed l)
  pub none_drawn : places l ≡ []
  pub none_left : unstored l ≡ None
  pub stops : is_due u.limit (events_of l) a (own_part u a l).count ≡ false
  pub last : was_last a (steps_of l) ≡ true → HasSaid l
  pub left : is_owing a (steps_of l) ≡ false
  -- who drew a place beyond the last has given a reason to end
  pub full : filled (steps_of l) ≢ beyond
  -- each page that it marked was given by a store walk of an event behind the mark
  pub marks : (page : ℕ) → is_awaited u a page l ≡ false
  -- and a snapshot is going on where the monitor's last event has begun one
  pub snapshot : a ≡ monitor → is_going u.layout (steps_of l) ≡ passes is_snap_begin (last_of monitor (events_of l))

-- the step is a load of STOP
abbrev pub LooksAtStop : Step → Type 0
LooksAtStop s = (name_of s.word ≡ Stop) × (s.op ≡ Load)

abbrev pub look_next : Word → WordOp → ℕ → ℕ
look_next Stop Load n = suc n
look_next _ _ n = n

-- how often the actor has loaded STOP
abbrev pub looks_of : Log → ℕ
looks_of [] = 0
looks_of (made s ∷ l) = look_next (name_of s.word) s.op (looks_of l)
looks_of (did e ∷ l) = looks_of l

-- one turn: it begins with a load of STOP, and has no other
pub record IsTurn (u : Setup) (a : ℕ) (l late : Log) : Type 0 where
  pub look : Step
  pub looks : LooksAtStop look
  pub grows : Grows u a (made look ∷ l) late
  pub once : looks_of late ≡ suc (looks_of l)
  pub closed : IsClosed u a late

-- so many turns, one behind another
pub data AreTurns (u : Setup) (a : ℕ) : ℕ → Log → Type 0 where
  none : AreTurns u a 0 []
  turn : {n : ℕ} {l late : Log} → AreTurns u a n l → IsTurn u a l late → AreTurns u a (suc n) late
  -- once the monitor is done, its turns have no step
  rests : {n : ℕ} {l : Log} → AreTurns u a n l → a ≡ monitor → is_finished (steps_of l) ≡ true → AreTurns u a (suc n) l

-- an actor's whole log: its turns, and maybe a look at STOP behind the last, which belongs to none
pub data IsChain (u : Setup) (a n : ℕ) : Log → Type 0 where
  whole : {l : Log} → AreTurns u a n l → IsChain u a n l
  looks : {l : Log} (s : Step) → AreTurns u a n l → LooksAtStop s → IsChain u a n (made s ∷ l)
