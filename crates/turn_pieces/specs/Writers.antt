-- What writers of turns say of a function that makes steps.
use Rattle.std.specs.Prelude.{◌≡◌, ◌≢◌, ℕ, zero, ◌≤◌, false, List, [], ◌∷◌, ◌++◌, length, None}
use Rattle.std.specs.List.{AllByRecursion}
use Rattle.rv64_priv.specs.State.{Arch}
use Rattle.rv64_priv.specs.declared.state.Kind.{Kind}
use Rattle.rv64_priv.specs.Walk.{Walked}
use Rattle.step_laws.specs.declared.words.Layout.{Layout}
use Rattle.step_laws.specs.declared.steps.Step.{Step}
use Rattle.step_laws.specs.declared.steps.WordOp.{WordOp}
use Rattle.step_laws.specs.declared.steps.WordOp.TheVariants.{Load, Store, Swap}
use Rattle.step_laws.specs.Map.{Word, Pend, Stop, Run, Hsm, Place, Dirty, name_of}
use Rattle.step_laws.specs.Sections.{IsInSection}
use Rattle.machine_model.specs.Event.{Event}
use Rattle.machine_model.specs.State.{Setup}
use Rattle.machine_model.specs.Own.{Own}
use Rattle.machine_model.specs.Run.{renews}
use Rattle.turn_pieces.specs.Doing.{IsCalm}
use Rattle.turn_pieces.specs.Log.{made, Log, steps_of}
use Rattle.turn_pieces.specs.Kept.{own_part, places, bytes}
use Rattle.turn_pieces.specs.Owed.{owed, unstored, books, Rests}
use Rattle.turn_pieces.specs.Right.{IsSeen}
use Rattle.turn_pieces.specs.Grows.{IsClear, IsTurn}

-- what a port shows (it stands for guest_ram's)
pub record Shown : Type 0 where
  pub layout : Layout
  pub actor : ℕ
  pub steps : List Step

-- the log is that of the port, and makes this of its actor's part
pub record Stands (o : Own) (p : Shown) (u : Setup) (a : ℕ) (l : Log) : Type 0 where
  pub layout : u.layout ≡ p.layout
  pub actor : a ≡ p.actor
  pub is : steps_of l ≡ p.steps
  pub part_is : own_part u a l ≡ o

-- and nothing is open: no event, no place, no byte
pub record Tells (o : Own) (p : Shown) (u : Setup) (a : ℕ) (l : Log) : Type 0 where
  pub stands : Stands o p u a l
  pub clear : IsClear (owed l)
  pub none_drawn : places l ≡ []
  pub none_left : unstored l ≡ None

-- a step that needs nothing else of the log: no ack, no look at STOP, no first swap of a snapshot
abbrev pub IsPlain : (a : ℕ) → Word → WordOp → Type 0
IsPlain a (Place t s k) Store = t ≢ a
IsPlain a Stop Load = ⊥
IsPlain a (Dirty zero) Swap = ⊥
IsPlain a _ _ = Unit {0}

-- steps of the actor that need no event
abbrev pub AreCalm : (a : ℕ) → List Step → Type 0
AreCalm a [] = Unit {0}
AreCalm a (s ∷ r) = IsCalm (name_of s.word) s.op s.answer × IsPlain a (name_of s.word) s.op × AreCalm a r

-- steps on words of this set
abbrev pub AreOn : (Word → Type 0) → List Step → Type 0
AreOn touch [] = Unit {0}
AreOn touch (s ∷ r) = touch (name_of s.word) × AreOn touch r

-- words that a turn inside leaves alone are not in this set: places, PEND, HSM and RUN
abbrev pub IsInner : Word → Type 0
IsInner (Place t s k) = ⊥
IsInner Pend = ⊥
IsInner (Hsm h) = ⊥
IsInner (Run a) = ⊥
IsInner w = Unit {0}

abbrev pub Anywhere : Word → Type 0
Anywhere w = Unit {0}

abbrev pub quietly : List Step → Log → Log
quietly [] l = l
quietly (s ∷ r) l = made s ∷ quietly r l

-- at most so many steps more, none of which needs an event, on words of the set, and nothing else has changed
pub record QuietBy (touch : Word → Type 0) (most : ℕ) (p q : Shown) : Type 0 where
  pub added : List Step
  pub few : length added ≤ most
  pub grown : q ≡ record p { steps = added ++ p.steps }
  pub calm : AreCalm p.actor added
  pub inner : AreOn touch added

-- and of every log that stands at the port, the log with these steps shows this
pub record Shows (touch : Word → Type 0) (most : ℕ) (p q : Shown) (R : Setup → ℕ → Log → Type 0) : Type 0 where
  pub quiet : QuietBy touch most p q
  pub shows : (u : Setup) (a : ℕ) (l : Log) → u.layout ≡ p.layout → a ≡ p.actor → steps_of l ≡ p.steps → R u a (quietly quiet.added l)

-- a console call in section, of which these places are drawn, the last first, and these bytes stored, in order
pub record InCall (u : Setup) (a : ℕ) (ds bs : List ℕ) (l : Log) : Type 0 where
  pub rests : Rests u a (books l) (owed l)
  pub drawn : places l ≡ ds
  pub stored : bytes l ≡ bs
  pub none : unstored l ≡ None
  pub inside : IsInSection u.layout a (steps_of l)

-- a fact of logs that every further step leaves, as what was seen, asked for or said
abbrev pub Stays : (Setup → ℕ → Log → Type 0) → Type 0
Stays F = (u : Setup) (a : ℕ) (s : Step) (l : Log) → F u a l → F u a (made s ∷ l)

-- an entry that a book keeps: the log shows its walk under these registers
pub record Fill : Type 0 where
  pub kind : Kind
  pub va : ℕ
  pub end : Walked

abbrev pub Keeps : Arch → List Fill → Setup → ℕ → Log → Type 0
Keeps c fills u a l = AllByRecursion (λ f. IsSeen u.layout.pages a c f.kind f.va f.end l) fills

-- the event ends none of them
abbrev pub Spares : (a : ℕ) → Event → List Fill → Type 0
Spares a e fills = AllByRecursion (λ f. renews a f.va f.end e ≡ false) fills

-- of a turn: each log of which the one holds goes on by a turn to one of which the other holds
pub record TurnsTo (u : Setup) (a : ℕ) (l : Log) (Q : Log → Type 0) : Type 0 where
  pub late : Log
  pub turn : IsTurn u a l late
  pub holds : Q late

abbrev pub Turned : (P Q : Setup → ℕ → Log → Type 0) → Type 0
Turned P Q = (u : Setup) (a : ℕ) (l : Log) → P u a l → TurnsTo u a l (Q u a)
