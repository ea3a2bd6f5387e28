-- What one turn shows by itself, records that are cut in turns, and the run that all records together give.
use Rattle.std.specs.List.{list_any}
use Rattle.std.specs.Prelude.{◌≡◌, ◌≢◌, ◌⊎◌, ℕ, true, false, IsTrue, List, [], ◌∷◌, ◌++◌, None}
use Rattle.step_laws.specs.declared.steps.Step.{Step}
use Rattle.step_laws.specs.declared.steps.WordOp.TheVariants.{Load}
use Rattle.step_laws.specs.Map.{Zero, Stop, name_of}
use Rattle.step_laws.specs.Words.{loader}
use Rattle.step_laws.specs.Harts.{is_owing}
use Rattle.machine_model.specs.Event.{Event}
use Rattle.machine_model.specs.State.{Setup}
use Rattle.machine_model.specs.Run.{is_due, says_all_stopped}
use Rattle.run_laws.proofs.Placed.{Placed, steps, run_of, mine}
use Rattle.run_laws.proofs.Kept.{part_at, whole, half, drawn, unstored}
use Rattle.turn_pieces.specs.Folds.{was_last}
use Rattle.run_laws.proofs.Fits.{AllFit}
use Rattle.run_laws.proofs.Acks.{Acks}
use Rattle.turn_pieces.specs.Draws.{filled, beyond, Drawing}
use Rattle.run_laws.proofs.Accounts.{Accounts}
use Rattle.turn_pieces.specs.Folds.{IsUncount}

-- a step with its events is right behind the actor's record r
pub record IsPlaced (u : Setup) (a : ℕ) (r : List Placed) (s : Step) (es : List Event) : Type 0 where
  pub fit : AllFit u a s r es
  pub accounts : Accounts u a r s.word (name_of s.word) s.op s.arg s.answer es
  pub acks : Acks a r (name_of s.word) s.op
  pub draws : Drawing (steps r) (name_of s.word) s.op

-- the steps ts, placed after the record r
abbrev pub IsPart : Setup → (a : ℕ) → List Placed → List Placed → Type 0
IsPart u a r [] = Unit {0}
IsPart u a r (t ∷ ts) = IsPlaced u a (ts ++ r) t.step t.events × IsPart u a r ts

-- an AllStopped stands since the actor's last step of this kind
abbrev pub Said : List Placed → Type 0
Said [] = ⊥
Said (t ∷ p) = IsTrue (list_any says_all_stopped t.events) ⊎ ((IsUncount (name_of t.step.word) t.step.op t.step.arg → ⊥) × Said p)

-- nothing is left open: no half of a store, no place, no stop that is due
pub record IsWhole (u : Setup) (a : ℕ) (p : List Placed) : Type 0 where
  pub stores : half p ≡ whole
  pub places : drawn p ≡ []
  pub bytes : unstored p ≡ None
  pub stops : is_due u.limit (run_of p) a (part_at u a p).count ≡ false
  -- who was the last to stop has said that all are, and nobody stops without saying so in LIVE
  pub last : was_last a (steps p) ≡ true → Said p
  pub left : is_owing a (steps p) ≡ false
  -- who drew a place beyond the last has given a reason to end
  pub full : filled (steps p) ≢ beyond

-- a turn begins with a load of STOP
abbrev pub BeginsTurn : List Placed → Type 0
BeginsTurn [] = ⊥
BeginsTurn (t ∷ []) = (name_of t.step.word ≡ Stop) × (t.step.op ≡ Load)
BeginsTurn (t ∷ x ∷ ts) = BeginsTurn (x ∷ ts)

-- one turn of a hart or the monitor
pub record IsPiece (u : Setup) (a : ℕ) (r ts : List Placed) : Type 0 where
  pub begins : BeginsTurn ts
  pub part : IsPart u a r ts
  pub all : IsWhole u a (ts ++ r)

-- a record that is cut in turns
pub data IsTurns (u : Setup) (a : ℕ) : List Placed → Type 0 where
  none : IsTurns u a []
  turn : (r ts : List Placed) → IsTurns u a r → IsPiece u a r ts → IsTurns u a (ts ++ r)
  -- the look at STOP behind the last turn
  looks : (r : List Placed) (t : Placed) → IsTurns u a r → name_of t.step.word ≡ Stop → t.step.op ≡ Load → t.events ≡ [] → IsTurns u a (t ∷ r)

-- the loader's loads of word 0
abbrev pub IsIdle : List Placed → Type 0
IsIdle [] = Unit {0}
IsIdle (t ∷ r) = (name_of t.step.word ≡ Zero) × (t.step.op ≡ Load) × (t.events ≡ []) × IsIdle r

-- a hart's or the monitor's turns, or the loader's loads
abbrev pub IsActing : Setup → (a : ℕ) → List Placed → Type 0
IsActing u a r = ((a ≢ loader) × IsTurns u a r) ⊎ IsIdle r

-- the events of the run stand at steps of the history, those of each actor where its own record has them
pub record Reads (h : List Step) (records : ℕ → List Placed) (run : List Event) : Type 0 where
  pub all : List Placed
  pub order : steps all ≡ h
  pub kept : (a : ℕ) → mine a all ≡ records a
  pub events : run_of all ≡ run

-- of all records woven in one: each step has its events by right
-- a load of word 0 by the loader
abbrev pub IsIdleStep : Placed → Type 0
IsIdleStep t = (name_of t.step.word ≡ Zero) × (t.step.op ≡ Load) × (t.events ≡ [])

-- a step has its events by right, after its actor's record
pub record Right (u : Setup) (a : ℕ) (r : List Placed) (t : Placed) : Type 0 where
  pub right : IsPlaced u a r t.step t.events
  pub who : (a ≢ loader) ⊎ IsIdleStep t

abbrev pub Told : Setup → List Placed → Type 0
Told u [] = Unit {0}
Told u (t ∷ ts) = Right u t.step.actor (mine t.step.actor ts) t × Told u ts

-- no record is no turn
abbrev pub NoTurns : Type 0
NoTurns = (u : Setup) (a : ℕ) → IsTurns u a []
