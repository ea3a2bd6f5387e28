-- What an event did beyond its hart's registers, and which steps leave what the reference machine has.
use Rattle.std.specs.Prelude.{◌≡◌, ◌≢◌, ◌<◌, ℕ, suc, ◌+◌, ◌-◌, ◌≤◌, Bool, true, false, List, [], ◌∷◌, length, Option, Some, None}
use Rattle.step_laws.specs.declared.steps.WordOp.{WordOp}
use Rattle.step_laws.specs.declared.steps.WordOp.TheVariants.{Load, Exchange}
use Rattle.step_laws.specs.Words.{console_places}
use Rattle.step_laws.specs.Map.{Word, Stop, Cons, Ipi, Hsm, Start, Opaque, Console, Ram}
use Rattle.machine_model.specs.declared.reason.Reason.{Reason}
use Rattle.machine_model.specs.Memory.{StoreEntry}
use Rattle.machine_model.specs.Event.{Event, Starting, Start as Begin, did_of}

-- what an event did beyond its hart's registers
pub record HasDone (e : Event) (entry : Option StoreEntry) (bytes : List ℕ) (reason : Option Reason) (starts : Option Starting) (stops : Bool) : Type 0 where
  pub entry_is : (did_of e).entry ≡ entry
  pub bytes_are : (did_of e).bytes ≡ bytes
  pub reason_is : (did_of e).reason ≡ reason
  pub starts_is : (did_of e).starts ≡ starts
  pub stops_is : (did_of e).stops ≡ stops

abbrev pub is_begin : Event → Bool
is_begin (Begin h at opaque) = true
is_begin _ = false

-- nothing
pub record IsQuiet (e : Event) : Type 0 where
  pub does : HasDone e None [] None None false
  pub begins_not : is_begin e ≡ false

-- the operation leaves what the reference machine has
abbrev pub IsCalm : Word → WordOp → (answer : ℕ) → Type 0
IsCalm (Ram i) Load answer = Unit {0}
IsCalm (Ram i) (Exchange old) answer = old ≢ answer
IsCalm (Ram i) _ answer = ⊥
IsCalm Ipi Load answer = Unit {0}
IsCalm Ipi (Exchange old) answer = old ≢ answer
IsCalm Ipi _ answer = ⊥
IsCalm Cons Load answer = Unit {0}
IsCalm Cons _ answer = ⊥
IsCalm (Console i) Load answer = Unit {0}
IsCalm (Console i) _ answer = ⊥
IsCalm Stop Load answer = Unit {0}
IsCalm Stop _ answer = ⊥
IsCalm (Hsm t) Load answer = Unit {0}
IsCalm (Hsm t) (Exchange old) answer = old ≢ answer
IsCalm (Hsm t) _ answer = ⊥
IsCalm (Start t) Load answer = Unit {0}
IsCalm (Start t) _ answer = ⊥
IsCalm (Opaque t) Load answer = Unit {0}
IsCalm (Opaque t) _ answer = ⊥
IsCalm _ _ answer = Unit {0}

-- the first of the console places drawn, of which the last stands first in the list
abbrev pub first_drawn : List ℕ → Option ℕ
first_drawn [] = None
first_drawn (i ∷ []) = Some i
first_drawn (i ∷ j ∷ ds) = first_drawn (j ∷ ds)

-- the drawn places, of which the last stands first, follow one another: each is the one before it and 1
abbrev pub AreFollowing : List ℕ → Type 0
AreFollowing [] = Unit {0}
AreFollowing (i ∷ []) = Unit {0}
AreFollowing (i ∷ j ∷ ds) = (i ≡ suc j) × AreFollowing (j ∷ ds)

-- from the first place that was drawn on there are as many as were drawn
pub record HasRoom (ds : List ℕ) : Type 0 where
  pub first : ℕ
  pub first_is : first_drawn ds ≡ Some first
  pub fits : first + length ds ≤ console_places

-- the bytes of a call for which there was no room: as many as there were places
pub record IsCutShort (ds bytes : List ℕ) : Type 0 where
  pub none : ds ≡ [] → bytes ≡ []
  pub some : (i : ℕ) → first_drawn ds ≡ Some i → (length bytes ≡ console_places - i) × (console_places < i + length ds)

-- the last start that the actor's own events made
abbrev pub newest : Option Starting → Option Starting → Option Starting
newest None old = old
newest (Some g) old = Some g

abbrev pub last_start : List Event → Option Starting
last_start [] = None
last_start (e ∷ run) = newest (did_of e).starts (last_start run)
