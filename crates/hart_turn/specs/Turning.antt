-- What a turn leaves.
use Rattle.std.specs.Prelude.{◌≡◌, ◌≢◌, ◌⊎◌, ◌+◌, ℕ, true}
use Rattle.step_laws.specs.Output.{is_finished}
use Rattle.machine_model.specs.State.{Setup}
use Rattle.guest_ram.specs.Areas.{AnyWord}
use Rattle.guest_ram.specs.Ports.{GoesBy, Shown}
use Rattle.hart_signals.specs.Signals.{HasFoundNoReason, HasFoundReason}
use Rattle.turn_pieces.specs.Draws.{beyond, filled}
use Rattle.turn_pieces.specs.Log.{Log, steps_of}
use Rattle.turn_pieces.specs.Writers.{Turned}
use Rattle.hart_turn.specs.declared.ends.TurnEnd.{TurnEnd}
use Rattle.hart_turn.specs.declared.ends.TurnEnd.TheVariants as ends
use Rattle.hart_turn.specs.declared.ends.Wait4.TheVariants as waits
use Rattle.hart_turn.specs.declared.hart.Hart.{Hart}
use Rattle.hart_turn.specs.Harts.{IsSettled}
use Rattle.hart_turn.specs.Logs.{AtEnd}
use Rattle.hart_turn.specs.Paths.{is_staying}

-- the hart is between turns, or has made its last step with the machine's end
abbrev pub StaysOrEnds : TurnEnd → Hart → Shown → Type 0
StaysOrEnds (ends.Ended reason) h p = is_finished p.own.steps ≡ true
StaysOrEnds end h p = IsSettled h p

-- it goes on
abbrev pub IsGoingOn : TurnEnd → Type 0
IsGoingOn (ends.Ended reason) = ⊥
IsGoingOn end = Unit {0}

-- but where it waits for its own lock
abbrev pub UnlessLocked : TurnEnd → Type 0 → Type 0
UnlessLocked (ends.Waiting (waits.Lock busy)) A = Unit {0}
UnlessLocked end A = A

-- The log tells of the hart and its port between turns: nothing is open in it, and a hart that drew a console place beyond the last has given a
-- reason to end
pub record IsBetween (h : Hart) (p : Shown) (u : Setup) (a : ℕ) (l : Log) : Type 0 where
  pub at_end : AtEnd h p u a l
  pub full : filled (steps_of l) ≢ beyond

-- each log between turns goes on by one turn to one between turns
abbrev pub TakesTurn : (h k : Hart) (p q : Shown) → Type 0
TakesTurn h k p q = Turned (IsBetween h p) (IsBetween k q)

-- A hart is inside behind a turn only where that retired or trapped, or lost an exchange. It may then stay for one instruction less than before
-- the turn, or for 63 more where it went in
abbrev pub StaysInside : TurnEnd → (h k : Hart) → Type 0
StaysInside end h k = k.inside ≡ true → (is_staying end ≡ true) × (((h.inside ≡ true) × (k.quantum + 1 ≡ h.quantum)) ⊎ (k.quantum ≡ 63))

-- the record has so many steps more, or fewer
abbrev pub Further : (p q : Shown) → Type 0
Further p q = (most : ℕ) × GoesBy most AnyWord p q

-- a turn's first step looks at STOP: it found this reason, exactly where the turn answers that the machine has ended
abbrev pub LooksFirst : TurnEnd → (p q : Shown) → Type 0
LooksFirst (ends.Ended reason) p q = (looked : Shown) × HasFoundReason reason p looked × Further looked q
LooksFirst end p q = (looked : Shown) × HasFoundNoReason p looked × Further looked q
