-- Turns in a row: a plain run goes on by them.
use Rattle.std.specs.Prelude.{◌≡◌, ℕ, List, ◌++◌}
use Rattle.machine_model.specs.Event.{Event}
use Rattle.machine_model.specs.State.{Setup}
use Rattle.machine_model.specs.Run.{state_of}
use Rattle.machine_model.specs.Plain.{IsPlainRun}
use Rattle.ref_machine.specs.PlainState.{PlainState}
use Rattle.ref_machine.specs.Shows.{Shows}

-- no other plain run has this order
abbrev pub IsOnly : Setup → List ℕ → List Event → Type 0
IsOnly u order run = (other : List Event) → IsPlainRun u order other → other ≡ run

-- Behind these turns, the last of which is first, the machine shows the state of a plain run that goes on by them. It is the
-- only one, where the run before them is the only one of its order.
pub record GoesOn (u : Setup) (order : List ℕ) (run : List Event) (turns : List ℕ) (q : PlainState) : Type 0 where
  pub more : List Event
  pub plain : IsPlainRun u (turns ++ order) (more ++ run)
  pub shown : Shows u q (state_of u (more ++ run))
  pub only : IsOnly u order run → IsOnly u (turns ++ order) (more ++ run)

abbrev pub Ran : List ℕ → PlainState → PlainState → Type 0
Ran turns p q = (u : Setup) (order : List ℕ) (run : List Event) → IsPlainRun u order run → Shows u p (state_of u run) → GoesOn u order run turns q
