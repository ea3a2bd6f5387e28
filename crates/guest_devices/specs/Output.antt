-- The console's places, each of which takes a byte, and the word STOP, which says why the machine ends.
use Rattle.std.specs.Prelude.{◌≡◌, ℕ, ◌+◌, ◌<◌, ◌≤◌, ◌^◌}
use Rattle.step_laws.specs.declared.steps.WordOp.TheVariants.{Store, Add, Exchange}
use Rattle.step_laws.specs.Map.{Cons, Console, Stop}
use Rattle.step_laws.specs.Steps.{new_of}
use Rattle.step_laws.specs.Words.{console_places}
use Rattle.machine_model.specs.declared.reason.Reason.{Reason}
use Rattle.machine_model.specs.ReasonWords.{reason_word}
use Rattle.guest_ram.specs.Ports.{Shown, Made}

-- one more place was drawn: CONS counts those that were drawn before
abbrev pub HasDrawn : (place : ℕ) → Shown → Shown → Type 0
HasDrawn place p q = Made p q Cons Add 1 place

-- a place that there is was drawn, and the byte stored in it
pub record HasPut (byte : ℕ) (p q : Shown) : Type 0 where
  pub place : ℕ
  pub less : place < console_places
  pub mid : Shown
  pub draws : HasDrawn place p mid
  pub stores : Made mid q (Console place) Store (byte + 2 ^ 8) 0

-- a place was drawn that there isn't
pub record HasFoundFull (place : ℕ) (p q : Shown) : Type 0 where
  pub beyond : console_places ≤ place
  pub draws : HasDrawn place p q

-- STOP was exchanged from 0, and was found so; what it holds since says this reason
pub record HasSetStop (reason stands : Reason) (p q : Shown) : Type 0 where
  pub found : ℕ
  pub exchanges : Made p q Stop (Exchange 0) (reason_word reason) found
  pub stands_is : reason_word stands ≡ new_of (Exchange 0) found (reason_word reason)

-- a byte was printed, or the machine ends since the console is full
pub data HasPrinted (byte : ℕ) (p q : Shown) : Type 0 where
  put : HasPut byte p q → HasPrinted byte p q
  full : {mid : Shown} (place : ℕ) (stands : Reason) → HasFoundFull place p mid → HasSetStop Reason.OutFull stands mid q → HasPrinted byte p q
