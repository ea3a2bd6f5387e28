-- The steps that a call made.
use Rattle.std.specs.Prelude.{◌≡◌, ◌≢◌, ◌≤◌, ◌<◌, ◌⊎◌, ℕ, ◌+◌, ◌/◌, ◌%◌, ◌^◌, true, List, [], ◌∷◌, ◌++◌, length}
use Rattle.step_laws.specs.declared.steps.Step.{Step}
use Rattle.step_laws.specs.declared.steps.WordOp.TheVariants.{Load, Store, Add, Or, Exchange}
use Rattle.step_laws.specs.Map.{Cons, Console, Dirty, Done, Ipi, Pend, Ram, Run, Stop, number_of, console_places}
use Rattle.step_laws.specs.Marks.{is_armed}
use Rattle.guest_ram.specs.Plays.{step_of}
use Rattle.guest_ram.specs.Ports.{Shown, after_step}
use Rattle.guest_ram.specs.Rule.{record_of}

-- the actor stored in its RUN
abbrev pub ran : Shown → ℕ → Shown
ran p value = after_step p (number_of (Run p.own.actor)) Store value 0

-- it stored 1 there, and found this in PEND
abbrev pub asked : Shown → ℕ → Shown
asked p found = after_step (ran p 1) (number_of Pend) Load 0 found

abbrev pub HasEntered : Shown → Shown → Type 0
HasEntered p q = q ≡ asked p 0

-- it found a claimant, and stored 0 in its RUN again
abbrev pub HasGivenUp : Shown → (found : ℕ) → Shown → Type 0
HasGivenUp p found q = (found ≢ 0) × (q ≡ ran (asked p found) 0)

abbrev pub HasLeft : Shown → Shown → Type 0
HasLeft p q = q ≡ ran p 0

-- a place was drawn, and the byte stored there
abbrev pub HasPut : Shown → Shown → ℕ → Type 0
HasPut p q byte = (place : ℕ) × (place < console_places) × (q ≡ after_step (after_step p (number_of Cons) Add 1 place) (number_of (Console place)) Store (byte + 256) 0)

-- a place was drawn that there isn't
abbrev pub HasFound : Shown → Shown → (place : ℕ) → Type 0
HasFound p q place = (console_places ≤ place) × (q ≡ after_step p (number_of Cons) Add 1 place)

abbrev pub HasPrinted : Shown → Shown → ℕ → Type 0
HasPrinted p q byte = HasPut p q byte ⊎ ((place : ℕ) × HasFound p q place)

-- the steps add the value to the words of RAM from this one on, in order
abbrev pub AreAdds : ℕ → ℕ → ℕ → List Step → Type 0
AreAdds actor from value [] = Unit {0}
AreAdds actor from value (s ∷ r) = (s ≡ step_of actor (number_of (Ram (from + length r))) Add value s.answer) × AreAdds actor from value r

-- the page was marked in its dirty word
abbrev pub HasMarked : Shown → Shown → (page : ℕ) → Type 0
HasMarked p q page = (answer : ℕ) × (q ≡ after_step p (number_of (Dirty (page / 64))) Or (2 ^ (page % 64)) answer)

-- the hart is armed for the pages of so many words of RAM from one on
abbrev pub IsArmedFor : (from count : ℕ) → Shown → Type 0
IsArmedFor from count p = (i : ℕ) → from ≤ i → i < from + count → is_armed p.own.actor (i / 512) p.own.steps ≡ true

-- so many words of a row were added to, and nothing else has changed
pub record HasAdded (p q : Shown) (from count value : ℕ) : Type 0 where
  pub added : List Step
  pub all : length added ≡ count
  pub adds : AreAdds p.own.actor from value added
  pub grown : q ≡ record p { own = record_of p.own.actor p.own.runs (added ++ p.own.steps) }

-- the hart marked the first page, entered, added 1 to the first eight words of RAM, put the byte on the console where there was room,
-- and left
pub record HasVisited (p q : Shown) (byte : ℕ) : Type 0 where
  pub marked : Shown
  pub entered : Shown
  pub added : Shown
  pub printed : Shown
  pub marks : HasMarked p marked 0
  pub enters : HasEntered marked entered
  pub adds : HasAdded entered added 0 8 1
  pub prints : HasPrinted added printed byte
  pub leaves : HasLeft printed q

-- or it marked the page and found a claimant
pub record IsSentAway (p q : Shown) : Type 0 where
  pub marked : Shown
  pub found : ℕ
  pub marks : HasMarked p marked 0
  pub gives_up : HasGivenUp marked found q

-- STOP was exchanged from 0 for a reason, and found as this
abbrev pub HasEnded : Shown → (reason found : ℕ) → Shown → Type 0
HasEnded p reason found q = (before : ℕ) × (q ≡ after_step (after_step p (number_of Stop) (Exchange 0) reason before) (number_of Stop) Load 0 found)

abbrev pub HasSignedOff : Shown → Shown → Type 0
HasSignedOff p q = q ≡ after_step p (number_of (Done p.own.actor)) Store 1 0

-- STOP was loaded, with which a turn begins
abbrev pub stop_loaded : Shown → (found : ℕ) → Shown
stop_loaded p found = after_step p (number_of Stop) Load 0 found

-- the hart's bit was set in IPI, which was found so
abbrev pub interrupted : Shown → (hart found : ℕ) → Shown
interrupted p hart found = after_step p (number_of Ipi) Or (2 ^ hart) found

-- CONS was loaded, and then a place
abbrev pub console_read : Shown → (place count found : ℕ) → Shown
console_read p place count found = after_step (after_step p (number_of Cons) Load 0 count) (number_of (Console place)) Load 0 found

-- a word of RAM was stored
abbrev pub ram_stored : Shown → (index value : ℕ) → Shown
ram_stored p index value = after_step p (number_of (Ram index)) Store value 0
