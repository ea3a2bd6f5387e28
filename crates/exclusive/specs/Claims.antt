-- Claims of the section, and calls to harts to leave.
use Rattle.std.specs.Prelude.{◌≡◌, ◌≢◌, ℕ, ◌+◌, true}
use Rattle.step_laws.specs.declared.steps.WordOp.TheVariants.{Load, Store, Exchange}
use Rattle.step_laws.specs.Map.{Word, Kick, Pend, Run, actors, number_of}
use Rattle.guest_ram.specs.declared.port.Seen.{Seen}
use Rattle.guest_ram.specs.Ports.{Shown, Made, layout_of}
use Rattle.exclusive.specs.Others.{HasMadeAll, is_other, others_below}

-- KICK of a hart
abbrev pub IsKick : Word → Type 0
IsKick (Kick h) = Unit {0}
IsKick _ = ⊥

-- the words of a claim: PEND, and KICK of each hart
abbrev pub IsOfClaims : Word → Type 0
IsOfClaims Pend = Unit {0}
IsOfClaims w = IsKick w

-- 1 was stored in the hart's KICK
abbrev pub HasKicked : (hart : ℕ) → Shown → Shown → Type 0
HasKicked h p q = Made p q (Kick h) Store 1 0

-- 1 was stored in KICK of every hart but the own one, in order
abbrev pub HasKickedOthers : Shown → Shown → Type 0
HasKickedOthers p q = HasMadeAll Kick Store 1 (others_below (layout_of p) p.own.actor (layout_of p).harts) p q

-- PEND was exchanged from 0, which was found there, for the actor's number and 1, and then every other hart was called out
pub record HasClaimed (p q : Shown) : Type 0 where
  pub taken : Shown
  pub takes : Made p taken Pend (Exchange 0) (p.own.actor + 1) 0
  pub kicks : HasKickedOthers taken q

-- that exchange answered another value
pub record HasFoundClaim (seen : Seen) (p q : Shown) : Type 0 where
  pub fails : Made p q Pend (Exchange 0) (p.own.actor + 1) seen.value
  pub word : seen.word ≡ number_of Pend
  pub claimed : seen.value ≢ 0

-- RUN of each other actor below this number was loaded as 0, in order
abbrev pub HasFoundOut : (number : ℕ) → Shown → Shown → Type 0
HasFoundOut n p q = HasMadeAll Run Load 0 (others_below (layout_of p) p.own.actor n) p q

-- and so of all of them
abbrev pub HasFoundAllOut : Shown → Shown → Type 0
HasFoundAllOut p q = HasFoundOut actors p q

-- RUN of each other actor below one of them was loaded as 0, in order, and then RUN of that one as what was seen, which isn't 0
pub record HasFoundInside (seen : Seen) (p q : Shown) : Type 0 where
  pub actor : ℕ
  pub other : is_other (layout_of p) p.own.actor actor ≡ true
  pub before : Shown
  pub out : HasFoundOut actor p before
  pub finds : Made before q (Run actor) Load 0 seen.value
  pub word : seen.word ≡ number_of (Run actor)
  pub not_out : seen.value ≢ 0

-- 0 was stored in PEND
abbrev pub HasReleased : Shown → Shown → Type 0
HasReleased p q = Made p q Pend Store 0 0
