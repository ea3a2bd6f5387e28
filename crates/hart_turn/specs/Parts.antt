-- What the parts of a turn do, step by step.
use Rattle.std.specs.Prelude.{◌≡◌, ◌≢◌, ◌⊎◌, ℕ, ◌+◌, Bool, true, false}
use Rattle.step_laws.specs.Words.{monitor}
use Rattle.step_laws.specs.declared.steps.WordOp.TheVariants.{Load}
use Rattle.step_laws.specs.Map.{Word, Done, Ipi, Kick, Stop}
use Rattle.rv64_priv.specs.Trap.{software_interrupt, trapped}
use Rattle.machine_model.specs.Change.{begun_arch}
use Rattle.machine_model.specs.Lawful.{is_pending}
use Rattle.guest_ram.specs.declared.port.Seen.{Seen}
use Rattle.guest_ram.specs.Areas.{IsOfService}
use Rattle.guest_ram.specs.Ports.{Made, Shown}
use Rattle.machine_model.specs.declared.reason.Reason.{Reason}
use Rattle.exclusive.specs.Claims.{HasClaimed, HasFoundAllOut, HasFoundClaim, HasFoundInside, HasReleased}
use Rattle.exclusive.specs.Entries.{HasLeft}
use Rattle.hart_signals.specs.Signals.{HasClearedKick, HasFoundKick, HasFoundReason, HasSignedOff}
use Rattle.hart_signals.specs.Starts.{HasBegun, HasFoundHeld, HasFoundStopped}
use Rattle.hart_signals.specs.declared.starts.Start.{Start}
use Rattle.request_serving.specs.Served.{HasGone, HasStopped}
use Rattle.hart_turn.specs.declared.hart.Claim.{Claim}
use Rattle.hart_turn.specs.declared.hart.Hart.{Hart}
use Rattle.guest_devices.specs.Output.{HasSetStop}
use Rattle.hart_turn.specs.Harts.{counted, is_made, with_claim}
use Rattle.signal_pieces.specs.Signalling.{IsOfSides}

-- outside, nothing is done; inside, the own KICK was loaded, and where it wasn't 0 the hart left
pub data HasSteppedOut (h k : Hart) (p q : Shown) : Type 0 where
  was_outside : h.inside ≡ false → k ≡ h → q ≡ p → HasSteppedOut h k p q
  stayed : h.inside ≡ true → k ≡ h → HasFoundKick 0 p q → HasSteppedOut h k p q
  was_called : (found : ℕ) (mid : Shown) → h.inside ≡ true → found ≢ 0 → k ≡ record h { inside = false } → HasFoundKick found p mid → HasLeft mid q → HasSteppedOut h k p q

-- the hart claimed the section where it hadn't, found all others outside, and is alone
pub data HasGoneAlone (h : Hart) (p q : Shown) : Type 0 where
  looked_again : h.claim ≡ Claim.Made → HasFoundAllOut p q → HasGoneAlone h p q
  claimed_then : (mid : Shown) → h.claim ≡ Claim.Wanted → HasClaimed p mid → HasFoundAllOut mid q → HasGoneAlone h p q

-- another claims the section, or isn't outside yet
pub data HasToWait (seen : Seen) (h k : Hart) (p q : Shown) : Type 0 where
  other_claims : h.claim ≡ Claim.Wanted → k ≡ h → HasFoundClaim seen p q → HasToWait seen h k p q
  other_stays : h.claim ≡ Claim.Made → k ≡ h → HasFoundInside seen p q → HasToWait seen h k p q
  claimed_first : (mid : Shown) → h.claim ≡ Claim.Wanted → k ≡ with_claim Claim.Made h → HasClaimed p mid → HasFoundInside seen mid q → HasToWait seen h k p q

-- the quantum falls by one, and with its last, or where the hart isn't to stay, it leaves
pub data HasSpent (stays : Bool) (h k : Hart) (p q : Shown) : Type 0 where
  remained : stays ≡ true → h.quantum ≢ 1 → k.quantum + 1 ≡ h.quantum → k ≡ record h { quantum = k.quantum } → q ≡ p → HasSpent stays h k p q
  left : (stays ≡ false) ⊎ (h.quantum ≡ 1) → k.quantum + 1 ≡ h.quantum → k ≡ record h { inside = false; quantum = k.quantum } → HasLeft p q → HasSpent stays h k p q

-- the section was given back where it was claimed
pub data HasGivenBack (h k : Hart) (p q : Shown) : Type 0 where
  had_none : is_made h.claim ≡ false → k ≡ with_claim Claim.Unwanted h → q ≡ p → HasGivenBack h k p q
  gave_back : is_made h.claim ≡ true → k ≡ with_claim Claim.Unwanted h → HasReleased p q → HasGivenBack h k p q

-- a hart inside left, and one outside gave the section back where it had claimed it
pub data HasSteppedAway (h k : Hart) (p q : Shown) : Type 0 where
  left : h.inside ≡ true → k ≡ record h { inside = false } → HasLeft p q → HasSteppedAway h k p q
  gave_back : h.inside ≡ false → HasGivenBack h k p q → HasSteppedAway h k p q

-- and then it made its last step
pub record HasLeftForGood (h k : Hart) (p q : Shown) : Type 0 where
  pub mid : Shown
  pub away : HasSteppedAway h k p mid
  pub signs : HasSignedOff mid q

-- the words of that, and the actor's DONE
abbrev pub IsOfLeaving : Word → Type 0
IsOfLeaving (Done a) = Unit {0}
IsOfLeaving w = IsOfSides w

-- the machine's end was found in STOP, and the hart left for good
pub record HasEnded (reason : Reason) (h k : Hart) (p q : Shown) : Type 0 where
  pub mid : Shown
  pub finds : HasFoundReason reason p mid
  pub left : HasLeftForGood h k mid q

-- STOP, and the words of leaving
abbrev pub IsOfBegin : Word → Type 0
IsOfBegin Stop = Unit {0}
IsOfBegin w = IsOfLeaving w

-- the own KICK was cleared, and then the sources had their turns, each with one request at most
pub record HasServedRound (any : Bool) (h k : Hart) (p q : Shown) : Type 0 where
  pub mid : Shown
  pub clears : HasClearedKick p mid
  pub gone : HasGone h.served mid h.book (monitor + 1) k.served q k.book any
  pub still : k ≡ record h { book = k.book; served = k.served }

-- so it was, until the own lock was found held
pub record HasStoppedServing (holder : ℕ) (h k : Hart) (p q : Shown) : Type 0 where
  pub mid : Shown
  pub clears : HasClearedKick p mid
  pub stopped : HasStopped h.served k.served holder mid q h.book k.book
  pub still : k ≡ record h { book = k.book; served = k.served }

-- what is called, and the words of requests
abbrev pub IsOfRequests : Word → Type 0
IsOfRequests (Kick h) = Unit {0}
IsOfRequests w = IsOfService w

-- the hart began, with the registers of its start; or it wasn't called, and is as it was
pub data HasStarted (h k : Hart) (p q : Shown) : (has_begun : Bool) → Type 0 where
  began : (start : Start) → k ≡ record h { arch = begun_arch h.number start.at start.opaque; runs = true; book = k.book } → HasBegun start p q h.book k.book → HasStarted h k p q true
  waits : k ≡ h → HasFoundStopped p q h.book k.book → HasStarted h k p q false

-- it was called, and its lock was found held
pub record HasHeldStart (holder : ℕ) (h k : Hart) (p q : Shown) : Type 0 where
  pub still : k ≡ h
  pub held : HasFoundHeld holder p q h.book k.book

-- it traps where it takes the interrupt
abbrev pub after_look : (taken : Bool) → Hart → Hart
after_look true h = record h { arch = trapped h.arch software_interrupt 0 }
after_look false h = h

-- IPI was loaded, and says so
pub record HasLooked (taken : Bool) (h : Hart) (p q : Shown) : Type 0 where
  pub found : ℕ
  pub looks : Made p q Ipi Load 0 found
  pub taken_is : taken ≡ is_pending h.arch h.number found

-- an instruction was counted, and with the last one of its limit STOP exchanged
pub data HasCounted (h k : Hart) (p q : Shown) : Type 0 where
  within : k ≡ counted h → k.count ≢ k.limit → q ≡ p → HasCounted h k p q
  at_limit : (stands : Reason) → k ≡ counted h → k.count ≡ k.limit → HasSetStop (Reason.Limit p.own.actor) stands p q → HasCounted h k p q
