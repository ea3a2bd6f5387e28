-- What a monitor's turn does, step by step.
use Rattle.std.specs.Prelude.{◌≡◌, ℕ, zero, suc, ◌+◌, ◌<◌, ◌≤◌, true, false, List, [], ◌∷◌, ◌++◌, length}
use Rattle.step_laws.specs.Layout.{IsInLimits}
use Rattle.step_laws.specs.Map.{Word, Cons, Done, Kick, Pend, Ram, Run, Stop as StopWord, monitor, number_of}
use Rattle.step_laws.specs.Output.{is_finished}
use Rattle.step_laws.specs.Sections.{IsInSection, is_claimant, outside, phase}
use Rattle.step_laws.specs.declared.steps.WordOp.TheVariants.{Load}
use Rattle.std.specs.List.{AllByRecursion, list_all}
use Rattle.machine_model.specs.Memory.{Memory}
use Rattle.machine_model.specs.Sbi.{bytes_from}
use Rattle.machine_model.specs.declared.reason.Reason.{Reason}
use Rattle.guest_ram.specs.Ports.{GoesBy, Made, Shown, layout_of}
use Rattle.guest_ram.specs.declared.port.Seen.{Seen}
use Rattle.guest_devices.specs.Output.{HasSetStop}
use Rattle.exclusive.specs.Claims.{HasClaimed, HasFoundAllOut, HasFoundClaim, HasFoundInside, HasReleased}
use Rattle.exclusive.specs.Entries.{HasEntered, HasLeft, HasTurnedBack}
use Rattle.hart_calls.specs.Printing.{HasLoadedIf, begins_word}
use Rattle.hart_signals.specs.Signals.{HasFoundReason, HasSignedOff}
use Rattle.signal_pieces.specs.Signalling.{IsOfSides}
use Rattle.monitor_script.specs.Scripts.{is_possible}
use Rattle.monitor_script.specs.declared.scripts.Command.{Command}
use Rattle.monitor_script.specs.declared.scripts.Command.TheVariants.{Await, Dump, Stop}
use Rattle.monitor.specs.Monitors.{IsThere, Monitor, is_dumping, past, with_claim}
use Rattle.monitor.specs.declared.monitor.Outcome.TheVariants.{Bytes}

-- The monitor goes with its port between turns: it is outside, what it holds of the section and whether it has ended is what its record says. It
-- claims the section only for a dump, each command that is left is one that the machine can do, and each outcome's bytes are kept.
pub record GoesWith (m : Monitor) (p : Shown) : Type 0 where
  pub limits : IsInLimits (layout_of p)
  pub number : p.own.actor ≡ monitor
  pub out : phase p.own.steps ≡ outside
  pub claim : is_claimant p.own.steps ≡ m.claimed
  pub finished : is_finished p.own.steps ≡ m.rests
  pub claims : m.claimed ≡ true → is_dumping m.script ≡ true
  pub done : m.rests ≡ true → m.script ≡ []
  pub possible : list_all (is_possible (layout_of p).pages) m.script ≡ true
  pub kept : AllByRecursion (IsThere (length m.bytes)) m.outcomes

-- words that it makes steps on
abbrev pub IsOfMonitor : Word → Type 0
IsOfMonitor StopWord = Unit {0}
IsOfMonitor Pend = Unit {0}
IsOfMonitor Cons = Unit {0}
IsOfMonitor (Run a) = Unit {0}
IsOfMonitor (Kick h) = Unit {0}
IsOfMonitor (Done a) = Unit {0}
IsOfMonitor (Ram i) = Unit {0}
IsOfMonitor _ = ⊥

abbrev pub IsRam : Word → Type 0
IsRam (Ram i) = Unit {0}
IsRam _ = ⊥

-- it entered, loaded CONS as this, and left
pub record HasCounted (found : ℕ) (p q : Shown) : Type 0 where
  pub entered : Shown
  pub counted : Shown
  pub enters : HasEntered p entered
  pub loads : Made entered counted Cons Load 0 found
  pub leaves : HasLeft counted q

-- it claimed the section where it hadn't, found all others outside, and is alone
pub data HasGoneAlone (m : Monitor) (p q : Shown) : Type 0 where
  looked_again : m.claimed ≡ true → HasFoundAllOut p q → HasGoneAlone m p q
  claimed_then : (mid : Shown) → m.claimed ≡ false → HasClaimed p mid → HasFoundAllOut mid q → HasGoneAlone m p q

-- another claims the section, or isn't outside yet
pub data HasToWait (seen : Seen) (m k : Monitor) (p q : Shown) : Type 0 where
  other_claims : m.claimed ≡ false → k ≡ m → HasFoundClaim seen p q → HasToWait seen m k p q
  other_stays : m.claimed ≡ true → k ≡ m → HasFoundInside seen p q → HasToWait seen m k p q
  claimed_first : (mid : Shown) → m.claimed ≡ false → k ≡ with_claim true m → HasClaimed p mid → HasFoundInside seen mid q → HasToWait seen m k p q

-- the words of the first n bytes from this address on were loaded, each once, before its first byte
abbrev pub HasRead : Memory → (from n : ℕ) → Shown → Shown → Type 0
HasRead finds from zero p q = q ≡ p
HasRead finds from (suc n) p q = (mid : Shown) × HasRead finds from n p mid × HasLoadedIf (begins_word from n) finds (from + n) mid q

-- it keeps bytes, which are one outcome more
abbrev pub with_bytes : (at len : ℕ) → List ℕ → Monitor → Monitor
with_bytes at len bytes m = record m { outcomes = m.outcomes ++ Bytes at len (length m.bytes) ∷ []; bytes = m.bytes ++ bytes }

-- it was alone in its section, by steps on RUN, PEND and KICK, read the bytes, and gave the section back
pub record HasDumped (at len : ℕ) (m k : Monitor) (p q : Shown) : Type 0 where
  pub alone : Shown
  pub read : Shown
  pub finds : Memory
  pub goes : HasGoneAlone m p alone
  pub sides : GoesBy 18 IsOfSides p alone
  pub section : IsInSection (layout_of alone) alone.own.actor alone.own.steps
  pub reads : HasRead finds at len alone read
  pub gives : HasReleased read q
  pub keeps : k ≡ past (with_bytes at len (bytes_from finds at len) (with_claim false m))

-- so many bytes were drawn on the console, or more
pub record HasAwaited (count : ℕ) (m k : Monitor) (p q : Shown) : Type 0 where
  pub found : ℕ
  pub counts : HasCounted found p q
  pub enough : count ≤ found
  pub goes_past : k ≡ past m

-- not so many; or another claims the section
pub data HasToAwait (seen : Seen) (count : ℕ) (p q : Shown) : Type 0 where
  too_few : HasCounted seen.value p q → seen.word ≡ number_of Cons → seen.value < count → HasToAwait seen count p q
  turned_back : HasTurnedBack seen p q → HasToAwait seen count p q

-- STOP was exchanged for what the script says
abbrev pub HasStopped : Shown → Shown → Type 0
HasStopped p q = (stands : Reason) × HasSetStop Reason.Stopped stands p q

-- the command in progress was done. A stop leaves its line, behind which nothing is done: each later turn finds a reason in STOP
abbrev pub HasDone : Command → (m k : Monitor) → (p q : Shown) → Type 0
HasDone (Await count) m k p q = HasAwaited count m k p q
HasDone (Dump at len) m k p q = HasDumped at len m k p q
HasDone Stop m k p q = (k ≡ m) × HasStopped p q

-- or needs the word that was seen, which isn't as it has to be
abbrev pub HasWaited : (seen : Seen) → Command → (m k : Monitor) → (p q : Shown) → Type 0
HasWaited seen (Await count) m k p q = (k ≡ m) × HasToAwait seen count p q
HasWaited seen (Dump at len) m k p q = GoesBy 18 IsOfSides p q × HasToWait seen m k p q
HasWaited seen Stop m k p q = ⊥

-- the section was given back where it was claimed
pub data HasGivenBack (m : Monitor) (p q : Shown) : Type 0 where
  had_none : m.claimed ≡ false → q ≡ p → HasGivenBack m p q
  gave_back : m.claimed ≡ true → HasReleased p q → HasGivenBack m p q

-- the machine's end was found in STOP; the section was given back, and then the last step made
pub record HasEnded (reason : Reason) (m k : Monitor) (p q : Shown) : Type 0 where
  pub looked : Shown
  pub given : Shown
  pub finds : HasFoundReason reason p looked
  pub gives : HasGivenBack m looked given
  pub signs : HasSignedOff given q
  pub still : k ≡ with_claim false m

-- all was done, and the last step was made
pub record HasFinished (m k : Monitor) (p q : Shown) : Type 0 where
  pub none : m.script ≡ []
  pub signs : HasSignedOff p q
  pub rests : k ≡ record m { rests = true }
