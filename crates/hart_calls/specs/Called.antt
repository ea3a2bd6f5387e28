-- What a call does, by what it asks for, and what it answers.
use Rattle.std.specs.Prelude.{◌≡◌, ◌≢◌, ℕ, Bool, true, false}
use Rattle.std.specs.Int.{w64, cast_unsigned}
use Rattle.rv64_priv.specs.State.{Arch}
use Rattle.rv64_exec.specs.declared.needs.IpiOp.{IpiOp}
use Rattle.step_laws.specs.Map.{Word, Stop, Live, Cons, Ipi, Hsm, Start, Opaque, Console, Ram}
use Rattle.machine_model.specs.declared.reason.Reason.{Reason}
use Rattle.machine_model.specs.Memory.{Memory}
use Rattle.machine_model.specs.Sbi.{already_available, state_number}
use Rattle.guest_ram.specs.Ports.{Shown, layout_of}
use Rattle.guest_devices.specs.Output.{HasFoundFull, HasPut, HasSetStop}
use Rattle.guest_devices.specs.Pending.{HasChangedPending}
use Rattle.hart_calls.specs.declared.asking.Asked.{Asked}
use Rattle.hart_calls.specs.declared.outcomes.SbiEnd.{SbiEnd}
use Rattle.hart_calls.specs.Ends.{succeeds}
use Rattle.hart_calls.specs.Asked.{IsAsked}
use Rattle.hart_calls.specs.States.{HasStarted, HasFoundState, HasLoadedState, HasStopped, mode_found}
use Rattle.hart_calls.specs.Printing.{HasCopied, HasRunOut}

-- what calls touch: hart states, pending interrupts, the console, RAM, and STOP
abbrev pub IsOfHartCalls : Word → Type 0
IsOfHartCalls Stop = Unit {0}
IsOfHartCalls Live = Unit {0}
IsOfHartCalls Cons = Unit {0}
IsOfHartCalls Ipi = Unit {0}
IsOfHartCalls (Hsm h) = Unit {0}
IsOfHartCalls (Start h) = Unit {0}
IsOfHartCalls (Opaque h) = Unit {0}
IsOfHartCalls (Console i) = Unit {0}
IsOfHartCalls (Ram i) = Unit {0}
IsOfHartCalls _ = ⊥

module _ (p q : Shown) where
  -- STOP was exchanged from 0 for this reason
  abbrev pub HasEnded : Reason → Type 0
  HasEnded reason = (stands : Reason) × HasSetStop reason stands p q

  -- a start: of the own hart, which runs, nothing is done
  pub data HasTried (target at opaque : ℕ) : SbiEnd → Type 0 where
    started : target ≢ p.own.actor → HasStarted target at opaque p q → HasTried target at opaque (succeeds 0)
    refused : (found : ℕ) → target ≢ p.own.actor → found ≢ 1 → HasFoundState target found p q → HasTried target at opaque (SbiEnd.Pair already_available 0)
    is_own : target ≡ p.own.actor → q ≡ p → HasTried target at opaque (SbiEnd.Pair already_available 0)

  -- a stop: who takes the last one from LIVE ends the machine
  pub data HasLeft : SbiEnd → Type 0 where
    stopped : (left : ℕ) → left ≢ 1 → HasStopped left p q → HasLeft SbiEnd.HartStopped
    stopped_last : (mid : Shown) (stands : Reason) → HasStopped 1 p mid → HasSetStop Reason.AllStopped stands mid q → HasLeft (SbiEnd.Over Reason.AllStopped)

  -- bytes: none without the section. Where one finds no place, the machine ends
  pub data HasWritten (from count : ℕ) : SbiEnd → (section : Bool) → Type 0 where
    no_byte : {section : Bool} → count ≡ 0 → q ≡ p → HasWritten from count (succeeds 0) section
    needs_section : count ≢ 0 → q ≡ p → HasWritten from count SbiEnd.NeedsSection false
    all_put : (finds : Memory) → count ≢ 0 → HasCopied finds from count p q → HasWritten from count (succeeds count) true
    fills : (finds : Memory) (mid : Shown) (stands : Reason) → HasRunOut finds from count p mid → HasSetStop Reason.OutFull stands mid q → HasWritten from count (SbiEnd.Over Reason.OutFull) true

  -- one byte, with this answer
  pub data HasWrittenByte (byte : ℕ) (answer : SbiEnd) : SbiEnd → Type 0 where
    put : HasPut byte p q → HasWrittenByte byte answer answer
    found_full : (place : ℕ) (mid : Shown) (stands : Reason) → HasFoundFull place p mid → HasSetStop Reason.OutFull stands mid q → HasWrittenByte byte answer (SbiEnd.Over Reason.OutFull)

  -- a fence: it is asked for, where it names a hart
  pub data HasNamed (harts : ℕ) (end : SbiEnd) : SbiEnd → Type 0 where
    some_named : harts ≢ 0 → HasNamed harts end end
    none_named : harts ≡ 0 → HasNamed harts end (succeeds 0)

  abbrev pub HasDone : (section : Bool) → Asked → SbiEnd → Type 0
  HasDone section (Asked.Gives error value) end = (end ≡ SbiEnd.Pair error value) × (q ≡ p)
  HasDone section (Asked.GivesOne error) end = (end ≡ SbiEnd.Single (cast_unsigned w64 error)) × (q ≡ p)
  HasDone section (Asked.Sends mask) end = (end ≡ succeeds 0) × ((found : ℕ) × HasChangedPending IpiOp.Set mask found p q)
  HasDone section (Asked.Fences harts span) end = HasNamed harts (SbiEnd.Fence harts span) end × (q ≡ p)
  HasDone section (Asked.Starts target at opaque) end = HasTried target at opaque end
  HasDone section (Asked.TellsState target) end = (found : ℕ) × (end ≡ succeeds (state_number (mode_found found))) × HasLoadedState target found p q
  HasDone section Asked.Leaves end = HasLeft end
  HasDone section (Asked.Ends reason) end = (end ≡ SbiEnd.Over reason) × HasEnded reason
  HasDone section (Asked.Prints from count) end = HasWritten from count end section
  HasDone section (Asked.PrintsByte byte) end = HasWrittenByte byte (succeeds 0) end
  HasDone section (Asked.PrintsOne byte) end = HasWrittenByte byte (SbiEnd.Single 0) end

-- the call that the registers ask for was made, and answered so
abbrev pub HasCalled : (section : Bool) → Arch → SbiEnd → (p q : Shown) → Type 0
HasCalled section a end p q = (asked : Asked) × IsAsked (layout_of p) a asked × HasDone p q section asked end
