-- What the parts of a turn give as the machine on one thread keeps them.
use Rattle.std.specs.Prelude.{◌≡◌, ℕ, ◌<◌, Bool, true, false, IsNone, Option, Some, None, Result, Ok, Err}
use Rattle.rv64_decode.specs.declared.instruction.Instr.{Instr}
use Rattle.rv64_decode.specs.Encoding.{IsInRange}
use Rattle.rv64_priv.specs.State.{Arch}
use Rattle.rv64_exec.specs.declared.needs.Answer.{Answer}
use Rattle.rv64_exec.specs.declared.needs.Need.{Need}
use Rattle.rv64_exec.specs.Plan.{need_of}
use Rattle.machine_model.specs.declared.reason.Reason.{Reason}
use Rattle.ref_machine.specs.declared.translation.Fault.{Fault}
use Rattle.ref_machine.specs.declared.atomics.Reserved.{Reserved}
use Rattle.ref_machine.specs.declared.hart.HartSlot.{HartSlot}
use Rattle.ref_machine.specs.declared.calls.Call.{Call as Kept}
use Rattle.ref_machine.specs.declared.calling.Served.{Served}
use Rattle.machine_model.specs.Event.{Starting}
use Rattle.machine_model.specs.Perform.{call_outcome}
use Rattle.ref_machine.specs.Calls.{says}
use Rattle.ref_machine.specs.SharedState.{Shared, ram_memory}
use Rattle.ref_machine.specs.OneTurn.{Done, Alone, Calls, effect_called, room}

abbrev pub fault_answer : Fault → Answer
fault_answer fault = Answer.Fault fault.cause fault.tval

abbrev pub load_answer : Result ℕ Fault → Answer
load_answer (Ok value) = Answer.Value value
load_answer (Err fault) = fault_answer fault

abbrev pub store_answer : Result (Option Reason) Fault → Answer
store_answer (Ok reason) = Answer.Nothing
store_answer (Err fault) = fault_answer fault

abbrev pub store_reason : Result (Option Reason) Fault → Option Reason
store_reason (Ok reason) = reason
store_reason (Err fault) = None

-- an LR's number and hold, and whether an SC stored
abbrev pub reserve_answer : Result Reserved Fault → Answer
reserve_answer (Ok reserved) = Answer.LrValue reserved.value reserved.hold
reserve_answer (Err fault) = fault_answer fault

abbrev pub conditional_answer : Result Bool Fault → Answer
conditional_answer (Ok stored) = Answer.Sc stored
conditional_answer (Err fault) = fault_answer fault

-- the call that a hart came to, or what its turn did
abbrev pub done_of : Option Instr → HartSlot → Shared → Done
done_of None t b = Alone t b
done_of (Some i) t b = Calls i

-- an instruction that calls the SBI
pub record IsCall (a : Arch) (i : Instr) : Type 0 where
  pub range : IsInRange i
  pub need : need_of a i ≡ Need.Sbi

-- the hart and what is shared are as done
abbrev pub Is : HartSlot → Shared → Done → Type 0
Is t b (Alone t' b') = (t ≡ t') × (b ≡ b')
Is t b (Calls i) = ⊥

-- a turn keeps where its hart begins, the layout and the limit, and leaves the hart below its limit where the machine goes on
pub record IsSlotBehind (t : HartSlot) (b : Shared) (t' : HartSlot) (b' : Shared) : Type 0 where
  pub start : t'.start ≡ t.start
  pub layout : b'.layout ≡ b.layout
  pub limit : b'.limit ≡ b.limit
  pub below : IsNone b'.reason → t'.count < b'.limit

-- the answer of a call that printed: none where the console was full
abbrev pub printed_answer : Answer → Option Reason → Answer
printed_answer answer None = answer
printed_answer answer (Some reason) = Answer.Nothing

-- what a call does to harts
abbrev pub starts_of : Kept → Option Starting
starts_of (Kept.Begins target at opaque) = Some (record { target = target; at = at; opaque = opaque })
starts_of _ = None

abbrev pub stops_of : Kept → Bool
stops_of Kept.Leaves = true
stops_of _ = false

abbrev pub IsTargetIn : (harts : ℕ) → Kept → Type 0
IsTargetIn harts (Kept.Begins target at opaque) = target < harts
IsTargetIn harts _ = Unit {0}

-- what came of a call
abbrev pub IsServed : Shared → Shared → Kept → Served → Type 0
IsServed b b' call served =
    effect_called b (call_outcome (λ word. b.ipi) (room b) (says (ram_memory b.ram) call))
    ≡ record { answer = served.answer; shared = b'; reason = served.reason; starts = starts_of call; stops = stops_of call }
