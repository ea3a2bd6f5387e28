-- Each answer of a call, with its cause.
use Rattle.std.specs.Prelude.{◌≡◌, ◌⊎◌, IsTrue, false, Option, Some, None, Result, Ok, Err}
use Rattle.vm_io.specs.Faults.{Rose}
use Rattle.machine_model.specs.declared.reason.Reason.{Reason}
use Rattle.tlbvm.specs.declared.status.Status.{Status}
use Rattle.tlbvm.specs.Options.{runs_machine}
use Rattle.tlbvm.specs.Intake.{Task, Runs, Gives, intake_of, IsFaultless, settled}
use Rattle.tlbvm.specs.Status.{status_for}
use Rattle.tlbvm.specs.Call.{Call, CameTo, HasEnded, IsCutShort, HasWritten, IsTextCut}

-- A machine ended with this first reason; or what was made was written, which is as if it passed.
abbrev pub EndsBy : Option Reason → Call → Type 0
EndsBy reason call = HasEnded reason call ⊎ ((reason ≡ Some Reason.Pass) × HasWritten call)

-- a sink failed
abbrev pub IsCut : Call → Type 0
IsCut call = IsCutShort call ⊎ IsTextCut call

-- the cause of each answer on a line
abbrev pub IsAnswered : Status → Call → Type 0
IsAnswered Status.Usage call = ⊥
IsAnswered Status.ReadFault call = CameTo (Err Status.ReadFault) call
IsAnswered Status.TooLong call = CameTo (Err Status.TooLong) call
IsAnswered (Status.BadImage kind) call = CameTo (Err (Status.BadImage kind)) call
IsAnswered (Status.BadOrder line) call = CameTo (Err (Status.BadOrder line)) call
IsAnswered (Status.BadAsm line kind) call = CameTo (Err (Status.BadAsm line kind)) call
IsAnswered Status.NoMemory call = Unit {0}
IsAnswered Status.WriteFault call = IsCut call
IsAnswered Status.Done call = EndsBy (Some Reason.Pass) call
IsAnswered Status.OrderEnd call = HasEnded None call
IsAnswered (Status.GuestFailed code) call = HasEnded (Some (Reason.Fail code)) call
IsAnswered (Status.Limit hart) call = HasEnded (Some (Reason.Limit hart)) call
IsAnswered Status.OutFull call = HasEnded (Some Reason.OutFull) call
IsAnswered Status.AllStopped call = HasEnded (Some Reason.AllStopped) call
IsAnswered Status.Stopped call = HasEnded (Some Reason.Stopped) call

-- THE HEADLINE, in its part on the lines that run a machine, which are those of `plain`: the machine's memory, registers and output are those of one run of the
-- reference machine. `out` got that run's output and `log` its report, or a prefix where a sink failed.
abbrev pub IsOneRun : Call → Type 0
IsOneRun call = IsTrue (runs_machine call.line) → ((reason : Option Reason) × HasEnded reason call) ⊎ IsCutShort call

-- Of the other lines, which are those of `dis`, `asm` and `gen`: `out` got the listing, the file or the text, and `log` nothing; or a prefix where `out` failed.
abbrev pub IsOneText : Call → Type 0
IsOneText call = runs_machine call.line ≡ false → HasWritten call ⊎ IsTextCut call

-- COMPLETENESS

-- neither sink failed
abbrev pub TookAll : Call → Type 0
TookAll call = (Rose call.out.before call.out.behind → ⊥) × (Rose call.log.before call.log.behind → ⊥)

-- The answer is what must come of the files. A machine runs to its end, and the answer is its first reason's; a listing or a file is written.
abbrev pub Answers : Result Task Status → Status → Call → Type 0
Answers (Err refused) status call = status ≡ refused
Answers (Ok (Gives work)) status call = TookAll call → (status ≡ Status.Done) × HasWritten call
Answers (Ok (Runs input)) status call = TookAll call → (reason : Option Reason) × (status ≡ status_for reason) × HasEnded reason call

-- Where no read fails and all that is read is told, the answer is that; or there was no memory.
abbrev pub IsComplete : Status → Call → Type 0
IsComplete status call = IsFaultless call.names (intake_of call.line) → (came : Result Task Status) → settled call.names (intake_of call.line) ≡ Some came
    → (status ≡ Status.NoMemory) ⊎ Answers came status call
