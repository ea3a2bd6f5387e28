-- What a call on a line read, what it ran, what it wrote, and the cause of each answer.
use Rattle.std.specs.Prelude.{◌≡◌, ◌⊎◌, ℕ, ◌<◌, List, length, take, Option, IfSome, Result, Ok}
use Rattle.std.specs.Io.KnownBytes.{Appends}
use Rattle.vm_io.specs.Faults.{Rose}
use Rattle.rv_asm.specs.Listing.{IsListing}
use Rattle.machine_model.specs.declared.reason.Reason.{Reason}
use Rattle.machine_model.specs.Event.{Event}
use Rattle.machine_model.specs.State.{Setup}
use Rattle.machine_model.specs.Run.{state_of}
use Rattle.machine_model.specs.Lawful.{IsRun, IsSettled}
use Rattle.machine_model.specs.Plain.{IsPlainRun}
use Rattle.ref_machine.specs.Ran.{IsOnly}
use Rattle.tlbvm.specs.declared.status.Status.{Status}
use Rattle.tlbvm.specs.Options.{Line, line_of}
use Rattle.tlbvm.specs.Intake.{Input, Task, Runs, Gives, Work, Lists, Makes, Pace, InOrder, Name, name_of, intake_of, ComesTo}
use Rattle.tlbvm.specs.Report.{report_of}

-- A sink before and behind a call: the bytes that it took, where they are told, and how often it failed.
pub record Written : Type 0 where
  pub old : Option (List ℕ)
  pub new : Option (List ℕ)
  pub before : ℕ
  pub behind : ℕ

abbrev pub written_of : {S : Type 0} → (S → Option (List ℕ)) → (S → ℕ) → (old new : S) → Written
written_of taken faults old new = record { old = taken old; new = taken new; before = faults old; behind = faults new }

abbrev pub Gets : Written → List ℕ → Type 0
Gets sink bytes = Appends sink.old sink.new bytes

abbrev pub GetsNothing : Written → Type 0
GetsNothing sink = sink.new ≡ sink.old

-- a sink failed, and took a prefix that lacks a byte
pub record GetsPart (sink : Written) (bytes : List ℕ) : Type 0 where
  pub count : ℕ
  pub part : count < length bytes
  pub gets : Gets sink (take count bytes)
  pub failed : Rose sink.before sink.behind

-- THE CALL

pub record Call : Type 0 where
  pub line : Line
  pub names : List ℕ → Name
  pub out : Written
  pub log : Written

abbrev pub call_of : {F O L : Type 0} → (F → List ℕ → Option (List ℕ)) → (F → List ℕ → ℕ) → (O → Option (List ℕ)) → (O → ℕ) → (L → Option (List ℕ)) → (L → ℕ)
    → (images images' : F) → (out out' : O) → (log log' : L) → Line → Call
call_of told failed out_taken out_failed log_taken log_failed images images' out out' log log' line = record {
  line = line;
  names = name_of told failed images images';
  out = written_of out_taken out_failed out out';
  log = written_of log_taken log_failed log log';
}

-- this holds of the call that the words make, where they are a line
abbrev pub OnLine : (Line → Call) → List (List ℕ) → (Call → Type 0) → Type 0
OnLine calls words P = IfSome (line_of words) (λ line. P (calls line))

-- what the call's reads and checks came to
abbrev pub CameTo : Result Task Status → Call → Type 0
CameTo came call = ComesTo call.names (intake_of call.line) came

-- THE RUN

-- the turns were given so: in order, to the only plain run that has these turns
abbrev pub IsPaced : Pace → Setup → List Event → Type 0
IsPaced (InOrder turns) u run = IsPlainRun u turns run × IsOnly u turns run

-- One run of the reference machine: it is lawful, every stop that is due in it has come, and its turns were given as the line says.
pub record OneRun (input : Input) (run : List Event) : Type 0 where
  pub is_run : IsRun input.setup run
  pub is_settled : IsSettled input.setup run
  pub is_paced : IsPaced input.pace input.setup run

-- the one run of a call
pub record RunOf (call : Call) : Type 0 where
  pub input : Input
  pub came : CameTo (Ok (Runs input)) call
  pub run : List Event
  pub one_run : OneRun input run

-- what is due to `out` and to `log` of it
abbrev pub due_out : {call : Call} → RunOf call → List ℕ
due_out ran = (state_of ran.input.setup ran.run).output

abbrev pub due_log : {call : Call} → RunOf call → List ℕ
due_log ran = report_of ran.input.regs ran.input.setup ran.run

-- a machine that ended with this first reason: `out` got its output, and `log` its report
pub record HasEnded (reason : Option Reason) (call : Call) : Type 0 where
  pub ran : RunOf call
  pub is_reason : (state_of ran.input.setup ran.run).reason ≡ reason
  pub out_gets : Gets call.out (due_out ran)
  pub log_gets : Gets call.log (due_log ran)

-- a machine that ended, and a sink that failed: `log` gets nothing until `out` is whole
pub record IsCutShort (call : Call) : Type 0 where
  pub ran : RunOf call
  pub cut : (GetsPart call.out (due_out ran) × GetsNothing call.log) ⊎ (Gets call.out (due_out ran) × GetsPart call.log (due_log ran))

-- WHAT IS MADE

-- what is due of a work: the listing of an image, or a file
abbrev pub IsDue : Work → List ℕ → Type 0
IsDue (Lists file image) text = IsListing file image.parts text
IsDue (Makes file) text = text ≡ file

-- what a call makes
pub record TextOf (call : Call) : Type 0 where
  pub work : Work
  pub came : CameTo (Ok (Gives work)) call
  pub text : List ℕ
  pub is_due : IsDue work text

-- `out` got it, and `log` nothing
pub record HasWritten (call : Call) : Type 0 where
  pub made : TextOf call
  pub out_gets : Gets call.out made.text
  pub log_gets : GetsNothing call.log

-- `out` failed, and `log` got nothing
pub record IsTextCut (call : Call) : Type 0 where
  pub made : TextOf call
  pub out_gets : GetsPart call.out made.text
  pub log_gets : GetsNothing call.log
