-- The machine's turns are one run, and what was written of it is the cause of the answer.
use Rattle.std.proofs.Common.{inl, inr, ◌≡◌, refl, ℕ, ◌++◌, List, [], map, Some, None, Option, ap, sym, ◌∙◌, subst}
use Rattle.std.specs.Prelude.{◌⊎◌, Bool, false, IsTrue, Result, Ok, Err}
use Rattle.std.proofs.lemmas.List.{append-nil}
use Rattle.machine_model.specs.declared.reason.Reason.{Reason}
use Rattle.machine_model.specs.Event.{Event}
use Rattle.machine_model.specs.State.{Setup, State, Hart}
use Rattle.machine_model.specs.Run.{state_of}
use Rattle.machine_model.specs.Plain.{IsPlainRun, none}
use Rattle.machine_model.specs.Script.{ScriptResult, script_results}
use Rattle.machine_model.proofs.Grows.{plain_runs, plain_settled}
use Rattle.ref_machine.specs.PlainState.{PlainState}
use Rattle.ref_machine.specs.Shows.{Shows, resting}
use Rattle.ref_machine.specs.Ran.{GoesOn, Ran}
use Rattle.ref_machine.proofs.Runs.{first_only}
use Rattle.tlbvm.specs.declared.status.Status.{Status}
use Rattle.tlbvm.specs.Intake.{Task, Runs, Gives, Work, Lists, Makes, Name, Reads, Goes, Input, plain_input, ComesTo, on_image, on_order, on_text, intake_of, plain_intake, dis_intake, asm_intake, gen_intake, most_pages}
use Rattle.rv_asm.specs.Assembly.{Bad, assembly_of}
use Rattle.elf_load.specs.Loaded.{Loaded}
use Rattle.elf_load.specs.declared.image.BadImage.{BadImage}
use Rattle.elf_load.specs.ImageOf.{image_of}
use Rattle.tlbvm.specs.declared.items.Item.{Item}
use Rattle.tlbvm.specs.Items.{order_of}
use Rattle.tlbvm.specs.Options.{Line, Plain, Dis, Asm, Gen, Asked, runs_machine}
use Rattle.guest_gen.specs.Text.{gen_text}
use Rattle.tlbvm.specs.Refused.{IsRefused, IsMade, IsStarted}
use Rattle.tlbvm.specs.Report.{report_from}
use Rattle.tlbvm.specs.Status.{status_for, is_end, is_refusal}
use Rattle.tlbvm.specs.Call.{Call, CameTo, Gets, GetsNothing, GetsPart, RunOf, IsPaced, due_out, due_log, HasEnded, IsCutShort, TextOf, HasWritten, IsTextCut}
use Rattle.tlbvm.specs.Answers.{EndsBy, IsCut, IsAnswered, IsComplete, Answers, TookAll, IsOneRun, IsOneText}
use Rattle.tlbvm.proofs.Intakes.{must}
use Rattle.tlbvm.proofs.Quiet.{plain_quiet}

-- the run of a machine that was started, as the machine shows it
pub record Ended (call : Call) (regs : Bool) (q : PlainState) : Type 0 where
  pub ran : RunOf call
  pub is_regs : ran.input.regs ≡ regs
  pub quiet : script_results ran.run ≡ []
  pub shown : Shows ran.input.setup q (state_of ran.input.setup ran.run)

pub run_ended : (call : Call) (turns : List ℕ) (regs : Bool) (p q : PlainState) → IsStarted call.names (intake_of call.line) turns regs p → Ran turns p q → Ended call regs q
run_ended call turns regs p q s ran =
    let u : Setup = s.input.setup in
    let g : GoesOn u [] [] turns q = ran u [] [] none s.first in
    let run : List Event = g.more ++ [] in
    let plain : IsPlainRun u turns run = subst (λ order. IsPlainRun u order run) (append-nil turns) g.plain in
    record {
      ran = record {
        input = s.input;
        came = s.came;
        run = run;
        one_run = record {
          is_run = plain_runs u turns run plain;
          is_settled = plain_settled u turns run plain;
          is_paced = subst (λ pace. IsPaced pace u run) (sym s.is_pace)
              (plain, λ other k. g.only (first_only u) other (subst (λ order. IsPlainRun u order other) (sym (append-nil turns)) k));
        };
      };
      is_regs = s.is_regs;
      quiet = plain_quiet u turns run plain;
      shown = g.shown;
    }

abbrev end_of : (call : Call) → RunOf call → State
end_of call ran = state_of ran.input.setup ran.run

-- what was written of it
out_due : (call : Call) (regs : Bool) (q : PlainState) (e : Ended call regs q) → q.shared.console ≡ due_out e.ran
out_due call regs q e = sym (ap (λ (x : State). x.output) e.shown.state)

log_due : (call : Call) (regs : Bool) (q : PlainState) (reason : Option Reason) (e : Ended call regs q) → reason ≡ q.shared.reason
    → report_from regs [] reason (map resting q.slots) ≡ due_log e.ran
log_due call regs q reason e is =
    let end = end_of call e.ran in
    ap (λ (r : Option Reason). report_from regs [] r (map resting q.slots)) (is ∙ sym (ap (λ (x : State). x.reason) e.shown.state))
    ∙ ap (λ (hs : List Hart). report_from regs [] end.reason hs) (sym (ap (λ (x : State). x.harts) e.shown.state))
    ∙ ap (λ (rs : List ScriptResult). report_from regs rs end.reason end.harts) (sym e.quiet)
    ∙ ap (λ (b : Bool). report_from b (script_results e.ran.run) end.reason end.harts) (sym e.is_regs)

pub ended_whole : (call : Call) (regs : Bool) (q : PlainState) (reason : Option Reason) → Ended call regs q → reason ≡ q.shared.reason
    → Gets call.out q.shared.console → Gets call.log (report_from regs [] reason (map resting q.slots)) → HasEnded reason call
ended_whole call regs q reason e is out log = record {
  ran = e.ran;
  is_reason = ap (λ (x : State). x.reason) e.shown.state ∙ sym is;
  out_gets = subst (Gets call.out) (out_due call regs q e) out;
  log_gets = subst (Gets call.log) (log_due call regs q reason e is) log;
}

pub ended_short : (call : Call) (regs : Bool) (q : PlainState) (reason : Option Reason) → Ended call regs q → reason ≡ q.shared.reason
    → ((GetsPart call.out q.shared.console × GetsNothing call.log) ⊎ (Gets call.out q.shared.console × GetsPart call.log (report_from regs [] reason (map resting q.slots))))
    → IsCutShort call
ended_short call regs q reason e is cut = record { ran = e.ran; cut = go cut }
  where
    go : ((GetsPart call.out q.shared.console × GetsNothing call.log) ⊎ (Gets call.out q.shared.console × GetsPart call.log (report_from regs [] reason (map resting q.slots))))
        → ((GetsPart call.out (due_out e.ran) × GetsNothing call.log) ⊎ (Gets call.out (due_out e.ran) × GetsPart call.log (due_log e.ran)))
    go (inl part) = inl (subst (GetsPart call.out) (out_due call regs q e) part.0, part.1)
    go (inr part) = inr (subst (Gets call.out) (out_due call regs q e) part.0, subst (GetsPart call.log) (log_due call regs q reason e is) part.1)

-- a machine that has ended, by its first reason
pub ended : (call : Call) (reason : Option Reason) → HasEnded reason call → IsAnswered (status_for reason) call
ended call None e = e
ended call (Some Reason.Pass) e = inl e
ended call (Some (Reason.Fail code)) e = e
ended call (Some (Reason.Limit hart)) e = e
ended call (Some Reason.OutFull) e = e
ended call (Some Reason.AllStopped) e = e
ended call (Some Reason.Stopped) e = e

pub ended_by : (call : Call) (status : Status) (reason : Option Reason) → status ≡ status_for reason → IsAnswered status call → EndsBy reason call
ended_by call status reason is answered = go reason (subst (λ s. IsAnswered s call) is answered)
  where
    go : (r : Option Reason) → IsAnswered (status_for r) call → EndsBy r call
    go None e = inl e
    go (Some Reason.Pass) e = e
    go (Some (Reason.Fail code)) e = inl e
    go (Some (Reason.Limit hart)) e = inl e
    go (Some Reason.OutFull) e = inl e
    go (Some Reason.AllStopped) e = inl e
    go (Some Reason.Stopped) e = inl e

-- what was made and written, or cut short
abbrev text_of : (call : Call) (text : List ℕ) → IsMade call.names (intake_of call.line) text → TextOf call
text_of call text l = record { work = l.work; came = l.came; text = text; is_due = l.is_due }

pub made_whole : (call : Call) (text : List ℕ) → IsMade call.names (intake_of call.line) text → Gets call.out text → GetsNothing call.log → HasWritten call
made_whole call text l out log = record { made = text_of call text l; out_gets = out; log_gets = log }

pub made_short : (call : Call) (text : List ℕ) → IsMade call.names (intake_of call.line) text → GetsPart call.out text → GetsNothing call.log → IsTextCut call
made_short call text l out log = record { made = text_of call text l; out_gets = out; log_gets = log }

-- THE ANSWERS

-- a refusal is the answer that its cause gives
pub refused : (call : Call) (status : Status) → IsRefused call.names (intake_of call.line) status → IsAnswered status call
refused call status (inl want) = subst (λ s. IsAnswered s call) (sym want) tt
refused call status (inr came) = go status came.0 came.1
  where
    go : (s : Status) → IsTrue (is_refusal s) → CameTo (Err s) call → IsAnswered s call
    go Status.Usage is c = cc
    go Status.ReadFault is c = c
    go Status.TooLong is c = c
    go (Status.BadImage kind) is c = c
    go (Status.BadOrder line) is c = c
    go (Status.BadAsm line kind) is c = c
    go Status.NoMemory is c = tt
    go Status.WriteFault is c = cc
    go Status.Done is c = cc
    go Status.OrderEnd is c = cc
    go (Status.GuestFailed code) is c = cc
    go (Status.Limit hart) is c = cc
    go Status.OutFull is c = cc
    go Status.AllStopped is c = cc
    go Status.Stopped is c = cc

-- what a call came to: want of memory, a refusal, a machine's end, a sink that failed, or what was made and written
abbrev Origin : Status → Call → Type 0
Origin status call =
    (status ≡ Status.NoMemory) ⊎ (CameTo (Err status) call ⊎ (((reason : Option Reason) × (status ≡ status_for reason) × HasEnded reason call) ⊎ (IsCut call
    ⊎ ((status ≡ Status.Done) × HasWritten call))))

done_origin : (call : Call) → EndsBy (Some Reason.Pass) call → Origin Status.Done call
done_origin call (inl e) = inr (inr (inl (Some Reason.Pass, refl, e)))
done_origin call (inr e) = inr (inr (inr (inr (refl, e.1))))

origin : (call : Call) (status : Status) → IsAnswered status call → Origin status call
origin call Status.Usage cause = absurd cause
origin call Status.ReadFault came = inr (inl came)
origin call Status.TooLong came = inr (inl came)
origin call (Status.BadImage kind) came = inr (inl came)
origin call (Status.BadOrder line) came = inr (inl came)
origin call (Status.BadAsm line kind) came = inr (inl came)
origin call Status.NoMemory cause = inl refl
origin call Status.WriteFault cut = inr (inr (inr (inl cut)))
origin call Status.Done e = done_origin call e
origin call Status.OrderEnd e = inr (inr (inl (None, refl, e)))
origin call (Status.GuestFailed code) e = inr (inr (inl (Some (Reason.Fail code), refl, e)))
origin call (Status.Limit hart) e = inr (inr (inl (Some (Reason.Limit hart), refl, e)))
origin call Status.OutFull e = inr (inr (inl (Some Reason.OutFull, refl, e)))
origin call Status.AllStopped e = inr (inr (inl (Some Reason.AllStopped, refl, e)))
origin call Status.Stopped e = inr (inr (inl (Some Reason.Stopped, refl, e)))

pub refused_by : (call : Call) (status : Status) → IsTrue (is_refusal status) → IsAnswered status call → CameTo (Err status) call
refused_by call Status.Usage is cause = absurd cause
refused_by call Status.ReadFault is came = came
refused_by call Status.TooLong is came = came
refused_by call (Status.BadImage kind) is came = came
refused_by call (Status.BadOrder line) is came = came
refused_by call (Status.BadAsm line kind) is came = came
refused_by call Status.NoMemory is cause = cc
refused_by call Status.WriteFault is cause = cc
refused_by call Status.Done is cause = cc
refused_by call Status.OrderEnd is cause = cc
refused_by call (Status.GuestFailed code) is cause = cc
refused_by call (Status.Limit hart) is cause = cc
refused_by call Status.OutFull is cause = cc
refused_by call Status.AllStopped is cause = cc
refused_by call Status.Stopped is cause = cc

-- A line that runs a machine makes nothing else, and one that doesn't runs no machine.
task_no_error : (task : Task) (status : Status) → Ok task ≡ Err status → ⊥
task_no_error task status e = cc

no_same : (work : Work) (input : Input) → Gives work ≡ Runs input → ⊥
no_same work input e = cc

abbrev came_ok : Task → Result Task Status
came_ok task = Ok task

same_ok : (s t : Task) → came_ok s ≡ came_ok t → s ≡ t
same_ok s t e = cc

order_gives_not : (names : List ℕ → Name) (order : Result (List Item) ℕ) (input : List Item → Input) (work : Work)
    → ComesTo names (on_order order (λ items. Goes (Runs (input items)))) (Ok (Gives work)) → ⊥
order_gives_not names (Err line) input work e = task_no_error (Gives work) (Status.BadOrder line) e
order_gives_not names (Ok items) input work e = no_same work (input items) (same_ok (Gives work) (Runs (input items)) e)

image_gives_not : (names : List ℕ → Name) (found : Result Loaded BadImage) (order : List ℕ) (harts : ℕ) (input : Loaded → List Item → Input) (work : Work)
    → ComesTo names (on_image found (λ loaded. Reads order (λ text. on_order (order_of text harts) (λ items. Goes (Runs (input loaded items)))))) (Ok (Gives work)) → ⊥
image_gives_not names (Err kind) order harts input work e = task_no_error (Gives work) (Status.BadImage kind) e
image_gives_not names (Ok loaded) order harts input work (inl e) = task_no_error (Gives work) Status.ReadFault e.0
image_gives_not names (Ok loaded) order harts input work (inr (inl e)) = task_no_error (Gives work) Status.TooLong e.0
image_gives_not names (Ok loaded) order harts input work (inr (inr e)) = order_gives_not names (order_of e.0 harts) (input loaded) work e.2

no_work : (names : List ℕ → Name) (elf order : List ℕ) (asked : Asked) (work : Work) → ComesTo names (plain_intake elf order asked) (Ok (Gives work)) → ⊥
no_work names elf order asked work (inl e) = task_no_error (Gives work) Status.ReadFault e.0
no_work names elf order asked work (inr (inl e)) = task_no_error (Gives work) Status.TooLong e.0
no_work names elf order asked work (inr (inr e)) =
    image_gives_not names (image_of e.0 asked.pages) order asked.harts (λ loaded items. plain_input asked e.0 loaded items) work e.2

image_runs_not : (names : List ℕ → Name) (found : Result Loaded BadImage) (bytes : List ℕ) (input : Input) → ComesTo names (on_image found (λ loaded. Goes (Gives (Lists bytes loaded)))) (Ok (Runs input)) → ⊥
image_runs_not names (Err kind) bytes input e = task_no_error (Runs input) (Status.BadImage kind) e
image_runs_not names (Ok loaded) bytes input e = no_same (Lists bytes loaded) input (sym (same_ok (Runs input) (Gives (Lists bytes loaded)) e))

no_machine : (names : List ℕ → Name) (elf : List ℕ) (input : Input) → ComesTo names (dis_intake elf) (Ok (Runs input)) → ⊥
no_machine names elf input (inl e) = task_no_error (Runs input) Status.ReadFault e.0
no_machine names elf input (inr (inl e)) = task_no_error (Runs input) Status.TooLong e.0
no_machine names elf input (inr (inr e)) = image_runs_not names (image_of e.0 most_pages) e.0 input e.2

text_runs_not : (names : List ℕ → Name) (found : Result (List ℕ) Bad) (input : Input) → ComesTo names (on_text found (λ file. Goes (Gives (Makes file)))) (Ok (Runs input)) → ⊥
text_runs_not names (Err bad) input e = task_no_error (Runs input) (Status.BadAsm bad.line bad.kind) e
text_runs_not names (Ok file) input e = no_same (Makes file) input (sym (same_ok (Runs input) (Gives (Makes file)) e))

no_machine_of_text : (names : List ℕ → Name) (text : List ℕ) (input : Input) → ComesTo names (asm_intake text) (Ok (Runs input)) → ⊥
no_machine_of_text names text input (inl e) = task_no_error (Runs input) Status.ReadFault e.0
no_machine_of_text names text input (inr (inl e)) = task_no_error (Runs input) Status.TooLong e.0
no_machine_of_text names text input (inr (inr e)) = text_runs_not names (assembly_of e.0) input e.2

no_machine_of_number : (names : List ℕ → Name) (number : ℕ) (input : Input) → ComesTo names (gen_intake number) (Ok (Runs input)) → ⊥
no_machine_of_number names number input e = no_same (Makes (gen_text number)) input (sym (same_ok (Runs input) (Gives (Makes (gen_text number))) e))

runs_gives_not : (names : List ℕ → Name) (line : Line) (work : Work) → IsTrue (runs_machine line) → ComesTo names (intake_of line) (Ok (Gives work)) → ⊥
runs_gives_not names (Plain elf order asked) work is came = no_work names elf order asked work came
runs_gives_not names (Dis elf) work is came = cc
runs_gives_not names (Asm text) work is came = cc
runs_gives_not names (Gen number) work is came = cc

gives_runs_not : (names : List ℕ → Name) (line : Line) (input : Input) → runs_machine line ≡ false → ComesTo names (intake_of line) (Ok (Runs input)) → ⊥
gives_runs_not names (Plain elf order asked) input is came = cc
gives_runs_not names (Dis elf) input is came = no_machine names elf input came
gives_runs_not names (Asm text) input is came = no_machine_of_text names text input came
gives_runs_not names (Gen number) input is came = no_machine_of_number names number input came

-- what a machine's end, or what was made, came of
abbrev Wrote : Call → Type 0
Wrote call = (((reason : Option Reason) × HasEnded reason call) ⊎ IsCutShort call) ⊎ (HasWritten call ⊎ IsTextCut call)

wrote : (call : Call) (status : Status) → IsTrue (is_end status) → IsAnswered status call → Wrote call
wrote call Status.WriteFault is (inl cut) = inl (inr cut)
wrote call Status.WriteFault is (inr cut) = inr (inr cut)
wrote call Status.Done is (inl e) = inl (inl (Some Reason.Pass, e))
wrote call Status.Done is (inr e) = inr (inl e.1)
wrote call Status.OrderEnd is e = inl (inl (None, e))
wrote call (Status.GuestFailed code) is e = inl (inl (Some (Reason.Fail code), e))
wrote call (Status.Limit hart) is e = inl (inl (Some (Reason.Limit hart), e))
wrote call Status.OutFull is e = inl (inl (Some Reason.OutFull, e))
wrote call Status.AllStopped is e = inl (inl (Some Reason.AllStopped, e))
wrote call Status.Stopped is e = inl (inl (Some Reason.Stopped, e))
wrote call Status.Usage is cause = cc
wrote call Status.ReadFault is cause = cc
wrote call Status.TooLong is cause = cc
wrote call (Status.BadImage kind) is cause = cc
wrote call (Status.BadOrder line) is cause = cc
wrote call (Status.BadAsm line kind) is cause = cc
wrote call Status.NoMemory is cause = cc

pub one_run : (call : Call) (status : Status) → IsTrue (is_end status) → IsAnswered status call → IsOneRun call
one_run call status is answered runs = go (wrote call status is answered)
  where
    go : Wrote call → ((reason : Option Reason) × HasEnded reason call) ⊎ IsCutShort call
    go (inl e) = e
    go (inr (inl e)) = absurd (runs_gives_not call.names call.line e.made.work runs e.made.came)
    go (inr (inr e)) = absurd (runs_gives_not call.names call.line e.made.work runs e.made.came)

pub one_text : (call : Call) (status : Status) → IsTrue (is_end status) → IsAnswered status call → IsOneText call
one_text call status is answered lists = go (wrote call status is answered)
  where
    go : Wrote call → HasWritten call ⊎ IsTextCut call
    go (inl (inl e)) = absurd (gives_runs_not call.names call.line e.1.ran.input lists e.1.ran.came)
    go (inl (inr e)) = absurd (gives_runs_not call.names call.line e.ran.input lists e.ran.came)
    go (inr e) = e

-- Completeness: without faults the call came to what is due, and to nothing else.
cut_none : (call : Call) → TookAll call → IsCutShort call → ⊥
cut_none call took cut = go cut.cut
  where
    go : ((GetsPart call.out (due_out cut.ran) × GetsNothing call.log) ⊎ (Gets call.out (due_out cut.ran) × GetsPart call.log (due_log cut.ran))) → ⊥
    go (inl out) = took.0 out.0.failed
    go (inr log) = took.1 log.1.failed

pub complete : (call : Call) (status : Status) → IsAnswered status call → IsComplete status call
complete call status answered faultless due is = go (origin call status answered)
  where
    same : (came : Result Task Status) → CameTo came call → came ≡ due
    same came comes = must call.names (intake_of call.line) came due faultless is comes

    go : Origin status call → (status ≡ Status.NoMemory) ⊎ Answers due status call
    go (inl want) = inl want
    go (inr (inl came)) = inr (subst (λ d. Answers d status call) (same (Err status) came) refl)
    go (inr (inr (inl end))) = inr (subst (λ d. Answers d status call) (same (Ok (Runs end.2.ran.input)) end.2.ran.came) (λ took. end))
    go (inr (inr (inr (inl (inl cut))))) = inr (subst (λ d. Answers d status call) (same (Ok (Runs cut.ran.input)) cut.ran.came) (λ took. absurd (cut_none call took cut)))
    go (inr (inr (inr (inl (inr cut))))) =
        inr (subst (λ d. Answers d status call) (same (Ok (Gives cut.made.work)) cut.made.came) (λ took. absurd (took.0 cut.out_gets.failed)))
    go (inr (inr (inr (inr written)))) =
        inr (subst (λ d. Answers d status call) (same (Ok (Gives written.1.made.work)) written.1.made.came) (λ took. written))
