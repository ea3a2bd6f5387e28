-- What the line's call came to, in the words of each clause.
use Rattle.std.proofs.Common.{subst}
use Rattle.std.specs.Prelude.{IfSome}
use Rattle.tlbvm.specs.Options.{Line}
use Rattle.tlbvm.specs.Lines.{line_as}
use Rattle.tlbvm.specs.Call.{Call, call_of}
use Rattle.tlbvm.specs.Answers.{IsComplete, IsOneText, IsOneRun}
use Rattle.tlbvm.proofs.Ends.{complete, one_text, one_run}
use Rattle.tlbvm.proofs.top.tlbvm_still.Goals as goal

pub returns-in-Some-clause-complete : goal.returns-in-Some-clause-complete
returns-in-Some-clause-complete g c =
    let call : Line → Call = call_of g.F.Images.told g.F.Images.faults g.O.Sink.taken g.O.Sink.faults g.L.Sink.taken g.L.Sink.faults
    c.args.images.now c.run_line.new.images c.args.out.now c.run_line.new.out c.args.log.now c.run_line.new.log in
    subst (λ o. IfSome o (λ l. IsComplete c.run_line.result (call l))) c.in-Some.ensures.says
    (complete (call (line_as c.in-Some.line)) c.run_line.result c.run_line.ensures.answered)

pub returns-in-Some-clause-headline : goal.returns-in-Some-clause-headline
returns-in-Some-clause-headline g c = λ is.
    let call : Line → Call = call_of g.F.Images.told g.F.Images.faults g.O.Sink.taken g.O.Sink.faults g.L.Sink.taken g.L.Sink.faults
    c.args.images.now c.run_line.new.images c.args.out.now c.run_line.new.out c.args.log.now c.run_line.new.log in
    subst (λ o. IfSome o (λ l. IsOneRun (call l))) c.in-Some.ensures.says
    (one_run (call (line_as c.in-Some.line)) c.run_line.result is c.run_line.ensures.answered)

pub returns-in-Some-clause-made : goal.returns-in-Some-clause-made
returns-in-Some-clause-made g c = λ is.
    let call : Line → Call = call_of g.F.Images.told g.F.Images.faults g.O.Sink.taken g.O.Sink.faults g.L.Sink.taken g.L.Sink.faults
    c.args.images.now c.run_line.new.images c.args.out.now c.run_line.new.out c.args.log.now c.run_line.new.log in
    subst (λ o. IfSome o (λ l. IsOneText (call l))) c.in-Some.ensures.says
    (one_text (call (line_as c.in-Some.line)) c.run_line.result is c.run_line.ensures.answered)
