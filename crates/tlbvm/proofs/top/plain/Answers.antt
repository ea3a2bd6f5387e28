-- The machine has ended, and was written whole or was cut short.
use Rattle.std.proofs.Common.{inl, List, sym, subst}
use Rattle.ref_machine.specs.Ran.{Ran}
use Rattle.tlbvm.specs.declared.items.Item.{Item}
use Rattle.tlbvm.specs.Options.{Plain}
use Rattle.tlbvm.specs.Lines.{asked_as}
use Rattle.tlbvm.specs.Turns.{hart_turns, turns_of}
use Rattle.tlbvm.specs.Call.{Call, call_of}
use Rattle.tlbvm.specs.Answers.{IsAnswered}
use Rattle.tlbvm.proofs.Ends.{Ended, run_ended, ended, ended_whole, ended_short}
use Rattle.tlbvm.proofs.top.plain.Goals as goal

pub returns-in-Ok-write_end-clause-answered : goal.returns-in-Ok-write_end-clause-answered
returns-in-Ok-write_end-clause-answered g c =
    let asked = c.args.asked in
    let q = c.take_turns-reason.new.machine in
    let call : Call = call_of g.F.Images.told g.F.Images.faults g.O.Sink.taken g.O.Sink.faults g.L.Sink.taken g.L.Sink.faults
    c.args.images.now c.start.new.images c.args.out.now c.write_end.new.out c.args.log.now c.write_end.new.log (Plain c.args.elf.now c.args.order.now (asked_as asked)) in
    let end : Ended call asked.regs q = run_ended call (hart_turns (turns_of asked.harts c.in-Ok.job.items.items)) asked.regs c.in-Ok.job.machine q c.in-Ok.ensures.ok
    (subst (λ (items : List Item). Ran (hart_turns (turns_of asked.harts items)) c.in-Ok.job.machine q) c.as_slice.ensures.value c.take_turns-reason.ensures.ran) in
    subst (λ s. IsAnswered s call) (sym c.status_of.ensures)
    (ended call c.take_turns-reason.result (ended_whole call asked.regs q c.take_turns-reason.result end c.take_turns-reason.ensures.reason c.in-Ok-write_end.ensures.ok.0 c.in-Ok-write_end.ensures.ok.1))

pub returns-clause-answered : goal.returns-clause-answered
returns-clause-answered g c =
    let asked = c.args.asked in
    let q = c.take_turns-reason.new.machine in
    let call : Call = call_of g.F.Images.told g.F.Images.faults g.O.Sink.taken g.O.Sink.faults g.L.Sink.taken g.L.Sink.faults
    c.args.images.now c.start.new.images c.args.out.now c.write_end.new.out c.args.log.now c.write_end.new.log (Plain c.args.elf.now c.args.order.now (asked_as asked)) in
    let end : Ended call asked.regs q = run_ended call (hart_turns (turns_of asked.harts c.in-Ok.job.items.items)) asked.regs c.in-Ok.job.machine q c.in-Ok.ensures.ok
    (subst (λ (items : List Item). Ran (hart_turns (turns_of asked.harts items)) c.in-Ok.job.machine q) c.as_slice.ensures.value c.take_turns-reason.ensures.ran) in
    inl (ended_short call asked.regs q c.take_turns-reason.result end c.take_turns-reason.ensures.reason c.in-Err-write_end.ensures.err)
