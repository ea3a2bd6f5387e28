use Rattle.std.proofs.Common.{subst, sym}
use Rattle.need_serving.proofs.Answered.{call_served}
use Rattle.need_serving.specs.declared.ends.NeedEnd.{NeedEnd}
use Rattle.need_serving.specs.Serving.{IsServed}
use Rattle.rv64_exec.specs.declared.needs.Need.{Need}
use Rattle.need_serving.proofs.serving.serve_call.Goals as goal

pub returns-clause-served : goal.returns-clause-served
returns-clause-served g c = subst (λ (end : NeedEnd). IsServed (g.P.Look.shows c.args.port.now) (g.P.Look.shows c.sbi.new.port) c.args.book.now c.args.book.now c.args.arch.now c.args.section Need.Sbi end) (sym c.of_call.ensures)
    (call_served (g.P.Look.shows c.args.port.now) c.args.book.now c.args.arch.now c.args.section c.requires.access c.requires.fills c.requires.runner (g.P.Look.shows c.sbi.new.port) c.sbi.result
    c.sbi.ensures.called c.sbi.ensures.goes c.sbi.ensures.fence c.sbi.ensures.runs c.sbi.ensures.paid c.sbi.ensures.free c.sbi.ensures.acting)
