use Rattle.std.proofs.Common.{subst, sym}
use Rattle.need_serving.proofs.Answered.{access_served}
use Rattle.need_serving.specs.declared.ends.NeedEnd.{NeedEnd}
use Rattle.need_serving.specs.Serving.{IsServed}
use Rattle.need_serving.proofs.serving.serve_access.Goals as goal

pub returns-clause-served : goal.returns-clause-served
returns-clause-served g c = subst (λ (end : NeedEnd). IsServed (g.P.Look.shows c.args.port.now) (g.P.Look.shows c.access.new.port) c.args.book.now c.access.new.book c.args.arch.now c.args.section c.args.need.now end) (sym c.of_access.ensures)
    (access_served (g.P.Look.shows c.args.port.now) c.args.book.now c.args.arch.now c.args.section c.requires.access c.requires.fills c.requires.runner (g.P.Look.shows c.access.new.port) c.access.new.book c.args.need.now c.access.result
    c.requires.need c.access.ensures.accessed c.access.ensures.goes_on c.access.ensures.access c.access.ensures.goes)
