-- A turn by what it came to.
use Rattle.std.proofs.Common.{ap}
use Rattle.step_laws.specs.declared.words.Layout.{Layout}
use Rattle.request_serving.specs.Served.{one}
use Rattle.request_serving.proofs.Rounds.{moved_absent, moved_idle}
use Rattle.request_serving.proofs.round.serve_next.Goals as goal

pub returns-in-Idle-clause-moved : goal.returns-in-Idle-clause-moved
returns-in-Idle-clause-moved g c = moved_idle c.args.source c.args.served.now c.serve_source.new.served (g.P.Look.shows c.args.port.now) (g.P.Look.shows c.serve_source.new.port) c.args.book.now c.serve_source.new.book c.args.any
    c.in-Idle.ensures.idle.0 c.in-Idle.ensures.idle.1 c.in-Idle.ensures.stays

pub returns-in-Served-clause-moved : goal.returns-in-Served-clause-moved
returns-in-Served-clause-moved g c = one c.in-Served.ensures.served

pub returns-then-is_absent-clause-moved : goal.returns-then-is_absent-clause-moved
returns-then-is_absent-clause-moved g c = moved_absent c.args.source c.actor.result c.layout.result.harts c.args.served.now (g.P.Look.shows c.args.port.now) c.args.book.now c.args.any
    c.actor.ensures (ap (λ (l : Layout). l.harts) c.layout.ensures.layout) (c.is_absent.ensures.absent c.if-is_absent.true)
