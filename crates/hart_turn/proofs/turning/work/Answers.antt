use Rattle.hart_turn.proofs.Turned.{ends_then}
use Rattle.hart_turn.proofs.turning.work.Goals as goal

pub returns-clause-part : goal.returns-clause-part
returns-clause-part g c = ends_then c.args.hart.now c.instruct-end.new.hart c.settle.new.hart (g.P.Look.shows c.args.port.now) (g.P.Look.shows c.instruct-end.new.port) (g.P.Look.shows c.settle.new.port) c.instruct-end.ensures.part c.settle.ensures.part

pub returns-clause-path : goal.returns-clause-path
returns-clause-path g c = record { made = c.instruct-end.new.hart; mid = g.P.Look.shows c.instruct-end.new.port; instructed = c.instruct-end.ensures.path; with = c.instruct-end.ensures.with; settled = c.settle.ensures.path }
