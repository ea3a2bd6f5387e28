use Rattle.hart_turn.specs.Paths as paths
use Rattle.hart_turn.proofs.Instructed.{then_counts, works_to_end}
use Rattle.hart_turn.proofs.instructing.resume.Goals as goal

pub returns-in-Err-clause-part : goal.returns-in-Err-clause-part
returns-in-Err-clause-part g c = works_to_end c.args.hart.now c.go_on_with_fence.new.hart (g.P.Look.shows c.args.port.now) (g.P.Look.shows c.go_on_with_fence.new.port) c.in-Err.ensures.works

pub returns-in-Ok-clause-part : goal.returns-in-Ok-clause-part
returns-in-Ok-clause-part g c = then_counts c.args.hart.now c.go_on_with_fence.new.hart c.count_up.new.hart (g.P.Look.shows c.args.port.now) (g.P.Look.shows c.go_on_with_fence.new.port) (g.P.Look.shows c.count_up.new.port) c.in-Ok.ensures.part c.count_up.ensures.part

pub returns-in-Err-clause-path : goal.returns-in-Err-clause-path
returns-in-Err-clause-path g c = paths.waits c.in-Err.wait c.in-Err.ensures.waits c.go_on_with_fence.ensures.goes

pub returns-in-Ok-clause-path : goal.returns-in-Ok-clause-path
returns-in-Ok-clause-path g c = paths.fenced c.go_on_with_fence.new.hart (g.P.Look.shows c.go_on_with_fence.new.port) c.in-Ok.ensures.fenced c.go_on_with_fence.ensures.goes c.go_on_with_fence.ensures.with c.count_up.ensures.counted c.count_up.ensures.goes
