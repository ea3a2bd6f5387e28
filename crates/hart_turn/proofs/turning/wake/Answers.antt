use Rattle.std.proofs.Common.{subst}
use Rattle.hart_turn.specs.Parts.{HasStarted}
use Rattle.hart_turn.specs.Paths as paths
use Rattle.hart_turn.proofs.turning.wake.Goals as goal

pub returns-in-Err-clause-path : goal.returns-in-Err-clause-path
returns-in-Err-clause-path g c = paths.locked c.in-Err.busy c.in-Err.ensures.held c.start.ensures.goes

pub returns-in-Ok-true-clause-path : goal.returns-in-Ok-true-clause-path
returns-in-Ok-true-clause-path g c = paths.begun (subst (λ b. HasStarted c.args.hart.now c.start.new.hart (g.P.Look.shows c.args.port.now) (g.P.Look.shows c.start.new.port) b) c.in-Ok-true.field-0-test c.in-Ok-true.ensures.started) c.start.ensures.goes

pub returns-in-Ok-false-clause-path : goal.returns-in-Ok-false-clause-path
returns-in-Ok-false-clause-path g c = paths.idle (subst (λ b. HasStarted c.args.hart.now c.start.new.hart (g.P.Look.shows c.args.port.now) (g.P.Look.shows c.start.new.port) b) c.in-Ok-false.field-0-test c.in-Ok-false.ensures.started) c.start.ensures.goes
