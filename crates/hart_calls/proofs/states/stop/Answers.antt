use Rattle.std.proofs.Common.{subst}
use Rattle.hart_calls.specs.Called.{stopped, stopped_last}
use Rattle.hart_calls.specs.States.{HasStopped}
use Rattle.hart_calls.proofs.states.stop.Goals as goal

pub returns-then-stop_self-eq1 : goal.returns-then-stop_self-eq1
returns-then-stop_self-eq1 g c = stopped_last _ _ (subst (λ n. HasStopped n (g.P.Look.shows c.args.port.now) (g.P.Look.shows c.stop_self.new.port)) c.if-stop_self-eq1.true c.stop_self.ensures.stopped) c.set_stop.ensures.set

pub returns-else-stop_self-eq1 : goal.returns-else-stop_self-eq1
returns-else-stop_self-eq1 g c = stopped _ c.if-stop_self-eq1.false c.stop_self.ensures.stopped
