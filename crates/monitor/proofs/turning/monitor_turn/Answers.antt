use Rattle.std.proofs.Common.{sym, ap, subst, refl, ◌∙◌, arith}
use Rattle.guest_ram.proofs.Moves.{goes_at_most, goes_then}
use Rattle.monitor.specs.Monitors.{Monitor}
use Rattle.monitor.specs.Steps.{IsOfMonitor}
use Rattle.monitor.specs.Turning.{HasGoneOn, HasTurned}
use Rattle.monitor.specs.Turning as turning
use Rattle.monitor.specs.declared.turning.MonTurn.TheVariants.{Ended}
use Rattle.monitor.proofs.Turned.{goes_on}
use Rattle.monitor.proofs.turning.monitor_turn.Goals as goal

some_turned : goal.returns-in-Some-clause-turned
some_turned g c = turning.ended c.in-Some.reason (ap (λ (x : Monitor). x.rests) (sym c.monitor.view_is) ∙ c.if-monitor.false) refl c.in-Some.ensures.ended

pub returns-in-Some-clause-turned : goal.returns-in-Some-clause-turned
returns-in-Some-clause-turned g c = some_turned g c

pub returns-in-Some-clause-part : goal.returns-in-Some-clause-part
returns-in-Some-clause-part g c = goes_on (Ended c.in-Some.reason) c.args.monitor.now c.begin.new.monitor (g.P.Look.shows c.args.port.now) (g.P.Look.shows c.begin.new.port) c.requires.with (some_turned g c)

none_turned : goal.returns-in-None-clause-turned
none_turned g c = turning.went_on (g.P.Look.shows c.begin.new.port) (ap (λ (x : Monitor). x.rests) (sym c.monitor.view_is) ∙ c.if-monitor.false) c.in-None.ensures.looked
    (subst (λ (z : Monitor). HasGoneOn c.go_on.result z c.go_on.new.monitor (g.P.Look.shows c.begin.new.port) (g.P.Look.shows c.go_on.new.port)) c.in-None.ensures.stays c.go_on.ensures.went)

pub returns-in-None-clause-turned : goal.returns-in-None-clause-turned
returns-in-None-clause-turned g c = none_turned g c

pub returns-in-None-clause-goes : goal.returns-in-None-clause-goes
returns-in-None-clause-goes g c = goes_at_most 603 2000 IsOfMonitor _ _ (omega arith) (goes_then 3 600 IsOfMonitor _ _ _ c.begin.ensures.goes c.go_on.ensures.goes)

pub returns-in-None-clause-part : goal.returns-in-None-clause-part
returns-in-None-clause-part g c = goes_on c.go_on.result c.args.monitor.now c.go_on.new.monitor (g.P.Look.shows c.args.port.now) (g.P.Look.shows c.go_on.new.port) c.requires.with (none_turned g c)
