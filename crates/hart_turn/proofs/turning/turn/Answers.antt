use Rattle.hart_turn.proofs.Staying.{turn_in}
use Rattle.hart_turn.proofs.Bounded.{end_looks, on_looks, turn_goes}
use Rattle.hart_turn.specs.Paths as paths
use Rattle.std.proofs.Common.{◌∙◌}
use Rattle.hart_turn.specs.Parts.{IsOfBegin}
use Rattle.hart_signals.proofs.Aside.{owing_goes}
use Rattle.hart_turn.proofs.Pathed.{end_adds, turn_adds}
use Rattle.hart_turn.proofs.Turned.{begin_off_states, begins_then, looked_on, stays_on, turn_taken}
use Rattle.hart_turn.proofs.turning.turn.Goals as goal

pub returns-in-None-clause-settled : goal.returns-in-None-clause-settled
returns-in-None-clause-settled g c = stays_on c.go_on.result c.go_on.new.hart (g.P.Look.shows c.go_on.new.port) c.go_on.ensures.going c.go_on.ensures.settled

pub returns-in-None-clause-turn : goal.returns-in-None-clause-turn
returns-in-None-clause-turn g c = turn_taken c.args.hart.now c.go_on.new.hart (g.P.Look.shows c.args.port.now) (g.P.Look.shows c.begin.new.port) (g.P.Look.shows c.go_on.new.port) 0 c.requires.settled.with c.in-None.ensures.looked
    (turn_adds c.begin.new.hart c.go_on.new.hart (g.P.Look.shows c.begin.new.port) (g.P.Look.shows c.go_on.new.port) c.go_on.result c.go_on.ensures.path) c.go_on.ensures.settled.with.paid
    (begins_then c.args.hart.now c.begin.new.hart c.go_on.new.hart (g.P.Look.shows c.args.port.now) (g.P.Look.shows c.begin.new.port) (g.P.Look.shows c.go_on.new.port) c.in-None.ensures.stays c.in-None.ensures.part c.go_on.ensures.part)

pub returns-in-Some-clause-turn : goal.returns-in-Some-clause-turn
returns-in-Some-clause-turn g c = turn_taken c.args.hart.now c.begin.new.hart (g.P.Look.shows c.args.port.now) c.in-Some.ensures.ended.mid (g.P.Look.shows c.begin.new.port) _ c.requires.settled.with c.in-Some.ensures.ended.finds
    (end_adds _ c.args.hart.now c.begin.new.hart (g.P.Look.shows c.args.port.now) (g.P.Look.shows c.begin.new.port) c.in-Some.ensures.ended)
    (owing_goes 3 IsOfBegin (g.P.Look.shows c.args.port.now) (g.P.Look.shows c.begin.new.port) begin_off_states c.begin.ensures.goes ∙ c.requires.settled.with.paid) c.in-Some.ensures.end_part

pub returns-in-Some-clause-path : goal.returns-in-Some-clause-path
returns-in-Some-clause-path g c = paths.ended c.in-Some.reason c.in-Some.ensures.ended c.begin.ensures.goes

pub returns-in-None-clause-path : goal.returns-in-None-clause-path
returns-in-None-clause-path g c = looked_on c.args.hart.now c.begin.new.hart c.go_on.new.hart (g.P.Look.shows c.args.port.now) (g.P.Look.shows c.begin.new.port) (g.P.Look.shows c.go_on.new.port) c.go_on.result c.in-None.ensures.stays c.in-None.ensures.looked c.in-None.ensures.with c.go_on.ensures.path

pub returns-in-Some-clause-goes : goal.returns-in-Some-clause-goes
returns-in-Some-clause-goes g c = turn_goes c.args.hart.now c.begin.new.hart (g.P.Look.shows c.args.port.now) (g.P.Look.shows c.begin.new.port) _
    (paths.ended c.in-Some.reason c.in-Some.ensures.ended c.begin.ensures.goes)

pub returns-in-None-clause-goes : goal.returns-in-None-clause-goes
returns-in-None-clause-goes g c = turn_goes c.args.hart.now c.go_on.new.hart (g.P.Look.shows c.args.port.now) (g.P.Look.shows c.go_on.new.port) c.go_on.result
    (looked_on c.args.hart.now c.begin.new.hart c.go_on.new.hart (g.P.Look.shows c.args.port.now) (g.P.Look.shows c.begin.new.port) (g.P.Look.shows c.go_on.new.port) c.go_on.result c.in-None.ensures.stays c.in-None.ensures.looked c.in-None.ensures.with c.go_on.ensures.path)

pub returns-in-Some-clause-inside : goal.returns-in-Some-clause-inside
returns-in-Some-clause-inside g c = turn_in c.args.hart.now c.begin.new.hart (g.P.Look.shows c.args.port.now) (g.P.Look.shows c.begin.new.port) _
    (paths.ended c.in-Some.reason c.in-Some.ensures.ended c.begin.ensures.goes)

pub returns-in-None-clause-inside : goal.returns-in-None-clause-inside
returns-in-None-clause-inside g c = turn_in c.args.hart.now c.go_on.new.hart (g.P.Look.shows c.args.port.now) (g.P.Look.shows c.go_on.new.port) c.go_on.result
    (looked_on c.args.hart.now c.begin.new.hart c.go_on.new.hart (g.P.Look.shows c.args.port.now) (g.P.Look.shows c.begin.new.port) (g.P.Look.shows c.go_on.new.port) c.go_on.result c.in-None.ensures.stays c.in-None.ensures.looked c.in-None.ensures.with c.go_on.ensures.path)

pub returns-in-Some-clause-looked : goal.returns-in-Some-clause-looked
returns-in-Some-clause-looked g c = end_looks c.in-Some.reason c.args.hart.now c.begin.new.hart (g.P.Look.shows c.args.port.now) (g.P.Look.shows c.begin.new.port) c.in-Some.ensures.ended

pub returns-in-None-clause-looked : goal.returns-in-None-clause-looked
returns-in-None-clause-looked g c = on_looks c.begin.new.hart c.go_on.new.hart (g.P.Look.shows c.args.port.now) (g.P.Look.shows c.begin.new.port) (g.P.Look.shows c.go_on.new.port) c.go_on.result c.go_on.ensures.going c.in-None.ensures.looked c.go_on.ensures.path
