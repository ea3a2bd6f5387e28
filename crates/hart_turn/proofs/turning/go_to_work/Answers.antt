use Rattle.hart_turn.specs.Paths as paths
use Rattle.signal_pieces.specs.Signalling.{IsOfSides}
use Rattle.hart_turn.proofs.Draws.{draws_goes, sides_neither}
use Rattle.hart_turn.proofs.Instructed.{works_to_end}
use Rattle.hart_turn.proofs.Turned.{alone_works, entered_works, works_then}
use Rattle.std.proofs.Common.{rules}
use Rattle.hart_turn.proofs.turning.go_to_work.Goals as goal

pub returns-in-Err-clause-part : goal.returns-in-Err-clause-part
returns-in-Err-clause-part g c = works_to_end c.args.hart.now c.go_in.new.hart (g.P.Look.shows c.args.port.now) (g.P.Look.shows c.go_in.new.port) c.go_in.ensures.part

pub returns-in-Ok-clause-part : goal.returns-in-Ok-clause-part
returns-in-Ok-clause-part g c = works_then c.args.hart.now c.go_in.new.hart c.work.new.hart (g.P.Look.shows c.args.port.now) (g.P.Look.shows c.go_in.new.port) (g.P.Look.shows c.work.new.port) c.go_in.ensures.part c.work.ensures.part

pub work-requires-in-Ok-go_alone-clause-draws : goal.work-requires-in-Ok-go_alone-clause-draws
work-requires-in-Ok-go_alone-clause-draws g c = draws_goes 18 IsOfSides (g.P.Look.shows c.args.port.now) (g.P.Look.shows c.go_alone.new.port) sides_neither c.go_alone.ensures.goes c.requires.draws

pub returns-in-Err-go_alone-clause-part : goal.returns-in-Err-go_alone-clause-part
returns-in-Err-go_alone-clause-part g c = works_to_end c.args.hart.now c.go_alone.new.hart (g.P.Look.shows c.args.port.now) (g.P.Look.shows c.go_alone.new.port) c.go_alone.ensures.part

pub returns-in-Ok-go_alone-clause-part : goal.returns-in-Ok-go_alone-clause-part
returns-in-Ok-go_alone-clause-part g c = works_then c.args.hart.now c.go_alone.new.hart c.work-in-Ok-go_alone.new.hart (g.P.Look.shows c.args.port.now) (g.P.Look.shows c.go_alone.new.port) (g.P.Look.shows c.work-in-Ok-go_alone.new.port) c.go_alone.ensures.part c.work-in-Ok-go_alone.ensures.part

pub returns-in-Err-clause-path : goal.returns-in-Err-clause-path
returns-in-Err-clause-path g c = paths.no_entry c.in-Err.seen (search rules) c.in-Err.ensures.refused c.go_in.ensures.goes c.in-Err.ensures.stays

pub returns-in-Ok-clause-path : goal.returns-in-Ok-clause-path
returns-in-Ok-clause-path g c = entered_works c.args.has_served c.args.hart.now c.go_in.new.hart c.work.new.hart (g.P.Look.shows c.args.port.now) (g.P.Look.shows c.go_in.new.port) (g.P.Look.shows c.work.new.port) c.work.result c.in-Ok.ensures.inside (search rules) c.in-Ok.ensures.entered c.go_in.ensures.goes c.go_in.ensures.with c.work.ensures.path

pub returns-in-Err-go_alone-clause-path : goal.returns-in-Err-go_alone-clause-path
returns-in-Err-go_alone-clause-path g c = paths.no_section c.in-Err-go_alone.seen (search rules) c.in-Err-go_alone.ensures.waits c.go_alone.ensures.goes

pub returns-in-Ok-go_alone-clause-path : goal.returns-in-Ok-go_alone-clause-path
returns-in-Ok-go_alone-clause-path g c = alone_works c.args.has_served c.args.hart.now c.go_alone.new.hart c.work-in-Ok-go_alone.new.hart (g.P.Look.shows c.args.port.now) (g.P.Look.shows c.go_alone.new.port) (g.P.Look.shows c.work-in-Ok-go_alone.new.port) c.work-in-Ok-go_alone.result c.in-Ok-go_alone.ensures.made (search rules) c.in-Ok-go_alone.ensures.alone c.go_alone.ensures.goes c.go_alone.ensures.with c.work-in-Ok-go_alone.ensures.path
