use Rattle.guest_ram.specs.Areas.{IsOfSection}
use Rattle.guest_ram.proofs.Moves.{goes_within}
use Rattle.signal_pieces.specs.Signalling.{IsOfSides}
use Rattle.hart_turn.proofs.Aside.{section_sides}
use Rattle.hart_turn.proofs.Moving.{entered, turned}
use Rattle.hart_turn.proofs.sections.go_in.Goals as goal

pub returns-in-Err-clause-with : goal.returns-in-Err-clause-with
returns-in-Err-clause-with g c = (turned c.args.hart.now (g.P.Look.shows c.args.port.now) (g.P.Look.shows c.enter.new.port) c.requires.with c.enter.ensures.goes c.enter.ensures.acting c.requires.outside c.in-Err.ensures.back c.enter.ensures.claimless c.requires.unclaimed).with

pub returns-in-Err-clause-part : goal.returns-in-Err-clause-part
returns-in-Err-clause-part g c = (turned c.args.hart.now (g.P.Look.shows c.args.port.now) (g.P.Look.shows c.enter.new.port) c.requires.with c.enter.ensures.goes c.enter.ensures.acting c.requires.outside c.in-Err.ensures.back c.enter.ensures.claimless c.requires.unclaimed).works

pub returns-in-Err-clause-goes : goal.returns-in-Err-clause-goes
returns-in-Err-clause-goes g c = goes_within 3 IsOfSection IsOfSides _ _ section_sides c.enter.ensures.goes

pub returns-in-Ok-clause-with : goal.returns-in-Ok-clause-with
returns-in-Ok-clause-with g c = (entered c.args.hart.now (g.P.Look.shows c.args.port.now) (g.P.Look.shows c.enter.new.port) c.requires.with c.enter.ensures.goes c.enter.ensures.acting c.in-Ok.ensures.inside c.enter.ensures.claimless c.requires.unclaimed).with

pub returns-in-Ok-clause-part : goal.returns-in-Ok-clause-part
returns-in-Ok-clause-part g c = (entered c.args.hart.now (g.P.Look.shows c.args.port.now) (g.P.Look.shows c.enter.new.port) c.requires.with c.enter.ensures.goes c.enter.ensures.acting c.in-Ok.ensures.inside c.enter.ensures.claimless c.requires.unclaimed).works

pub returns-in-Ok-clause-goes : goal.returns-in-Ok-clause-goes
returns-in-Ok-clause-goes g c = goes_within 3 IsOfSection IsOfSides _ _ section_sides c.enter.ensures.goes
