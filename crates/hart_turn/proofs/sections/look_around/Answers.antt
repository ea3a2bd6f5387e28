use Rattle.guest_ram.specs.Areas.{IsOfSection}
use Rattle.guest_ram.proofs.Moves.{goes_within}
use Rattle.signal_pieces.specs.Signalling.{IsOfSides}
use Rattle.hart_turn.proofs.Aside.{section_sides}
use Rattle.hart_turn.proofs.Moving.{looks}
use Rattle.hart_turn.proofs.sections.look_around.Goals as goal

pub returns-clause-with : goal.returns-clause-with
returns-clause-with g c = (looks c.args.hart.now (g.P.Look.shows c.args.port.now) (g.P.Look.shows c.all_out.new.port) c.requires.with c.all_out.ensures.goes c.all_out.ensures.acting c.all_out.ensures.phase c.all_out.ensures.claimant c.requires.made).with

pub returns-clause-part : goal.returns-clause-part
returns-clause-part g c = (looks c.args.hart.now (g.P.Look.shows c.args.port.now) (g.P.Look.shows c.all_out.new.port) c.requires.with c.all_out.ensures.goes c.all_out.ensures.acting c.all_out.ensures.phase c.all_out.ensures.claimant c.requires.made).works

pub returns-clause-goes : goal.returns-clause-goes
returns-clause-goes g c = goes_within 9 IsOfSection IsOfSides _ _ section_sides c.all_out.ensures.goes
