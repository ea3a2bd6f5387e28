use Rattle.guest_ram.specs.Areas.{IsOfSection}
use Rattle.guest_ram.proofs.Moves.{goes_within}
use Rattle.signal_pieces.specs.Signalling.{IsOfSides}
use Rattle.monitor.proofs.Areas.{section_sides}
use Rattle.monitor.proofs.sections.look_around.Goals as goal

pub returns-clause-goes : goal.returns-clause-goes
returns-clause-goes g c = goes_within 9 IsOfSection IsOfSides _ _ section_sides c.all_out.ensures.goes
