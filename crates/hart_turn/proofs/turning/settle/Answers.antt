use Rattle.hart_turn.specs.Logs.{AtEnd}
use Rattle.turn_pieces.proofs.Writers.{part_nowhere}
use Rattle.hart_turn.proofs.turning.settle.Goals as goal

pub returns-then-keeps_section-clause-part : goal.returns-then-keeps_section-clause-part
returns-then-keeps_section-clause-part g c = part_nowhere (AtEnd c.args.hart.now (g.P.Look.shows c.args.port.now))
