use Rattle.signal_pieces.proofs.Sides.{sides_pass}
use Rattle.signal_pieces.proofs.Sides.{ends_pass}
use Rattle.signal_pieces.proofs.laws.law_sides.Goals as goal

pub returns-clause-sides : goal.returns-clause-sides
returns-clause-sides c = sides_pass

pub returns-clause-ends : goal.returns-clause-ends
returns-clause-ends c = ends_pass
