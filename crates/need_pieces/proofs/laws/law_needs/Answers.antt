use Rattle.need_pieces.proofs.Served.{needs_served}
use Rattle.need_pieces.proofs.laws.law_needs.Goals as goal

pub returns : goal.returns
returns c = needs_served
