use Rattle.access_pieces.proofs.Amos.{amos_serve}
use Rattle.access_pieces.proofs.laws.law_operations.Goals as goal

pub returns : goal.returns
returns c = amos_serve
