use Rattle.fence_pieces.proofs.Quiet.{asks_rest}
use Rattle.fence_pieces.proofs.laws.law_asks.Goals as goal

pub returns : goal.returns
returns c = asks_rest
