use Rattle.access_pieces.proofs.Stores.{stores_serve}
use Rattle.access_pieces.proofs.laws.law_stores.Goals as goal

pub returns : goal.returns
returns c = stores_serve
