use Rattle.access_pieces.proofs.Loads.{loads_serve}
use Rattle.access_pieces.proofs.laws.law_loads.Goals as goal

pub returns : goal.returns
returns c = loads_serve
