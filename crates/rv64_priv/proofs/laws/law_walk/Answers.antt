use Rattle.rv64_priv.proofs.Reading.{found_walk}
use Rattle.rv64_priv.proofs.laws.law_walk.Goals as goal

pub returns : goal.returns
returns c = found_walk
