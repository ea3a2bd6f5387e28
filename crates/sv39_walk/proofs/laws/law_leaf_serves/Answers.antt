use Rattle.sv39_walk.proofs.SameWalk.{leaf_serves}
use Rattle.sv39_walk.proofs.laws.law_leaf_serves.Goals as goal

pub returns : goal.returns
returns c = leaf_serves
