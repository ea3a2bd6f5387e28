use Rattle.sv39_walk.proofs.SameWalk.{page_walks}
use Rattle.sv39_walk.proofs.laws.law_page_walks.Goals as goal

pub returns : goal.returns
returns c = page_walks
