use Rattle.fence_pieces.proofs.Ending.{fences_are_done}
use Rattle.fence_pieces.proofs.laws.law_done.Goals as goal

pub returns : goal.returns
returns c = fences_are_done
