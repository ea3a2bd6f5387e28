use Rattle.fence_pieces.proofs.Asking.{fences_are_asked}
use Rattle.fence_pieces.proofs.Owning.{fences_stand}
use Rattle.fence_pieces.proofs.laws.law_asked.Goals as goal

pub returns-clause-one : goal.returns-clause-one
returns-clause-one c = fences_are_asked

pub returns-clause-all : goal.returns-clause-all
returns-clause-all c = fences_stand
