use Rattle.need_pieces.proofs.Served.{fences_wait}
use Rattle.need_pieces.proofs.laws.law_fences.Goals as goal

pub returns : goal.returns
returns c = fences_wait
