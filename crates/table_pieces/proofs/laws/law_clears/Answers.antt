use Rattle.table_pieces.proofs.Owing.{discipline_clears}
use Rattle.table_pieces.proofs.laws.law_clears.Goals as goal

pub returns : goal.returns
returns c = discipline_clears
