use Rattle.access_pieces.proofs.GivenUp.{give_ups_stand}
use Rattle.access_pieces.proofs.laws.law_give_ups.Goals as goal

pub returns : goal.returns
returns c = give_ups_stand
