use Rattle.serving_pieces.proofs.Answering.{requests_are_served}
use Rattle.serving_pieces.proofs.laws.law_served.Goals as goal

pub returns : goal.returns
returns c = requests_are_served
