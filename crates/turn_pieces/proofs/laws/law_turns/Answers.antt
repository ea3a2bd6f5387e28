use Rattle.turn_pieces.proofs.Chains.{chain_grows}
use Rattle.turn_pieces.proofs.laws.law_turns.Goals as goal

pub returns : goal.returns
returns c = λ u a n l k. chain_grows u a k
