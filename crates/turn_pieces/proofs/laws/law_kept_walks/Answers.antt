use Rattle.turn_pieces.proofs.KeptWalks.{kept_is_seen}
use Rattle.turn_pieces.proofs.laws.law_kept_walks.Goals as goal

pub returns : goal.returns
returns c = kept_is_seen
