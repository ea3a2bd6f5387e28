use Rattle.turn_pieces.specs.Writers.{Anywhere}
use Rattle.turn_pieces.proofs.Writers.{part_quiet}
use Rattle.turn_pieces.proofs.laws.law_quiet_steps.Goals as goal

pub returns : goal.returns
returns c = λ most o p q k. part_quiet Anywhere most o p q k
