use Rattle.access_pieces.proofs.Led.{led}
use Rattle.access_pieces.proofs.laws.law_translations.Goals as goal

pub returns : goal.returns
returns c = λ p q b b' x kind va t beside call o u a l tells. led o p q b b' x kind va t u a l beside call tells
