use Rattle.fetch_pieces.proofs.Regimes.{fills_agree, rests_agree, tells_agree, traps_rest}
use Rattle.fetch_pieces.proofs.laws.law_regimes.Goals as goal

pub returns-clause-fills : goal.returns-clause-fills
returns-clause-fills c = fills_agree

pub returns-clause-tells : goal.returns-clause-tells
returns-clause-tells c = tells_agree

pub returns-clause-rests : goal.returns-clause-rests
returns-clause-rests c = rests_agree

pub returns-clause-traps : goal.returns-clause-traps
returns-clause-traps c = traps_rest
