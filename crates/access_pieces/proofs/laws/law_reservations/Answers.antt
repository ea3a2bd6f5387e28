use Rattle.access_pieces.proofs.Reserved.{conditionals_serve, reserves_serve}
use Rattle.access_pieces.proofs.laws.law_reservations.Goals as goal

pub returns-clause-reserves : goal.returns-clause-reserves
returns-clause-reserves c = reserves_serve

pub returns-clause-conditionals : goal.returns-clause-conditionals
returns-clause-conditionals c = conditionals_serve
