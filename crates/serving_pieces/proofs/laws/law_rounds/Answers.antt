use Rattle.serving_pieces.proofs.Rounds.{rounds_rest, stops_rest}
use Rattle.serving_pieces.proofs.laws.law_rounds.Goals as goal

pub returns-clause-all : goal.returns-clause-all
returns-clause-all c = rounds_rest

pub returns-clause-stopped : goal.returns-clause-stopped
returns-clause-stopped c = stops_rest
