use Rattle.serving_pieces.proofs.Stepping.{held_rests, idle_rests}
use Rattle.serving_pieces.proofs.laws.law_unserved.Goals as goal

pub returns-clause-idle : goal.returns-clause-idle
returns-clause-idle c = idle_rests

pub returns-clause-held : goal.returns-clause-held
returns-clause-held c = held_rests
