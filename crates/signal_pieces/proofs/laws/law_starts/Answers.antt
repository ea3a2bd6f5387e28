use Rattle.signal_pieces.proofs.Starting.{starts_stand}
use Rattle.signal_pieces.proofs.Starting.{stopped_pass}
use Rattle.signal_pieces.proofs.Starting.{held_starts_pass}
use Rattle.signal_pieces.proofs.laws.law_starts.Goals as goal

pub returns-clause-taken : goal.returns-clause-taken
returns-clause-taken c = starts_stand

pub returns-clause-none : goal.returns-clause-none
returns-clause-none c = stopped_pass

pub returns-clause-held : goal.returns-clause-held
returns-clause-held c = held_starts_pass
