use Rattle.signal_pieces.proofs.Stopping.{limits_stand}
use Rattle.signal_pieces.proofs.laws.law_limits.Goals as goal

pub returns : goal.returns
returns c = limits_stand
