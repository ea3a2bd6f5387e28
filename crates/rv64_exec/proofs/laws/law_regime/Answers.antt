use Rattle.rv64_exec.proofs.Regimes.{regime_stays}
use Rattle.rv64_exec.proofs.laws.law_regime.Goals as goal

pub returns : goal.returns
returns c = regime_stays
