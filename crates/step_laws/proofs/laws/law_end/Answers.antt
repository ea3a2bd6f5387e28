use Rattle.step_laws.proofs.Ends.{end_law}
use Rattle.step_laws.proofs.laws.law_end.Goals as goal

pub returns : goal.returns
returns c = end_law
