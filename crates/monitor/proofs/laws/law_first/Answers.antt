use Rattle.monitor.proofs.First.{first_between, first_goes}
use Rattle.monitor.proofs.laws.law_first.Goals as goal

pub returns-clause-goes : goal.returns-clause-goes
returns-clause-goes c = first_goes

pub returns-clause-between : goal.returns-clause-between
returns-clause-between c = first_between
