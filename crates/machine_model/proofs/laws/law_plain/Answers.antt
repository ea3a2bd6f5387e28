use Rattle.machine_model.proofs.Grows.{plain_runs, plain_settled}
use Rattle.machine_model.proofs.laws.law_plain.Goals as goal

pub returns-clause-runs : goal.returns-clause-runs
returns-clause-runs c = plain_runs

pub returns-clause-settled : goal.returns-clause-settled
returns-clause-settled c = plain_settled
