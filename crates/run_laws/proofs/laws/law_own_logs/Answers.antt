use Rattle.run_laws.proofs.Headline.{harts_are_their_logs, script_is_the_monitors}
use Rattle.run_laws.proofs.laws.law_own_logs.Goals as goal

pub returns-clause-harts : goal.returns-clause-harts
returns-clause-harts c = harts_are_their_logs

pub returns-clause-script : goal.returns-clause-script
returns-clause-script c = script_is_the_monitors
