use Rattle.step_laws.proofs.Known.{range_facts}
use Rattle.step_laws.proofs.Ends.{find_facts}
use Rattle.step_laws.proofs.laws.law_ranges.Goals as goal

pub returns-clause-stand : goal.returns-clause-stand
returns-clause-stand c = range_facts

pub returns-clause-find : goal.returns-clause-find
returns-clause-find c = find_facts
