use Rattle.run_laws.proofs.Headline.{fences_leave_none}
use Rattle.run_laws.proofs.laws.law_finished_fence.Goals as goal

pub returns : goal.returns
returns c = fences_leave_none
