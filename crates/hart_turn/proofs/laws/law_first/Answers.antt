use Rattle.hart_turn.proofs.Newly.{first_between, first_settled}
use Rattle.hart_turn.proofs.laws.law_first.Goals as goal

pub returns-clause-settled : goal.returns-clause-settled
returns-clause-settled c = first_settled

pub returns-clause-between : goal.returns-clause-between
returns-clause-between c = first_between
