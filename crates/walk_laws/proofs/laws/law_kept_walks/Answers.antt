use Rattle.walk_laws.proofs.Kept.{walk_is_kept, stays_over_steps, stays_over_flush}
use Rattle.walk_laws.proofs.laws.law_kept_walks.Goals as goal

pub returns-clause-walk : goal.returns-clause-walk
returns-clause-walk c = walk_is_kept

pub returns-clause-steps : goal.returns-clause-steps
returns-clause-steps c = stays_over_steps

pub returns-clause-flush : goal.returns-clause-flush
returns-clause-flush c = stays_over_flush
