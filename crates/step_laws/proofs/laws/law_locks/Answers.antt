use Rattle.step_laws.proofs.Slots.{lock_facts}
use Rattle.step_laws.proofs.Turned.{lock_law}
use Rattle.step_laws.proofs.laws.law_locks.Goals as goal

pub returns-clause-facts : goal.returns-clause-facts
returns-clause-facts c = lock_facts

pub returns-clause-taken : goal.returns-clause-taken
returns-clause-taken c = lock_law
