-- Where an interrupt is due no turn is taken.
use Rattle.ref_machine.proofs.Short.{ahead_none}
use Rattle.ref_machine.proofs.running.run.Goals as goal

pub returns-then-is_interrupted-clause-ahead : goal.returns-then-is_interrupted-clause-ahead
returns-then-is_interrupted-clause-ahead c = ahead_none c.args.hart c.args.slot.now c.args.shared.now
