use Rattle.hart_turn.proofs.Fences.{fence_begins, with_begun}
use Rattle.hart_turn.proofs.fencing.begin_fence.Goals as goal

pub returns-clause-with : goal.returns-clause-with
returns-clause-with c = λ p asked can. with_begun c.args.hart.now c.args.harts c.args.span p c.requires.runs asked can

pub returns-clause-part : goal.returns-clause-part
returns-clause-part c = λ p. fence_begins c.args.hart.now c.args.harts c.args.span p
