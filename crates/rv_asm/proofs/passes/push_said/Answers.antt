use Rattle.rv_asm.proofs.passes.push_said.Goals as goal

pub returns-in-Ok : goal.returns-in-Ok
returns-in-Ok c = λ sets are. rw c.in-Ok.is (c.push_action.ensures sets are)
