use Rattle.rv_asm.proofs.actions.push_action.Goals as goal

pub returns-in-Makes : goal.returns-in-Makes
returns-in-Makes c = λ sets are. rw c.in-Makes.is (c.push_instr.ensures sets are)
