use Rattle.rv_asm.proofs.passes.add_label.Goals as goal

pub returns-in-Some : goal.returns-in-Some
returns-in-Some c = rw c.in-Some.is c.add.ensures
