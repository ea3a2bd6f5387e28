use Rattle.std.proofs.Common.{sym}
use Rattle.rv_asm.proofs.passes.push_line.Goals as goal

pub returns : goal.returns
returns c = λ before sets are twice. rw (sym twice, sym c.ends_within-ends.ensures) (c.lowered.ensures _ _ _ (c.lowered-added.ensures _ _ _ (c.push_said-added.ensures sets are)))
