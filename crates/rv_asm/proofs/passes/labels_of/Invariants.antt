use Rattle.std.proofs.Common.{List, length}
use Rattle.rv_asm.specs.Assembly.{Set}
use Rattle.rv_asm.specs.Found.{AreLabels}
use Rattle.rv_asm.proofs.Kept.{IsSet}
use Rattle.rv_asm.proofs.passes.labels_of.Given as goal

abbrev pub invariant-loop-bytes : goal.invariant-loop-bytes
invariant-loop-bytes l = (before : List Set) × IsSet l.fn.text l.rest l.place l.number l.twice before × AreLabels before l.labels.places

abbrev pub decreases-loop-bytes : goal.decreases-loop-bytes
decreases-loop-bytes l = length l.rest
