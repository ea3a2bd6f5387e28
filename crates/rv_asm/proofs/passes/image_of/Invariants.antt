use Rattle.std.proofs.Common.{List, length}
use Rattle.rv_asm.specs.Assembly.{Set}
use Rattle.rv_asm.proofs.Kept.{IsMade}
use Rattle.rv_asm.proofs.passes.image_of.Given as goal

abbrev pub invariant-loop-bytes : goal.invariant-loop-bytes
invariant-loop-bytes l = (before : List Set) × IsMade l.fn.text l.rest l.place l.number l.found.twice before l.image.items

abbrev pub decreases-loop-bytes : goal.decreases-loop-bytes
decreases-loop-bytes l = length l.rest
