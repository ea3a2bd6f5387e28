use Rattle.std.proofs.Common.{◌++◌}
use Rattle.asm_text.specs.Values.{line_as}
use Rattle.rv_asm.specs.Assembly.{set_by}
use Rattle.rv_asm.proofs.Kept.{set_on}
use Rattle.rv_asm.proofs.passes.labels_of.Goals as goal

pub loop-bytes-preserved : goal.loop-bytes-preserved
loop-bytes-preserved c = let (before, i, are) = c.loop-bytes.invariant in let line = line_as c.line_of-line.result in let (now, set) = c.in_ok-again.ensures before are in (
  before ++ set_by c.loop-bytes.place line.label,
  set_on c.args.text.now c.loop-bytes.rest.now c.in-Some.behind.now c.in-Some.bytes.now c.loop-bytes.place c.loop-bytes.number c.place_behind-place.result c.loop-bytes.twice c.or_later-twice.result before line c.in_ok-again.again
      c.line_of-line.ensures.line i c.in-Some.ensures.first c.in-Some.ensures.shorter c.place_behind-place.ensures.value c.place_behind-place.ensures.within set c.or_later-twice.ensures,
  now,
)
