use Rattle.std.proofs.Common.{[], ◌++◌}
use Rattle.asm_text.specs.Values.{line_as}
use Rattle.rv_asm.specs.Assembly.{set_by}
use Rattle.rv_asm.proofs.Kept.{is_again, made_first, made_on, made_refused}
use Rattle.rv_asm.proofs.passes.image_of.Goals as goal

pub loop-bytes-init : goal.loop-bytes-init
loop-bytes-init c = ([], rw c.new-image.ensures.items (made_first c.args.text.now c.args.found.now.twice c.requires.twice))

pub returns-in-Err-clause-refused : goal.returns-in-Err-clause-refused
returns-in-Err-clause-refused c = let (before, i) = c.loop-bytes.invariant in let line = line_as c.line_of-line.result in
    let again = is_again c.args.text.now c.loop-bytes.rest.now c.in-Some.behind.now c.in-Some.bytes.now c.loop-bytes.place c.loop-bytes.number c.args.found.now.twice before c.loop-bytes.image.items line c.is_twice-twice.result
    c.line_of-line.ensures.line i c.in-Some.ensures.first c.is_twice-twice.ensures in
    rw c.refused_at.ensures (made_refused c.args.text.now c.loop-bytes.rest.now c.in-Some.behind.now c.in-Some.bytes.now c.loop-bytes.place c.loop-bytes.number c.args.found.now.twice before c.loop-bytes.image.items c.push_line.new.image.items line
    c.in-Err.refused c.line_of-line.ensures.line i c.in-Some.ensures.first (c.in-Err.ensures before _ c.requires.labels again))

pub loop-bytes-preserved : goal.loop-bytes-preserved
loop-bytes-preserved c = let (before, i) = c.loop-bytes.invariant in let line = line_as c.line_of-line.result in
    let again = is_again c.args.text.now c.loop-bytes.rest.now c.in-Some.behind.now c.in-Some.bytes.now c.loop-bytes.place c.loop-bytes.number c.args.found.now.twice before c.loop-bytes.image.items line c.is_twice-twice.result
    c.line_of-line.ensures.line i c.in-Some.ensures.first c.is_twice-twice.ensures in (
      before ++ set_by c.loop-bytes.place line.label,
      made_on c.args.text.now c.loop-bytes.rest.now c.in-Some.behind.now c.in-Some.bytes.now c.loop-bytes.place c.loop-bytes.number c.place_behind-place.result c.args.found.now.twice before c.loop-bytes.image.items c.push_line.new.image.items line
          c.line_of-line.ensures.line i c.in-Some.ensures.first c.in-Some.ensures.shorter c.place_behind-place.ensures.value c.place_behind-place.ensures.within (c.in-Ok.ensures before _ c.requires.labels again),
    )
