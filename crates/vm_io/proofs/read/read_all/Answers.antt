use Rattle.std.proofs.Common.{◌≡◌, ◌+◌, ◌++◌, ◌∙◌, take, vec_len, arith}
use Rattle.std.proofs.lemmas.Grind.{common_steps}
use Rattle.vm_io.proofs.Pieces.{whole, longer, front-then}
use Rattle.vm_io.proofs.read.read_all.Goals as goal

pub returns-then-count-eq0-clause-whole : goal.returns-then-count-eq0-clause-whole
returns-then-count-eq0-clause-whole g c =
    whole _ _ _ _ _ (c.loop-file.invariant.same c.args.name.now) c.len.ensures c.loop-file.invariant.front
    (c.in_ok-count.ensures.ends (grind arith) (omega arith))

pub returns-then-count-len-clause-too_long : goal.returns-then-count-len-clause-too_long
returns-then-count-len-clause-too_long g c too_long =
    longer _ _ _ _ _ _ (c.loop-file.invariant.same c.args.name.now) (omega (arith, c.in_ok-count.ensures.fits)) (omega arith) (omega arith) c.in_ok-count.ensures.bytes

pub loop-file-preserved : goal.loop-file-preserved
loop-file-preserved g c =
    let items : c.extend_from_slice.new.self.items ≡ c.loop-file.file.items ++ take c.in_ok-count.count c.read_at.new.buf = grind (arith, c.in_ok-extend_from_slice.ensures.items) in
    let len : vec_len c.extend_from_slice.new.self ≡ vec_len c.loop-file.file + c.in_ok-count.count = grind (arith, common_steps, c.in_ok-extend_from_slice.ensures.len) in
    record {
      within = omega arith;
      room = omega arith;
      front = front-then _ _ _ _ _ _ _ _ _ (c.loop-file.invariant.same c.args.name.now) c.len.ensures len items c.loop-file.invariant.front c.in_ok-count.ensures.bytes;
      grows = λ other. omega (arith, c.loop-file.invariant.grows other, c.in_ok-count.ensures.grows other);
      same = λ other. c.in_ok-count.ensures.same other ∙ c.loop-file.invariant.same other;
    }
