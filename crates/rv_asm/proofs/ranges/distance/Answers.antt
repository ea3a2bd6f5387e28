use Rattle.std.proofs.Common.{◌≤◌, ◌^◌, arith}
use Rattle.std.proofs.Math.Pow.{pow_mono}
use Rattle.rv_asm.proofs.ranges.distance.Goals as goal

pub minus-requires : goal.minus-requires
minus-requires c = let most : 2 ^ c.args.bits ≤ 2 ^ 20 = pow_mono c.requires in omega (arith, most, c.if-back-limit.true)
