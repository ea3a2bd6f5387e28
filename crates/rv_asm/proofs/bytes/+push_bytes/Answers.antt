use Rattle.std.proofs.Common.{◌≢◌, ◌%◌, arith}
use Rattle.rv_asm.proofs.OneByOne.{first_byte, one_more}
use Rattle.rv_asm.proofs.bytes.+push_bytes.Goals as goal

pub returns : goal.returns
returns t c = let some : c.args.count ≢ 0 = λ e. omega (arith, e) in one_more _ _ _ _ _ (c.args.value % 256) c.in_ok-push.ensures.items c.in_ok-push_bytes.ensures (first_byte c.args.count c.args.value some)
