-- The word of the place has all bytes.
use Rattle.std.proofs.Common.{arith}
use Rattle.ref_machine.proofs.Quick.{bare_word}
use Rattle.ref_machine.proofs.shared.Shared.bare_word.Goals as goal

pub returns-then-va-from-le8 : goal.returns-then-va-from-le8
returns-then-va-from-le8 c =
    let fits = c.if-va-from-le8.true in
    bare_word c.args.arch.now c.args.self.now c.args.va c.args.width c.in_ok-index.index c.in_ok-index.ensures (omega (arith, fits))
