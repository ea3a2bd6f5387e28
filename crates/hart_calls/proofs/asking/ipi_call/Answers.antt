use Rattle.std.proofs.Common.{ap, sym, ◌∙◌}
use Rattle.hart_calls.specs.Asked.{call_asked}
use Rattle.hart_calls.proofs.MaskCalls.{at_registers, ipi_sends, ipi_refused}
use Rattle.hart_calls.proofs.asking.ipi_call.Goals as goal

pub returns-in-Some-clause-says : goal.returns-in-Some-clause-says
returns-in-Some-clause-says c =
    let a = c.args.arch.now in
    let found = at_registers c.args.layout.harts a c.arg.result c.arg-2.result c.named_bits.result c.named_bits.ensures.named c.arg.ensures c.arg-2.ensures in
    λ modes m. ipi_sends c.args.layout.harts a c.args.function c.in-Some.mask c.if-function-ne0.false (sym c.in-Some.is ∙ found)

pub returns-in-None-clause-says : goal.returns-in-None-clause-says
returns-in-None-clause-says c =
    let a = c.args.arch.now in
    let found = at_registers c.args.layout.harts a c.arg.result c.arg-2.result c.named_bits.result c.named_bits.ensures.named c.arg.ensures c.arg-2.ensures in
    λ modes m. ap (call_asked c.args.layout a modes m) c.fails-in-None.ensures ∙ ipi_refused c.args.layout.harts a c.args.function c.if-function-ne0.false (sym c.in-None.is ∙ found)
