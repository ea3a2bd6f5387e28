-- A mask is refused before a range.
use Rattle.std.proofs.Common.{ap, sym, ◌∙◌, arith}
use Rattle.std.specs.Option.{option_map}
use Rattle.machine_model.specs.Sbi.{fence_over}
use Rattle.hart_calls.specs.Asked.{call_asked}
use Rattle.hart_calls.specs.Spans.{flush_of}
use Rattle.hart_calls.proofs.MaskCalls.{at_registers, bits_are, fence_refused, fetch_fence_done, harts_of, page_fence_done}
use Rattle.hart_calls.proofs.asking.rfence_call.Goals as goal

pub returns-in_default-clause-says : goal.returns-in_default-clause-says
returns-in_default-clause-says c =
    let a = c.args.arch.now in
    let found = at_registers c.args.layout.harts a c.arg.result c.arg-2.result c.named_bits.result c.named_bits.ensures.named c.arg.ensures c.arg-2.ensures in
    λ modes m. ap (call_asked c.args.layout a modes m) c.fails-in_default.ensures ∙ fence_refused c.args.layout.harts a c.args.function (omega arith) (sym c.in_default.is ∙ found)

pub returns-then-function-eq0-clause-says : goal.returns-then-function-eq0-clause-says
returns-then-function-eq0-clause-says c =
    let a = c.args.arch.now in
    let found = at_registers c.args.layout.harts a c.arg.result c.arg-2.result c.named_bits.result c.named_bits.ensures.named c.arg.ensures c.arg-2.ensures in
    λ modes m. ap (call_asked c.args.layout a modes m) c.succeeds.ensures ∙ fetch_fence_done c.args.layout.harts a c.args.function c.in-Some.harts c.if-function-eq0.true (sym c.in-Some.is ∙ found)

pub returns-in-Some-span_of-clause-says : goal.returns-in-Some-span_of-clause-says
returns-in-Some-span_of-clause-says c =
    let a = c.args.arch.now in
    let found = at_registers c.args.layout.harts a c.arg.result c.arg-2.result c.named_bits.result c.named_bits.ensures.named c.arg.ensures c.arg-2.ensures in
    λ modes m. ap (λ x. fence_over (harts_of c.args.layout.harts a) (option_map flush_of x)) (sym c.in-Some-span_of.is)
    ∙ page_fence_done c.args.layout.harts a c.args.function c.in-Some.harts c.arg-3.result c.arg-4.result c.span_of.result c.if-function-eq0.false (omega arith) (sym c.in-Some.is ∙ found) c.span_of.ensures.span c.arg-3.ensures c.arg-4.ensures

pub returns-in-Some-span_of-clause-sound : goal.returns-in-Some-span_of-clause-sound
returns-in-Some-span_of-clause-sound c =
    let a = c.args.arch.now in
    let found = at_registers c.args.layout.harts a c.arg.result c.arg-2.result c.named_bits.result c.named_bits.ensures.named c.arg.ensures c.arg-2.ensures in
    (bits_are c.args.layout.harts (harts_of c.args.layout.harts a) c.in-Some.harts (sym c.in-Some.is ∙ found), c.in-Some.ensures.there, c.in-Some-span_of.ensures.sound)

pub returns-in-None-clause-says : goal.returns-in-None-clause-says
returns-in-None-clause-says c =
    let a = c.args.arch.now in
    let found = at_registers c.args.layout.harts a c.arg.result c.arg-2.result c.named_bits.result c.named_bits.ensures.named c.arg.ensures c.arg-2.ensures in
    λ modes m. ap (call_asked c.args.layout a modes m) c.fails-in-None.ensures
    ∙ ap (λ x. fence_over (harts_of c.args.layout.harts a) (option_map flush_of x)) (sym c.in-None.is)
    ∙ page_fence_done c.args.layout.harts a c.args.function c.in-Some.harts c.arg-3.result c.arg-4.result c.span_of.result c.if-function-eq0.false (omega arith) (sym c.in-Some.is ∙ found) c.span_of.ensures.span c.arg-3.ensures c.arg-4.ensures
