-- A mask is refused before a range, and an accepted fence is a success.
use Rattle.std.proofs.Common.{◌≤◌, true, false, ap, ◌∙◌, arith}
use Rattle.machine_model.specs.Perform.{call_outcome}
use Rattle.ref_machine.specs.Calls.{says}
use Rattle.ref_machine.proofs.MaskCalls.{harts_of, at_registers, there_is, fence_refused, fetch_fence_done, range_at_registers, fence_past_end, page_fence_done}
use Rattle.ref_machine.proofs.calls.rfence_call.Goals as goal
use Rattle.ref_machine.proofs.calls.rfence_call.Goals.{else-function-ne0-via-then-function-ne0+else-is_past_end, else-function-ne0-via-else-function-ne0}

pub returns-then-is_none-clause-says : goal.returns-then-is_none-clause-says
returns-then-is_none-clause-says c =
    let a = c.args.arch.now in
    let harts = c.args.harts in
    let found = at_registers harts a c.arg.result c.arg-2.result c.named_bits.result c.named_bits.ensures c.arg.ensures c.arg-2.ensures in
    let absent = there_is harts (harts_of harts a) c.named_bits.result false found c.if-is_none.ensures in
    λ m now room. ap (λ call. call_outcome now room (says m call)) c.fails-then-is_none.ensures ∙ ap (call_outcome now room) (fence_refused harts a c.args.function (omega arith) absent)

pub returns-then-is_past_end-clause-says : goal.returns-then-is_past_end-clause-says
returns-then-is_past_end-clause-says c =
    let a = c.args.arch.now in
    let harts = c.args.harts in
    let found = at_registers harts a c.arg.result c.arg-2.result c.named_bits.result c.named_bits.ensures c.arg.ensures c.arg-2.ensures in
    let there = there_is harts (harts_of harts a) c.named_bits.result true found c.if-is_none.ensures in
    let past = range_at_registers a c.arg-then-function-ne0.result c.arg-then-function-ne0-2.result c.is_past_end.result true c.is_past_end.ensures c.arg-then-function-ne0.ensures c.arg-then-function-ne0-2.ensures c.if-is_past_end.true in
    λ m now room. ap (λ call. call_outcome now room (says m call)) c.fails-then-is_past_end.ensures ∙ ap (call_outcome now room) (fence_past_end harts a c.args.function c.if-function-ne0.true (omega arith) there past)

pub returns-clause-says : goal.returns-clause-says
returns-clause-says c =
    let a = c.args.arch.now in
    let harts = c.args.harts in
    let found = at_registers harts a c.arg.result c.arg-2.result c.named_bits.result c.named_bits.ensures c.arg.ensures c.arg-2.ensures in
    let there = there_is harts (harts_of harts a) c.named_bits.result true found c.if-is_none.ensures in
    let few : c.args.function ≤ 2 = omega arith in
    λ m now room. ap (λ call. call_outcome now room (says m call)) c.succeeds.ensures ∙ elim c.else-function-ne0.branch [
      | else-function-ne0-via-then-function-ne0+else-is_past_end w ↦
          page_fence_done harts a c.args.function w.if-function-ne0.true few there
          (range_at_registers a w.arg-then-function-ne0.result w.arg-then-function-ne0-2.result w.is_past_end.result false w.is_past_end.ensures w.arg-then-function-ne0.ensures w.arg-then-function-ne0-2.ensures w.if-is_past_end.false) now room
      | else-function-ne0-via-else-function-ne0 w ↦ ap (call_outcome now room) (fetch_fence_done harts a c.args.function w.if-function-ne0.false there)
    ]
