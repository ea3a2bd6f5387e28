use Rattle.std.proofs.Common.{◌≡◌, ◌≤◌, ◌+◌, ap, sym, ◌∙◌, arith}
use Rattle.ref_machine.specs.Calls.{bits_if_there}
use Rattle.ref_machine.proofs.Masks.{part, missing, all_ones, some_named, none_yet, one_more, no_more}
use Rattle.ref_machine.proofs.calls.masks.named_bits.Goals as goal
use Rattle.ref_machine.proofs.calls.masks.named_bits.Goals.{then-is_set+in_ok-hart, else-is_set}

pub returns-then-base-eq-ALL_HARTS : goal.returns-then-base-eq-ALL_HARTS
returns-then-base-eq-ALL_HARTS c = all_ones c.args.harts c.args.mask c.args.base c.requires c.if-base-eq-ALL_HARTS.true

pub loop-i-init : goal.loop-i-init
loop-i-init c = none_yet c.args.harts c.args.mask c.args.base

pub returns-in_err-hart : goal.returns-in_err-hart
returns-in_err-hart c =
    let far : c.args.harts ≤ c.args.base + c.loop-i.i = omega (arith, c.in_err-hart.ensures) in
    c.from_residual.ensures
    ∙ sym (some_named c.args.harts c.args.mask c.args.base c.if-base-eq-ALL_HARTS.false ∙ missing c.args.harts c.args.mask c.args.base 64 c.loop-i.i (omega arith) (sym c.is_set.ensures ∙ c.if-is_set.true) far)

pub loop-i-preserved : goal.loop-i-preserved
loop-i-preserved c = elim c.if-is_set.branch [
  | then-is_set+in_ok-hart w ↦
      one_more c.args.harts c.args.mask c.args.base c.loop-i.i w.in_ok-hart.hart c.loop-i.bits c.if-is_set.bits c.requires c.loop-i.invariant (sym c.is_set.ensures ∙ w.if-is_set.true) (omega (arith, w.in_ok-hart.ensures))
      (omega (arith, w.in_ok-hart.ensures)) w.bits-is
  | else-is_set w ↦ no_more c.args.harts c.args.mask c.args.base c.loop-i.i c.loop-i.bits c.if-is_set.bits c.loop-i.invariant (sym c.is_set.ensures ∙ w.if-is_set.false) w.bits-is
]

pub returns : goal.returns
returns c =
    let done : c.loop-i.i ≡ 64 = omega arith in
    sym (some_named c.args.harts c.args.mask c.args.base c.if-base-eq-ALL_HARTS.false ∙ ap (λ n. bits_if_there c.args.harts (part c.args.mask c.args.base n)) (sym done) ∙ c.loop-i.invariant)
