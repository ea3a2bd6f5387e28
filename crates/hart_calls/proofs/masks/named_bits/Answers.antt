use Rattle.std.proofs.Common.{◌≡◌, ◌≤◌, ◌+◌, ap, sym, subst, ◌∙◌, arith}
use Rattle.hart_calls.specs.Asked.{bits_if_there}
use Rattle.hart_calls.proofs.Named.{NoneFrom, all_from, all_ones, are_harts, missing, no_more, none_from_zero, none_yet, one_from, one_more, part, some_named}
use Rattle.hart_calls.proofs.masks.named_bits.Goals as goal
use Rattle.hart_calls.proofs.masks.named_bits.Goals.{then-is_set+in_ok-hart, else-is_set}

pub returns-then-base-eq-ALL_HARTS-clause-named : goal.returns-then-base-eq-ALL_HARTS-clause-named
returns-then-base-eq-ALL_HARTS-clause-named c = all_ones c.args.harts c.args.mask c.args.base c.requires c.if-base-eq-ALL_HARTS.true

pub returns-then-base-eq-ALL_HARTS-clause-there : goal.returns-then-base-eq-ALL_HARTS-clause-there
returns-then-base-eq-ALL_HARTS-clause-there c = are_harts c.args.harts _ (all_from c.args.harts c.requires)

pub loop-i-init : goal.loop-i-init
loop-i-init c = record { named_are = none_yet c.args.harts c.args.mask c.args.base; none_from = none_from_zero c.args.harts }

pub returns-in_err-hart-clause-named : goal.returns-in_err-hart-clause-named
returns-in_err-hart-clause-named c =
    let far : c.args.harts ≤ c.args.base + c.loop-i.i = omega (arith, c.in_err-hart.ensures) in
    c.from_residual.ensures
    ∙ sym (some_named c.args.harts c.args.mask c.args.base c.if-base-eq-ALL_HARTS.false ∙ missing c.args.harts c.args.mask c.args.base 64 c.loop-i.i (omega arith) (sym c.is_set.ensures ∙ c.if-is_set.true) far)

pub loop-i-preserved : goal.loop-i-preserved
loop-i-preserved c = elim c.if-is_set.branch [
  | then-is_set+in_ok-hart w ↦ record {
    named_are = one_more c.args.harts c.args.mask c.args.base c.loop-i.i w.in_ok-hart.hart c.loop-i.bits c.if-is_set.bits c.requires c.loop-i.invariant.named_are (sym c.is_set.ensures ∙ w.if-is_set.true) (omega (arith, w.in_ok-hart.ensures))
        (omega (arith, w.in_ok-hart.ensures)) w.bits-is;
    none_from = one_from c.args.harts w.in_ok-hart.hart c.loop-i.bits c.if-is_set.bits c.requires c.loop-i.invariant.none_from (omega (arith, w.in_ok-hart.ensures)) w.bits-is;
  }
  | else-is_set w ↦ record {
    named_are = no_more c.args.harts c.args.mask c.args.base c.loop-i.i c.loop-i.bits c.if-is_set.bits c.loop-i.invariant.named_are (sym c.is_set.ensures ∙ w.if-is_set.false) w.bits-is;
    none_from = subst (NoneFrom c.args.harts) (sym w.bits-is) c.loop-i.invariant.none_from;
  }
]

pub returns-clause-named : goal.returns-clause-named
returns-clause-named c =
    let done : c.loop-i.i ≡ 64 = omega arith in
    sym (some_named c.args.harts c.args.mask c.args.base c.if-base-eq-ALL_HARTS.false ∙ ap (λ n. bits_if_there c.args.harts (part c.args.mask c.args.base n)) (sym done) ∙ c.loop-i.invariant.named_are)

pub returns-clause-there : goal.returns-clause-there
returns-clause-there c = are_harts c.args.harts c.loop-i.bits c.loop-i.invariant.none_from
