-- One round more; behind the first reason no turn is taken.
use Rattle.std.proofs.Common.{◌≡◌, ◌-◌, ◌+◌, sym, ◌∙◌, ap, subst, arith}
use Rattle.std.specs.Prelude.{is_some}
use Rattle.tlbvm.specs.Turns.{hart_turns, rounds}
use Rattle.tlbvm.proofs.Orderly.{IsBehind, over_to, rounds_behind, rounds_more}
use Rattle.tlbvm.proofs.taking.take_rounds.Goals as goal

pub returns-in-Some-clause-ran : goal.returns-in-Some-clause-ran
returns-in-Some-clause-ran c =
    let n = c.loop-round._round in
    let below = c.loop-round-test.true in
    let e : c.args.count - (n + 1) + (n + 1) ≡ c.args.count = omega (arith, below) in
    over_to (hart_turns (rounds c.args.harts (n + 1))) (hart_turns (rounds c.args.harts c.args.count)) c.args.machine.now c.take_round.new.machine
    (subst (λ m. IsBehind (hart_turns (rounds c.args.harts (n + 1))) (hart_turns (rounds c.args.harts m))) e (rounds_behind c.args.harts (n + 1) (c.args.count - (n + 1))))
    (ap is_some (sym c.take_round.ensures.reason ∙ c.in-Some.is))
    (rounds_more c.args.harts n c.requires.few c.args.machine.now c.loop-round.machine c.take_round.new.machine c.loop-round.invariant.ran c.take_round.ensures.ran)

pub loop-round-preserved : goal.loop-round-preserved
loop-round-preserved c = record {
  layout = c.take_round.ensures.layout ∙ c.loop-round.invariant.layout;
  going = sym c.take_round.ensures.reason ∙ c.in_default.is;
  ran = rounds_more c.args.harts c.loop-round._round c.requires.few c.args.machine.now c.loop-round.machine c.take_round.new.machine c.loop-round.invariant.ran c.take_round.ensures.ran;
}
