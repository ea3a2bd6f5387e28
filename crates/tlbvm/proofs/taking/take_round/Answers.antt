-- One turn more; behind the first reason no turn is taken.
use Rattle.std.proofs.Common.{◌≡◌, ◌-◌, ◌+◌, sym, ◌∙◌, ap, subst, arith}
use Rattle.std.specs.Prelude.{is_some}
use Rattle.tlbvm.specs.Turns.{harts_once}
use Rattle.tlbvm.proofs.Orderly.{IsBehind, over_to, harts_behind, harts_more}
use Rattle.tlbvm.proofs.taking.take_round.Goals as goal

pub returns-in-Some-clause-ran : goal.returns-in-Some-clause-ran
returns-in-Some-clause-ran c =
    let n = c.loop-hart.hart in
    let below = c.loop-hart-test.true in
    let e : c.args.harts - (n + 1) + (n + 1) ≡ c.args.harts = omega (arith, below) in
    over_to (harts_once (n + 1)) (harts_once c.args.harts) c.args.machine.now c.take_times.new.machine (subst (λ m. IsBehind (harts_once (n + 1)) (harts_once m)) e (harts_behind (n + 1) (c.args.harts - (n + 1))))
    (ap is_some (sym c.take_times.ensures.reason ∙ c.in-Some.is))
    (harts_more n c.args.machine.now c.loop-hart.machine c.take_times.new.machine c.loop-hart.invariant.ran c.take_times.ensures.ran)

pub loop-hart-preserved : goal.loop-hart-preserved
loop-hart-preserved c = record {
  layout = c.take_times.ensures.layout ∙ c.loop-hart.invariant.layout;
  going = sym c.take_times.ensures.reason ∙ c.in_default.is;
  ran = harts_more c.loop-hart.hart c.args.machine.now c.loop-hart.machine c.take_times.new.machine c.loop-hart.invariant.ran c.take_times.ensures.ran;
}
