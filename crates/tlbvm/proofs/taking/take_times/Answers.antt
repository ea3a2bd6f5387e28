-- Some turns more; behind the first reason no turn is taken.
use Rattle.std.proofs.Common.{◌≡◌, ℕ, ◌≤◌, ◌+◌, ◌-◌, sym, ◌∙◌, ap, subst, arith}
use Rattle.std.specs.Prelude.{is_some, replicate}
use Rattle.ref_machine.specs.PlainState.{PlainState}
use Rattle.ref_machine.specs.Ran.{Ran}
use Rattle.tlbvm.proofs.Orderly.{over_to, same_behind, times_more, times_run}
use Rattle.tlbvm.proofs.taking.take_times.Goals as goal

-- what is taken of what is left, behind what was taken
run_more : (count left taken hart : ℕ) (p q r : PlainState) → left ≤ count → taken ≤ left → Ran (replicate (count - left) hart) p q → Ran (replicate taken hart) q r → Ran (replicate (count - (left - taken)) hart) p r
run_more count left taken hart p q r le most ran more =
    let e : taken + (count - left) ≡ count - (left - taken) = omega (arith, le, most) in
    times_run (count - left) taken (count - (left - taken)) hart p q r e ran more

pub returns-in-Some-clause-ran : goal.returns-in-Some-clause-ran
returns-in-Some-clause-ran c =
    let left = c.loop-left.left in
    let taken = c.run-taken.result in
    let n = c.args.count - (left - taken) in
    let below = c.loop-left.invariant.left in
    let most = c.run-taken.ensures.most in
    let more = c.if-left-gt0.true in
    let le : n + 1 ≤ c.args.count = omega (arith, below, most, more) in
    over_to (replicate (n + 1) c.args.hart) (replicate c.args.count c.args.hart) c.args.machine.now c.turn.new.self (same_behind c.args.hart (n + 1) c.args.count le)
    (ap is_some (sym c.turn.ensures.reason ∙ c.in-Some.is))
    (times_more n c.args.hart c.args.machine.now c.run-taken.new.self c.turn.new.self c.run-taken.ensures.going
    (run_more c.args.count left taken c.args.hart c.args.machine.now c.loop-left.machine c.run-taken.new.self below most c.loop-left.invariant.ran c.run-taken.ensures.ran) c.turn.ensures.turned)

pub loop-left-preserved-then-left-gt0 : goal.loop-left-preserved-then-left-gt0
loop-left-preserved-then-left-gt0 c =
    let left = c.loop-left.left in
    let taken = c.run-taken.result in
    let n = c.args.count - (left - taken) in
    let below = c.loop-left.invariant.left in
    let most = c.run-taken.ensures.most in
    let more = c.if-left-gt0.true in
    let e : n + 1 ≡ c.args.count - (left - taken - 1) = omega (arith, below, most, more) in
    record {
      left = omega (arith, below);
      layout = c.turn.ensures.layout ∙ c.run-taken.ensures.layout ∙ c.loop-left.invariant.layout;
      going = sym c.turn.ensures.reason ∙ c.in_default.is;
      ran = subst (λ k. Ran (replicate k c.args.hart) c.args.machine.now c.turn.new.self) e
          (times_more n c.args.hart c.args.machine.now c.run-taken.new.self c.turn.new.self c.run-taken.ensures.going
          (run_more c.args.count left taken c.args.hart c.args.machine.now c.loop-left.machine c.run-taken.new.self below most c.loop-left.invariant.ran c.run-taken.ensures.ran) c.turn.ensures.turned);
    }

pub loop-left-preserved : goal.loop-left-preserved
loop-left-preserved c =
    let below = c.loop-left.invariant.left in
    record {
      left = omega (arith, below);
      layout = c.run-taken.ensures.layout ∙ c.loop-left.invariant.layout;
      going = c.run-taken.ensures.going;
      ran = run_more c.args.count c.loop-left.left c.run-taken.result c.args.hart c.args.machine.now c.loop-left.machine c.run-taken.new.self
          c.loop-left.invariant.left c.run-taken.ensures.most c.loop-left.invariant.ran c.run-taken.ensures.ran;
    }
