use Rattle.std.proofs.Common.{◌+◌, sym, subst, arith}
use Rattle.guest_ram.specs.Areas.{IsOfSection}
use Rattle.guest_ram.specs.Ports.{GoesBy}
use Rattle.guest_ram.proofs.Moves.{goes_step, goes_then, goes_at_most}
use Rattle.guest_ram_cases.proofs.Looks.{IsLooking}
use Rattle.guest_ram_cases.proofs.Passes.{looking_hart, looking_own, may_look_monitor, looked_all}
use Rattle.guest_ram_cases.proofs.claiming.all_out.Goals as goal
use Rattle.guest_ram_cases.proofs.claiming.all_out.Goals.{then-hart-own+else-found-ne0, else-hart-own}

pub loop-hart-preserved : goal.loop-hart-preserved
loop-hart-preserved g c = elim c.if-hart-own.branch [
  | then-hart-own+else-found-ne0 w ↦ record {
    looking = subst (λ x. IsLooking (g.P.Look.shows x) c.actor-own.result c.layout-harts.result.harts (c.loop-hart.hart + 1)) (sym w.port-is)
        (looking_hart (g.P.Look.shows c.loop-hart.port) (g.P.Look.shows w.load-found.new.self) c.actor-own.result c.layout-harts.result.harts c.loop-hart.hart _ _ w.load-found.ensures.step w.run_word-word.ensures.name (omega arith) (omega arith) (λ e. omega arith) c.loop-hart.invariant.looking);
    goes = subst (λ x. GoesBy (c.loop-hart.hart + 1) IsOfSection (g.P.Look.shows c.args.port.now) (g.P.Look.shows x)) (sym w.port-is)
        (goes_then c.loop-hart.hart 1 IsOfSection _ _ _ c.loop-hart.invariant.goes (goes_step IsOfSection _ _ _ _ _ _ _ w.load-found.ensures.step w.load-found.ensures.allowed w.run_word-word.ensures.name tt));
  }
  | else-hart-own w ↦ record {
    looking = subst (λ x. IsLooking (g.P.Look.shows x) c.actor-own.result c.layout-harts.result.harts (c.loop-hart.hart + 1)) (sym w.port-is)
        (looking_own (g.P.Look.shows c.loop-hart.port) c.actor-own.result c.layout-harts.result.harts c.loop-hart.hart (omega arith) (omega arith) c.loop-hart.invariant.looking);
    goes = subst (λ x. GoesBy (c.loop-hart.hart + 1) IsOfSection (g.P.Look.shows c.args.port.now) (g.P.Look.shows x)) (sym w.port-is)
        (goes_at_most c.loop-hart.hart _ IsOfSection _ _ (omega arith) c.loop-hart.invariant.goes);
  }
]

pub load-found-requires-then-own-ne-MONITOR-clause-may :
    goal.load-found-requires-then-own-ne-MONITOR-clause-may
load-found-requires-then-own-ne-MONITOR-clause-may g c = may_look_monitor (g.P.Look.shows c.loop-hart.port) c.actor-own.result c.layout-harts.result.harts c.loop-hart.hart _ c.loop-hart.invariant.looking (λ e. omega arith) c.run_word-word-then-own-ne-MONITOR.ensures.name

pub returns-else-found-ne0-2-clause-section : goal.returns-else-found-ne0-2-clause-section
returns-else-found-ne0-2-clause-section g c = looked_all (g.P.Look.shows c.loop-hart.port) (g.P.Look.shows c.load-found-then-own-ne-MONITOR.new.self) c.actor-own.result c.layout-harts.result.harts c.loop-hart.hart _ _ c.loop-hart.invariant.looking
    (omega arith) (λ e. omega arith) c.load-found-then-own-ne-MONITOR.ensures.step c.run_word-word-then-own-ne-MONITOR.ensures.name (omega arith)

pub returns-then-found-ne0-clause-goes : goal.returns-then-found-ne0-clause-goes
returns-then-found-ne0-clause-goes g c = let at = c.loop-hart.invariant.looking in goes_at_most (c.loop-hart.hart + 1) 9 IsOfSection _ _ (omega (arith, at.harts_are, at.acting.limits.harts))
    (goes_then c.loop-hart.hart 1 IsOfSection _ _ _ c.loop-hart.invariant.goes (goes_step IsOfSection _ _ _ _ _ _ _ c.load-found.ensures.step c.load-found.ensures.allowed c.run_word-word.ensures.name tt))

pub returns-then-found-ne0-2-clause-goes : goal.returns-then-found-ne0-2-clause-goes
returns-then-found-ne0-2-clause-goes g c = let at = c.loop-hart.invariant.looking in goes_at_most (c.loop-hart.hart + 1) 9 IsOfSection _ _ (omega (arith, at.harts_are, at.acting.limits.harts))
    (goes_then c.loop-hart.hart 1 IsOfSection _ _ _ c.loop-hart.invariant.goes
    (goes_step IsOfSection _ _ _ _ _ _ _ c.load-found-then-own-ne-MONITOR.ensures.step c.load-found-then-own-ne-MONITOR.ensures.allowed c.run_word-word-then-own-ne-MONITOR.ensures.name tt))

pub returns-else-found-ne0-2-clause-goes : goal.returns-else-found-ne0-2-clause-goes
returns-else-found-ne0-2-clause-goes g c = let at = c.loop-hart.invariant.looking in goes_at_most (c.loop-hart.hart + 1) 9 IsOfSection _ _ (omega (arith, at.harts_are, at.acting.limits.harts))
    (goes_then c.loop-hart.hart 1 IsOfSection _ _ _ c.loop-hart.invariant.goes
    (goes_step IsOfSection _ _ _ _ _ _ _ c.load-found-then-own-ne-MONITOR.ensures.step c.load-found-then-own-ne-MONITOR.ensures.allowed c.run_word-word-then-own-ne-MONITOR.ensures.name tt))
