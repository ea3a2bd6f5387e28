use Rattle.std.proofs.Common.{◌+◌, sym, subst, arith}
use Rattle.guest_ram.specs.Areas.{IsOfSection}
use Rattle.guest_ram.proofs.Moves.{goes_step, goes_then, goes_at_most}
use Rattle.exclusive.proofs.Looks.{IsLooking}
use Rattle.exclusive.proofs.Passes.{looking_hart, looking_own, may_look_monitor, looked_all, found_all, looked_by_monitor, found_by_monitor, found_monitor}
use Rattle.exclusive.proofs.claiming.all_out.Goals as goal
use Rattle.exclusive.proofs.claiming.all_out.Goals.{then-hart-own+else-found-ne0, else-hart-own}

pub loop-hart-preserved : goal.loop-hart-preserved
loop-hart-preserved g c = let o = g.P.Look.shows c.args.port.now in let p = g.P.Look.shows c.loop-hart.port in let own = c.actor-own.result in let harts = c.layout-harts.result.harts in let n = c.loop-hart.hart in
    elim c.if-hart-own.branch [
      | then-hart-own+else-found-ne0 w ↦ record {
        looking = subst (λ x. IsLooking o (g.P.Look.shows x) own harts (n + 1)) (sym w.port-is)
            (looking_hart o p (g.P.Look.shows w.load-found.new.self) own harts n _ _ w.load-found.ensures.step w.load-found.ensures.allowed w.run_word-word.ensures.name (omega arith) (omega arith) (λ e. omega arith) c.loop-hart.invariant.looking);
      }
      | else-hart-own w ↦ record { looking = subst (λ x. IsLooking o (g.P.Look.shows x) own harts (n + 1)) (sym w.port-is) (looking_own o p own harts n (omega arith) (omega arith) c.loop-hart.invariant.looking) }
    ]

pub load-found-requires-then-own-ne-MONITOR-clause-may :
    goal.load-found-requires-then-own-ne-MONITOR-clause-may
load-found-requires-then-own-ne-MONITOR-clause-may g c = may_look_monitor (g.P.Look.shows c.args.port.now) _ c.actor-own.result c.layout-harts.result.harts c.loop-hart.hart _ c.loop-hart.invariant.looking (λ e. omega arith) c.run_word-word-then-own-ne-MONITOR.ensures.name

pub returns-then-found-ne0-2-clause-refused : goal.returns-then-found-ne0-2-clause-refused
returns-then-found-ne0-2-clause-refused g c = let w = c.run_word-word-then-own-ne-MONITOR in let l = c.load-found-then-own-ne-MONITOR.ensures in
    found_monitor _ _ _ c.actor-own.result c.layout-harts.result.harts c.loop-hart.hart _ c.loop-hart.invariant.looking (omega arith) (λ e. omega arith)
    (record { word = w.result; name = w.ensures.name; step = l.step; may = l.allowed }) w.ensures.number (λ e. omega (arith, e))

pub returns-else-found-ne0-2-clause-all_out : goal.returns-else-found-ne0-2-clause-all_out
returns-else-found-ne0-2-clause-all_out g c = found_all _ _ _ c.actor-own.result c.layout-harts.result.harts c.loop-hart.hart _ _ c.loop-hart.invariant.looking (omega arith) (λ e. omega arith)
    c.load-found-then-own-ne-MONITOR.ensures.step c.run_word-word-then-own-ne-MONITOR.ensures.name (omega arith)

pub returns-else-found-ne0-2-clause-section : goal.returns-else-found-ne0-2-clause-section
returns-else-found-ne0-2-clause-section g c = looked_all _ _ _ c.actor-own.result c.layout-harts.result.harts c.loop-hart.hart _ _ c.loop-hart.invariant.looking (omega arith) (λ e. omega arith)
    c.load-found-then-own-ne-MONITOR.ensures.step c.run_word-word-then-own-ne-MONITOR.ensures.name (omega arith)

pub returns-then-found-ne0-clause-goes : goal.returns-then-found-ne0-clause-goes
returns-then-found-ne0-clause-goes g c = let at = c.loop-hart.invariant.looking in goes_at_most (c.loop-hart.hart + 1) 9 IsOfSection _ _ (omega (arith, at.harts_are, at.acting.limits.harts))
    (goes_then c.loop-hart.hart 1 IsOfSection _ _ _ at.goes (goes_step IsOfSection _ _ _ _ _ _ _ c.load-found.ensures.step c.load-found.ensures.allowed c.run_word-word.ensures.name tt))

pub returns-then-found-ne0-2-clause-goes : goal.returns-then-found-ne0-2-clause-goes
returns-then-found-ne0-2-clause-goes g c = let at = c.loop-hart.invariant.looking in goes_at_most (c.loop-hart.hart + 1) 9 IsOfSection _ _ (omega (arith, at.harts_are, at.acting.limits.harts))
    (goes_then c.loop-hart.hart 1 IsOfSection _ _ _ at.goes
    (goes_step IsOfSection _ _ _ _ _ _ _ c.load-found-then-own-ne-MONITOR.ensures.step c.load-found-then-own-ne-MONITOR.ensures.allowed c.run_word-word-then-own-ne-MONITOR.ensures.name tt))

pub returns-else-found-ne0-2-clause-goes : goal.returns-else-found-ne0-2-clause-goes
returns-else-found-ne0-2-clause-goes g c = let at = c.loop-hart.invariant.looking in goes_at_most (c.loop-hart.hart + 1) 9 IsOfSection _ _ (omega (arith, at.harts_are, at.acting.limits.harts))
    (goes_then c.loop-hart.hart 1 IsOfSection _ _ _ at.goes
    (goes_step IsOfSection _ _ _ _ _ _ _ c.load-found-then-own-ne-MONITOR.ensures.step c.load-found-then-own-ne-MONITOR.ensures.allowed c.run_word-word-then-own-ne-MONITOR.ensures.name tt))

pub returns-else-own-ne-MONITOR-clause-all_out : goal.returns-else-own-ne-MONITOR-clause-all_out
returns-else-own-ne-MONITOR-clause-all_out g c = found_by_monitor _ _ c.actor-own.result c.layout-harts.result.harts c.loop-hart.hart c.loop-hart.invariant.looking (omega arith) (omega arith)

pub returns-else-own-ne-MONITOR-clause-section : goal.returns-else-own-ne-MONITOR-clause-section
returns-else-own-ne-MONITOR-clause-section g c = looked_by_monitor _ _ c.actor-own.result c.layout-harts.result.harts c.loop-hart.hart c.loop-hart.invariant.looking (omega arith) (omega arith)
