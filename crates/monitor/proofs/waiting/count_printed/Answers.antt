use Rattle.std.proofs.Common.{arith}
use Rattle.step_laws.specs.declared.steps.WordOp.TheVariants.{Load}
use Rattle.step_laws.specs.Map.{Cons}
use Rattle.guest_ram.specs.Areas.{IsOfSection}
use Rattle.guest_ram.proofs.Moves.{goes_at_most, goes_step, goes_then, goes_within}
use Rattle.monitor.specs.Steps.{IsOfMonitor}
use Rattle.monitor.proofs.Areas.{section_mine}
use Rattle.monitor.proofs.waiting.count_printed.Goals as goal

pub returns-in-Err-clause-goes : goal.returns-in-Err-clause-goes
returns-in-Err-clause-goes g c = goes_at_most 3 5 IsOfMonitor _ _ (omega arith) (goes_within 3 IsOfSection IsOfMonitor _ _ section_mine c.enter.ensures.goes)

pub returns-in-Ok-clause-goes : goal.returns-in-Ok-clause-goes
returns-in-Ok-clause-goes g c = goes_then 4 1 IsOfMonitor _ _ _
    (goes_then 3 1 IsOfMonitor _ _ _ (goes_within 3 IsOfSection IsOfMonitor _ _ section_mine c.enter.ensures.goes)
    (goes_step IsOfMonitor _ _ _ _ _ Load Cons c.load-found.ensures.step c.load-found.ensures.allowed c.cons_word.ensures.name tt))
    (goes_within 1 IsOfSection IsOfMonitor _ _ section_mine c.leave.ensures.goes)
