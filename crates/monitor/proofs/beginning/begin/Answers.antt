use Rattle.std.proofs.Common.{arith}
use Rattle.guest_ram.specs.Areas.{IsOfEnd}
use Rattle.guest_ram.proofs.Moves.{goes_at_most, goes_then, goes_within}
use Rattle.monitor.specs.Steps.{IsOfMonitor}
use Rattle.monitor.proofs.Areas.{end_mine}
use Rattle.monitor.proofs.beginning.begin.Goals as goal

pub returns-in-None-clause-goes : goal.returns-in-None-clause-goes
returns-in-None-clause-goes g c = goes_at_most 1 3 IsOfMonitor _ _ (omega arith) (goes_within 1 IsOfEnd IsOfMonitor _ _ end_mine c.begin_turn.ensures.goes)

pub returns-in-Some-clause-goes : goal.returns-in-Some-clause-goes
returns-in-Some-clause-goes g c = goes_then 2 1 IsOfMonitor _ _ _ (goes_then 1 1 IsOfMonitor _ _ _ (goes_within 1 IsOfEnd IsOfMonitor _ _ end_mine c.begin_turn.ensures.goes) c.give_back.ensures.goes)
    (goes_within 1 IsOfEnd IsOfMonitor _ _ end_mine c.sign_off.ensures.goes)
