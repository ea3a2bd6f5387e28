use Rattle.guest_ram.specs.Areas.{IsOfEnd}
use Rattle.guest_ram.proofs.Moves.{goes_within}
use Rattle.monitor.specs.Steps.{IsOfMonitor}
use Rattle.monitor.proofs.Areas.{end_mine}
use Rattle.monitor.proofs.stopping.stop.Goals as goal

pub returns-clause-goes : goal.returns-clause-goes
returns-clause-goes g c = goes_within 1 IsOfEnd IsOfMonitor _ _ end_mine c.set_stop.ensures.goes
