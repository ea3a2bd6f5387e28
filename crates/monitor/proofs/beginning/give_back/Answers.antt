use Rattle.guest_ram.specs.Areas.{IsOfSection}
use Rattle.guest_ram.proofs.Moves.{goes_within}
use Rattle.monitor.specs.Steps.{IsOfMonitor}
use Rattle.monitor.proofs.Areas.{section_mine}
use Rattle.monitor.proofs.beginning.give_back.Goals as goal

pub returns-clause-goes : goal.returns-clause-goes
returns-clause-goes g c = goes_within 1 IsOfSection IsOfMonitor _ _ section_mine c.release.ensures.goes
