use Rattle.guest_ram.specs.Areas.{IsOfCalls}
use Rattle.guest_ram.proofs.Moves.{goes_step}
use Rattle.guest_devices.proofs.Cleared.{cleared}
use Rattle.guest_devices.proofs.pending.ipi.Goals as goal

pub returns-in-Read-clause-goes : goal.returns-in-Read-clause-goes
returns-in-Read-clause-goes g c = goes_step IsOfCalls _ _ _ _ _ _ _ c.load.ensures.step c.load.ensures.allowed c.ipi_word-word.ensures.name tt

pub returns-in-Set-clause-goes : goal.returns-in-Set-clause-goes
returns-in-Set-clause-goes g c = goes_step IsOfCalls _ _ _ _ _ _ _ c.fetch_or.ensures.step c.fetch_or.ensures.allowed c.ipi_word-word.ensures.name tt

pub returns-in-Clear-clause-leaves : goal.returns-in-Clear-clause-leaves
returns-in-Clear-clause-leaves g c = cleared c.args.op c.args.mask c.fetch_and.result c.in-Clear.is c.ranges.mask.fits c.fetch_and.type_inv

pub returns-in-Clear-clause-goes : goal.returns-in-Clear-clause-goes
returns-in-Clear-clause-goes g c = goes_step IsOfCalls _ _ _ _ _ _ _ c.fetch_and.ensures.step c.fetch_and.ensures.allowed c.ipi_word-word.ensures.name tt
