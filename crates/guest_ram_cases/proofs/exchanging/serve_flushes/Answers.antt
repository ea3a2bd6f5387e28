use Rattle.guest_ram.specs.Areas.{IsOfService}
use Rattle.guest_ram.proofs.Moves.{goes_then}
use Rattle.guest_ram_cases.proofs.exchanging.serve_flushes.Goals as goal

pub returns-in_default-serve_flush-clause-goes : goal.returns-in_default-serve_flush-clause-goes
returns-in_default-serve_flush-clause-goes g c = goes_then 4 4 IsOfService _ _ _ c.serve_flush.ensures.goes c.serve_flush-2.ensures.goes

pub returns-clause-goes : goal.returns-clause-goes
returns-clause-goes g c = goes_then 4 4 IsOfService _ _ _ c.serve_flush.ensures.goes c.serve_flush-2.ensures.goes
