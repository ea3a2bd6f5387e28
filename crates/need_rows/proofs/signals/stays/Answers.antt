use Rattle.need_rows.proofs.Settled.{halted_still}
use Rattle.need_rows.proofs.signals.stays.Goals as goal

pub returns-in-Ok-None-clause-halted : goal.returns-in-Ok-None-clause-halted
returns-in-Ok-None-clause-halted g c _ = halted_still _ _ _ _ _ c.in-Ok-None.field-0-is c.in-Ok-None.ensures.none c.take_start.ensures.beside c.requires.halted
