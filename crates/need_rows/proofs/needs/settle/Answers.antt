use Rattle.std.proofs.Common.{inl}
use Rattle.need_rows.proofs.Settled.{ready_entered}
use Rattle.need_rows.proofs.needs.settle.Goals as goal

pub returns-in-Ok-clause-ready : goal.returns-in-Ok-clause-ready
returns-in-Ok-clause-ready g c _ = ready_entered _ _ _ _ c.requires.beside c.requires.fresh.no_step c.requires.runs c.requires.large c.enter.ensures.goes c.enter.ensures.acting (inl c.in-Ok.ensures.inside)
