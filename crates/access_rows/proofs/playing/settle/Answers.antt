use Rattle.std.proofs.Common.{inl, inr}
use Rattle.guest_ram.specs.Areas.{IsOfSection}
use Rattle.guest_ram.proofs.Moves.{goes_then}
use Rattle.access_rows.proofs.Settled.{ready_entered}
use Rattle.access_rows.proofs.playing.settle.Goals as goal

pub returns-in-Ok-clause-ready : goal.returns-in-Ok-clause-ready
returns-in-Ok-clause-ready g c _ = ready_entered _ _ 3 _ _ c.requires.beside c.requires.fresh.no_step c.requires.large c.enter.ensures.goes c.enter.ensures.acting (inl c.in-Ok.ensures.inside)

pub returns-in-Ok-all_out-clause-ready : goal.returns-in-Ok-all_out-clause-ready
returns-in-Ok-all_out-clause-ready g c _ = ready_entered _ _ 10 _ _ c.requires.beside c.requires.fresh.no_step c.requires.large (goes_then 1 9 IsOfSection _ _ _ c.claim.ensures.goes c.all_out.ensures.goes) c.all_out.ensures.acting (inr c.in-Ok-all_out.ensures.section)
