use Rattle.guest_ram.specs.Areas.{AnyWord, IsOfRam, IsOfSection}
use Rattle.guest_ram.proofs.AreaLemmas.{any_word}
use Rattle.guest_ram.proofs.Moves.{goes_then, goes_within}
use Rattle.access_rows.proofs.Beside.{rival_armed}
use Rattle.access_rows.proofs.rivals.arm.Goals as goal

pub returns-in-Ok-clause-rival : goal.returns-in-Ok-clause-rival
returns-in-Ok-clause-rival g c _ = rival_armed _ _ _ c.mark.ensures.armed c.mark.ensures.goes c.enter.ensures.goes c.in-Ok.ensures.inside c.enter.ensures.acting c.requires.one c.requires.harts

pub returns-in-Ok-clause-goes : goal.returns-in-Ok-clause-goes
returns-in-Ok-clause-goes g c = goes_then 1 3 AnyWord _ _ _ (goes_within 1 IsOfRam AnyWord _ _ (any_word IsOfRam) c.mark.ensures.goes) (goes_within 3 IsOfSection AnyWord _ _ (any_word IsOfSection) c.enter.ensures.goes)

pub returns-in-Err-clause-goes : goal.returns-in-Err-clause-goes
returns-in-Err-clause-goes g c = goes_then 1 3 AnyWord _ _ _ (goes_within 1 IsOfRam AnyWord _ _ (any_word IsOfRam) c.mark.ensures.goes) (goes_within 3 IsOfSection AnyWord _ _ (any_word IsOfSection) c.enter.ensures.goes)
