use Rattle.std.proofs.Common.{ap, ◌∙◌}
use Rattle.step_laws.specs.declared.map.TlbField.TheVariants.{Page}
use Rattle.step_laws.specs.Marks.{is_page}
use Rattle.guest_ram.specs.Areas.{AnyWord, IsOfRam}
use Rattle.guest_ram.proofs.AreaLemmas.{any_word}
use Rattle.guest_ram.proofs.Moves.{goes_step, goes_then, goes_within}
use Rattle.guest_ram_cases.proofs.Marks.{may_clear_slot, clear_holds, clear_paid}
use Rattle.guest_ram_cases.proofs.marking.dirty_slot.Goals as goal

pub fetch_and-requires-clause-may : goal.fetch_and-requires-clause-may
fetch_and-requires-clause-may g c = let q = g.P.Look.shows c.mark.new.port in may_clear_slot q _ c.args.slot c.args.page _ c.tlb_word-write.ensures.name c.actor.ensures c.mark.ensures.acting (c.mark.ensures.holds c.requires.held)
    (ap (is_page c.args.page) (c.mark.ensures.table c.args.slot Page) ∙ c.requires.kept) c.mark.ensures.known

pub returns-clause-held : goal.returns-clause-held
returns-clause-held g c = clear_holds _ _ _ c.args.slot _ _ _ c.fetch_and.ensures.step c.tlb_word-write.ensures.name (c.mark.ensures.holds c.requires.held)

pub returns-clause-paid : goal.returns-clause-paid
returns-clause-paid g c = clear_paid _ _ _ c.args.slot _ _ _ c.fetch_and.ensures.step c.tlb_word-write.ensures.name (c.mark.ensures.pays c.requires.paid)

pub returns-clause-goes : goal.returns-clause-goes
returns-clause-goes g c = goes_then 1 1 AnyWord _ _ _ (goes_within 1 IsOfRam AnyWord _ _ (any_word IsOfRam) c.mark.ensures.goes) (goes_step AnyWord _ _ _ _ _ _ _ c.fetch_and.ensures.step c.fetch_and.ensures.allowed c.tlb_word-write.ensures.name tt)
