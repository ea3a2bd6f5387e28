use Rattle.std.proofs.Common.{◌<◌, ◌∙◌, ap, sym, subst, refl, rules}
use Rattle.step_laws.specs.Sections.{phase, is_claimant}
use Rattle.step_laws.specs.Fields.{pass}
use Rattle.guest_ram.specs.Areas.{IsOfRam, IsOfSection, IsOfTable}
use Rattle.guest_ram.specs.Ports.{Shown}
use Rattle.guest_ram.proofs.AreaLemmas.{section_steady, inner_aside, ram_inner, table_inner}
use Rattle.guest_ram.proofs.Moves.{armed_goes, stands_goes}
use Rattle.guest_ram_cases.proofs.touring.tour_other.Goals as goal

pub store_all-found-requires-clause-writing : goal.store_all-found-requires-clause-writing
store_all-found-requires-clause-writing g c = record {
  acting = c.enter.ensures.acting;
  hart = subst (λ (x : Shown). x.own.actor < x.machine.layout.harts) (sym c.enter.ensures.goes.grown) (subst (λ (x : Shown). x.own.actor < x.machine.layout.harts) (sym c.mark.ensures.goes.grown)
      (subst (λ (x : Shown). x.own.actor < x.machine.layout.harts) (sym c.write_word-write.ensures.goes.grown) (subst (λ (x : Shown). x.own.actor < x.machine.layout.harts) (sym c.first_size-size.ensures.goes.grown) c.requires.hart)));
  stands = search rules;
  armed = armed_goes 3 IsOfSection _ _ 0 section_steady c.enter.ensures.goes c.mark.ensures.armed;
}

pub end_machine-reason-requires-clause-reason : goal.end_machine-reason-requires-clause-reason
end_machine-reason-requires-clause-reason g c = pass refl

pub enter-requires-clause-out : goal.enter-requires-clause-out
enter-requires-clause-out g c = let a = stands_goes 1 IsOfTable _ _ (λ w x. inner_aside w (table_inner w x)) c.first_size-size.ensures.goes in
    let d = stands_goes 1 IsOfTable _ _ (λ w x. inner_aside w (table_inner w x)) c.write_word-write.ensures.goes in
    let b = stands_goes 1 IsOfRam _ _ (λ w x. inner_aside w (ram_inner w x)) c.mark.ensures.goes in
    (b.phase ∙ d.phase ∙ a.phase ∙ ap phase c.requires.fresh.no_step, b.claim ∙ d.claim ∙ a.claim ∙ ap is_claimant c.requires.fresh.no_step)
