use Rattle.std.proofs.Common.{◌∙◌, ap}
use Rattle.step_laws.specs.Sections.{phase, is_claimant}
use Rattle.guest_ram.specs.Areas.{IsOfTable}
use Rattle.guest_ram.proofs.AreaLemmas.{inner_aside, table_inner}
use Rattle.guest_ram.proofs.Moves.{stands_goes}
use Rattle.guest_ram_cases.proofs.touring.tour_table.Goals as goal

pub returns-clause-out : goal.returns-clause-out
returns-clause-out g c = let a = stands_goes 1 IsOfTable _ _ (λ w x. inner_aside w (table_inner w x)) c.lock.ensures.goes in
    let b = stands_goes 5 IsOfTable _ _ (λ w x. inner_aside w (table_inner w x)) c.fill.ensures.goes in
    let d = stands_goes 409 IsOfTable _ _ (λ w x. inner_aside w (table_inner w x)) c.double_size.ensures.goes in
    let e = stands_goes 1 IsOfTable _ _ (λ w x. inner_aside w (table_inner w x)) c.unlock.ensures.goes in
    (e.phase ∙ b.phase ∙ d.phase ∙ a.phase ∙ ap phase c.requires.fresh.no_step, e.claim ∙ b.claim ∙ d.claim ∙ a.claim ∙ ap is_claimant c.requires.fresh.no_step)
