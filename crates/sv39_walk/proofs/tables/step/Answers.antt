use Rattle.std.proofs.Common.{refl, rules, inl, inr, ◌∙◌, ap}
use Rattle.guest_ram.specs.Areas.{IsOfRam}
use Rattle.guest_ram.proofs.AreaLemmas.{ram_inner, inner_aside}
use Rattle.guest_ram.proofs.MaySteps.{may_read_ram}
use Rattle.guest_ram.proofs.Moves.{acting_adds, goes_step, stands_goes}
use Rattle.step_laws.specs.declared.steps.WordOp.TheVariants.{Load}
use Rattle.step_laws.specs.Words.{ram_word}
use Rattle.guest_ram.specs.Ports.{after_step}
use Rattle.sv39_walk.specs.Levels.{reads}
use Rattle.sv39_walk.proofs.tables.step.Goals as goal

pub load-pte-requires-clause-may : goal.load-pte-requires-clause-may
load-pte-requires-clause-may g c = may_read_ram _ _ _ c.ram_word.ensures.name c.requires.acting c.requires.may

pub returns-in-Malformed-clause-step : goal.returns-in-Malformed-clause-step
returns-in-Malformed-clause-step g c = reads c.load-pte.result (search rules) (c.load-pte.ensures.step ∙ ap (λ n. after_step (g.P.Look.shows c.args.port.now) n Load 0 c.load-pte.result) c.ram_word.ensures.number ∙ ap (λ n. after_step (g.P.Look.shows c.args.port.now) (ram_word n) Load 0 c.load-pte.result) c.pte_address-address.ensures) (inl (c.in-Malformed.ensures, refl))

pub returns-in-Malformed-clause-goes : goal.returns-in-Malformed-clause-goes
returns-in-Malformed-clause-goes g c = goes_step IsOfRam _ _ _ _ _ _ _ c.load-pte.ensures.step c.load-pte.ensures.allowed c.ram_word.ensures.name tt

pub returns-in-Malformed-clause-stands : goal.returns-in-Malformed-clause-stands
returns-in-Malformed-clause-stands g c = stands_goes 1 IsOfRam _ _ (λ w x. inner_aside w (ram_inner w x)) (goes_step IsOfRam _ _ _ _ _ _ _ c.load-pte.ensures.step c.load-pte.ensures.allowed c.ram_word.ensures.name tt)

pub returns-in-Malformed-clause-acting : goal.returns-in-Malformed-clause-acting
returns-in-Malformed-clause-acting g c = acting_adds _ _ _ _ _ Load _ c.load-pte.ensures.step c.ram_word.ensures.name (λ _. refl) c.requires.acting

pub returns-in-Pointer-clause-step : goal.returns-in-Pointer-clause-step
returns-in-Pointer-clause-step g c = reads c.load-pte.result (search rules) (c.load-pte.ensures.step ∙ ap (λ n. after_step (g.P.Look.shows c.args.port.now) n Load 0 c.load-pte.result) c.ram_word.ensures.number ∙ ap (λ n. after_step (g.P.Look.shows c.args.port.now) (ram_word n) Load 0 c.load-pte.result) c.pte_address-address.ensures) (c.in-Pointer.ensures)

pub returns-in-Pointer-clause-goes : goal.returns-in-Pointer-clause-goes
returns-in-Pointer-clause-goes g c = goes_step IsOfRam _ _ _ _ _ _ _ c.load-pte.ensures.step c.load-pte.ensures.allowed c.ram_word.ensures.name tt

pub returns-in-Pointer-clause-stands : goal.returns-in-Pointer-clause-stands
returns-in-Pointer-clause-stands g c = stands_goes 1 IsOfRam _ _ (λ w x. inner_aside w (ram_inner w x)) (goes_step IsOfRam _ _ _ _ _ _ _ c.load-pte.ensures.step c.load-pte.ensures.allowed c.ram_word.ensures.name tt)

pub returns-in-Pointer-clause-acting : goal.returns-in-Pointer-clause-acting
returns-in-Pointer-clause-acting g c = acting_adds _ _ _ _ _ Load _ c.load-pte.ensures.step c.ram_word.ensures.name (λ _. refl) c.requires.acting

pub returns-in-Leaf-clause-step : goal.returns-in-Leaf-clause-step
returns-in-Leaf-clause-step g c = reads c.load-pte.result (search rules) (c.load-pte.ensures.step ∙ ap (λ n. after_step (g.P.Look.shows c.args.port.now) n Load 0 c.load-pte.result) c.ram_word.ensures.number ∙ ap (λ n. after_step (g.P.Look.shows c.args.port.now) (ram_word n) Load 0 c.load-pte.result) c.pte_address-address.ensures) (inr (c.in-Leaf.ensures.0, c.in-Leaf.ensures.1, search rules))

pub returns-in-Leaf-clause-goes : goal.returns-in-Leaf-clause-goes
returns-in-Leaf-clause-goes g c = goes_step IsOfRam _ _ _ _ _ _ _ c.load-pte.ensures.step c.load-pte.ensures.allowed c.ram_word.ensures.name tt

pub returns-in-Leaf-clause-stands : goal.returns-in-Leaf-clause-stands
returns-in-Leaf-clause-stands g c = stands_goes 1 IsOfRam _ _ (λ w x. inner_aside w (ram_inner w x)) (goes_step IsOfRam _ _ _ _ _ _ _ c.load-pte.ensures.step c.load-pte.ensures.allowed c.ram_word.ensures.name tt)

pub returns-in-Leaf-clause-acting : goal.returns-in-Leaf-clause-acting
returns-in-Leaf-clause-acting g c = acting_adds _ _ _ _ _ Load _ c.load-pte.ensures.step c.ram_word.ensures.name (λ _. refl) c.requires.acting
