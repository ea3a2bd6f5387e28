use Rattle.std.proofs.Common.{refl, arith}
use Rattle.step_laws.specs.declared.steps.WordOp.TheVariants.{Add}
use Rattle.guest_ram.specs.Areas.{IsOfOutput}
use Rattle.guest_ram.proofs.MaySteps.{may_print}
use Rattle.guest_ram.proofs.Moves.{acting_adds, draws_place, goes_step, goes_then, goes_at_most}
use Rattle.guest_devices.proofs.Touched.{draw_goes, draw_touches}
use Rattle.guest_devices.proofs.output.put_byte.Goals as goal

pub store-requires-clause-may : goal.store-requires-clause-may
store-requires-clause-may g c = let made = c.fetch_add-place.ensures.step in let name = c.cons_word.ensures.name in
    may_print _ _ _ _ c.console_word.ensures.name (acting_adds _ _ _ _ _ Add _ made name (λ _. refl) c.requires.acting)
    (draw_touches _ _ _ _ _ made c.fetch_add-place.ensures.allowed name c.requires.touch) (draws_place _ _ _ _ _ made name) (omega arith, omega arith)

pub returns-then-place-from-clause-goes : goal.returns-then-place-from-clause-goes
returns-then-place-from-clause-goes g c = goes_at_most 1 2 IsOfOutput _ _ (omega arith) (draw_goes _ _ _ _ _ c.fetch_add-place.ensures.step c.fetch_add-place.ensures.allowed c.cons_word.ensures.name)

pub returns-clause-goes : goal.returns-clause-goes
returns-clause-goes g c = goes_then 1 1 IsOfOutput _ _ _ (draw_goes _ _ _ _ _ c.fetch_add-place.ensures.step c.fetch_add-place.ensures.allowed c.cons_word.ensures.name)
    (goes_step IsOfOutput _ _ _ _ _ _ _ c.store.ensures.step c.store.ensures.allowed c.console_word.ensures.name tt)
