-- Who draws a place stands as before.
use Rattle.std.proofs.Common.{◌≡◌, ℕ}
use Rattle.step_laws.specs.declared.steps.WordOp.TheVariants.{Add}
use Rattle.step_laws.specs.Map.{Cons, name_of}
use Rattle.step_laws.specs.Sections.{MayTouch}
use Rattle.guest_ram.specs.Areas.{IsOfOutput}
use Rattle.guest_ram.specs.Ports.{Shown, Adds, May, GoesBy}
use Rattle.guest_ram.proofs.AreaLemmas.{inner_aside, output_inner}
use Rattle.guest_ram.proofs.Moves.{goes_step, stands_goes, touch_stands}

-- one draw
pub draw_goes : (p q : Shown) (word arg answer : ℕ) → Adds p q word Add arg answer → May p word Add arg → name_of word ≡ Cons → GoesBy 1 IsOfOutput p q
draw_goes p q word arg answer made may e = goes_step IsOfOutput p q word arg answer Add Cons made may e tt

-- behind it the actor may still touch what it might
pub draw_touches : (p q : Shown) (word arg answer : ℕ) → Adds p q word Add arg answer → May p word Add arg → name_of word ≡ Cons
    → MayTouch p.machine.layout p.own.actor p.own.steps → MayTouch q.machine.layout q.own.actor q.own.steps
draw_touches p q word arg answer made may e at = let goes = draw_goes p q word arg answer made may e in
    touch_stands 1 IsOfOutput p q goes (stands_goes 1 IsOfOutput p q (λ w t. inner_aside w (output_inner w t)) goes) at
