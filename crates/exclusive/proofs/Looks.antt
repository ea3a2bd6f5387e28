-- How far a pass over the others' RUN has come when it is the turn of a number.
use Rattle.std.specs.Prelude.{◌≡◌, ℕ, ◌⊎◌, true}
use Rattle.step_laws.specs.declared.words.Layout.{Layout}
use Rattle.step_laws.specs.declared.steps.WordOp.TheVariants.{Load}
use Rattle.step_laws.specs.Map.{Run, actors}
use Rattle.step_laws.specs.Sections.{other_from, is_claimant, pass, phase}
use Rattle.guest_ram.specs.Areas.{IsOfSection}
use Rattle.guest_ram.specs.Ports.{Shown, IsActing, GoesBy, layout_of}
use Rattle.exclusive.specs.Others.{HasMadeAll, others_below}

-- the pass has just begun, or has come here, or is whole
abbrev pub IsPassing : Layout → (a i pass : ℕ) → Type 0
IsPassing layout a i p = (other_from layout a i ≡ other_from layout a 0) ⊎ (p ≡ other_from layout a i) ⊎ (p ≡ actors)

-- a claimant whose pass, begun where the first is shown, has come to this number
pub record IsLooking (o p : Shown) (own harts hart : ℕ) : Type 0 where
  pub found : HasMadeAll Run Load 0 (others_below (layout_of o) o.own.actor hart) o p
  pub goes : GoesBy hart IsOfSection o p
  pub phase : phase p.own.steps ≡ phase o.own.steps
  pub acting : IsActing p
  pub own_is : own ≡ p.own.actor
  pub harts_are : harts ≡ p.machine.layout.harts
  pub claimed : is_claimant p.own.steps ≡ true
  pub passing : IsPassing p.machine.layout p.own.actor hart (pass p.machine.layout p.own.actor p.own.steps)
