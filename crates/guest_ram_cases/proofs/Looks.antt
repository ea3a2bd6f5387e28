-- How far a pass over the others' RUN has come when it is the turn of a number.
use Rattle.std.specs.Prelude.{◌≡◌, ℕ, ◌⊎◌, true}
use Rattle.step_laws.specs.declared.words.Layout.{Layout}
use Rattle.step_laws.specs.Map.{actors}
use Rattle.step_laws.specs.Sections.{other_from, is_claimant, pass}
use Rattle.guest_ram.specs.Ports.{Shown, IsActing}

-- the pass has just begun, or has come here, or is whole
abbrev pub IsPassing : Layout → (a i pass : ℕ) → Type 0
IsPassing layout a i p = (other_from layout a i ≡ other_from layout a 0) ⊎ (p ≡ other_from layout a i) ⊎ (p ≡ actors)

-- a claimant that has come to this number
pub record IsLooking (p : Shown) (own harts hart : ℕ) : Type 0 where
  pub acting : IsActing p
  pub own_is : own ≡ p.own.actor
  pub harts_are : harts ≡ p.machine.layout.harts
  pub claimed : is_claimant p.own.steps ≡ true
  pub passing : IsPassing p.machine.layout p.own.actor hart (pass p.machine.layout p.own.actor p.own.steps)
