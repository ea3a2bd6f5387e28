-- The steps of claims, and of calls out.
use Rattle.std.specs.Prelude.{◌≡◌, ◌≢◌, ℕ, ◌+◌}
use Rattle.step_laws.specs.declared.steps.WordOp.TheVariants.{Load, Store, Exchange}
use Rattle.step_laws.specs.Map.{Pend, Kick, number_of}
use Rattle.guest_ram.specs.Ports.{Shown, after_step}

-- PEND was exchanged from 0 for the actor's number and 1
abbrev pub HasClaimed : Shown → Shown → Type 0
HasClaimed p q = q ≡ after_step p (number_of Pend) (Exchange 0) (p.own.actor + 1) 0

-- another's claim was found in the way
abbrev pub HasFoundClaim : Shown → (found : ℕ) → Shown → Type 0
HasFoundClaim p found q = (found ≢ 0) × (q ≡ after_step p (number_of Pend) (Exchange 0) (p.own.actor + 1) found)

abbrev pub HasReleased : Shown → Shown → Type 0
HasReleased p q = q ≡ after_step p (number_of Pend) Store 0 0

-- the other hart was called out
abbrev pub HasKicked : Shown → (other : ℕ) → Shown → Type 0
HasKicked p other q = q ≡ after_step p (number_of (Kick other)) Store 1 0

-- the own KICK was found so
abbrev pub kick_loaded : Shown → (found : ℕ) → Shown
kick_loaded p found = after_step p (number_of (Kick p.own.actor)) Load 0 found

-- and cleared
abbrev pub HasAnswered : Shown → Shown → Type 0
HasAnswered p q = (found : ℕ) × (found ≢ 0) × (q ≡ after_step (kick_loaded p found) (number_of (Kick p.own.actor)) Store 0 0)
