-- The steps on hart states.
use Rattle.std.specs.Prelude.{◌≡◌, ◌<◌, ℕ, Bool, false, ◌-◌, ◌^◌}
use Rattle.step_laws.specs.declared.steps.WordOp.TheVariants.{Load, Store, Add, Exchange}
use Rattle.step_laws.specs.Map.{Hsm, Live, Opaque, Start, number_of}
use Rattle.step_laws.specs.Harts.{Opening, closed, is_owing, is_running, opening}
use Rattle.guest_ram.specs.Ports.{Shown, IsActing, after_step}

-- the hart was found stopped, and given where to start and what; LIVE was raised before it may go
abbrev pub HasStarted : Shown → (target at opaque : ℕ) → Shown → Type 0
HasStarted p t at opaque q = (live : ℕ) × (q ≡ after_step (after_step (after_step (after_step (after_step p (number_of (Hsm t)) (Exchange 1) 3 1) (number_of (Start t)) Store at 0)
    (number_of (Opaque t)) Store opaque 0) (number_of Live) Add 1 live) (number_of (Hsm t)) Store 2 0)

-- the hart stopped, and took itself from LIVE, which was so many
abbrev pub HasStopped : Shown → (left : ℕ) → Shown → Type 0
HasStopped p left q = q ≡ after_step (after_step p (number_of (Hsm p.own.actor)) Store 1 0) (number_of Live) Add (2 ^ 64 - 1) left

-- the hart was found called, loaded its START and OPAQUE, and runs
abbrev pub HasBegun : Shown → (at opaque : ℕ) → Shown → Type 0
HasBegun p at opaque q = q ≡ after_step (after_step (after_step (after_step p (number_of (Hsm p.own.actor)) Load 0 2) (number_of (Start p.own.actor)) Load 0 at) (number_of (Opaque p.own.actor)) Load 0 opaque)
    (number_of (Hsm p.own.actor)) Store 0 0

-- HSM of a hart was found as this
abbrev pub state_loaded : Shown → (hart found : ℕ) → Shown
state_loaded p h found = after_step p (number_of (Hsm h)) Load 0 found

-- the hart was not found stopped
abbrev pub HasFoundState : Shown → (target found : ℕ) → Shown → Type 0
HasFoundState p t found q = q ≡ after_step p (number_of (Hsm t)) (Exchange 1) 3 found

-- a hart that runs or doesn't, with a start that it makes, and that owes LIVE its stop or doesn't
pub record IsHart (p : Shown) (runs : Bool) (start : Opening) (owes : Bool) : Type 0 where
  pub acting : IsActing p
  pub hart : p.own.actor < p.machine.layout.harts
  pub running : is_running p.own.actor p.own.runs p.own.steps ≡ runs
  pub start_is : opening p.own.steps ≡ start
  pub owing : is_owing p.own.actor p.own.steps ≡ owes

-- one that makes no start and owes nothing
abbrev pub IsAtRest : Shown → (runs : Bool) → Type 0
IsAtRest p runs = IsHart p runs closed false
