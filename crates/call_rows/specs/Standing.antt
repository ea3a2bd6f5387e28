-- Harts that rows are of.
use Rattle.std.specs.Prelude.{◌≡◌, ◌⊎◌, ℕ, Bool}
use Rattle.step_laws.specs.Sections.{IsOut}
use Rattle.guest_ram.specs.Ports.{Shown}
use Rattle.guest_ram_cases.specs.States.{IsAtRest}

-- a hart that is outside, and makes no start
pub record IsStanding (runs : Bool) (p : Shown) : Type 0 where
  pub rest : IsAtRest p runs
  pub out : IsOut p.own.steps

-- this hart is one of these two
abbrev pub IsEither : ℕ → Shown → Shown → Type 0
IsEither hart p q = (hart ≡ p.own.actor) ⊎ (hart ≡ q.own.actor)
