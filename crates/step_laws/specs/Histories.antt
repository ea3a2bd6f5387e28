-- A list of steps of all actors, newest first, each with its answer, in which each actor keeps to the discipline. A history's tails are
-- histories too, so that what holds at its end holds at each moment of it.
use Rattle.std.specs.Prelude.{◌≡◌, ◌≢◌, ℕ, ◌<◌, ◌==◌, Bool, List, [], ◌∷◌}
use Rattle.step_laws.specs.declared.words.Layout.{Layout}
use Rattle.step_laws.specs.declared.steps.Step.{Step}
use Rattle.step_laws.specs.declared.steps.WordOp.TheVariants.{Store}
use Rattle.step_laws.specs.Layout.{IsInLimits}
use Rattle.step_laws.specs.Map.{loader, Hsm}
use Rattle.step_laws.specs.WordValues.{word_value}
use Rattle.step_laws.specs.Steps.{IsConsistent, own_steps}
use Rattle.step_laws.specs.Loader.{IsBooted}
use Rattle.step_laws.specs.Discipline.{IsDisciplined}

-- the loader's stores stand before every step of another actor
abbrev pub IsLed : List Step → Type 0
IsLed [] = Unit {0}
IsLed (s ∷ h) = (s.actor ≡ loader → s.op ≡ Store → (a : ℕ) → a ≢ loader → own_steps a h ≡ []) × IsLed h

-- the loader has stored all, and a hart runs at the beginning where the loader left its HSM 0
pub record IsBegun (layout : Layout) (runs : ℕ → Bool) (h : List Step) : Type 0 where
  pub booted : IsBooted layout (own_steps loader h)
  pub ran : (a : ℕ) → a < layout.harts → runs a ≡ (word_value (Hsm a) (own_steps loader h) == 0)

pub record IsHistory (layout : Layout) (runs : ℕ → Bool) (h : List Step) : Type 0 where
  pub limits : IsInLimits layout
  pub consistent : IsConsistent layout h
  pub disciplined : (a : ℕ) → IsDisciplined layout a (runs a) (own_steps a h)
  pub led : IsLed h
  -- another actor has a step only once the machine has begun
  pub begun : (a : ℕ) → a ≢ loader → own_steps a h ≢ [] → IsBegun layout runs h
