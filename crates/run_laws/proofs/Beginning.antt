-- What the loader's stores leave.
use Rattle.std.specs.Prelude.{◌≡◌, ◌≢◌, ◌<◌, ◌^◌, ◌==◌, ℕ, List, [], ◌++◌}
use Rattle.step_laws.specs.declared.steps.Step.{Step}
use Rattle.step_laws.specs.Layout.{IsInLimits}
use Rattle.step_laws.specs.WordValues.{word_value}
use Rattle.step_laws.specs.Loader.{IsBooted}
use Rattle.step_laws.specs.Map.{Cons, Stop, Hsm, name_of, number_of}
use Rattle.step_laws.specs.Words.{loader}
use Rattle.step_laws.specs.Steps.{own_steps, value_at}
use Rattle.machine_model.specs.State.{Setup, initial, mode_of}
use Rattle.run_laws.proofs.Placed.{Placed, steps}
use Rattle.turn_pieces.specs.Shared.{IsShared, mode_named}
use Rattle.run_laws.proofs.Fits.{runs_first}

-- the loader's stores leave the image in the words that are memory, and the harts' states as the machine begins
pub record IsBegun (u : Setup) (boot : List Step) : Type 0 where
  pub limits : IsInLimits u.layout
  pub alone : (a : ℕ) → a ≢ loader → own_steps a boot ≡ []
  pub image : (x : ℕ) → IsShared (name_of x) → value_at x boot ≡ u.image x
  pub small : (x : ℕ) → u.image x < 2 ^ 64
  pub output : value_at (number_of Cons) boot ≡ 0
  pub reason : value_at (number_of Stop) boot ≡ 0
  pub booted : IsBooted u.layout (own_steps loader boot)
  pub left : (h : ℕ) → h < u.layout.harts → (word_value (Hsm h) (own_steps loader boot) == 0) ≡ runs_first h
  pub none_pending : (h : ℕ) → h < u.layout.harts → value_at (number_of (Hsm h)) boot ≢ 2
  pub modes : (h : ℕ) → h < u.layout.harts → mode_named (value_at (number_of (Hsm h)) boot) ≡ mode_of (initial u) h

-- the history behind a placed list
abbrev pub history : List Step → List Placed → List Step
history boot ts = steps ts ++ boot
