-- Where the history of harts and monitor begins: behind the loader's stores.
use Rattle.std.specs.Prelude.{◌≡◌, ◌≢◌, ◌<◌, ◌^◌, ℕ, Bool, List, []}
use Rattle.step_laws.specs.declared.steps.Step.{Step}
use Rattle.step_laws.specs.Words.{loader}
use Rattle.step_laws.specs.Map.{name_of}
use Rattle.step_laws.specs.Histories.{IsBegun}
use Rattle.step_laws.specs.Steps.{own_steps, value_at}
use Rattle.machine_model.specs.State.{Setup}
use Rattle.turn_pieces.specs.Shared.{IsShared}

-- the loader's record of all its stores: the machine has begun behind it, and RAM and IPI are the image
pub record IsLoaded (u : Setup) (runs : ℕ → Bool) (boot : List Step) : Type 0 where
  pub alone : (a : ℕ) → a ≢ loader → own_steps a boot ≡ []
  pub begun : IsBegun u.layout runs boot
  pub image : (x : ℕ) → IsShared (name_of x) → value_at x boot ≡ u.image x
  pub small : (x : ℕ) → u.image x < 2 ^ 64
