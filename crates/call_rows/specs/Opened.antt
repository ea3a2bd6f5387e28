-- What the loader leaves the harts as.
use Rattle.std.specs.Prelude.{◌≡◌, ◌≤◌, ◌<◌, ℕ, false, List}
use Rattle.step_laws.specs.declared.words.Layout.{Layout}
use Rattle.step_laws.specs.declared.steps.Step.{Step}
use Rattle.step_laws.specs.Joined.{runs_after}

-- by these steps of the loader each hart but hart 0 is stopped
abbrev pub AreOthersStopped : Layout → List Step → Type 0
AreOthersStopped layout booted = (hart : ℕ) → 1 ≤ hart → hart < layout.harts → runs_after layout booted hart ≡ false
