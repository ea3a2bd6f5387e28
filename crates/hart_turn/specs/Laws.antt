-- Where a hart's life begins.
use Rattle.std.specs.Prelude.{◌≡◌, ◌<◌, ◌==◌, ℕ, []}
use Rattle.step_laws.specs.Layout.{IsInLimits}
use Rattle.machine_model.specs.State.{Setup}
use Rattle.guest_ram.specs.Ports.{Shown, layout_of}
use Rattle.hart_turn.specs.Harts.{IsSettled, first_hart}
use Rattle.hart_turn.specs.Turning.{IsBetween}

-- the port of a hart that has made no step: hart 0 runs from the beginning
pub record IsNew (number : ℕ) (p : Shown) : Type 0 where
  pub limits : IsInLimits (layout_of p)
  pub number_is : p.own.actor ≡ number
  pub there : number < (layout_of p).harts
  pub runs : p.own.runs ≡ (number == 0)
  pub none : p.own.steps ≡ []

-- a hart as it is made is between turns there
abbrev pub NewHartsAreSettled : Type 0
NewHartsAreSettled = (number start limit : ℕ) (p : Shown) → IsNew number p → 0 < limit → IsSettled (first_hart number start limit) p

-- and so is the empty log of a machine that begins so
abbrev pub NewHartsAreBetween : Type 0
NewHartsAreBetween = (number limit : ℕ) (p : Shown) (u : Setup) → IsNew number p → u.layout ≡ layout_of p → u.limit ≡ limit → IsBetween (first_hart number u.start limit) p u number []
