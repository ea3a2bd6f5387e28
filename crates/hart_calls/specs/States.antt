-- Steps on hart states (RISC-V SBI, "Hart State Management Extension"). HSM of a hart says its state: 0 it runs, 1 it is stopped, 2 it was
-- started and has not begun, 3 a start of it is being made.
use Rattle.std.specs.Prelude.{◌≡◌, ℕ, zero, suc, ◌<◌, true}
use Rattle.step_laws.specs.declared.steps.WordOp.TheVariants.{Load, Store, Add, Exchange}
use Rattle.step_laws.specs.Map.{Hsm, Start, Opaque, Live}
use Rattle.step_laws.specs.Discipline.{minus_one}
use Rattle.machine_model.specs.declared.mode.Mode.{Mode}
use Rattle.machine_model.specs.declared.mode.Mode.TheVariants.{Started, Halted, Pending}
use Rattle.step_laws.specs.Harts.{closed, is_running, opening}
use Rattle.guest_ram.specs.Ports.{Shown, IsActing, Made, layout_of}

-- a hart's state, as its HSM was found
abbrev pub mode_found : ℕ → Mode
mode_found zero = Started
mode_found (suc zero) = Halted
mode_found _ = Pending

-- a hart was found stopped and taken; where it is to begin and what it is given were stored, LIVE was raised, and then it may begin
pub record HasStarted (target at opaque : ℕ) (p q : Shown) : Type 0 where
  pub live : ℕ
  pub taken : Shown
  pub placed : Shown
  pub handed : Shown
  pub counted : Shown
  pub takes : Made p taken (Hsm target) (Exchange 1) 3 1
  pub places : Made taken placed (Start target) Store at 0
  pub hands : Made placed handed (Opaque target) Store opaque 0
  pub counts : Made handed counted Live Add 1 live
  pub lets : Made counted q (Hsm target) Store 2 0

-- a hart was not found stopped, and is as it was
abbrev pub HasFoundState : (target found : ℕ) → Shown → Shown → Type 0
HasFoundState target found p q = Made p q (Hsm target) (Exchange 1) 3 found

-- the state of a hart was loaded
abbrev pub HasLoadedState : (target found : ℕ) → Shown → Shown → Type 0
HasLoadedState target found p q = Made p q (Hsm target) Load 0 found

-- the own hart stopped, and then took itself from LIVE, which was so many
pub record HasStopped (left : ℕ) (p q : Shown) : Type 0 where
  pub stopped : Shown
  pub stops : Made p stopped (Hsm p.own.actor) Store 1 0
  pub takes : Made stopped q Live Add minus_one left

-- a hart that runs and makes no start
pub record IsRunner (p : Shown) : Type 0 where
  pub acting : IsActing p
  pub hart : p.own.actor < (layout_of p).harts
  pub runs : is_running p.own.actor p.own.runs p.own.steps ≡ true
  pub free : opening p.own.steps ≡ closed
