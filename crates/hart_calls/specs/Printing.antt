-- Steps that print bytes of RAM (RISC-V SBI, "Debug Console Extension"). Each word of RAM is loaded once, before its first byte that the call
-- prints, and the bytes are put in order.
use Rattle.std.specs.Prelude.{◌≡◌, ℕ, zero, suc, ◌+◌, ◌*◌, ◌%◌, ◌^◌, ◌==◌, ◌||◌, ◌<◌, ◌≤◌, Bool, true, false}
use Rattle.step_laws.specs.declared.steps.WordOp.TheVariants.{Load}
use Rattle.step_laws.specs.Map.{Ram, name_of}
use Rattle.step_laws.specs.Sections.{MayTouch}
use Rattle.step_laws.specs.Words.{ram_word}
use Rattle.machine_model.specs.Memory.{Memory}
use Rattle.machine_model.specs.Sbi.{byte_at}
use Rattle.guest_ram.specs.Ports.{Shown, Adds, IsActing, May, layout_of}
use Rattle.guest_devices.specs.Output.{HasFoundFull, HasPut}

-- the byte with this number is the call's first or its word's first
abbrev pub begins_word : (from i : ℕ) → Bool
begins_word from i = (i == 0) || ((from + i) % 8 == 0)

-- the word of RAM with this byte was loaded
pub record HasLoaded (finds : Memory) (pa : ℕ) (p q : Shown) : Type 0 where
  pub step : Adds p q (ram_word pa) Load 0 (finds (ram_word pa))
  pub may : May p (ram_word pa) Load 0
  pub index : ℕ
  pub name : name_of (ram_word pa) ≡ Ram index

-- where it has not been yet
abbrev pub HasLoadedIf : Bool → Memory → (pa : ℕ) → Shown → Shown → Type 0
HasLoadedIf true finds pa p q = HasLoaded finds pa p q
HasLoadedIf false finds pa p q = q ≡ p

-- the byte with this number was put
pub record HasCopiedByte (finds : Memory) (from i : ℕ) (p q : Shown) : Type 0 where
  pub mid : Shown
  pub loads : HasLoadedIf (begins_word from i) finds (from + i) p mid
  pub puts : HasPut (byte_at finds (from + i)) mid q

-- the first n bytes from this address on were put
abbrev pub HasCopied : Memory → (from n : ℕ) → Shown → Shown → Type 0
HasCopied finds from zero p q = q ≡ p
HasCopied finds from (suc n) p q = (mid : Shown) × HasCopied finds from n p mid × HasCopiedByte finds from n mid q

-- there was no place for the byte with this number
pub record HasRunOutAt (finds : Memory) (from i : ℕ) (p q : Shown) : Type 0 where
  pub mid : Shown
  pub place : ℕ
  pub loads : HasLoadedIf (begins_word from i) finds (from + i) p mid
  pub draws : HasFoundFull place mid q

-- nor, then, for those behind it
pub record HasRunOut (finds : Memory) (from count : ℕ) (p q : Shown) : Type 0 where
  pub put : ℕ
  pub fewer : put < count
  pub mid : Shown
  pub copies : HasCopied finds from put p mid
  pub stops : HasRunOutAt finds from put mid q

-- an actor inside or in its section may print so many bytes of RAM from this address on
pub record MayPrint (from count : ℕ) (p : Shown) : Type 0 where
  pub acting : IsActing p
  pub touch : MayTouch (layout_of p) p.own.actor p.own.steps
  pub above : 2 ^ 31 ≤ from
  pub below : from + count ≤ 2 ^ 31 + 4096 * (layout_of p).pages
