-- Steps on RAM by physical address.
use Rattle.std.specs.Prelude.{◌≡◌, ℕ, ◌+◌, ◌-◌, ◌*◌, ◌/◌, ◌^◌, ◌<◌, ◌≤◌, Option, Some, None}
use Rattle.rv64_exec.specs.declared.needs.AmoOp.{AmoOp}
use Rattle.step_laws.specs.declared.steps.WordOp.{WordOp}
use Rattle.step_laws.specs.declared.steps.WordOp.TheVariants.{Swap, Add, And, Or, Xor, Min, Max}
use Rattle.step_laws.specs.Map.{Ram, name_of}
use Rattle.step_laws.specs.Words.{ram_word}
use Rattle.step_laws.specs.Sections.{MayTouch}
use Rattle.guest_ram.specs.Ports.{Shown, Adds, May, IsActing, layout_of}
use Rattle.tlb_fill.specs.Stepping.{IsArmedAt}

-- the machine's RAM has this physical address
pub record IsIn (pa : ℕ) (p : Shown) : Type 0 where
  pub above : 2 ^ 31 ≤ pa
  pub below : pa < 2 ^ 31 + 4096 * (layout_of p).pages

-- an actor inside or in its section may load the word there
pub record MayLoadAt (pa : ℕ) (p : Shown) : Type 0 where
  pub acting : IsActing p
  pub touch : MayTouch (layout_of p) p.own.actor p.own.steps
  pub there : IsIn pa p

-- and a hart that is armed for its page may write it
pub record MayStoreAt (pa : ℕ) (p : Shown) : Type 0 where
  pub may_load : MayLoadAt pa p
  pub hart : p.own.actor < (layout_of p).harts
  pub armed : IsArmedAt pa p

-- a permitted step on the word of RAM that has this physical address
pub record HasStepped (op : WordOp) (pa arg answer : ℕ) (p q : Shown) : Type 0 where
  pub step : Adds p q (ram_word pa) op arg answer
  pub name : name_of (ram_word pa) ≡ Ram ((pa - 2 ^ 31) / 8)
  pub may : May p (ram_word pa) op arg
  pub small : answer < 2 ^ 64

-- the operation on a word of 8 bytes that does an AMO by itself
abbrev pub whole_op : AmoOp → Option WordOp
whole_op AmoOp.Swap = Some Swap
whole_op AmoOp.Add = Some Add
whole_op AmoOp.Xor = Some Xor
whole_op AmoOp.And = Some And
whole_op AmoOp.Or = Some Or
whole_op AmoOp.MinU = Some Min
whole_op AmoOp.MaxU = Some Max
whole_op AmoOp.Min = None
whole_op AmoOp.Max = None

-- it was done so, or there is none and nothing was done
abbrev pub HasOperated : AmoOp → (pa value : ℕ) → Option ℕ → Shown → Shown → Type 0
HasOperated op pa value (Some old) p q = (by : WordOp) × (whole_op op ≡ Some by) × HasStepped by pa value old p q
HasOperated op pa value None p q = (whole_op op ≡ None) × (q ≡ p)
