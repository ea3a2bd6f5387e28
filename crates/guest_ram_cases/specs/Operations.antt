-- The steps of every operation on a word of RAM.
use Rattle.std.specs.Prelude.{◌≡◌, ℕ, ◌<◌, ◌/◌, true}
use Rattle.step_laws.specs.declared.steps.WordOp.{WordOp}
use Rattle.step_laws.specs.declared.steps.WordOp.TheVariants.{Load, Store, Swap, Add, And, Or, Xor, Min, Max, Exchange}
use Rattle.step_laws.specs.Map.{Ram, number_of}
use Rattle.step_laws.specs.Marks.{is_armed}
use Rattle.step_laws.specs.Sections.{phase, inside}
use Rattle.guest_ram.specs.Ports.{Shown, IsActing, after_step}

-- a hart inside, armed for the page of this word of RAM
pub record IsWriting (p : Shown) (i : ℕ) : Type 0 where
  pub acting : IsActing p
  pub hart : p.own.actor < p.machine.layout.harts
  pub stands : phase p.own.steps ≡ inside
  pub armed : is_armed p.own.actor (i / 512) p.own.steps ≡ true

abbrev pub ram_after : Shown → (i : ℕ) → WordOp → (arg answer : ℕ) → Shown
ram_after p i op arg answer = after_step p (number_of (Ram i)) op arg answer

abbrev pub HasStoredAll : Shown → (i found : ℕ) → Shown → Type 0
HasStoredAll p i found q = (a b c : ℕ) × (q ≡ ram_after (ram_after (ram_after (ram_after (ram_after p i Store 12 0) i Swap 10 a) i Add 5 b) i (Exchange 15) 6 c) i Load 0 found)

abbrev pub HasCombinedAll : Shown → (i : ℕ) → Shown → Type 0
HasCombinedAll p i q = (a b c d e : ℕ) × (q ≡ ram_after (ram_after (ram_after (ram_after (ram_after p i And 12 a) i Or 3 b) i Xor 15 c) i Min 9 d) i Max 11 e)
