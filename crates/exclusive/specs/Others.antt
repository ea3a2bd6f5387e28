-- The other actors of a machine in order: its harts by their numbers, then the monitor.
use Rattle.std.specs.Prelude.{◌≡◌, ℕ, zero, suc, ◌==◌, ◌&&◌, ◌||◌, not, nat_lt, Bool, List, [], ◌∷◌, ◌++◌, if◌then◌else◌}
use Rattle.step_laws.specs.declared.words.Layout.{Layout}
use Rattle.step_laws.specs.declared.steps.Step.{Step}
use Rattle.step_laws.specs.declared.steps.WordOp.{WordOp}
use Rattle.step_laws.specs.Map.{Word, monitor, number_of}
use Rattle.guest_ram.specs.Plays.{step_of}
use Rattle.guest_ram.specs.Ports.{Shown}
use Rattle.guest_ram.specs.Rule.{record_of}

-- a hart of the machine, or the monitor, but for the actor itself
abbrev pub is_other : Layout → (own number : ℕ) → Bool
is_other layout a n = not (n == a) && (nat_lt n layout.harts || (n == monitor))

-- the others below a number, the highest first
unfoldable pub others_below : Layout → (own number : ℕ) → List ℕ
others_below layout a zero = []
others_below layout a (suc n) = if is_other layout a n then n ∷ others_below layout a n else others_below layout a n

-- one operation on a word of each, with this argument, each of which answers 0
abbrev pub steps_on : (own : ℕ) → (ℕ → Word) → WordOp → (arg : ℕ) → List ℕ → List Step
steps_on a word op arg [] = []
steps_on a word op arg (b ∷ bs) = step_of a (number_of (word b)) op arg 0 ∷ steps_on a word op arg bs

-- these steps were made on the words of these actors, the last in the list first, and nothing else
abbrev pub HasMadeAll : (ℕ → Word) → WordOp → (arg : ℕ) → List ℕ → Shown → Shown → Type 0
HasMadeAll word op arg bs p q = q ≡ record p { own = record_of p.own.actor p.own.runs (steps_on p.own.actor word op arg bs ++ p.own.steps) }
