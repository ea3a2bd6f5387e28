-- Snapshots, as the monitor's log tells them: one begins at the first swap of a dirty word, ends at the last reply to its drains, and has
-- the pages that its swaps took.
use Rattle.std.specs.Prelude.{◌≡◌, ℕ, zero, suc, Bool, true, false, if◌then◌else◌, List, [], ◌∷◌, ◌++◌}
use Rattle.step_laws.specs.declared.words.Layout.{Layout}
use Rattle.step_laws.specs.declared.steps.Step.{Step}
use Rattle.step_laws.specs.declared.steps.WordOp.TheVariants.{Load, Swap}
use Rattle.step_laws.specs.Words.{monitor}
use Rattle.step_laws.specs.Map.{Dirty, Place, name_of}
use Rattle.step_laws.specs.Marks.{Stage, swapping, stage, is_taken}

-- the first swap
abbrev pub TakesFirst : Step → Type 0
TakesFirst s = (name_of s.word ≡ Dirty 0) × (s.op ≡ Swap)

-- a place of the monitor's that was found free again
abbrev pub IsReply : Step → Type 0
IsReply s = (target : ℕ) × (place : ℕ) × (name_of s.word ≡ Place target monitor place) × (s.op ≡ Load) × (s.answer ≡ 0)

abbrev pub is_begun : Stage → Bool
is_begun (swapping zero) = false
is_begun _ = true

-- a snapshot has begun and isn't finished
abbrev pub is_going : Layout → List Step → Bool
is_going layout r = is_begun (stage layout r)

-- the pages below a number that the swaps took, in order
abbrev pub pages_taken : (count : ℕ) → List Step → List ℕ
pages_taken zero r = []
pages_taken (suc page) r = pages_taken page r ++ (if is_taken page r then page ∷ [] else [])
