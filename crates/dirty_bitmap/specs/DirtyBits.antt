-- The dirty bits of RAM's pages: page n of RAM has bit n % 64 of the dirty word n / 64.
use Rattle.std.specs.Prelude.{ℕ, suc, ◌/◌, ◌%◌, ◌^◌, ◌==◌, Bool, List, slice_index, if◌then◌else◌}
use Rattle.step_laws.specs.declared.words.Layout.{Layout}
use Rattle.step_laws.specs.declared.steps.WordOp.TheVariants.{Or, Swap}
use Rattle.step_laws.specs.Map.{Dirty}
use Rattle.step_laws.specs.Marks.{Stage, swapping, passing, dirty_words, is_set}
use Rattle.guest_ram.specs.Ports.{Shown, Made}

-- the page's bit was set in its dirty word, by one step
abbrev pub HasMarked : Shown → Shown → (page : ℕ) → Type 0
HasMarked p q page = (answer : ℕ) × Made p q (Dirty (page / 64)) Or (2 ^ (page % 64)) answer

-- the dirty word was found so and is 0 from then on, by one step
abbrev pub HasTaken : Shown → Shown → (index found : ℕ) → Type 0
HasTaken p q index found = Made p q (Dirty index) Swap 0 found

-- where the monitor stands with its snapshot once it has taken this word: at the next one, or behind the last one at the first hart
abbrev pub stage_after_take : Layout → (index : ℕ) → Stage
stage_after_take layout index = if suc index == dirty_words layout then passing 0 else swapping (suc index)

-- the page's bit is set in its word
abbrev pub is_marked : (words : List ℕ) (page : ℕ) → Bool
is_marked words page = is_set (slice_index words (page / 64)) page
