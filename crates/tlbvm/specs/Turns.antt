-- The turns that an order gives, the last one first: each is named by its actor, which is a hart or the monitor.
use Rattle.std.specs.Prelude.{ℕ, zero, suc, ◌<◌, Bool, not, ◌==◌, List, [], ◌∷◌, ◌++◌, length, replicate, filter, slice_index_or}
use Rattle.step_laws.specs.Map.{monitor}
use Rattle.tlbvm.specs.declared.items.Item.{Item}
use Rattle.tlbvm.specs.declared.items.Item.TheVariants.{Hart, Monitor, Rounds}

-- a turn of each hart, in order
abbrev pub harts_once : (harts : ℕ) → List ℕ
harts_once zero = []
harts_once (suc n) = n ∷ harts_once n

-- a turn of each hart, and then one of the monitor
abbrev pub round : (harts : ℕ) → List ℕ
round harts = monitor ∷ harts_once harts

abbrev pub rounds : (harts count : ℕ) → List ℕ
rounds harts zero = []
rounds harts (suc n) = round harts ++ rounds harts n

abbrev pub item_turns : (harts : ℕ) → Item → List ℕ
item_turns harts (Hart hart turns) = replicate turns hart
item_turns harts (Monitor turns) = replicate turns monitor
item_turns harts (Rounds count) = rounds harts count

abbrev pub turns_of : (harts : ℕ) → List Item → List ℕ
turns_of harts [] = []
turns_of harts (item ∷ items) = turns_of harts items ++ item_turns harts item

-- Those of the harts. There is no monitor on a `plain` line: its turns do nothing.
abbrev pub is_hart : ℕ → Bool
is_hart actor = not (actor == monitor)

abbrev pub hart_turns : List ℕ → List ℕ
hart_turns turns = filter is_hart turns

-- the harts that an order names are there
abbrev pub IsItemThere : (harts : ℕ) → Item → Type 0
IsItemThere harts (Hart hart turns) = hart < harts
IsItemThere harts _ = Unit {0}

abbrev pub AreThere : (harts : ℕ) → List Item → Type 0
AreThere harts items = (i : ℕ) → i < length items → IsItemThere harts (slice_index_or items i (Monitor 1))
