-- The items of an order: what its lines give turns to.
use Rattle.std.specs.Prelude.{ℕ, ◌+◌, ◌-◌, ◌*◌, Bool, ◌&&◌, nat_le, if◌then◌else◌, List, [], ◌∷◌, ◌++◌, length, Option, Some, None, Result, Ok, Err, codes, bytes_eq}
use Rattle.text_lines.specs.Lines.{lines_of, words_of, says_nothing}
use Rattle.text_lines.specs.Number.{number_within}
use Rattle.tlbvm.specs.declared.items.Item.{Item}
use Rattle.tlbvm.specs.declared.items.Item.TheVariants.{Hart, Monitor, Rounds}

-- how many turns an item gives; a round gives one to each hart and then one to the monitor
abbrev pub turns_in : (harts : ℕ) → Item → ℕ
turns_in harts (Hart hart turns) = turns
turns_in harts (Monitor turns) = turns
turns_in harts (Rounds count) = count * (harts + 1)

-- a count that is not 0
abbrev pub from_one : Option ℕ → Option ℕ
from_one None = None
from_one (Some n) = if nat_le 1 n then Some n else None

-- from 1 to 1,000,000,000
abbrev pub count_of : List ℕ → Option ℕ
count_of word = from_one (number_within word 1000000000)

abbrev pub turn_of : (hart count : Option ℕ) → Option Item
turn_of (Some hart) (Some count) = Some (Hart hart count)
turn_of _ _ = None

-- `mon N` or `rounds N`
abbrev pub counted_of : (command : List ℕ) → (count : Option ℕ) → Option Item
counted_of command None = None
counted_of command (Some count) =
    if bytes_eq command (codes "mon") then Some (Monitor count) else
    if bytes_eq command (codes "rounds") then Some (Rounds count) else None

-- The item that a line's words are: `turn H N`, where there is a hart H, `mon N` or `rounds N`.
abbrev pub item_of : (harts : ℕ) → List (List ℕ) → Option Item
item_of harts (command ∷ count ∷ []) = counted_of command (count_of count)
item_of harts (command ∷ hart ∷ count ∷ []) =
    if bytes_eq command (codes "turn") then turn_of (number_within hart (harts - 1)) (count_of count) else None
item_of harts _ = None

-- at most 1,000,000 items, and 1,000,000,000 turns
abbrev pub is_within : (items turns : ℕ) → Bool
is_within items turns = nat_le items 1000000 && nat_le turns 1000000000

-- The items of the lines from that number on, after items with so many turns; or the number of the first bad line.
abbrev pub items_from : (harts : ℕ) → List (List ℕ) → (line : ℕ) → List Item → (turns : ℕ) → Result (List Item) ℕ
items_from harts [] line items turns = Ok items
items_from harts (text ∷ texts) line items turns =
    if says_nothing (words_of text) then items_from harts texts (line + 1) items turns else
    elim (item_of harts (words_of text)) [
      | None ↦ Err line
      | Some item ↦ if is_within (length items + 1) (turns + turns_in harts item)
          then items_from harts texts (line + 1) (items ++ item ∷ []) (turns + turns_in harts item)
          else Err line
    ]

-- The items of a text, or the number of its first bad line, from 1.
abbrev pub order_of : List ℕ → (harts : ℕ) → Result (List Item) ℕ
order_of text harts = items_from harts (lines_of text) 1 [] 0
