-- The harts that an order names are there.
use Rattle.std.proofs.Common.{◌≡◌, refl, ℕ, zero, suc, ◌<◌, ◌≤◌, ◌+◌, ◌-◌, ◌++◌, List, [], ◌∷◌, length, Some, None, Option, true, false, Bool, ◌&&◌, arith, ap, subst}
use Rattle.std.specs.Prelude.{nat_le, if◌then◌else◌, Result, Ok, Err, bytes_eq, codes}
use Rattle.std.proofs.lemmas.Bool.{leb-true}
use Rattle.text_lines.specs.Lines.{lines_of, words_of, says_nothing}
use Rattle.text_lines.specs.Number.{decimal_value, is_number, number_within}
use Rattle.tlbvm.specs.declared.items.Item.{Item}
use Rattle.tlbvm.specs.declared.items.Item.TheVariants.{Monitor, Rounds}
use Rattle.tlbvm.specs.Items.{order_of, items_from, item_of, turn_of, counted_of, count_of, is_within, turns_in}
use Rattle.tlbvm.specs.Turns.{IsItemThere, AreThere}

number_small : (text : List ℕ) (most n : ℕ) → number_within text most ≡ Some n → n ≤ most
number_small text most n e = go (is_number text) (nat_le (decimal_value text) most) refl e
  where
    value : Option ℕ → ℕ
    value None = 0
    value (Some x) = x

    go : (p q : Bool) → nat_le (decimal_value text) most ≡ q → (if p && q then Some (decimal_value text) else None) ≡ Some n → n ≤ most
    go false q f k = cc
    go true false f k = cc
    go true true f k = let same : decimal_value text ≡ n = ap value k in subst (λ x. x ≤ most) same (leb-true (decimal_value text) most f)

turn_there : (harts : ℕ) (hart count : Option ℕ) (item : Item) → ((n : ℕ) → hart ≡ Some n → n < harts) → turn_of hart count ≡ Some item → IsItemThere harts item
turn_there harts None count item k e = cc
turn_there harts (Some h) None item k e = cc
turn_there harts (Some h) (Some n) item k e = subst (λ o. there o) e (k h refl)
  where
    there : Option Item → Type 0
    there None = Unit {0}
    there (Some i) = IsItemThere harts i

counted_there : (harts : ℕ) (command : List ℕ) (count : Option ℕ) (item : Item) → counted_of command count ≡ Some item → IsItemThere harts item
counted_there harts command None item e = cc
counted_there harts command (Some n) item e = go (bytes_eq command (codes "mon")) (bytes_eq command (codes "rounds")) e
  where
    there : Option Item → Type 0
    there None = Unit {0}
    there (Some i) = IsItemThere harts i

    go : (p q : Bool) → (if p then Some (Monitor n) else (if q then Some (Rounds n) else None)) ≡ Some item → IsItemThere harts item
    go true q k = subst (λ o. there o) k tt
    go false true k = subst (λ o. there o) k tt
    go false false k = cc

item_there : (harts : ℕ) (words : List (List ℕ)) (item : Item) → 1 ≤ harts → item_of harts words ≡ Some item → IsItemThere harts item
item_there harts [] item some e = cc
item_there harts (command ∷ []) item some e = cc
item_there harts (command ∷ count ∷ []) item some e = counted_there harts command (count_of count) item e
item_there harts (command ∷ hart ∷ count ∷ []) item some e = go (bytes_eq command (codes "turn")) e
  where
    go : (p : Bool) → (if p then turn_of (number_within hart (harts - 1)) (count_of count) else None) ≡ Some item → IsItemThere harts item
    go true k = turn_there harts (number_within hart (harts - 1)) (count_of count) item (λ n f. let small = number_small hart (harts - 1) n f in omega (arith, small, some)) k
    go false k = cc
item_there harts (a ∷ b ∷ c ∷ d ∷ words) item some e = cc

there_more : (harts : ℕ) (items : List Item) (item : Item) → AreThere harts items → IsItemThere harts item → AreThere harts (items ++ item ∷ [])
there_more harts [] item all k zero lt = k
there_more harts [] item all k (suc i) lt = absurd (omega (arith, lt))
there_more harts (x ∷ items) item all k zero lt = all zero (omega arith)
there_more harts (x ∷ items) item all k (suc i) lt = there_more harts items item (λ j m. all (suc j) (omega (arith, m))) k i (omega (arith, lt))

abbrev step : (harts : ℕ) → List (List ℕ) → (line : ℕ) → List Item → (turns : ℕ) → Bool → Option Item → Result (List Item) ℕ
step harts texts line items turns silent o =
    if silent then items_from harts texts (line + 1) items turns else
    elim o [
      | None ↦ Err line
      | Some item ↦ if is_within (length items + 1) (turns + turns_in harts item)
          then items_from harts texts (line + 1) (items ++ item ∷ []) (turns + turns_in harts item)
          else Err line
    ]

from_there : (harts : ℕ) (texts : List (List ℕ)) (line : ℕ) (items : List Item) (turns : ℕ) (all : List Item) → 1 ≤ harts → AreThere harts items → items_from harts texts line items turns ≡ Ok all → AreThere harts all
from_there harts [] line items turns all some k e = subst (λ r. there r) e k
  where
    there : Result (List Item) ℕ → Type 0
    there (Ok xs) = AreThere harts xs
    there (Err n) = Unit {0}
from_there harts (text ∷ texts) line items turns all some k e =
    go (says_nothing (words_of text)) (item_of harts (words_of text)) refl e
    (λ items_now turns_now l f. from_there harts texts (line + 1) items_now turns_now all some l f)
  where
    -- what the rest of the lines leave
    Rest : Type 0
    Rest = (items_now : List Item) (turns_now : ℕ) → AreThere harts items_now → items_from harts texts (line + 1) items_now turns_now ≡ Ok all → AreThere harts all

    inside : (item : Item) (b : Bool) → IsItemThere harts item
        → (if b then items_from harts texts (line + 1) (items ++ item ∷ []) (turns + turns_in harts item) else Err line) ≡ Ok all → Rest → AreThere harts all
    inside item true i f rest = rest (items ++ item ∷ []) (turns + turns_in harts item) (there_more harts items item k i) f
    inside item false i f rest = cc

    go : (b : Bool) (o : Option Item) → item_of harts (words_of text) ≡ o → step harts texts line items turns b o ≡ Ok all → Rest → AreThere harts all
    go true o h f rest = rest items turns k f
    go false None h f rest = cc
    go false (Some item) h f rest = inside item (is_within (length items + 1) (turns + turns_in harts item)) (item_there harts (words_of text) item some h) f rest

pub items_there : (text : List ℕ) (harts : ℕ) (items : List Item) → 1 ≤ harts → order_of text harts ≡ Ok items → AreThere harts items
items_there text harts items some e = from_there harts (lines_of text) 1 [] 0 items some (λ i lt. absurd (omega (arith, lt))) e
