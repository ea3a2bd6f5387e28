use Rattle.std.proofs.Common.{◌≡◌, ◌<◌, ◌≤◌, ◌+◌, ℕ, List, ◌∷◌, length, take, drop, arith, sym, subst}
use Rattle.std.specs.List.{position_or_len, slice_split}
use Rattle.std.proofs.lemmas.List.{take_rest}
use Rattle.std.proofs.lemmas.List.Splits.{slice_split_first}
use Rattle.asm_text.specs.Text.{is_comma}
use Rattle.asm_text.proofs.Places.{one_piece}
use Rattle.asm_text.proofs.lines.next_piece.Goals as goal

pub returns-then-place-text : goal.returns-then-place-text
returns-then-place-text c =
    let text : List ℕ = c.args.text.now in
    let n : ℕ = c.comma_place-place.result in
    let inside : position_or_len is_comma text < length text = let less : n < length text = c.if-place-text.true in omega (arith, less, c.comma_place-place.ensures.place) in
    rw (take_rest text (n + 1))
    (subst (λ (n : ℕ). slice_split is_comma text ≡ take n text ∷ slice_split is_comma (drop (n + 1) text)) (sym c.comma_place-place.ensures.place) (slice_split_first is_comma text 0 inside))

pub returns-else-place-text : goal.returns-else-place-text
returns-else-place-text c = one_piece is_comma c.args.text.now (let over : length c.args.text.now ≤ c.comma_place-place.result = c.if-place-text.false in omega (arith, over, c.comma_place-place.ensures.place))
