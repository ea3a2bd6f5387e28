-- Operands that are read one by one.
use Rattle.std.proofs.Common.{◌≡◌, ◌≤◌, ◌+◌, suc, length, arith, refl, ap, sym, ◌∙◌, ℕ, Bool, true, false, List, [], ◌∷◌, map}
use Rattle.asm_text.specs.Action.{Data, data_of}
use Rattle.std.specs.Prelude.{Option, Some, None, Ok}
use Rattle.std.specs.Option.{option_map}
use Rattle.std.specs.List.{slice_split}
use Rattle.asm_text.specs.Text.{is_comma, operand_in}
use Rattle.asm_text.specs.declared.numbers.Number.{Number}
use Rattle.asm_text.specs.Operand.{all_numbers, numbers_of, values_of, with_number}
use Rattle.asm_text.specs.Values.{or_none, texts_in}

-- a text has a first piece
some_piece : (p : ℕ → Bool) (cs : List ℕ) → (x : List ℕ) × (xs : List (List ℕ)) × (slice_split p cs ≡ x ∷ xs)
some_piece p [] = ([], [], refl)
some_piece p (c ∷ cs) = by_comma (p c) refl (some_piece p cs)
  where
    by_comma : (b : Bool) → p c ≡ b → ((x : List ℕ) × (xs : List (List ℕ)) × (slice_split p cs ≡ x ∷ xs)) → (x : List ℕ) × (xs : List (List ℕ)) × (slice_split p (c ∷ cs) ≡ x ∷ xs)
    by_comma true e k = ([], slice_split p cs, rw e refl)
    by_comma false e (x, xs, k) = (c ∷ x, xs, rw (e, k) refl)

pub one_left : (text : List ℕ) → values_of [] (map operand_in (slice_split is_comma text)) ≡ None
one_left text = let (x, xs, e) = some_piece is_comma text in rw e refl

-- a text has at most one piece more than bytes
pub few_pieces : (p : ℕ → Bool) (f : List ℕ → List ℕ) (cs : List ℕ) → length (map f (slice_split p cs)) ≤ length cs + 1
few_pieces p f [] = omega arith
few_pieces p f (c ∷ cs) = by_comma (p c) refl (some_piece p cs) (few_pieces p f cs)
  where
    by_comma : (b : Bool) → p c ≡ b → ((x : List ℕ) × (xs : List (List ℕ)) × (slice_split p cs ≡ x ∷ xs)) → length (map f (slice_split p cs)) ≤ length cs + 1 → length (map f (slice_split p (c ∷ cs))) ≤ length (c ∷ cs) + 1
    by_comma true e k h = rw e (omega (arith, h))
    by_comma false e (x, xs, k) h = rw (e, k) (let same : length (map f (slice_split p cs)) ≡ suc (length (map f xs)) = rw k refl in omega (arith, h, same))

-- the count of numbers, with some counted before
abbrev pub counted : (n : ℕ) → Option (List Number) → Option ℕ
counted n numbers = option_map (λ (xs : List Number). n + length xs) numbers

pub counts_one : (n : ℕ) (x : Number) (numbers : Option (List Number)) → counted n (with_number (Some x) numbers) ≡ counted (n + 1) numbers
counts_one n x None = refl
counts_one n x (Some xs) = let e : n + suc (length xs) ≡ n + 1 + length xs = omega arith in ap Some e

pub none_counted : (numbers : Option (List Number)) → counted 0 numbers ≡ None → None ≡ option_map length numbers
none_counted None e = refl
none_counted (Some xs) e = cc

pub numbers_stand : (text : List ℕ) → numbers_of (texts_in text) ≡ all_numbers (texts_in text)
numbers_stand text = let (x, xs, e) = some_piece is_comma text in rw e refl

pub data_found : (width count : ℕ) (text : List ℕ) → Some count ≡ option_map length (all_numbers (texts_in text)) → Ok (Data width (or_none (all_numbers (texts_in text)))) ≡ data_of width (numbers_of (texts_in text))
data_found width count text e = by_numbers (all_numbers (texts_in text)) e ∙ ap (data_of width) (sym (numbers_stand text))
  where
    by_numbers : (numbers : Option (List Number)) → Some count ≡ option_map length numbers → Ok (Data width (or_none numbers)) ≡ data_of width numbers
    by_numbers None e = cc
    by_numbers (Some xs) e = refl
