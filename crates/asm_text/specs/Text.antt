-- The lines of an assembler's text and what stands in each: a label, and a name with its operands.
use Rattle.std.specs.Prelude.{ℕ, ◌+◌, ◌==◌, Bool, false, not, ◌&&◌, ◌||◌, nat_le, if◌then◌else◌, List, [], ◌∷◌, map, drop, Option, Some, None, take_while}
use Rattle.std.specs.List.{before_first, list_all, position_or_len, prefix_len, slice_split}
use Rattle.std.specs.Char.{is_ascii_digit}
use Rattle.text_lines.specs.Lines.{is_blank, words_of}

-- `#` begins a comment, wherever it stands
abbrev pub is_hash : ℕ → Bool
is_hash c = c == 35

abbrev pub is_comma : ℕ → Bool
is_comma c = c == 44

abbrev pub is_word_byte : ℕ → Bool
is_word_byte c = not (is_blank c)

-- a letter or `_`
abbrev pub is_letter : ℕ → Bool
is_letter c = (nat_le 65 c && nat_le c 90) || (nat_le 97 c && nat_le c 122) || (c == 95)

abbrev pub is_name_byte : ℕ → Bool
is_name_byte c = is_letter c || is_ascii_digit c

abbrev pub begins_with : (ℕ → Bool) → List ℕ → Bool
begins_with p [] = false
begins_with p (c ∷ cs) = p c

-- a label's name: a letter or `_`, then letters, digits and `_`
abbrev pub is_label : List ℕ → Bool
is_label text = begins_with is_letter text && list_all is_name_byte text

-- the bytes from the first that is no blank on
abbrev pub from_word : List ℕ → List ℕ
from_word cs = drop (position_or_len is_word_byte cs) cs

-- what a line says: without its comment, and without blanks in front
abbrev pub body_of : List ℕ → List ℕ
body_of line = from_word (before_first is_hash line)

-- A label stands in front, with `:` at its end.
abbrev pub is_colon : ℕ → Bool
is_colon c = c == 58

abbrev pub has_label : List ℕ → Bool
has_label body = begins_with is_letter body && begins_with is_colon (drop (prefix_len is_name_byte body) body)

abbrev pub label_of : List ℕ → Option (List ℕ)
label_of body = if has_label body then Some (take_while is_name_byte body) else None

abbrev pub behind_label : List ℕ → List ℕ
behind_label body = if has_label body then from_word (drop (prefix_len is_name_byte body + 1) body) else body

-- The name of an instruction or a directive is all up to the first blank; its operands stand behind that.
abbrev pub name_in : List ℕ → List ℕ
name_in said = before_first is_blank said

abbrev pub behind_name : List ℕ → List ℕ
behind_name said = drop (position_or_len is_blank said) said

-- Operands stand apart by commas. Each is one word; what is none or several is no operand, and is left as an empty one.
abbrev pub one_word : List (List ℕ) → List ℕ
one_word (word ∷ []) = word
one_word words = []

abbrev pub operand_in : List ℕ → List ℕ
operand_in piece = one_word (words_of piece)

abbrev pub operands_in : List ℕ → (words : List (List ℕ)) → List (List ℕ)
operands_in text [] = []
operands_in text words = map operand_in (slice_split is_comma text)

abbrev pub operands_of : List ℕ → List (List ℕ)
operands_of text = operands_in text (words_of text)
