-- Operands in a text: pieces without blanks and commas, which stand behind a blank and apart by a comma and a blank.
use Rattle.std.proofs.Common.{◌≡◌, refl, ◌∙◌, ℕ, Bool, true, false, ◌&&◌, List, [], ◌∷◌, ◌++◌, map, arith}
use Rattle.std.specs.Prelude.{not, nat_le, ◌==◌}
use Rattle.std.specs.List.{list_all, slice_split}
use Rattle.text_lines.specs.Lines.{is_blank, words_of, with_byte, begins_with_word}
use Rattle.asm_text.specs.Text.{is_comma, operand_in, operands_of}
use Rattle.asm_laws.proofs.Lists.{head_passes, tail_passes}

-- a byte of an operand
abbrev pub is_piece_byte : ℕ → Bool
is_piece_byte c = nat_le 40 c && not (c == 44) && not (c == 58)

abbrev pub AllPieces : List ℕ → Type 0
AllPieces p = list_all is_piece_byte p ≡ true

pub not_blank : (c : ℕ) → is_piece_byte c ≡ true → is_blank c ≡ false
not_blank c e = grind (arith, e)

not_comma : (c : ℕ) → is_piece_byte c ≡ true → is_comma c ≡ false
not_comma c e = grind (arith, e)

-- a piece is one word
pub one_word_of : (c : ℕ) (cs : List ℕ) → AllPieces (c ∷ cs) → words_of (c ∷ cs) ≡ (c ∷ cs) ∷ []
one_word_of c [] e = rw (not_blank c (head_passes is_piece_byte c [] e)) refl
one_word_of c (d ∷ ds) e =
    let rest = tail_passes is_piece_byte c (d ∷ ds) e in
    rw (not_blank c (head_passes is_piece_byte c (d ∷ ds) e), one_word_of d ds rest, not_blank d (head_passes is_piece_byte d ds rest)) refl

pub operand_is : (c : ℕ) (cs : List ℕ) → AllPieces (c ∷ cs) → operand_in (32 ∷ c ∷ cs) ≡ c ∷ cs
operand_is c cs e = rw (one_word_of c cs e) refl

-- some word stands in a text that begins with a piece's byte
some_word : (c : ℕ) (cs : List ℕ) → is_piece_byte c ≡ true → (w : List ℕ) × (ws : List (List ℕ)) × (words_of (c ∷ cs) ≡ w ∷ ws)
some_word c cs e = by_rest (begins_with_word cs) (words_of cs) (rw (not_blank c e) refl)
  where
    by_rest : (b : Bool) (ws : List (List ℕ)) → words_of (c ∷ cs) ≡ with_byte c b ws → (w : List ℕ) × (us : List (List ℕ)) × (words_of (c ∷ cs) ≡ w ∷ us)
    by_rest true [] f = (c ∷ [], [], f)
    by_rest true (w ∷ ws) f = (c ∷ w, ws, f)
    by_rest false ws f = (c ∷ [], ws, f)

operands_split : (c : ℕ) (cs : List ℕ) → is_piece_byte c ≡ true → operands_of (32 ∷ c ∷ cs) ≡ map operand_in (slice_split is_comma (32 ∷ c ∷ cs))
operands_split c cs e = let (w, ws, f) = some_word c cs e in rw f refl

-- the pieces that commas part
split_end : (xs : List ℕ) → AllPieces xs → slice_split is_comma xs ≡ xs ∷ []
split_end [] e = refl
split_end (x ∷ xs) e = rw (not_comma x (head_passes is_piece_byte x xs e), split_end xs (tail_passes is_piece_byte x xs e)) refl

split_here : (xs ys : List ℕ) → AllPieces xs → slice_split is_comma (xs ++ 44 ∷ ys) ≡ xs ∷ slice_split is_comma ys
split_here [] ys e = refl
split_here (x ∷ xs) ys e = rw (not_comma x (head_passes is_piece_byte x xs e), split_here xs ys (tail_passes is_piece_byte x xs e)) refl

split_blank : (c : ℕ) (cs : List ℕ) → AllPieces (c ∷ cs) → slice_split is_comma (32 ∷ c ∷ cs) ≡ (32 ∷ c ∷ cs) ∷ []
split_blank c cs e = rw (split_end (c ∷ cs) e) refl

split_blank_here : (c : ℕ) (cs ys : List ℕ) → AllPieces (c ∷ cs) → slice_split is_comma (32 ∷ c ∷ (cs ++ 44 ∷ ys)) ≡ (32 ∷ c ∷ cs) ∷ slice_split is_comma ys
split_blank_here c cs ys e = rw (split_here (c ∷ cs) ys e) refl

-- one operand, two, three
pub one_operand : (c : ℕ) (cs : List ℕ) → AllPieces (c ∷ cs) → operands_of (32 ∷ c ∷ cs) ≡ (c ∷ cs) ∷ []
one_operand c cs e = operands_split c cs (head_passes is_piece_byte c cs e) ∙ rw (split_blank c cs e, operand_is c cs e) refl

pub two_operands : (c : ℕ) (cs : List ℕ) (d : ℕ) (ds : List ℕ) → AllPieces (c ∷ cs) → AllPieces (d ∷ ds)
    → operands_of (32 ∷ c ∷ (cs ++ 44 ∷ 32 ∷ d ∷ ds)) ≡ (c ∷ cs) ∷ (d ∷ ds) ∷ []
two_operands c cs d ds e f =
    operands_split c (cs ++ 44 ∷ 32 ∷ d ∷ ds) (head_passes is_piece_byte c cs e)
    ∙ rw (split_blank_here c cs (32 ∷ d ∷ ds) e, split_blank d ds f, operand_is c cs e, operand_is d ds f) refl

pub three_operands : (c : ℕ) (cs : List ℕ) (d : ℕ) (ds : List ℕ) (x : ℕ) (xs : List ℕ) → AllPieces (c ∷ cs) → AllPieces (d ∷ ds) → AllPieces (x ∷ xs)
    → operands_of (32 ∷ c ∷ (cs ++ 44 ∷ 32 ∷ d ∷ (ds ++ 44 ∷ 32 ∷ x ∷ xs))) ≡ (c ∷ cs) ∷ (d ∷ ds) ∷ (x ∷ xs) ∷ []
three_operands c cs d ds x xs e f g =
    operands_split c (cs ++ 44 ∷ 32 ∷ d ∷ (ds ++ 44 ∷ 32 ∷ x ∷ xs)) (head_passes is_piece_byte c cs e)
    ∙ rw (split_blank_here c cs (32 ∷ d ∷ (ds ++ 44 ∷ 32 ∷ x ∷ xs)) e, split_blank_here d ds (32 ∷ x ∷ xs) f, split_blank x xs g, operand_is c cs e, operand_is d ds f, operand_is x xs g) refl
