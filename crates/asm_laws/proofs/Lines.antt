-- A line that is a name and its operands, and no more.
use Rattle.std.proofs.Common.{◌≡◌, refl, ap, ◌∙◌, ℕ, zero, suc, ◌+◌, Bool, true, false, ◌&&◌, List, [], ◌∷◌, ◌++◌, length, take, drop, arith}
use Rattle.std.specs.Prelude.{not, nat_le, ◌==◌, if◌then◌else◌, Option, Some, None, take_while}
use Rattle.std.specs.List.{list_all, prefix_len, position_or_len, before_first}
use Rattle.std.proofs.Math.Seq.{take-length, drop-append_seam}
use Rattle.std.proofs.lemmas.List.{append-nil}
use Rattle.text_lines.specs.Lines.{is_blank}
use Rattle.asm_text.specs.Text.{is_hash, is_colon, is_letter, is_name_byte, begins_with, body_of, from_word, has_label, label_of, behind_label, name_in, behind_name, operands_of}
use Rattle.asm_text.specs.Operand.{is_empty}
use Rattle.asm_text.specs.Action.{Line, line_of, action_of}
use Rattle.asm_laws.proofs.Lists.{head_passes, tail_passes, all_passes, pass_on, prefix_all, prefix_to, front}
use Rattle.asm_laws.proofs.Pieces.{is_piece_byte, not_blank}

-- a byte of a line that says an instruction
abbrev pub is_text_byte : ℕ → Bool
is_text_byte c = nat_le 32 c && not (c == 35) && not (c == 58)

pub piece_in_text : (c : ℕ) → is_piece_byte c ≡ true → is_text_byte c ≡ true
piece_in_text c e = grind (arith, e)

no_hash : (c : ℕ) → is_text_byte c ≡ true → not (is_hash c) ≡ true
no_hash c e = grind (arith, e)

no_colon : (c : ℕ) → is_text_byte c ≡ true → is_colon c ≡ false
no_colon c e = grind (arith, e)

never_begins : (n : ℕ) (xs : List ℕ) → list_all is_text_byte xs ≡ true → begins_with is_colon (drop n xs) ≡ false
never_begins zero [] e = refl
never_begins (suc n) [] e = refl
never_begins zero (x ∷ xs) e = no_colon x (head_passes is_text_byte x xs e)
never_begins (suc n) (x ∷ xs) e = never_begins n xs (tail_passes is_text_byte x xs e)

whole : (xs : List ℕ) → list_all is_text_byte xs ≡ true → before_first is_hash xs ≡ xs
whole xs e = rw (prefix_all (λ c. not (is_hash c)) xs (pass_on is_text_byte (λ c. not (is_hash c)) no_hash xs e)) (take-length xs)

body_is : (c : ℕ) (cs : List ℕ) → is_piece_byte c ≡ true → list_all is_text_byte (c ∷ cs) ≡ true → body_of (c ∷ cs) ≡ c ∷ cs
body_is c cs e all = rw (whole (c ∷ cs) all, not_blank c e) refl

no_label : (body : List ℕ) → list_all is_text_byte body ≡ true → has_label body ≡ false
no_label body all = rw (never_begins (prefix_len is_name_byte body) body all) (ends (begins_with is_letter body))
  where
    ends : (b : Bool) → (b && false) ≡ false
    ends true = refl
    ends false = refl

-- what stands behind the name: nothing, or a blank and more
pub data Behind : List ℕ → Type 0 where
  nothing : Behind []
  more : (rest : List ℕ) → Behind (32 ∷ rest)

word_passes : (xs : List ℕ) → list_all is_piece_byte xs ≡ true → list_all (λ c. not (is_blank c)) xs ≡ true
word_passes xs e = pass_on is_piece_byte (λ c. not (is_blank c)) (λ c f. rw (not_blank c f) refl) xs e

name_ends : (name rest : List ℕ) → list_all is_piece_byte name ≡ true → Behind rest → position_or_len is_blank (name ++ rest) ≡ length name
name_ends name _ e nothing = rw (append-nil name) (prefix_all (λ c. not (is_blank c)) name (word_passes name e))
name_ends name _ e (more rest) = prefix_to (λ c. not (is_blank c)) name 32 rest (word_passes name e) refl

-- what a body says, by its parts
abbrev said_by : List ℕ → Line
said_by body = record { label = label_of body; action = action_of (name_in (behind_label body)) (operands_of (behind_name (behind_label body))) }

line_by : Option (List ℕ) → List ℕ → List ℕ → Line
line_by label name rest = record { label = label; action = action_of name (operands_of rest) }

-- a name's word and what stands behind it
pub line_says : (name rest : List ℕ) → is_empty name ≡ false → list_all is_piece_byte name ≡ true → Behind rest → list_all is_text_byte rest ≡ true
    → line_of (name ++ rest) ≡ record { label = None; action = action_of name (operands_of rest) }
unfolding line_by
line_says [] rest some e behind all = cc
line_says (c ∷ cs) rest some e behind all =
    let name = c ∷ cs in
    let text : list_all is_text_byte (name ++ rest) ≡ true = all_passes is_text_byte name rest (pass_on is_piece_byte is_text_byte piece_in_text name e) all in
    let body : body_of (name ++ rest) ≡ name ++ rest = body_is c (cs ++ rest) (head_passes is_piece_byte c cs e) text in
    let ends : position_or_len is_blank (name ++ rest) ≡ length name = name_ends name rest e behind in
    let none : has_label (name ++ rest) ≡ false = no_label (name ++ rest) text in
    let label : label_of (name ++ rest) ≡ None = ap (λ b. if b then Some (take_while is_name_byte (name ++ rest)) else None) none in
    let same : behind_label (name ++ rest) ≡ name ++ rest = ap (λ b. if b then from_word (drop (prefix_len is_name_byte (name ++ rest) + 1) (name ++ rest)) else (name ++ rest)) none in
    let named : name_in (behind_label (name ++ rest)) ≡ name = ap name_in same ∙ ap (λ n. take n (name ++ rest)) ends ∙ front name rest in
    let behind_it : behind_name (behind_label (name ++ rest)) ≡ rest = ap behind_name same ∙ ap (λ n. drop n (name ++ rest)) ends ∙ drop-append_seam name rest in
    ap said_by body ∙ ap (λ l. line_by l (name_in (behind_label (name ++ rest))) (behind_name (behind_label (name ++ rest)))) label
    ∙ ap (λ n. line_by None n (behind_name (behind_label (name ++ rest)))) named ∙ ap (λ r. line_by None name r) behind_it
