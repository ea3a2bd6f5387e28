-- Texts to which lines were added.
use Rattle.std.proofs.Common.{◌≡◌, refl, ap, sym, subst, ◌∙◌, ℕ, zero, suc, ◌+◌, ◌-◌, ◌<◌, List, [], ◌∷◌, ◌++◌, arith}
use Rattle.std.specs.Prelude.{codes}
use Rattle.std.proofs.lemmas.List.{append_assoc, append-nil}
use Rattle.asm_laws.specs.Texts.{with_feeds}
use Rattle.guest_gen.specs.Text.{entries, frames, hex_number, lines_before, lines_behind, rounds_line, table_lines, gen_lines, gen_text}

pub feeds_behind : (xs ys : List (List ℕ)) → with_feeds (xs ++ ys) ≡ with_feeds xs ++ with_feeds ys
feeds_behind [] ys = refl
feeds_behind (x ∷ xs) ys = ap (λ l. x ++ 10 ∷ l) (feeds_behind xs ys) ∙ sym (append_assoc x (10 ∷ with_feeds xs) (with_feeds ys))

pub entries_added : (old mid new : List ℕ) (first count : ℕ) → 0 < count → mid ≡ old ++ (hex_number (codes ".dword") first ++ codes "\n")
    → new ≡ mid ++ with_feeds (entries (first + 1024) 1024 (count - 1)) → new ≡ old ++ with_feeds (entries first 1024 count)
unfolding entries
entries_added old mid new first zero h e f = absurd (omega (arith, h))
entries_added old mid new first (suc n) h e f =
    let same : suc n - 1 ≡ n = omega arith in
    let rest : List ℕ = with_feeds (entries (first + 1024) 1024 n) in
    let line : List ℕ = hex_number (codes ".dword") first in
    f ∙ ap (λ k. mid ++ with_feeds (entries (first + 1024) 1024 k)) same ∙ ap (λ m. m ++ rest) e ∙ append_assoc old (line ++ codes "\n") rest ∙ ap (λ l. old ++ l) (append_assoc line (codes "\n") rest)

pub frames_added : (old low high new : List ℕ) (first count : ℕ) → 0 < count → low ≡ old ++ (hex_number (codes ".org") first ++ codes "\n.dword 3\n")
    → high ≡ low ++ (hex_number (codes ".org") (first + 4096) ++ codes "\n.dword 5\n") → new ≡ high ++ with_feeds (frames (first + 8192) (count - 1)) → new ≡ old ++ with_feeds (frames first count)
unfolding frames
frames_added old low high new first zero h e f g = absurd (omega (arith, h))
frames_added old low high new first (suc n) h e f g =
    let same : suc n - 1 ≡ n = omega arith in
    let rest : List ℕ = with_feeds (frames (first + 8192) n) in
    let one : List ℕ = hex_number (codes ".org") first in
    let two : List ℕ = hex_number (codes ".org") (first + 4096) in
    let tail : List ℕ = two ++ (codes "\n.dword 5\n" ++ rest) in
    g ∙ ap (λ k. high ++ with_feeds (frames (first + 8192) k)) same ∙ ap (λ m. m ++ rest) f ∙ append_assoc low (two ++ codes "\n.dword 5\n") rest ∙ ap (λ l. low ++ l) (append_assoc two (codes "\n.dword 5\n") rest)
    ∙ ap (λ m. m ++ tail) e ∙ append_assoc old (one ++ codes "\n.dword 3\n") tail ∙ ap (λ l. old ++ l) (append_assoc one (codes "\n.dword 3\n") tail)

-- two texts added one behind the other
pub added_both : (old mid new a b : List ℕ) → mid ≡ old ++ a → new ≡ mid ++ b → new ≡ old ++ (a ++ b)
added_both old mid new a b e f = f ∙ ap (λ m. m ++ b) e ∙ append_assoc old a b

pub program_added : (old one two new : List ℕ) (number : ℕ) → one ≡ old ++ with_feeds lines_before → two ≡ one ++ (rounds_line number ++ codes "\n") → new ≡ two ++ with_feeds lines_behind
    → new ≡ old ++ with_feeds (lines_before ++ rounds_line number ∷ lines_behind)
program_added old one two new number e f g =
    let last : new ≡ one ++ ((rounds_line number ++ codes "\n") ++ with_feeds lines_behind) = added_both one two new (rounds_line number ++ codes "\n") (with_feeds lines_behind) f g in
    let same : (rounds_line number ++ codes "\n") ++ with_feeds lines_behind ≡ with_feeds (rounds_line number ∷ lines_behind) = append_assoc (rounds_line number) (codes "\n") (with_feeds lines_behind) in
    added_both old one new (with_feeds lines_before) (with_feeds (rounds_line number ∷ lines_behind)) e (last ∙ ap (λ l. one ++ l) same) ∙ ap (λ l. old ++ l) (sym (feeds_behind lines_before (rounds_line number ∷ lines_behind)))

-- closed lines, and then a list of lines
pub lines_added : (old mid new : List ℕ) (closed lines : List (List ℕ)) → mid ≡ old ++ with_feeds closed → new ≡ mid ++ with_feeds lines → new ≡ old ++ with_feeds (closed ++ lines)
lines_added old mid new closed lines e f = added_both old mid new (with_feeds closed) (with_feeds lines) e f ∙ ap (λ l. old ++ l) (sym (feeds_behind closed lines))

pub entries_none : (old : List ℕ) (first count : ℕ) → count ≡ 0 → old ≡ old ++ with_feeds (entries first 1024 count)
unfolding entries
entries_none old first count e = subst (λ n. old ≡ old ++ with_feeds (entries first 1024 n)) (sym e) (sym (append-nil old))

pub frames_none : (old : List ℕ) (first count : ℕ) → count ≡ 0 → old ≡ old ++ with_feeds (frames first count)
unfolding frames
frames_none old first count e = subst (λ n. old ≡ old ++ with_feeds (frames first n)) (sym e) (sym (append-nil old))

abbrev first_lines : List (List ℕ)
first_lines = codes ".org 0x80011000" ∷ []

abbrev second_lines : List (List ℕ)
second_lines = codes ".dword 0x20008801" ∷ codes ".org 0x80012000" ∷ codes "low: .dword 0" ∷ codes ".org 0x80022000" ∷ []

abbrev third_lines : List (List ℕ)
third_lines = codes ".org 0x80030000" ∷ codes "frames: .dword 3" ∷ codes ".org 0x80031000" ∷ codes ".dword 5" ∷ []

pub tables_made : (old a b c d e new : List ℕ) → a ≡ old ++ with_feeds first_lines → b ≡ a ++ with_feeds (entries 0x20004801 1024 16) → c ≡ b ++ with_feeds second_lines
    → d ≡ c ++ with_feeds (entries 0x200180c7 1024 64) → e ≡ d ++ with_feeds third_lines → new ≡ e ++ with_feeds (frames 0x80032000 15) → new ≡ old ++ with_feeds table_lines
tables_made old a b c d e new ea eb ec ed ee en =
    let first = lines_added old a b first_lines (entries 0x20004801 1024 16) ea eb in
    let second = lines_added b c d second_lines (entries 0x200180c7 1024 64) ec ed in
    let third = lines_added d e new third_lines (frames 0x80032000 15) ee en in
    let two = lines_added old b d (first_lines ++ entries 0x20004801 1024 16) (second_lines ++ entries 0x200180c7 1024 64) first second in
    lines_added old d new ((first_lines ++ entries 0x20004801 1024 16) ++ (second_lines ++ entries 0x200180c7 1024 64)) (third_lines ++ frames 0x80032000 15) two third

pub text_made : (old program new items : List ℕ) (number : ℕ) → old ≡ [] → program ≡ old ++ with_feeds (lines_before ++ rounds_line number ∷ lines_behind) → new ≡ program ++ with_feeds table_lines → items ≡ new
    → items ≡ gen_text number
unfolding gen_text
text_made old program new items number none e f same =
    same ∙ lines_added old program new (lines_before ++ rounds_line number ∷ lines_behind) table_lines e f ∙ ap (λ l. l ++ with_feeds (gen_lines number)) none
