-- The lines with numbers: rounds, entries of page tables, and frames.
use Rattle.std.proofs.Common.{◌≡◌, refl, ap, sym, subst, ◌∙◌, ℕ, zero, suc, ◌+◌, ◌*◌, ◌-◌, ◌<◌, ◌≤◌, true, false, List, [], ◌∷◌, ◌++◌, arith}
use Rattle.std.specs.Prelude.{◌^◌, Some, Ok, nat_le, codes, replicate}
use Rattle.std.specs.Fmt.{decimal}
use Rattle.asm_text.specs.Operand.{number, with_number}
use Rattle.asm_text.specs.Action.{Data, MovesTo, LoadsNumber, line_of, action_of, data_of}
use Rattle.rv_asm.specs.Assembly.{Set, last_place, lines_bytes, sets_of, bytes_of, word_bytes, upper_immediate, upper_part, low_part}
use Rattle.rv64_decode.specs.declared.instruction.Instr.{Instr}
use Rattle.asm_laws.proofs.Numbers.{decimal_number, short_hex_number}
use Rattle.asm_laws.proofs.Lines.{line_says}
use Rattle.asm_laws.proofs.Forms.{one_operated, two_operated, decimal_piece, short_hex_piece, hex_text, line_with}
use Rattle.guest_gen.specs.Text.{hex_number, entries, frames, rounds, rounds_line}
use Rattle.guest_gen.proofs.Fine.{Does, is_fine, place_after, place_then, fine_then, sets_then}

wide_fits : (n : ℕ) → n < 2 ^ 64 → nat_le n (2 ^ 64 - 1) ≡ true
wide_fits n h = grind (arith, h)

-- a line of one number in hexadecimal digits
dword_does : (sets : List Set) (place n : ℕ) → n < 2 ^ 64 → place + 8 ≤ last_place → Does sets place (hex_number (codes ".dword") n) 8
unfolding bytes_of
dword_does sets place n h within =
    let o = one_operated (hex_text n) (short_hex_piece n h) in
    let fits : nat_le n (2 ^ 64 - 1) ≡ true = wide_fits n h in
    record {
      action = Data 8 (number false n ∷ []);
      bytes = bytes_of 8 n;
      says = line_says (codes ".dword") (32 ∷ hex_text n) refl refl o.behind o.bytes
          ∙ ap line_with (ap (λ l. action_of (codes ".dword") l) o.are ∙ ap (data_of 8) (ap (λ m. with_number m (Some [])) (short_hex_number n h)));
      gives = rw fits refl;
      takes = refl;
      within = within;
    }

org_does : (sets : List Set) (place n : ℕ) → place ≤ n → n ≤ last_place → Does sets place (hex_number (codes ".org") n) (n - place)
org_does sets place n ahead within =
    let h : n < 2 ^ 64 = omega (arith, within) in
    let o = one_operated (hex_text n) (short_hex_piece n h) in
    let low : nat_le n last_place ≡ true = grind (arith, within) in
    let after : nat_le place n ≡ true = grind (arith, ahead) in
    record {
      action = MovesTo (number false n);
      bytes = replicate (n - place) 0;
      says = line_says (codes ".org") (32 ∷ hex_text n) refl refl o.behind o.bytes
          ∙ ap line_with (ap (λ l. action_of (codes ".org") l) o.are ∙ rw (short_hex_number n h) refl);
      gives = rw (low, after) refl;
      takes = rw (low, after) refl;
      within = omega (arith, ahead, within);
    }

small_does : (sets : List Set) (place : ℕ) (line : List ℕ) (n : ℕ) → line_of line ≡ line_with (Ok (Data 8 (number false n ∷ []))) → n < 2 ^ 64 → place + 8 ≤ last_place → Does sets place line 8
unfolding bytes_of
small_does sets place line n says h within =
    let fits : nat_le n (2 ^ 64 - 1) ≡ true = wide_fits n h in
    record { action = Data 8 (number false n ∷ []); bytes = bytes_of 8 n; says = says; gives = rw fits refl; takes = refl; within = within }

-- ENTRIES

pub entries_fine : (before sets : List Set) (place count first apart n : ℕ) → place + 8 * n ≤ last_place → first + apart * n < 2 ^ 64 → is_fine (lines_bytes before sets place count (entries first apart n)) ≡ true
unfolding entries
entries_fine before sets place count first apart zero within few = refl
entries_fine before sets place count first apart (suc n) within few =
    let more : apart * suc n ≡ apart + apart * n = omega arith in
    let d = dword_does sets place first (omega (arith, few)) (omega (arith, within)) in
    fine_then before sets place count (hex_number (codes ".dword") first) 8 (entries (first + apart) apart n) d
    (entries_fine before sets (place + 8) (count + 1) (first + apart) apart n (omega (arith, within)) (omega (arith, few, more)))

pub entries_sets : (place first apart n : ℕ) → place + 8 * n ≤ last_place → first + apart * n < 2 ^ 64 → sets_of place (entries first apart n) ≡ []
unfolding entries
entries_sets place first apart zero within few = refl
entries_sets place first apart (suc n) within few =
    let more : apart * suc n ≡ apart + apart * n = omega arith in
    let d = dword_does [] place first (omega (arith, few)) (omega (arith, within)) in
    sets_then [] place (hex_number (codes ".dword") first) 8 (entries (first + apart) apart n) d ∙ entries_sets (place + 8) (first + apart) apart n (omega (arith, within)) (omega (arith, few, more))

pub entries_place : (place first apart n : ℕ) → place + 8 * n ≤ last_place → first + apart * n < 2 ^ 64 → place_after place (entries first apart n) ≡ place + 8 * n
unfolding entries
entries_place place first apart zero within few = omega arith
entries_place place first apart (suc n) within few =
    let more : apart * suc n ≡ apart + apart * n = omega arith in
    let d = dword_does [] place first (omega (arith, few)) (omega (arith, within)) in
    ap (λ p. place_after p (entries (first + apart) apart n)) (place_then [] place (hex_number (codes ".dword") first) 8 d)
    ∙ entries_place (place + 8) (first + apart) apart n (omega (arith, within)) (omega (arith, few, more)) ∙ omega arith

-- FRAMES

pub frames_fine : (before sets : List Set) (place count first n : ℕ) → place ≤ first → first + 8192 * n ≤ last_place → is_fine (lines_bytes before sets place count (frames first n)) ≡ true
unfolding frames
frames_fine before sets place count first zero ahead within = refl
frames_fine before sets place count first (suc n) ahead within =
    let at : place + (first - place) ≡ first = omega (arith, ahead) in
    let last : List (List ℕ) = codes ".dword 5" ∷ frames (first + 8192) n in
    let third : List (List ℕ) = hex_number (codes ".org") (first + 4096) ∷ last in
    let second : List (List ℕ) = codes ".dword 3" ∷ third in
    let two : first + 8 + (first + 4096 - (first + 8)) ≡ first + 4096 = omega arith in
    fine_then before sets place count (hex_number (codes ".org") first) (first - place) second (org_does sets place first ahead (omega (arith, within)))
    (subst (λ p. is_fine (lines_bytes before sets p (count + 1) second) ≡ true) (sym at)
    (fine_then before sets first (count + 1) (codes ".dword 3") 8 third (small_does sets first (codes ".dword 3") 3 refl (omega arith) (omega (arith, within)))
    (fine_then before sets (first + 8) (count + 1 + 1) (hex_number (codes ".org") (first + 4096)) (first + 4096 - (first + 8)) last (org_does sets (first + 8) (first + 4096) (omega arith) (omega (arith, within)))
    (subst (λ p. is_fine (lines_bytes before sets p (count + 1 + 1 + 1) last) ≡ true) (sym two)
    (fine_then before sets (first + 4096) (count + 1 + 1 + 1) (codes ".dword 5") 8 (frames (first + 8192) n) (small_does sets (first + 4096) (codes ".dword 5") 5 refl (omega arith) (omega (arith, within)))
    (frames_fine before sets (first + 4096 + 8) (count + 1 + 1 + 1 + 1) (first + 8192) n (omega arith) (omega (arith, within))))))))

pub frames_sets : (place first n : ℕ) → place ≤ first → first + 8192 * n ≤ last_place → sets_of place (frames first n) ≡ []
unfolding frames
frames_sets place first zero ahead within = refl
frames_sets place first (suc n) ahead within =
    let at : place + (first - place) ≡ first = omega (arith, ahead) in
    let last : List (List ℕ) = codes ".dword 5" ∷ frames (first + 8192) n in
    let third : List (List ℕ) = hex_number (codes ".org") (first + 4096) ∷ last in
    let second : List (List ℕ) = codes ".dword 3" ∷ third in
    let two : first + 8 + (first + 4096 - (first + 8)) ≡ first + 4096 = omega arith in
    sets_then [] place (hex_number (codes ".org") first) (first - place) second (org_does [] place first ahead (omega (arith, within)))
    ∙ ap (λ p. sets_of p second) at
    ∙ sets_then [] first (codes ".dword 3") 8 third (small_does [] first (codes ".dword 3") 3 refl (omega arith) (omega (arith, within)))
    ∙ sets_then [] (first + 8) (hex_number (codes ".org") (first + 4096)) (first + 4096 - (first + 8)) last (org_does [] (first + 8) (first + 4096) (omega arith) (omega (arith, within)))
    ∙ ap (λ p. sets_of p last) two
    ∙ sets_then [] (first + 4096) (codes ".dword 5") 8 (frames (first + 8192) n) (small_does [] (first + 4096) (codes ".dword 5") 5 refl (omega arith) (omega (arith, within)))
    ∙ frames_sets (first + 4096 + 8) (first + 8192) n (omega arith) (omega (arith, within))

-- ROUNDS

pub few_rounds : (n : ℕ) → rounds n ≤ 10000
few_rounds n = omega arith

pub rounds_does : (sets : List Set) (place n : ℕ) → place + 8 ≤ last_place → Does sets place (rounds_line n) 8
rounds_does sets place n within =
    let few = few_rounds n in
    let h : rounds n < 2 ^ 64 = omega (arith, few) in
    let o = two_operated (codes "s2") (decimal (rounds n)) (record { some = refl; all = refl }) (decimal_piece (rounds n) h) in
    let fits : nat_le (rounds n) (2 ^ 31 - 1) ≡ true = grind (arith, few) in
    record {
      action = LoadsNumber 18 (number false (rounds n));
      bytes = word_bytes (Instr.Lui 18 (upper_immediate (upper_part (rounds n)))) ++ word_bytes (Instr.Addiw 18 18 (low_part (rounds n)));
      says = line_says (codes "li") (32 ∷ (codes "s2" ++ 44 ∷ 32 ∷ decimal (rounds n))) refl refl o.behind o.bytes
          ∙ ap line_with (ap (λ l. action_of (codes "li") l) o.are ∙ rw (decimal_number (rounds n) h) refl);
      gives = rw fits refl;
      takes = refl;
      within = within;
    }
