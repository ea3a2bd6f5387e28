-- The text has no line with a fault, whatever its number.
use Rattle.std.proofs.Common.{◌≡◌, refl, ap, sym, subst, ◌∙◌, ℕ, zero, suc, ◌+◌, ◌*◌, ◌<◌, true, false, List, [], ◌∷◌, ◌++◌, length, arith}
use Rattle.std.specs.Prelude.{◌^◌, Result, Ok, Err, codes, IsOk}
use Rattle.std.proofs.lemmas.List.Folds.{list_all-append}
use Rattle.std.specs.List.{list_all}
use Rattle.std.proofs.lemmas.List.{length-append, append_assoc}
use Rattle.text_lines.specs.Lines.{lines_of}
use Rattle.rv_asm.specs.Assembly.{Set, Bad, first_place, lines_bytes, sets_of, bytes_of, file_or, image_of_text, assembly_of}
use Rattle.asm_laws.specs.Texts.{with_feeds}
use Rattle.asm_laws.proofs.Lists.{all_passes, pass_on, both}
use Rattle.asm_laws.proofs.Lines.{is_text_byte}
use Rattle.asm_laws.proofs.Forms.{hex_text, decimal_piece, short_hex_piece, text_of_piece}
use Rattle.asm_laws.proofs.Listings.{is_listed_byte, text_listed, fed_line}
use Rattle.std.specs.Fmt.{decimal, digits}
use Rattle.guest_gen.specs.Text.{lines_before, lines_behind, table_lines, gen_lines, gen_text, entries, frames, rounds, rounds_line, hex_number}
use Rattle.guest_gen.proofs.Fine.{is_fine, place_after, fine_behind, sets_behind, place_behind_both, fine_then, sets_then, place_then}
use Rattle.guest_gen.proofs.NumberLines.{entries_fine, entries_sets, entries_place, frames_fine, frames_sets, rounds_does, few_rounds}

abbrev set : List ℕ → ℕ → Set
set name place = record { name = name; place = place }

-- the labels of the whole text
abbrev all_sets : List Set
all_sets = set (codes "more") 0x80000008 ∷ set (codes "go") 0x80000038 ∷ set (codes "work") 0x8000003c ∷ set (codes "round") 0x800000a8 ∷ set (codes "touch") 0x80000108 ∷ set (codes "wait") 0x80000150 ∷ set (codes "digit") 0x80000178 ∷ set (codes "small") 0x80000198 ∷ set (codes "halt") 0x800001e8 ∷ set (codes "total") 0x80008000 ∷ set (codes "ended") 0x80008008 ∷ set (codes "root") 0x80010000 ∷ set (codes "low") 0x80012000 ∷ set (codes "frames") 0x80030000 ∷ []

-- some lines, at this place and behind so many others with these labels
record Segment (before : List Set) (place count : ℕ) (lines : List (List ℕ)) (added : List Set) (next many : ℕ) : Type 0 where
  fine : is_fine (lines_bytes before all_sets place count lines) ≡ true
  sets : sets_of place lines ≡ added
  ends : place_after place lines ≡ next
  long : length lines ≡ many

segments : (before added more : List Set) (place next last count many others : ℕ) (xs ys : List (List ℕ)) → Segment before place count xs added next many
    → Segment (before ++ added) next (count + many) ys more last others → Segment before place count (xs ++ ys) (added ++ more) last (many + others)
segments before added more place next last count many others xs ys s t = record {
  fine = fine_behind before all_sets place count xs ys s.fine
      (subst (λ n. is_fine (lines_bytes (before ++ sets_of place xs) all_sets (place_after place xs) (count + n) ys) ≡ true) (sym s.long)
      (subst (λ p. is_fine (lines_bytes (before ++ sets_of place xs) all_sets p (count + many) ys) ≡ true) (sym s.ends)
      (subst (λ l. is_fine (lines_bytes (before ++ l) all_sets next (count + many) ys) ≡ true) (sym s.sets) t.fine)));
  sets = sets_behind place xs ys ∙ ap (λ l. l ++ sets_of (place_after place xs) ys) s.sets ∙ ap (λ p. added ++ sets_of p ys) s.ends ∙ ap (λ l. added ++ l) t.sets;
  ends = place_behind_both place xs ys ∙ ap (λ p. place_after p ys) s.ends ∙ t.ends;
  long = length-append xs ys ∙ ap (λ n. n + length ys) s.long ∙ ap (λ n. many + n) t.long;
}

entries_long : (first apart n : ℕ) → length (entries first apart n) ≡ n
unfolding entries
entries_long first apart zero = refl
entries_long first apart (suc n) = ap suc (entries_long (first + apart) apart n)

before_segment : Segment [] first_place 1 lines_before (set (codes "more") 0x80000008 ∷ set (codes "go") 0x80000038 ∷ set (codes "work") 0x8000003c ∷ []) 0x80000060 18
unfolding lines_before bytes_of
before_segment = record { fine = refl; sets = refl; ends = refl; long = refl }

behind_fine : is_fine (lines_bytes (set (codes "more") 0x80000008 ∷ set (codes "go") 0x80000038 ∷ set (codes "work") 0x8000003c ∷ []) all_sets 0x80000068 20 lines_behind) ≡ true
unfolding lines_behind bytes_of
behind_fine = refl

behind_sets : sets_of 0x80000068 lines_behind ≡ set (codes "round") 0x800000a8 ∷ set (codes "touch") 0x80000108 ∷ set (codes "wait") 0x80000150 ∷ set (codes "digit") 0x80000178 ∷ set (codes "small") 0x80000198 ∷ set (codes "halt") 0x800001e8 ∷ set (codes "total") 0x80008000 ∷ set (codes "ended") 0x80008008 ∷ set (codes "root") 0x80010000 ∷ []
unfolding lines_behind
behind_sets = refl

behind_place : place_after 0x80000068 lines_behind ≡ 0x80010018
unfolding lines_behind
behind_place = refl

behind_long : length lines_behind ≡ 76
unfolding lines_behind
behind_long = refl

behind_segment : (number : ℕ) → Segment (set (codes "more") 0x80000008 ∷ set (codes "go") 0x80000038 ∷ set (codes "work") 0x8000003c ∷ []) 0x80000060 19 (rounds_line number ∷ lines_behind) (set (codes "round") 0x800000a8 ∷ set (codes "touch") 0x80000108 ∷ set (codes "wait") 0x80000150 ∷ set (codes "digit") 0x80000178 ∷ set (codes "small") 0x80000198 ∷ set (codes "halt") 0x800001e8 ∷ set (codes "total") 0x80008000 ∷ set (codes "ended") 0x80008008 ∷ set (codes "root") 0x80010000 ∷ []) 0x80010018 77
behind_segment number =
    let d = rounds_does all_sets 0x80000060 number (omega arith) in
    record {
      fine = fine_then (set (codes "more") 0x80000008 ∷ set (codes "go") 0x80000038 ∷ set (codes "work") 0x8000003c ∷ []) all_sets 0x80000060 19 (rounds_line number) 8 lines_behind d behind_fine;
      sets = sets_then all_sets 0x80000060 (rounds_line number) 8 lines_behind d ∙ behind_sets;
      ends = ap (λ p. place_after p lines_behind) (place_then all_sets 0x80000060 (rounds_line number) 8 d) ∙ behind_place;
      long = ap suc behind_long;
    }

abbrev program_sets : List Set
program_sets = set (codes "more") 0x80000008 ∷ set (codes "go") 0x80000038 ∷ set (codes "work") 0x8000003c ∷ set (codes "round") 0x800000a8 ∷ set (codes "touch") 0x80000108 ∷ set (codes "wait") 0x80000150 ∷ set (codes "digit") 0x80000178 ∷ set (codes "small") 0x80000198 ∷ set (codes "halt") 0x800001e8 ∷ set (codes "total") 0x80008000 ∷ set (codes "ended") 0x80008008 ∷ set (codes "root") 0x80010000 ∷ []

first_org : Segment program_sets 0x80010018 96 (codes ".org 0x80011000" ∷ []) [] 0x80011000 1
unfolding bytes_of
first_org = record { fine = refl; sets = refl; ends = refl; long = refl }

first_entries : Segment program_sets 0x80011000 97 (entries 0x20004801 0x400 16) [] 0x80011080 16
first_entries = record {
  fine = entries_fine program_sets all_sets 0x80011000 97 0x20004801 0x400 16 (omega arith) (omega arith);
  sets = entries_sets 0x80011000 0x20004801 0x400 16 (omega arith) (omega arith);
  ends = entries_place 0x80011000 0x20004801 0x400 16 (omega arith) (omega arith);
  long = entries_long 0x20004801 0x400 16;
}

low_lines : List (List ℕ)
low_lines = codes ".dword 0x20008801" ∷ codes ".org 0x80012000" ∷ codes "low: .dword 0" ∷ codes ".org 0x80022000" ∷ []

low_segment : Segment program_sets 0x80011080 113 low_lines (set (codes "low") 0x80012000 ∷ []) 0x80022000 4
unfolding low_lines bytes_of
low_segment = record { fine = refl; sets = refl; ends = refl; long = refl }

second_entries : Segment (set (codes "more") 0x80000008 ∷ set (codes "go") 0x80000038 ∷ set (codes "work") 0x8000003c ∷ set (codes "round") 0x800000a8 ∷ set (codes "touch") 0x80000108 ∷ set (codes "wait") 0x80000150 ∷ set (codes "digit") 0x80000178 ∷ set (codes "small") 0x80000198 ∷ set (codes "halt") 0x800001e8 ∷ set (codes "total") 0x80008000 ∷ set (codes "ended") 0x80008008 ∷ set (codes "root") 0x80010000 ∷ set (codes "low") 0x80012000 ∷ []) 0x80022000 117 (entries 0x200180c7 0x400 64) [] 0x80022200 64
second_entries = record {
  fine = entries_fine _ all_sets 0x80022000 117 0x200180c7 0x400 64 (omega arith) (omega arith);
  sets = entries_sets 0x80022000 0x200180c7 0x400 64 (omega arith) (omega arith);
  ends = entries_place 0x80022000 0x200180c7 0x400 64 (omega arith) (omega arith);
  long = entries_long 0x200180c7 0x400 64;
}

frame_lines : List (List ℕ)
frame_lines = codes ".org 0x80030000" ∷ codes "frames: .dword 3" ∷ codes ".org 0x80031000" ∷ codes ".dword 5" ∷ []

frame_segment : Segment (set (codes "more") 0x80000008 ∷ set (codes "go") 0x80000038 ∷ set (codes "work") 0x8000003c ∷ set (codes "round") 0x800000a8 ∷ set (codes "touch") 0x80000108 ∷ set (codes "wait") 0x80000150 ∷ set (codes "digit") 0x80000178 ∷ set (codes "small") 0x80000198 ∷ set (codes "halt") 0x800001e8 ∷ set (codes "total") 0x80008000 ∷ set (codes "ended") 0x80008008 ∷ set (codes "root") 0x80010000 ∷ set (codes "low") 0x80012000 ∷ []) 0x80022200 181 frame_lines (set (codes "frames") 0x80030000 ∷ []) 0x80031008 4
unfolding frame_lines bytes_of
frame_segment = record { fine = refl; sets = refl; ends = refl; long = refl }

frames_segment : Segment all_sets 0x80031008 185 (frames 0x80032000 15) [] (place_after 0x80031008 (frames 0x80032000 15)) (length (frames 0x80032000 15))
frames_segment = record {
  fine = frames_fine all_sets all_sets 0x80031008 185 0x80032000 15 (omega arith) (omega arith);
  sets = frames_sets 0x80031008 0x80032000 15 (omega arith) (omega arith);
  ends = refl;
  long = refl;
}

-- the whole text
table_segment : Segment program_sets 0x80010018 96 table_lines (set (codes "low") 0x80012000 ∷ set (codes "frames") 0x80030000 ∷ []) (place_after 0x80031008 (frames 0x80032000 15)) (85 + (4 + length (frames 0x80032000 15)))
unfolding low_lines frame_lines
table_segment =
    let first = segments program_sets [] [] 0x80010018 0x80011000 0x80011080 96 1 16 (codes ".org 0x80011000" ∷ []) (entries 0x20004801 0x400 16) first_org first_entries in
    let second = segments program_sets (set (codes "low") 0x80012000 ∷ []) [] 0x80011080 0x80022000 0x80022200 113 4 64 low_lines (entries 0x200180c7 0x400 64) low_segment second_entries in
    let third = segments (set (codes "more") 0x80000008 ∷ set (codes "go") 0x80000038 ∷ set (codes "work") 0x8000003c ∷ set (codes "round") 0x800000a8 ∷ set (codes "touch") 0x80000108 ∷ set (codes "wait") 0x80000150 ∷ set (codes "digit") 0x80000178 ∷ set (codes "small") 0x80000198 ∷ set (codes "halt") 0x800001e8 ∷ set (codes "total") 0x80008000 ∷ set (codes "ended") 0x80008008 ∷ set (codes "root") 0x80010000 ∷ set (codes "low") 0x80012000 ∷ []) (set (codes "frames") 0x80030000 ∷ []) [] 0x80022200 0x80031008 (place_after 0x80031008 (frames 0x80032000 15)) 181 4 (length (frames 0x80032000 15)) frame_lines (frames 0x80032000 15) frame_segment frames_segment in
    let both_first = segments program_sets [] (set (codes "low") 0x80012000 ∷ []) 0x80010018 0x80011080 0x80022200 96 17 68 (codes ".org 0x80011000" ∷ entries 0x20004801 0x400 16) (low_lines ++ entries 0x200180c7 0x400 64) first second in
    segments program_sets (set (codes "low") 0x80012000 ∷ []) (set (codes "frames") 0x80030000 ∷ []) 0x80010018 0x80022200 (place_after 0x80031008 (frames 0x80032000 15)) 96 85 (4 + length (frames 0x80032000 15))
    ((codes ".org 0x80011000" ∷ entries 0x20004801 0x400 16) ++ (low_lines ++ entries 0x200180c7 0x400 64)) (frame_lines ++ frames 0x80032000 15) both_first third

whole : (number : ℕ) → Segment [] first_place 1 (gen_lines number) all_sets (place_after 0x80031008 (frames 0x80032000 15)) (95 + (85 + (4 + length (frames 0x80032000 15))))
whole number =
    let program = segments [] (set (codes "more") 0x80000008 ∷ set (codes "go") 0x80000038 ∷ set (codes "work") 0x8000003c ∷ []) (set (codes "round") 0x800000a8 ∷ set (codes "touch") 0x80000108 ∷ set (codes "wait") 0x80000150 ∷ set (codes "digit") 0x80000178 ∷ set (codes "small") 0x80000198 ∷ set (codes "halt") 0x800001e8 ∷ set (codes "total") 0x80008000 ∷ set (codes "ended") 0x80008008 ∷ set (codes "root") 0x80010000 ∷ []) first_place 0x80000060 0x80010018 1 18 77 lines_before (rounds_line number ∷ lines_behind) before_segment (behind_segment number) in
    segments [] program_sets (set (codes "low") 0x80012000 ∷ set (codes "frames") 0x80030000 ∷ []) first_place 0x80010018 (place_after 0x80031008 (frames 0x80032000 15)) 1 95 (85 + (4 + length (frames 0x80032000 15)))
    (lines_before ++ (rounds_line number ∷ lines_behind)) table_lines program table_segment

-- THE LINES OF THE TEXT

-- each byte stands within a line
fed : (lines : List (List ℕ)) → list_all (list_all is_listed_byte) lines ≡ true → lines_of (with_feeds lines) ≡ lines
fed [] e = refl
fed (line ∷ lines) e =
    let halves = both (list_all is_listed_byte line) (list_all (list_all is_listed_byte) lines) e in
    fed_line line (with_feeds lines) halves.0 ∙ ap (λ l. line ∷ l) (fed lines halves.1)

lines_all : (xs ys : List (List ℕ)) → list_all (list_all is_listed_byte) xs ≡ true → list_all (list_all is_listed_byte) ys ≡ true → list_all (list_all is_listed_byte) (xs ++ ys) ≡ true
lines_all xs ys e f = list_all-append (list_all is_listed_byte) xs ys ∙ rw (e, f) refl

hex_line : (name : List ℕ) (n : ℕ) → list_all is_listed_byte name ≡ true → n < 2 ^ 64 → list_all is_listed_byte (hex_number name n) ≡ true
hex_line name n e h =
    let text : list_all is_listed_byte (hex_text n) ≡ true = pass_on is_text_byte is_listed_byte text_listed (hex_text n) (text_of_piece (hex_text n) (short_hex_piece n h).all) in
    subst (λ l. list_all is_listed_byte l ≡ true) (sym (append_assoc name (codes " 0x") (digits 16 false n))) (all_passes is_listed_byte name (32 ∷ hex_text n) e (rw text refl))

entries_all : (first apart n : ℕ) → first + apart * n < 2 ^ 64 → list_all (list_all is_listed_byte) (entries first apart n) ≡ true
unfolding entries
entries_all first apart zero few = refl
entries_all first apart (suc n) few =
    let more : apart * suc n ≡ apart + apart * n = omega arith in
    rw (hex_line (codes ".dword") first refl (omega (arith, few)), entries_all (first + apart) apart n (omega (arith, few, more))) refl

frames_all : (first n : ℕ) → first + 8192 * n < 2 ^ 64 → list_all (list_all is_listed_byte) (frames first n) ≡ true
unfolding frames
frames_all first zero few = refl
frames_all first (suc n) few =
    rw (hex_line (codes ".org") first refl (omega (arith, few)), hex_line (codes ".org") (first + 4096) refl (omega (arith, few)), frames_all (first + 8192) n (omega (arith, few))) refl

before_all : list_all (list_all is_listed_byte) lines_before ≡ true
unfolding lines_before
before_all = refl

behind_all : list_all (list_all is_listed_byte) lines_behind ≡ true
unfolding lines_behind
behind_all = refl

rounds_all : (number : ℕ) → list_all is_listed_byte (rounds_line number) ≡ true
rounds_all number =
    let few = few_rounds number in
    let h : rounds number < 2 ^ 64 = omega (arith, few) in
    all_passes is_listed_byte (codes "li s2, ") (decimal (rounds number)) refl
    (pass_on is_text_byte is_listed_byte text_listed (decimal (rounds number)) (text_of_piece (decimal (rounds number)) (decimal_piece (rounds number) h).all))

tables_all : list_all (list_all is_listed_byte) table_lines ≡ true
tables_all =
    let first = entries_all 0x20004801 0x400 16 (omega arith) in
    let second = entries_all 0x200180c7 0x400 64 (omega arith) in
    let third = frames_all 0x80032000 15 (omega arith) in
    lines_all ((codes ".org 0x80011000" ∷ entries 0x20004801 0x400 16) ++ (codes ".dword 0x20008801" ∷ codes ".org 0x80012000" ∷ codes "low: .dword 0" ∷ codes ".org 0x80022000" ∷ entries 0x200180c7 0x400 64))
    (codes ".org 0x80030000" ∷ codes "frames: .dword 3" ∷ codes ".org 0x80031000" ∷ codes ".dword 5" ∷ frames 0x80032000 15)
    (lines_all (codes ".org 0x80011000" ∷ entries 0x20004801 0x400 16) (codes ".dword 0x20008801" ∷ codes ".org 0x80012000" ∷ codes "low: .dword 0" ∷ codes ".org 0x80022000" ∷ entries 0x200180c7 0x400 64) (rw first refl) (rw second refl)) (rw third refl)

gen_all : (number : ℕ) → list_all (list_all is_listed_byte) (gen_lines number) ≡ true
gen_all number = lines_all (lines_before ++ (rounds_line number ∷ lines_behind)) table_lines (lines_all lines_before (rounds_line number ∷ lines_behind) before_all (rw (rounds_all number, behind_all) refl)) tables_all

fine_is_ok : (found : Result (List ℕ) Bad) → is_fine found ≡ true → IsOk (file_or found)
fine_is_ok (Ok bytes) e = refl
fine_is_ok (Err bad) e = cc

pub assembles : (number : ℕ) → IsOk (assembly_of (gen_text number))
unfolding assembly_of image_of_text gen_text
assembles number =
    let lines : lines_of (with_feeds (gen_lines number)) ≡ gen_lines number = fed (gen_lines number) (gen_all number) in
    let w = whole number in
    subst (λ ls. IsOk (file_or (lines_bytes [] (sets_of first_place ls) first_place 1 ls))) (sym lines)
    (subst (λ s. IsOk (file_or (lines_bytes [] s first_place 1 (gen_lines number)))) (sym w.sets) (fine_is_ok (lines_bytes [] all_sets first_place 1 (gen_lines number)) w.fine))
