-- The lines of a listing, and the bytes of their texts.
use Rattle.std.proofs.Common.{◌≡◌, refl, ap, sym, subst, ◌∙◌, ℕ, ◌+◌, ◌-◌, ◌<◌, ◌≤◌, Bool, true, false, List, [], ◌∷◌, ◌++◌, length, map, drop, arith}
use Rattle.std.specs.Prelude.{◌%◌, ◌^◌, ◌==◌, not, nat_le, nat_lt, if◌then◌else◌, Option, Some, None, Result, Ok, codes, slice_range, All}
use Rattle.std.specs.List.{list_all}
use Rattle.std.specs.Fmt.{decimal}
use Rattle.std.proofs.lemmas.List.{append_assoc, append-nil}
use Rattle.std.proofs.lemmas.List.Elements.{All-drop, All-take}
use Rattle.rv64_decode.specs.declared.instruction.Instr.{Instr}
use Rattle.rv64_decode.specs.Encoding.{Decodes, encoding_of}
use Rattle.text_lines.specs.Lines.{lines_of}
use Rattle.asm_text.specs.declared.faults.Fault.{Fault}
use Rattle.asm_text.specs.Text.{is_colon, begins_with}
use Rattle.asm_text.specs.declared.numbers.Number.{Number}
use Rattle.asm_text.specs.Operand.{is_hex_digit, number, numbers_of, with_number}
use Rattle.asm_text.specs.Action.{Action, Data, line_of, action_of, data_of}
use Rattle.rv_asm.specs.declared.operands.Parts.{Parts}
use Rattle.rv_asm.specs.Parts.{parts_of}
use Rattle.rv_asm.specs.Listing.{address, hex, instr_text, parts_text, word_line, rest_line, numbers_text}
use Rattle.rv_asm.specs.Assembly.{bytes_of, one_word_of, room_of, data_bytes, number_bytes, line_action, last_place, line_bytes, lines_bytes, bytes_then, set_by, sets_of, place_behind}
use Rattle.asm_laws.specs.Texts.{is_dot, behind_address, text_in, with_feeds}
use Rattle.asm_laws.proofs.Lists.{head_passes, tail_passes, all_passes, pass_on, prefix_to}
use Rattle.asm_laws.proofs.Numbers.{hex_all, hex_length, hex_number_read, decimal_number}
use Rattle.asm_laws.proofs.Lines.{is_text_byte, line_says}
use Rattle.asm_laws.proofs.Forms.{Says, five_lists, Operated, one_operated, two_operated, three_operated, decimal_piece, word_piece, hex_word, line_with}
use Rattle.asm_laws.proofs.Instructions.{SaysParts, says_instr}
use Rattle.asm_laws.proofs.Slices.{slice_none, slice_parts, length_slice, drop_past}

-- LINES

not_feed : (c : ℕ) → is_text_byte c ≡ true → (c == 10) ≡ false
not_feed c e = grind (arith, e)

not_return : (c : ℕ) → is_text_byte c ≡ true → (c == 13) ≡ false
not_return c e = grind (arith, e)

-- a byte of a listing's line: `:` stands there too
abbrev pub is_listed_byte : ℕ → Bool
is_listed_byte c = nat_le 32 c

listed_no_feed : (c : ℕ) → is_listed_byte c ≡ true → (c == 10) ≡ false
listed_no_feed c e = grind (arith, e)

listed_no_return : (c : ℕ) → is_listed_byte c ≡ true → (c == 13) ≡ false
listed_no_return c e = grind (arith, e)

pub text_listed : (c : ℕ) → is_text_byte c ≡ true → is_listed_byte c ≡ true
text_listed c e = grind (arith, e)

pub fed_line : (xs ys : List ℕ) → list_all is_listed_byte xs ≡ true → lines_of (xs ++ 10 ∷ ys) ≡ xs ∷ lines_of ys
fed_line [] ys e = refl
fed_line (x ∷ xs) ys e =
    let here = head_passes is_listed_byte x xs e in
    rw (listed_no_feed x here, listed_no_return x here, fed_line xs ys (tail_passes is_listed_byte x xs e)) refl

-- what a line's text gives
pub record Gives (place : ℕ) (text bytes : List ℕ) : Type 0 where
  pub action : Result Action Fault
  pub line : line_of text ≡ record { label = None; action = action }
  pub room : room_of place action ≡ length bytes
  pub gives : line_action [] place action ≡ Ok bytes
  pub plain : list_all is_text_byte text ≡ true

says_gives : (place : ℕ) (text : List ℕ) (instr : Instr) → Says place text instr → Gives place text (bytes_of 4 (encoding_of instr))
unfolding bytes_of
says_gives place text instr s = record { action = _; line = s.line; room = refl; gives = ap one_word_of s.instr_is; plain = s.bytes }

-- a word without a form
word_gives : (place n : ℕ) → n < 2 ^ 32 → Gives place (codes ".word 0x" ++ hex 8 n) (bytes_of 4 n)
unfolding bytes_of
word_gives place n h =
    let piece = word_piece n in
    let o : Operated (32 ∷ hex_word n) (hex_word n ∷ []) = one_operated (hex_word n) piece in
    let within : nat_le n (2 ^ 32 - 1) ≡ true = grind (arith, h) in
    record {
      action = Ok (Data 4 (number false n ∷ []));
      line = line_says (codes ".word") (32 ∷ hex_word n) refl refl o.behind o.bytes
          ∙ ap line_with (ap (λ l. action_of (codes ".word") l) o.are ∙ ap (data_of 4) (ap (λ m. with_number m (Some [])) (hex_number_read n h)));
      room = refl;
      gives = rw within refl;
      plain = all_passes is_text_byte (codes ".word") (32 ∷ hex_word n) refl o.bytes;
    }

-- the text of a word's line, whatever it decodes as
parts_give : (place word : ℕ) (instr : Instr) (parts : Option Parts) → word < 2 ^ 32 → encoding_of instr ≡ word → SaysParts place parts instr
    → Gives place (parts_text place word parts) (bytes_of 4 word)
parts_give place word instr None h e says = word_gives place word h
parts_give place word instr (Some parts) h e says =
    subst (λ w. Gives place (parts_text place word (Some parts)) (bytes_of 4 w)) e (says_gives place (parts_text place word (Some parts)) instr says)

pub instr_gives : (place word : ℕ) (instr : Option Instr) → 2 ^ 31 ≤ place → place ≤ 2 ^ 32 → word < 2 ^ 32 → Decodes word instr → Gives place (instr_text place word instr) (bytes_of 4 word)
instr_gives place word None above below h decodes = word_gives place word h
instr_gives place word (Some instr) above below h decodes = parts_give place word instr (parts_of instr) h decodes.1 (says_instr place above below instr decodes.0)

-- a rest of one to three bytes
byte_bytes : (n : ℕ) → n < 256 → number_bytes 1 (number false n) ≡ Ok (n ∷ [])
unfolding bytes_of
byte_bytes n h =
    let within : nat_le n 255 ≡ true = grind (arith, h) in
    let same : n % 256 ≡ n = omega (arith, h) in
    rw (within, same) refl

byte_wide : (n : ℕ) → n < 256 → n < 2 ^ 64
byte_wide n h = omega (arith, h)

bytes_line : (place : ℕ) (rest : List ℕ) (operands : List (List ℕ)) (numbers : List Number) (bytes : List ℕ) → Operated rest operands
    → numbers_of operands ≡ Some numbers → data_bytes 1 numbers ≡ Ok bytes → room_of place (Ok (Data 1 numbers)) ≡ length bytes → Gives place (codes ".byte" ++ rest) bytes
bytes_line place rest operands numbers bytes o are made room = record {
  action = Ok (Data 1 numbers);
  line = line_says (codes ".byte") rest refl refl o.behind o.bytes ∙ ap line_with (ap (λ l. action_of (codes ".byte") l) o.are ∙ ap (data_of 1) are);
  room = room;
  gives = made;
  plain = all_passes is_text_byte (codes ".byte") rest refl o.bytes;
}

pub rest_gives : (place : ℕ) (bytes : List ℕ) → All (λ byte. byte < 256) bytes → 0 < length bytes → length bytes < 4 → Gives place (codes ".byte " ++ numbers_text bytes) bytes
rest_gives place [] below some few = absurd (omega (arith, some))
rest_gives place (a ∷ []) below some few =
    let ha : a < 256 = below 0 0 (omega arith) in
    let o = one_operated (decimal a) (decimal_piece a (byte_wide a ha)) in
    rw (append-nil (decimal a)) (bytes_line place (32 ∷ decimal a) _ (number false a ∷ []) (a ∷ []) o (rw (decimal_number a (byte_wide a ha)) refl) (rw (byte_bytes a ha) refl) refl)
rest_gives place (a ∷ b ∷ []) below some few =
    let ha : a < 256 = below 0 0 (omega arith) in
    let hb : b < 256 = below 1 0 (omega arith) in
    let o = two_operated (decimal a) (decimal b) (decimal_piece a (byte_wide a ha)) (decimal_piece b (byte_wide b hb)) in
    rw (append-nil (decimal b)) (bytes_line place (32 ∷ (decimal a ++ 44 ∷ 32 ∷ decimal b)) _ (number false a ∷ number false b ∷ []) (a ∷ b ∷ []) o
    (rw (decimal_number a (byte_wide a ha), decimal_number b (byte_wide b hb)) refl) (rw (byte_bytes a ha, byte_bytes b hb) refl) refl)
rest_gives place (a ∷ b ∷ c ∷ []) below some few =
    let ha : a < 256 = below 0 0 (omega arith) in
    let hb : b < 256 = below 1 0 (omega arith) in
    let hc : c < 256 = below 2 0 (omega arith) in
    let o = three_operated (decimal a) (decimal b) (decimal c) (decimal_piece a (byte_wide a ha)) (decimal_piece b (byte_wide b hb)) (decimal_piece c (byte_wide c hc)) in
    rw (append-nil (decimal c)) (bytes_line place (32 ∷ (decimal a ++ 44 ∷ 32 ∷ (decimal b ++ 44 ∷ 32 ∷ decimal c))) _ (number false a ∷ number false b ∷ number false c ∷ []) (a ∷ b ∷ c ∷ []) o
    (rw (decimal_number a (byte_wide a ha), decimal_number b (byte_wide b hb), decimal_number c (byte_wide c hc)) refl) (rw (byte_bytes a ha, byte_bytes b hb, byte_bytes c hc) refl) refl)
rest_gives place (a ∷ b ∷ c ∷ d ∷ ds) below some few = absurd (omega (arith, few))

-- WHAT STANDS BEHIND AN ADDRESS

hex_listed : (c : ℕ) → is_hex_digit c ≡ true → is_listed_byte c ≡ true
hex_listed c e = grind (arith, e)

hex_no_colon : (c : ℕ) → is_hex_digit c ≡ true → not (is_colon c) ≡ true
hex_no_colon c e = grind (arith, e)

hex_no_dot : (c : ℕ) → is_hex_digit c ≡ true → is_dot c ≡ false
hex_no_dot c e = grind (arith, e)

pub address_all : (place : ℕ) → list_all is_hex_digit (address place) ≡ true
address_all place = by_width (nat_lt place (2 ^ 32))
  where
    by_width : (b : Bool) → list_all is_hex_digit (if b then hex 8 place else hex 16 place) ≡ true
    by_width true = hex_all 8 place
    by_width false = hex_all 16 place

behind_is : (a rest : List ℕ) → list_all is_hex_digit a ≡ true → behind_address (a ++ 58 ∷ 32 ∷ rest) ≡ rest
behind_is a rest e =
    ap (λ n. drop (n + 2) (a ++ 58 ∷ 32 ∷ rest)) (prefix_to (λ c. not (is_colon c)) a 58 (32 ∷ rest) (pass_on is_hex_digit (λ c. not (is_colon c)) hex_no_colon a e) refl)
    ∙ drop_past a (58 ∷ 32 ∷ rest) 2

no_dot : (xs ys : List ℕ) → list_all is_hex_digit xs ≡ true → 0 < length xs → begins_with is_dot (xs ++ ys) ≡ false
no_dot [] ys e h = absurd (omega (arith, h))
no_dot (x ∷ xs) ys e h = hex_no_dot x (head_passes is_hex_digit x xs e)

abbrev chosen : List ℕ → List ℕ
chosen rest = if begins_with is_dot rest then rest else drop 9 rest

pub text_of_word : (a text : List ℕ) (word : ℕ) → list_all is_hex_digit a ≡ true → text_in (a ++ 58 ∷ 32 ∷ (hex 8 word ++ 32 ∷ text)) ≡ text
text_of_word a text word e =
    let rest = hex 8 word ++ 32 ∷ text in
    let size : length (hex 8 word) ≡ 8 = hex_length 8 word in
    let some : 0 < length (hex 8 word) = omega (arith, size) in
    let nine : 9 ≡ length (hex 8 word) + 1 = omega (arith, size) in
    ap chosen (behind_is a rest e) ∙ ap (λ b. if b then rest else drop 9 rest) (no_dot (hex 8 word) (32 ∷ text) (hex_all 8 word) some)
    ∙ ap (λ n. drop n rest) nine ∙ drop_past (hex 8 word) (32 ∷ text) 1

pub text_of_rest : (a numbers : List ℕ) → list_all is_hex_digit a ≡ true → text_in (a ++ 58 ∷ 32 ∷ (codes ".byte " ++ numbers)) ≡ codes ".byte " ++ numbers
text_of_rest a numbers e = ap chosen (behind_is a (codes ".byte " ++ numbers) e)

-- A LISTING

-- the lines of a listing, as texts, with what they give
pub record Listed (file : List ℕ) (at len place : ℕ) (listing : List ℕ) : Type 0 where
  pub texts : List (List ℕ)
  pub are : map text_in (lines_of listing) ≡ texts
  pub fed : lines_of (with_feeds texts) ≡ texts
  pub sets : sets_of place texts ≡ []
  pub gives : (number : ℕ) → lines_bytes [] [] place number texts ≡ Ok (slice_range file at (at + len))

-- a line in front of others
line_made : (place count : ℕ) (action : Result Action Fault) (bytes later : List ℕ) (texts : List (List ℕ)) → room_of place action ≡ length bytes → line_action [] place action ≡ Ok bytes
    → place + length bytes ≤ last_place → lines_bytes [] [] (place + length bytes) (count + 1) texts ≡ Ok later
    → bytes_then count (line_bytes [] [] place (line_with action)) (lines_bytes [] [] (place_behind place (line_with action)) (count + 1) texts) ≡ Ok (bytes ++ later)
line_made place count action bytes later texts room gives within rest =
    let ends : nat_le (place + length bytes) last_place ≡ true = grind (arith, within) in
    rw (room, ends, gives, rest) refl

line_then : (place count : ℕ) (text bytes later : List ℕ) (texts : List (List ℕ)) → Gives place text bytes → place + length bytes ≤ last_place
    → lines_bytes [] [] (place + length bytes) (count + 1) texts ≡ Ok later → lines_bytes [] [] place count (text ∷ texts) ≡ Ok (bytes ++ later)
line_then place count text bytes later texts g within rest =
    subst (λ l. bytes_then count (line_bytes [] [] place l) (lines_bytes ([] ++ set_by place l.label) [] (place_behind place l) (count + 1) texts) ≡ Ok (bytes ++ later)) (sym g.line)
    (line_made place count g.action bytes later texts g.room g.gives within rest)

sets_made : (place : ℕ) (action : Result Action Fault) (bytes : List ℕ) (texts : List (List ℕ)) → room_of place action ≡ length bytes → place + length bytes ≤ last_place
    → sets_of (place + length bytes) texts ≡ [] → sets_of (place_behind place (line_with action)) texts ≡ []
sets_made place action bytes texts room within none =
    let ends : nat_le (place + length bytes) last_place ≡ true = grind (arith, within) in
    rw (room, ends) none

sets_then : (place : ℕ) (text bytes : List ℕ) (texts : List (List ℕ)) → Gives place text bytes → place + length bytes ≤ last_place
    → sets_of (place + length bytes) texts ≡ [] → sets_of place (text ∷ texts) ≡ []
sets_then place text bytes texts g within none =
    subst (λ l. set_by place l.label ++ sets_of (place_behind place l) texts ≡ []) (sym g.line) (sets_made place g.action bytes texts g.room within none)

-- a line of a listing in front of others: its text gives the first bytes
pub listed_then : (file : List ℕ) (at k n place : ℕ) (line text listing : List ℕ) → at + (k + n) ≤ length file → place + k ≤ last_place
    → list_all is_listed_byte line ≡ true → text_in line ≡ text → Gives place text (slice_range file at (at + k)) → Listed file (at + k) n (place + k) listing
    → Listed file at (k + n) place (line ++ 10 ∷ listing)
listed_then file at k n place line text listing in_file within all is g l =
    let size : length (slice_range file at (at + k)) ≡ k = length_slice file at k (omega (arith, in_file)) in
    let near : place + length (slice_range file at (at + k)) ≤ last_place = omega (arith, size, within) in
    record {
      texts = text ∷ l.texts;
      are = rw (fed_line line listing all, is, l.are) refl;
      fed = fed_line text (with_feeds l.texts) (pass_on is_text_byte is_listed_byte text_listed text g.plain) ∙ ap (λ ts. text ∷ ts) l.fed;
      sets = sets_then place text (slice_range file at (at + k)) l.texts g near (subst (λ m. sets_of (place + m) l.texts ≡ []) (sym size) l.sets);
      gives = λ count. line_then place count text (slice_range file at (at + k)) (slice_range file (at + k) (at + k + n)) l.texts g near
          (subst (λ m. lines_bytes [] [] (place + m) (count + 1) l.texts ≡ Ok (slice_range file (at + k) (at + k + n))) (sym size) (l.gives (count + 1)))
          ∙ ap Ok (sym (slice_parts file at k n (omega (arith, in_file))));
    }

pub none_listed : (file : List ℕ) (at place : ℕ) → Listed file at 0 place []
none_listed file at place = record { texts = []; are = refl; fed = refl; sets = refl; gives = λ count. ap Ok (sym (slice_none file at)) }

pub slice_bytes : (file : List ℕ) (at k : ℕ) → All (λ byte. byte < 256) file → at + k ≤ length file → All (λ byte. byte < 256) (slice_range file at (at + k))
slice_bytes file at k bytes h = All-take (λ byte. byte < 256) (at + k - at) (drop at file) (All-drop (λ byte. byte < 256) at file bytes)

pub word_line_is : (place word : ℕ) (instr : Option Instr) (listing : List ℕ)
    → word_line place word instr ++ listing ≡ (address place ++ 58 ∷ 32 ∷ (hex 8 word ++ 32 ∷ instr_text place word instr)) ++ 10 ∷ listing
word_line_is place word instr listing =
    let text = instr_text place word instr in
    append_assoc (address place ++ codes ": " ++ hex 8 word ++ codes " " ++ text) (codes "\n") listing
    ∙ ap (λ l. l ++ 10 ∷ listing) (five_lists (address place) (codes ": ") (hex 8 word) (codes " ") text)

pub rest_line_is : (place : ℕ) (bytes : List ℕ) → rest_line place bytes ≡ (address place ++ 58 ∷ 32 ∷ (codes ".byte " ++ numbers_text bytes)) ++ 10 ∷ []
rest_line_is place bytes = ap (λ l. l ++ 10 ∷ []) (append_assoc (address place) (codes ": .byte ") (numbers_text bytes))

hex_line : (xs : List ℕ) → list_all is_hex_digit xs ≡ true → list_all is_listed_byte xs ≡ true
hex_line xs e = pass_on is_hex_digit is_listed_byte hex_listed xs e

pub word_line_all : (place word : ℕ) (text : List ℕ) → list_all is_text_byte text ≡ true → list_all is_listed_byte (address place ++ 58 ∷ 32 ∷ (hex 8 word ++ 32 ∷ text)) ≡ true
word_line_all place word text e =
    let texts : list_all is_listed_byte text ≡ true = pass_on is_text_byte is_listed_byte text_listed text e in
    let words : list_all is_listed_byte (hex 8 word ++ 32 ∷ text) ≡ true = all_passes is_listed_byte (hex 8 word) (32 ∷ text) (hex_line (hex 8 word) (hex_all 8 word)) (rw texts refl) in
    all_passes is_listed_byte (address place) (58 ∷ 32 ∷ (hex 8 word ++ 32 ∷ text)) (hex_line (address place) (address_all place)) (rw words refl)

pub rest_line_all : (place : ℕ) (text : List ℕ) → list_all is_text_byte text ≡ true → list_all is_listed_byte (address place ++ 58 ∷ 32 ∷ text) ≡ true
rest_line_all place text e =
    let texts : list_all is_listed_byte text ≡ true = pass_on is_text_byte is_listed_byte text_listed text e in
    all_passes is_listed_byte (address place) (58 ∷ 32 ∷ text) (hex_line (address place) (address_all place)) (rw texts refl)
