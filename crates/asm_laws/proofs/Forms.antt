-- Each form of operands, as a listing writes it and an assembler reads it.
use Rattle.std.proofs.Common.{◌≡◌, refl, ap, sym, subst, ◌∙◌, ℕ, suc, ◌-◌, ◌<◌, Bool, true, false, ◌&&◌, List, [], ◌∷◌, ◌++◌, length, take, drop, arith}
use Rattle.std.specs.Prelude.{◌^◌, ℤ, pos, negsuc, not, nat_le, if◌then◌else◌, bytes_eq, Some, None, Result, Ok, codes}
use Rattle.std.specs.List.{list_all, prefix_len}
use Rattle.std.proofs.Math.Seq.{drop-append_seam}
use Rattle.std.specs.Fmt.{digits, decimal, signed_decimal}
use Rattle.std.proofs.lemmas.List.{append_assoc}
use Rattle.std.specs.Char.{is_ascii_digit}
use Rattle.rv64_decode.specs.declared.instruction.Instr.{Instr}
use Rattle.rv64_decode.specs.Format.{IsSigned}
use Rattle.asm_text.specs.declared.mnemonic.Mnemonic.{Mnemonic}
use Rattle.asm_text.specs.declared.mnemonic.Coded.{Coded}
use Rattle.asm_text.specs.declared.faults.Fault.{Fault}
use Rattle.asm_text.specs.Table.{alone, immediate, shift, registers, pages, csr, csr_value, reserve, atomic, name_of, shape_of}
use Rattle.asm_text.specs.Operand.{Value, Reg, Num, is_empty, number, register_of, values_of, is_hex_digit, signed, csr_number_of, base_of, before_close, from_close, is_close}
use Rattle.asm_text.specs.Action.{Line, line_of, action_of, Action, Makes, coded, form_of, kinds_of, makes}
use Rattle.asm_text.specs.Text.{operands_of}
use Rattle.rv_asm.specs.Listing.{hex, order_text, operand_text}
use Rattle.rv_asm.specs.Assembly.{instr_of, number_within}
use Rattle.rv_asm.specs.declared.operands.Operands.{Operands}
use Rattle.asm_laws.proofs.Lists.{all_passes, pass_on, prefix_to, front}
use Rattle.asm_laws.proofs.Pieces.{is_piece_byte, AllPieces, one_operand, two_operands, three_operands}
use Rattle.asm_laws.proofs.Numbers.{as_number, not_empty, decimal_some, decimal_all, decimal_number, signed_number, short_hex_all, short_hex_number, small_pos, small_neg, hex_all}
use Rattle.asm_laws.proofs.Registers.{register_read}
use Rattle.asm_laws.proofs.Names.{NameSays}
use Rattle.asm_laws.proofs.Lines.{is_text_byte, piece_in_text, Behind, nothing, more, line_says}

-- a text says this instruction at a place
pub record Says (place : ℕ) (text : List ℕ) (instr : Instr) : Type 0 where
  pub made : Coded
  pub values : List Value
  pub line : line_of text ≡ record { label = None; action = Ok (Makes made values) }
  pub instr_is : instr_of [] place (shape_of made.mnemonic) made.aq made.rl values ≡ Ok instr
  pub bytes : list_all is_text_byte text ≡ true

abbrev pub line_with : Result Action Fault → Line
line_with action = record { label = None; action = action }

pub says : (place : ℕ) (m : Mnemonic) (aq rl : Bool) (rest : List ℕ) (operands : List (List ℕ)) (values : List Value) (instr : Instr)
    → NameSays m aq rl → Behind rest → list_all is_text_byte rest ≡ true → operands_of rest ≡ operands
    → values_of (kinds_of (form_of (shape_of m))) operands ≡ Some values → instr_of [] place (shape_of m) aq rl values ≡ Ok instr
    → Says place (name_of m ++ order_text aq rl ++ rest) instr
says place m aq rl rest operands values instr named behind all are have is =
    let name = name_of m ++ order_text aq rl in
    record {
      made = coded aq rl m;
      values = values;
      line = line_says name rest named.some named.bytes behind all ∙ ap line_with (ap (λ l. action_of name l) are ∙ named.said operands ∙ ap (makes (coded aq rl m)) have);
      instr_is = is;
      bytes = all_passes is_text_byte name rest (pass_on is_piece_byte is_text_byte piece_in_text name named.bytes) all;
    }

-- OPERANDS

pub record IsPiece (p : List ℕ) : Type 0 where
  pub some : is_empty p ≡ false
  pub all : AllPieces p

digit_piece : (c : ℕ) → is_ascii_digit c ≡ true → is_piece_byte c ≡ true
digit_piece c e = grind (arith, e)

hex_piece : (c : ℕ) → is_hex_digit c ≡ true → is_piece_byte c ≡ true
hex_piece c e = grind (arith, e)

piece_behind : (p ps : List ℕ) → AllPieces p → IsPiece ps → IsPiece (p ++ ps)
piece_behind [] ps e q = q
piece_behind (c ∷ cs) ps e q = record { some = refl; all = all_passes is_piece_byte (c ∷ cs) ps e q.all }

pub front_piece : (p ps : List ℕ) → IsPiece p → AllPieces ps → IsPiece (p ++ ps)
front_piece [] ps q e = absurd (no q.some)
  where
    no : true ≡ false → ⊥
    no e = cc
front_piece (c ∷ cs) ps q e = record { some = refl; all = all_passes is_piece_byte (c ∷ cs) ps q.all e }

pub decimal_piece : (n : ℕ) → n < 2 ^ 64 → IsPiece (decimal n)
decimal_piece n h = record { some = not_empty (decimal n) (decimal_some n h); all = pass_on is_ascii_digit is_piece_byte digit_piece (decimal n) (decimal_all n h) }

hex_digits_piece : (n : ℕ) → n < 2 ^ 64 → AllPieces (digits 16 false n)
hex_digits_piece n h = pass_on is_hex_digit is_piece_byte hex_piece (digits 16 false n) (short_hex_all n h)

abbrev pub hex_text : ℕ → List ℕ
hex_text n = 48 ∷ 120 ∷ digits 16 false n

pub short_hex_piece : (n : ℕ) → n < 2 ^ 64 → IsPiece (hex_text n)
short_hex_piece n h = record { some = refl; all = rw (hex_digits_piece n h) refl }

-- a word in hexadecimal digits
abbrev pub hex_word : ℕ → List ℕ
hex_word n = 48 ∷ 120 ∷ hex 8 n

pub word_piece : (n : ℕ) → IsPiece (hex_word n)
word_piece n = record { some = refl; all = rw (pass_on is_hex_digit is_piece_byte hex_piece (hex 8 n) (hex_all 8 n)) refl }

-- a register
abbrev pub reg : ℕ → List ℕ
reg n = 120 ∷ decimal n

pub small : (n : ℕ) → n < 32 → n < 2 ^ 64
small n h = omega (arith, h)

pub reg_piece : (n : ℕ) → n < 32 → IsPiece (reg n)
reg_piece n h = record { some = refl; all = rw ((decimal_piece n (small n h)).all) refl }

pub signed_piece : (z : ℤ) → IsSigned 12 z → IsPiece (signed_decimal z)
signed_piece (pos n) h = let le = small_pos n h in decimal_piece n (omega (arith, le))
signed_piece (negsuc n) h = let le = small_neg n h in record { some = refl; all = rw ((decimal_piece (suc n) (omega (arith, le))).all) refl }

-- what stands behind a name
pub record Operated (rest : List ℕ) (operands : List (List ℕ)) : Type 0 where
  pub are : operands_of rest ≡ operands
  pub behind : Behind rest
  pub bytes : list_all is_text_byte rest ≡ true

pub text_of_piece : (p : List ℕ) → AllPieces p → list_all is_text_byte p ≡ true
text_of_piece p e = pass_on is_piece_byte is_text_byte piece_in_text p e

pub nothing_operated : Operated [] []
nothing_operated = record { are = refl; behind = nothing; bytes = refl }

no_piece : {A : Type 0} → IsPiece [] → A
no_piece q = absurd (no q.some)
  where
    no : true ≡ false → ⊥
    no e = cc

pub one_operated : (p : List ℕ) → IsPiece p → Operated (32 ∷ p) (p ∷ [])
one_operated [] a = no_piece a
one_operated (c ∷ cs) a = record { are = one_operand c cs a.all; behind = more _; bytes = rw (text_of_piece (c ∷ cs) a.all) refl }

pub two_operated : (p q : List ℕ) → IsPiece p → IsPiece q → Operated (32 ∷ (p ++ 44 ∷ 32 ∷ q)) (p ∷ q ∷ [])
two_operated [] q a b = no_piece a
two_operated (c ∷ cs) [] a b = no_piece b
two_operated (c ∷ cs) (d ∷ ds) a b = record {
  are = two_operands c cs d ds a.all b.all;
  behind = more _;
  bytes = all_passes is_text_byte (32 ∷ c ∷ cs) (44 ∷ 32 ∷ d ∷ ds) (rw (text_of_piece (c ∷ cs) a.all) refl) (rw (text_of_piece (d ∷ ds) b.all) refl);
}

pub three_operated : (p q r : List ℕ) → IsPiece p → IsPiece q → IsPiece r → Operated (32 ∷ (p ++ 44 ∷ 32 ∷ (q ++ 44 ∷ 32 ∷ r))) (p ∷ q ∷ r ∷ [])
three_operated [] q r a b c = no_piece a
three_operated (x ∷ xs) [] r a b c = no_piece b
three_operated (x ∷ xs) (y ∷ ys) [] a b c = no_piece c
three_operated (x ∷ xs) (y ∷ ys) (z ∷ zs) a b c = record {
  are = three_operands x xs y ys z zs a.all b.all c.all;
  behind = more _;
  bytes = all_passes is_text_byte (32 ∷ x ∷ xs) (44 ∷ 32 ∷ ((y ∷ ys) ++ 44 ∷ 32 ∷ z ∷ zs)) (rw (text_of_piece (x ∷ xs) a.all) refl)
      (all_passes is_text_byte (44 ∷ 32 ∷ y ∷ ys) (44 ∷ 32 ∷ z ∷ zs) (rw (text_of_piece (y ∷ ys) b.all) refl) (rw (text_of_piece (z ∷ zs) c.all) refl));
}

-- FORMS

abbrev pub SaysOf : (place : ℕ) → Mnemonic → (aq rl : Bool) → Operands → Instr → Type 0
SaysOf place m aq rl operands instr = Says place (name_of m ++ order_text aq rl ++ operand_text place operands) instr

pub alone_form : (place : ℕ) (m : Mnemonic) (instr : Instr) → NameSays m false false → shape_of m ≡ alone instr → SaysOf place m false false Operands.Nothing instr
alone_form place m instr named e = says place m false false [] [] [] instr named nothing refl refl (rw e refl) (rw e refl)

-- operands as the listing's text puts them together
pub three_lists : (a s b : List ℕ) → a ++ s ++ b ≡ a ++ (s ++ b)
three_lists a s b = append_assoc a s b

pub four_lists : (a s b t : List ℕ) → a ++ s ++ b ++ t ≡ a ++ (s ++ (b ++ t))
four_lists a s b t = append_assoc (a ++ s) b t ∙ append_assoc a s (b ++ t)

pub five_lists : (a s b t c : List ℕ) → a ++ s ++ b ++ t ++ c ≡ a ++ (s ++ (b ++ (t ++ c)))
five_lists a s b t c = append_assoc (a ++ s ++ b) t c ∙ four_lists a s b (t ++ c)

pub six_lists : (a s b t c u : List ℕ) → a ++ s ++ b ++ t ++ c ++ u ≡ a ++ (s ++ (b ++ (t ++ (c ++ u))))
six_lists a s b t c u = append_assoc (a ++ s ++ b ++ t) c u ∙ five_lists a s b t (c ++ u)

-- the same operands, put together otherwise
pub operated_as : (text same : List ℕ) (operands : List (List ℕ)) → text ≡ same → Operated same operands → Operated text operands
operated_as text same operands e o = subst (λ t. Operated t operands) (sym e) o

pub registers_form : (place : ℕ) (m : Mnemonic) (make : ℕ → ℕ → ℕ → Instr) → NameSays m false false → shape_of m ≡ registers make
    → (rd rs1 rs2 : ℕ) → rd < 32 → rs1 < 32 → rs2 < 32 → SaysOf place m false false (Operands.Registers rd rs1 rs2) (make rd rs1 rs2)
registers_form place m make named e rd rs1 rs2 hd h1 h2 =
    let text = operand_text place (Operands.Registers rd rs1 rs2) in
    let o : Operated text (reg rd ∷ reg rs1 ∷ reg rs2 ∷ []) = operated_as text _ _ (five_lists (32 ∷ reg rd) (codes ", x") (decimal rs1) (codes ", x") (decimal rs2))
    (three_operated (reg rd) (reg rs1) (reg rs2) (reg_piece rd hd) (reg_piece rs1 h1) (reg_piece rs2 h2)) in
    says place m false false text (reg rd ∷ reg rs1 ∷ reg rs2 ∷ []) (Reg rd ∷ Reg rs1 ∷ Reg rs2 ∷ []) (make rd rs1 rs2)
    named o.behind o.bytes o.are (rw (e, register_read rd hd, register_read rs1 h1, register_read rs2 h2) refl) (rw e refl)

pub pages_form : (place : ℕ) (m : Mnemonic) (make : ℕ → ℕ → Instr) → NameSays m false false → shape_of m ≡ pages make
    → (rs1 rs2 : ℕ) → rs1 < 32 → rs2 < 32 → SaysOf place m false false (Operands.Pages rs1 rs2) (make rs1 rs2)
pages_form place m make named e rs1 rs2 h1 h2 =
    let text = operand_text place (Operands.Pages rs1 rs2) in
    let o : Operated text (reg rs1 ∷ reg rs2 ∷ []) = operated_as text _ _ (three_lists (32 ∷ reg rs1) (codes ", x") (decimal rs2))
    (two_operated (reg rs1) (reg rs2) (reg_piece rs1 h1) (reg_piece rs2 h2)) in
    says place m false false text (reg rs1 ∷ reg rs2 ∷ []) (Reg rs1 ∷ Reg rs2 ∷ []) (make rs1 rs2)
    named o.behind o.bytes o.are (rw (e, register_read rs1 h1, register_read rs2 h2) refl) (rw e refl)

-- an immediate of 12 bits
pub small_within : (z : ℤ) → IsSigned 12 z → number_within 2048 2047 (as_number z) ≡ Ok (as_number z)
small_within (pos n) h = let le = small_pos n h in let e : nat_le n 2047 ≡ true = grind (arith, le) in rw e refl
small_within (negsuc n) h = let le = small_neg n h in let e : nat_le (suc n) 2048 ≡ true = grind (arith, le) in rw e refl

pub signed_is : (z : ℤ) → signed (as_number z) ≡ z
signed_is (pos n) = refl
signed_is (negsuc n) = refl

pub immediate_form : (place : ℕ) (m : Mnemonic) (make : ℕ → ℕ → ℤ → Instr) → NameSays m false false → shape_of m ≡ immediate make
    → (rd rs1 : ℕ) (imm : ℤ) → rd < 32 → rs1 < 32 → IsSigned 12 imm → SaysOf place m false false (Operands.Immediate rd rs1 imm) (make rd rs1 imm)
immediate_form place m make named e rd rs1 imm hd h1 hi =
    let text = operand_text place (Operands.Immediate rd rs1 imm) in
    let o : Operated text (reg rd ∷ reg rs1 ∷ signed_decimal imm ∷ []) = operated_as text _ _ (five_lists (32 ∷ reg rd) (codes ", x") (decimal rs1) (codes ", ") (signed_decimal imm))
    (three_operated (reg rd) (reg rs1) (signed_decimal imm) (reg_piece rd hd) (reg_piece rs1 h1) (signed_piece imm hi)) in
    says place m false false text (reg rd ∷ reg rs1 ∷ signed_decimal imm ∷ []) (Reg rd ∷ Reg rs1 ∷ Num (as_number imm) ∷ []) (make rd rs1 imm)
    named o.behind o.bytes o.are (rw (e, register_read rd hd, register_read rs1 h1, signed_number imm hi) refl) (rw (e, small_within imm hi, signed_is imm) refl)

amount_within : (bits n : ℕ) → n < 2 ^ bits → number_within 0 (2 ^ bits - 1) (number false n) ≡ Ok (number false n)
amount_within bits n h = let e : nat_le n (2 ^ bits - 1) ≡ true = grind (arith, h) in rw e refl

pub shift_form : (place : ℕ) (m : Mnemonic) (bits : ℕ) (make : ℕ → ℕ → ℕ → Instr) → NameSays m false false → shape_of m ≡ shift bits make
    → (rd rs1 amount : ℕ) → rd < 32 → rs1 < 32 → amount < 2 ^ bits → amount < 64 → SaysOf place m false false (Operands.Shift rd rs1 amount) (make rd rs1 amount)
shift_form place m bits make named e rd rs1 amount hd h1 ha few =
    let text = operand_text place (Operands.Shift rd rs1 amount) in
    let wide : amount < 2 ^ 64 = omega (arith, few) in
    let o : Operated text (reg rd ∷ reg rs1 ∷ decimal amount ∷ []) = operated_as text _ _ (five_lists (32 ∷ reg rd) (codes ", x") (decimal rs1) (codes ", ") (decimal amount))
    (three_operated (reg rd) (reg rs1) (decimal amount) (reg_piece rd hd) (reg_piece rs1 h1) (decimal_piece amount wide)) in
    says place m false false text (reg rd ∷ reg rs1 ∷ decimal amount ∷ []) (Reg rd ∷ Reg rs1 ∷ Num (number false amount) ∷ []) (make rd rs1 amount)
    named o.behind o.bytes o.are (rw (e, register_read rd hd, register_read rs1 h1, decimal_number amount wide) refl) (rw (e, amount_within bits amount ha) refl)

csr_within : (n : ℕ) → n < 2 ^ 12 → number_within 0 0xfff (number false n) ≡ Ok (number false n)
csr_within n h = let e : nat_le n 0xfff ≡ true = grind (arith, h) in rw e refl

csr_wide : (n : ℕ) → n < 2 ^ 12 → n < 2 ^ 64
csr_wide n h = omega (arith, h)

csr_read : (n : ℕ) → n < 2 ^ 64 → csr_number_of (hex_text n) ≡ Some (number false n)
csr_read n h = short_hex_number n h

pub csr_form : (place : ℕ) (m : Mnemonic) (make : ℕ → ℕ → ℕ → Instr) → NameSays m false false → shape_of m ≡ csr make
    → (rd rs1 number : ℕ) → rd < 32 → rs1 < 32 → number < 2 ^ 12 → SaysOf place m false false (Operands.Csr rd number rs1) (make rd rs1 number)
csr_form place m make named e rd rs1 n hd h1 hc =
    let text = operand_text place (Operands.Csr rd n rs1) in
    let o : Operated text (reg rd ∷ hex_text n ∷ reg rs1 ∷ []) = operated_as text _ _ (five_lists (32 ∷ reg rd) (codes ", 0x") (digits 16 false n) (codes ", x") (decimal rs1))
    (three_operated (reg rd) (hex_text n) (reg rs1) (reg_piece rd hd) (short_hex_piece n (csr_wide n hc)) (reg_piece rs1 h1)) in
    says place m false false text (reg rd ∷ hex_text n ∷ reg rs1 ∷ []) (Reg rd ∷ Num (number false n) ∷ Reg rs1 ∷ []) (make rd rs1 n)
    named o.behind o.bytes o.are (rw (e, register_read rd hd, csr_read n (csr_wide n hc), register_read rs1 h1) refl) (rw (e, csr_within n hc) refl)

value_within : (n : ℕ) → n < 32 → number_within 0 31 (number false n) ≡ Ok (number false n)
value_within n h = let e : nat_le n 31 ≡ true = grind (arith, h) in rw e refl

pub csr_value_form : (place : ℕ) (m : Mnemonic) (make : ℕ → ℕ → ℕ → Instr) → NameSays m false false → shape_of m ≡ csr_value make
    → (rd value number : ℕ) → rd < 32 → value < 32 → number < 2 ^ 12 → SaysOf place m false false (Operands.CsrValue rd number value) (make rd value number)
csr_value_form place m make named e rd value n hd hv hc =
    let text = operand_text place (Operands.CsrValue rd n value) in
    let o : Operated text (reg rd ∷ hex_text n ∷ decimal value ∷ []) = operated_as text _ _ (five_lists (32 ∷ reg rd) (codes ", 0x") (digits 16 false n) (codes ", ") (decimal value))
    (three_operated (reg rd) (hex_text n) (decimal value) (reg_piece rd hd) (short_hex_piece n (csr_wide n hc)) (decimal_piece value (small value hv))) in
    says place m false false text (reg rd ∷ hex_text n ∷ decimal value ∷ []) (Reg rd ∷ Num (number false n) ∷ Num (number false value) ∷ []) (make rd value n)
    named o.behind o.bytes o.are (rw (e, register_read rd hd, csr_read n (csr_wide n hc), decimal_number value (small value hv)) refl) (rw (e, csr_within n hc, value_within value hv) refl)

-- BASES

abbrev pub base_text : ℕ → List ℕ
base_text n = 40 ∷ 120 ∷ (decimal n ++ 41 ∷ [])

not_close : (c : ℕ) → is_ascii_digit c ≡ true → not (is_close c) ≡ true
not_close c e = grind (arith, e)

close_at : (n : ℕ) → n < 32 → prefix_len (λ c. not (is_close c)) (reg n ++ 41 ∷ []) ≡ length (reg n)
close_at n h = prefix_to (λ c. not (is_close c)) (reg n) 41 [] (rw (pass_on is_ascii_digit (λ c. not (is_close c)) not_close (decimal n) (decimal_all n (small n h))) refl) refl

pub base_read : (n : ℕ) → n < 32 → base_of (base_text n) ≡ Some n
base_read n h =
    let before : before_close (reg n ++ 41 ∷ []) ≡ reg n = ap (λ k. take k (reg n ++ 41 ∷ [])) (close_at n h) ∙ front (reg n) (41 ∷ []) in
    let from : from_close (reg n ++ 41 ∷ []) ≡ 41 ∷ [] = ap (λ b. drop (length b) (reg n ++ 41 ∷ [])) before ∙ drop-append_seam (reg n) (41 ∷ []) in
    ap (λ f. if true && bytes_eq f (codes ")") then register_of (before_close (reg n ++ 41 ∷ [])) else None) from ∙ ap register_of before ∙ register_read n h

pub base_all : (n : ℕ) → n < 32 → AllPieces (base_text n)
base_all n h = all_passes is_piece_byte (40 ∷ reg n) (41 ∷ []) (rw ((decimal_piece n (small n h)).all) refl) refl

pub base_piece : (n : ℕ) → n < 32 → IsPiece (base_text n)
base_piece n h = record { some = refl; all = base_all n h }

pub reserve_form : (place : ℕ) (m : Mnemonic) (aq rl : Bool) (make : (aq rl : Bool) → ℕ → ℕ → Instr) → NameSays m aq rl → shape_of m ≡ reserve make
    → (rd rs1 : ℕ) → rd < 32 → rs1 < 32 → SaysOf place m aq rl (Operands.Reserve rd rs1) (make aq rl rd rs1)
reserve_form place m aq rl make named e rd rs1 hd h1 =
    let text = operand_text place (Operands.Reserve rd rs1) in
    let o : Operated text (reg rd ∷ base_text rs1 ∷ []) = operated_as text _ _ (four_lists (32 ∷ reg rd) (codes ", (x") (decimal rs1) (codes ")"))
    (two_operated (reg rd) (base_text rs1) (reg_piece rd hd) (base_piece rs1 h1)) in
    says place m aq rl text (reg rd ∷ base_text rs1 ∷ []) (Reg rd ∷ Reg rs1 ∷ []) (make aq rl rd rs1)
    named o.behind o.bytes o.are (rw (e, register_read rd hd, base_read rs1 h1) refl) (rw e refl)

pub atomic_form : (place : ℕ) (m : Mnemonic) (aq rl : Bool) (make : (aq rl : Bool) → ℕ → ℕ → ℕ → Instr) → NameSays m aq rl → shape_of m ≡ atomic make
    → (rd rs1 rs2 : ℕ) → rd < 32 → rs1 < 32 → rs2 < 32 → SaysOf place m aq rl (Operands.Atomic rd rs1 rs2) (make aq rl rd rs1 rs2)
atomic_form place m aq rl make named e rd rs1 rs2 hd h1 h2 =
    let text = operand_text place (Operands.Atomic rd rs1 rs2) in
    let o : Operated text (reg rd ∷ reg rs2 ∷ base_text rs1 ∷ []) = operated_as text _ _ (six_lists (32 ∷ reg rd) (codes ", x") (decimal rs2) (codes ", (x") (decimal rs1) (codes ")"))
    (three_operated (reg rd) (reg rs2) (base_text rs1) (reg_piece rd hd) (reg_piece rs2 h2) (base_piece rs1 h1)) in
    says place m aq rl text (reg rd ∷ reg rs2 ∷ base_text rs1 ∷ []) (Reg rd ∷ Reg rs2 ∷ Reg rs1 ∷ []) (make aq rl rd rs1 rs2)
    named o.behind o.bytes o.are (rw (e, register_read rd hd, register_read rs2 h2, base_read rs1 h1) refl) (rw e refl)
