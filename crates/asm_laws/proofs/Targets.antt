-- Forms with an offset, an upper immediate or a target.
use Rattle.std.proofs.Common.{◌≡◌, refl, ap, ◌∙◌, ℕ, suc, ◌+◌, ◌-◌, ◌*◌, ◌<◌, ◌≤◌, true, false, List, [], ◌∷◌, ◌++◌, length, take, drop, arith}
use Rattle.std.specs.Prelude.{◌/◌, ◌%◌, ◌^◌, ℤ, pos, negsuc, not, nat_le, nat_lt, Some, Ok, codes}
use Rattle.std.specs.List.{list_all, before_first}
use Rattle.std.proofs.Math.Seq.{drop-append_seam}
use Rattle.std.specs.Fmt.{digits, decimal, signed_decimal}
use Rattle.std.specs.Char.{is_ascii_digit}
use Rattle.rv64_decode.specs.declared.instruction.Instr.{Instr}
use Rattle.rv64_decode.specs.Format.{IsSigned, HasZeros, unsigned}
use Rattle.asm_text.specs.declared.mnemonic.Mnemonic.{Mnemonic}
use Rattle.asm_text.specs.Table.{upper, jump, branch, load, store, shape_of}
use Rattle.asm_text.specs.Operand.{Reg, Num, Off, To, Address, number, number_of, base_of, based_of, off, is_open, target_of}
use Rattle.rv_asm.specs.Listing.{operand_text, target}
use Rattle.rv_asm.specs.Parts.{upper_bits}
use Rattle.rv_asm.specs.Assembly.{number_within, upper_immediate, address_of, distance, is_even}
use Rattle.rv_asm.specs.declared.operands.Operands.{Operands}
use Rattle.asm_laws.proofs.Lists.{pass_on, prefix_to, front}
use Rattle.asm_laws.proofs.Numbers.{as_number, decimal_all, signed_number, short_hex_number, small_pos, small_neg}
use Rattle.asm_laws.proofs.Registers.{register_read}
use Rattle.asm_laws.proofs.Names.{NameSays}
use Rattle.asm_laws.proofs.Forms.{says, SaysOf, Operated, operated_as, two_operated, three_operated, three_lists, five_lists, six_lists, reg, reg_piece, signed_piece, base_text, base_read, base_all, front_piece, IsPiece, small_within, signed_is, hex_text, short_hex_piece}

-- OFFSETS

abbrev offset_text : ℤ → ℕ → List ℕ
offset_text z n = signed_decimal z ++ base_text n

not_open : (c : ℕ) → is_ascii_digit c ≡ true → not (is_open c) ≡ true
not_open c e = grind (arith, e)

decimal_no_open : (n : ℕ) → n < 2 ^ 64 → list_all (λ c. not (is_open c)) (decimal n) ≡ true
decimal_no_open n h = pass_on is_ascii_digit (λ c. not (is_open c)) not_open (decimal n) (decimal_all n h)

signed_no_open : (z : ℤ) → IsSigned 12 z → list_all (λ c. not (is_open c)) (signed_decimal z) ≡ true
signed_no_open (pos n) h = let le = small_pos n h in decimal_no_open n (omega (arith, le))
signed_no_open (negsuc n) h = let le = small_neg n h in rw (decimal_no_open (suc n) (omega (arith, le))) refl

offset_read : (z : ℤ) (n : ℕ) → IsSigned 12 z → n < 32 → based_of (offset_text z n) ≡ Some (Off (as_number z) n)
offset_read z n hz hn =
    let text = offset_text z n in
    let before : before_first is_open text ≡ signed_decimal z = ap (λ k. take k text) (prefix_to (λ c. not (is_open c)) (signed_decimal z) 40 (120 ∷ (decimal n ++ 41 ∷ [])) (signed_no_open z hz) refl) ∙ front (signed_decimal z) (base_text n) in
    let from : drop (length (before_first is_open text)) text ≡ base_text n = ap (λ b. drop (length b) text) before ∙ drop-append_seam (signed_decimal z) (base_text n) in
    ap (λ b. off (number_of b) (base_of (drop (length (before_first is_open text)) text))) before
    ∙ ap (λ b. off (number_of (signed_decimal z)) (base_of b)) from ∙ rw (signed_number z hz, base_read n hn) refl

offset_piece : (z : ℤ) (n : ℕ) → IsSigned 12 z → n < 32 → IsPiece (offset_text z n)
offset_piece z n hz hn = front_piece (signed_decimal z) (base_text n) (signed_piece z hz) (base_all n hn)

pub load_form : (place : ℕ) (m : Mnemonic) (make : ℕ → ℕ → ℤ → Instr) → NameSays m false false → shape_of m ≡ load make
    → (rd rs1 : ℕ) (imm : ℤ) → rd < 32 → rs1 < 32 → IsSigned 12 imm → SaysOf place m false false (Operands.Load rd rs1 imm) (make rd rs1 imm)
load_form place m make named e rd rs1 imm hd h1 hi =
    let text = operand_text place (Operands.Load rd rs1 imm) in
    let o : Operated text (reg rd ∷ offset_text imm rs1 ∷ []) = operated_as text _ _ (six_lists (32 ∷ reg rd) (codes ", ") (signed_decimal imm) (codes "(x") (decimal rs1) (codes ")"))
    (two_operated (reg rd) (offset_text imm rs1) (reg_piece rd hd) (offset_piece imm rs1 hi h1)) in
    says place m false false text (reg rd ∷ offset_text imm rs1 ∷ []) (Reg rd ∷ Off (as_number imm) rs1 ∷ []) (make rd rs1 imm)
    named o.behind o.bytes o.are (rw (e, register_read rd hd, offset_read imm rs1 hi h1) refl) (rw (e, small_within imm hi, signed_is imm) refl)

pub store_form : (place : ℕ) (m : Mnemonic) (make : ℕ → ℕ → ℤ → Instr) → NameSays m false false → shape_of m ≡ store make
    → (rs1 rs2 : ℕ) (imm : ℤ) → rs1 < 32 → rs2 < 32 → IsSigned 12 imm → SaysOf place m false false (Operands.Store rs1 rs2 imm) (make rs1 rs2 imm)
store_form place m make named e rs1 rs2 imm h1 h2 hi =
    let text = operand_text place (Operands.Store rs1 rs2 imm) in
    let o : Operated text (reg rs2 ∷ offset_text imm rs1 ∷ []) = operated_as text _ _ (six_lists (32 ∷ reg rs2) (codes ", ") (signed_decimal imm) (codes "(x") (decimal rs1) (codes ")"))
    (two_operated (reg rs2) (offset_text imm rs1) (reg_piece rs2 h2) (offset_piece imm rs1 hi h1)) in
    says place m false false text (reg rs2 ∷ offset_text imm rs1 ∷ []) (Reg rs2 ∷ Off (as_number imm) rs1 ∷ []) (make rs1 rs2 imm)
    named o.behind o.bytes o.are (rw (e, register_read rs2 h2, offset_read imm rs1 hi h1) refl) (rw (e, small_within imm hi, signed_is imm) refl)

-- UPPER IMMEDIATES

bits_within : (imm : ℤ) → IsSigned 32 imm → unsigned imm < 2 ^ 32
bits_within (pos n) (low, high) = let le : n ≤ 2147483647 = grind (arith, high) in omega (arith, le)
bits_within (negsuc n) (low, high) = omega arith

back : (imm : ℤ) → IsSigned 32 imm → HasZeros 12 imm → upper_immediate (upper_bits imm) ≡ imm
back (pos n) (low, high) zeros =
    let le : n ≤ 2147483647 = grind (arith, high) in
    let same : n / 2 ^ 12 * 2 ^ 12 ≡ n = omega (arith, zeros) in
    let less : nat_lt n (2 ^ 31) ≡ true = grind (arith, le) in
    rw (same, less) refl
back (negsuc n) (low, high) zeros =
    let le : n ≤ 2147483647 = grind (arith, low) in
    let same : (2 ^ 32 - suc n) / 2 ^ 12 * 2 ^ 12 ≡ 2 ^ 32 - suc n = omega (arith, zeros) in
    let more : nat_lt (2 ^ 32 - suc n) (2 ^ 31) ≡ false = grind (arith, le) in
    let again : 2 ^ 32 - suc (2 ^ 32 - suc n) ≡ n = omega (arith, le) in
    rw (same, more, again) refl

upper_within : (imm : ℤ) → IsSigned 32 imm → upper_bits imm ≤ 0xfffff
upper_within imm h = let less = bits_within imm h in omega (arith, less)

upper_number : (n : ℕ) → n ≤ 0xfffff → number_within 0 0xfffff (number false n) ≡ Ok (number false n)
upper_number n h = let e : nat_le n 0xfffff ≡ true = grind (arith, h) in rw e refl

pub upper_form : (place : ℕ) (m : Mnemonic) (make : ℕ → ℤ → Instr) → NameSays m false false → shape_of m ≡ upper make
    → (rd : ℕ) (imm : ℤ) → rd < 32 → IsSigned 32 imm → HasZeros 12 imm → SaysOf place m false false (Operands.Upper rd (upper_bits imm)) (make rd imm)
upper_form place m make named e rd imm hd hi hz =
    let bits = upper_bits imm in
    let text = operand_text place (Operands.Upper rd bits) in
    let few : bits ≤ 0xfffff = upper_within imm hi in
    let wide : bits < 2 ^ 64 = omega (arith, few) in
    let o : Operated text (reg rd ∷ hex_text bits ∷ []) = operated_as text _ _ (three_lists (32 ∷ reg rd) (codes ", 0x") (digits 16 false bits))
    (two_operated (reg rd) (hex_text bits) (reg_piece rd hd) (short_hex_piece bits wide)) in
    says place m false false text (reg rd ∷ hex_text bits ∷ []) (Reg rd ∷ Num (number false bits) ∷ []) (make rd imm)
    named o.behind o.bytes o.are (rw (e, register_read rd hd, short_hex_number bits wide) refl) (rw (e, upper_number bits few, back imm hi hz) refl)

-- TARGETS

target_read : (t : ℕ) → t < 2 ^ 64 → target_of (hex_text t) ≡ Some (Address (number false t))
target_read t h = rw (short_hex_number t h) refl

address_is : (t : ℕ) → address_of [] (Address (number false t)) ≡ Ok t
address_is t = let e : nat_le t t ≡ true = grind arith in rw e refl

even_ahead : (n : ℕ) → HasZeros 1 (pos n) → is_even n ≡ true
even_ahead n zeros = let e : n % 2 ≡ 0 = omega (arith, zeros) in rw e refl

even_behind : (n : ℕ) → suc n ≤ 2 ^ 32 → HasZeros 1 (negsuc n) → is_even (suc n) ≡ true
even_behind n h zeros = let e : suc n % 2 ≡ 0 = omega (arith, h, zeros) in rw e refl

distance_ahead : (bits place n : ℕ) → n < 2 ^ bits → is_even n ≡ true → distance bits place (place + n) ≡ Ok (pos n)
distance_ahead bits place n h even =
    let after : nat_le place (place + n) ≡ true = grind arith in
    let same : place + n - place ≡ n = omega arith in
    let less : nat_lt n (2 ^ bits) ≡ true = grind (arith, h) in
    rw (after, same, less, even) refl

distance_behind : (bits place n : ℕ) → suc n ≤ 2 ^ bits → suc n ≤ place → is_even (suc n) ≡ true → distance bits place (place - suc n) ≡ Ok (negsuc n)
distance_behind bits place n h within even =
    let before : nat_le place (place - suc n) ≡ false = grind (arith, within) in
    let same : place - (place - suc n) ≡ suc n = omega (arith, within) in
    let less : nat_le (suc n) (2 ^ bits) ≡ true = grind (arith, h) in
    rw (before, same, less, even) refl

-- a jump's distance, and a branch's
jump_distance : (place : ℕ) (z : ℤ) → 2 ^ 31 ≤ place → IsSigned 21 z → HasZeros 1 z → distance 20 place (target place z) ≡ Ok z
jump_distance place (pos n) h (low, high) zeros =
    let le : n ≤ 1048575 = grind (arith, high) in distance_ahead 20 place n (omega (arith, le)) (even_ahead n zeros)
jump_distance place (negsuc n) h (low, high) zeros =
    let le : n ≤ 1048575 = grind (arith, low) in distance_behind 20 place n (omega (arith, le)) (omega (arith, le, h)) (even_behind n (omega (arith, le)) zeros)

branch_distance : (place : ℕ) (z : ℤ) → 2 ^ 31 ≤ place → IsSigned 13 z → HasZeros 1 z → distance 12 place (target place z) ≡ Ok z
branch_distance place (pos n) h (low, high) zeros =
    let le : n ≤ 4095 = grind (arith, high) in distance_ahead 12 place n (omega (arith, le)) (even_ahead n zeros)
branch_distance place (negsuc n) h (low, high) zeros =
    let le : n ≤ 4095 = grind (arith, low) in distance_behind 12 place n (omega (arith, le)) (omega (arith, le, h)) (even_behind n (omega (arith, le)) zeros)

near : (place : ℕ) (z : ℤ) → place ≤ 2 ^ 32 → IsSigned 32 z → target place z < 2 ^ 64
near place (pos n) h (low, high) = let le : n ≤ 2147483647 = grind (arith, high) in omega (arith, h, le)
near place (negsuc n) h (low, high) = omega (arith, h)

jump_wide : (z : ℤ) → IsSigned 21 z → IsSigned 32 z
jump_wide (pos n) (low, high) = let le : n ≤ 1048575 = grind (arith, high) in (grind arith, grind (arith, le))
jump_wide (negsuc n) (low, high) = let le : n ≤ 1048575 = grind (arith, low) in (grind (arith, le), grind arith)

branch_wide : (z : ℤ) → IsSigned 13 z → IsSigned 32 z
branch_wide (pos n) (low, high) = let le : n ≤ 4095 = grind (arith, high) in (grind arith, grind (arith, le))
branch_wide (negsuc n) (low, high) = let le : n ≤ 4095 = grind (arith, low) in (grind (arith, le), grind arith)

pub jump_form : (place : ℕ) (m : Mnemonic) (make : ℕ → ℤ → Instr) → NameSays m false false → shape_of m ≡ jump make
    → (rd : ℕ) (imm : ℤ) → 2 ^ 31 ≤ place → place ≤ 2 ^ 32 → rd < 32 → IsSigned 21 imm → HasZeros 1 imm → SaysOf place m false false (Operands.Jump rd imm) (make rd imm)
jump_form place m make named e rd imm above below hd hi hz =
    let t = target place imm in
    let text = operand_text place (Operands.Jump rd imm) in
    let wide : t < 2 ^ 64 = near place imm below (jump_wide imm hi) in
    let o : Operated text (reg rd ∷ hex_text t ∷ []) = operated_as text _ _ (three_lists (32 ∷ reg rd) (codes ", 0x") (digits 16 false t))
    (two_operated (reg rd) (hex_text t) (reg_piece rd hd) (short_hex_piece t wide)) in
    says place m false false text (reg rd ∷ hex_text t ∷ []) (Reg rd ∷ To (Address (number false t)) ∷ []) (make rd imm)
    named o.behind o.bytes o.are (rw (e, register_read rd hd, target_read t wide) refl) (rw (e, address_is t, jump_distance place imm above hi hz) refl)

pub branch_form : (place : ℕ) (m : Mnemonic) (make : ℕ → ℕ → ℤ → Instr) → NameSays m false false → shape_of m ≡ branch make
    → (rs1 rs2 : ℕ) (imm : ℤ) → 2 ^ 31 ≤ place → place ≤ 2 ^ 32 → rs1 < 32 → rs2 < 32 → IsSigned 13 imm → HasZeros 1 imm → SaysOf place m false false (Operands.Branch rs1 rs2 imm) (make rs1 rs2 imm)
branch_form place m make named e rs1 rs2 imm above below h1 h2 hi hz =
    let t = target place imm in
    let text = operand_text place (Operands.Branch rs1 rs2 imm) in
    let wide : t < 2 ^ 64 = near place imm below (branch_wide imm hi) in
    let o : Operated text (reg rs1 ∷ reg rs2 ∷ hex_text t ∷ []) = operated_as text _ _ (five_lists (32 ∷ reg rs1) (codes ", x") (decimal rs2) (codes ", 0x") (digits 16 false t))
    (three_operated (reg rs1) (reg rs2) (hex_text t) (reg_piece rs1 h1) (reg_piece rs2 h2) (short_hex_piece t wide)) in
    says place m false false text (reg rs1 ∷ reg rs2 ∷ hex_text t ∷ []) (Reg rs1 ∷ Reg rs2 ∷ To (Address (number false t)) ∷ []) (make rs1 rs2 imm)
    named o.behind o.bytes o.are (rw (e, register_read rs1 h1, register_read rs2 h2, target_read t wide) refl) (rw (e, address_is t, branch_distance place imm above hi hz) refl)
