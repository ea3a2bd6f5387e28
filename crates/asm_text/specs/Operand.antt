-- The operands of a text: numbers, registers, CSRs, targets, and the kinds of operand that a form asks for.
use Rattle.std.specs.Prelude.{ℕ, ℤ, pos, negsuc, zero, suc, ◌+◌, ◌-◌, ◌*◌, ◌^◌, ◌==◌, Bool, true, false, not, ◌&&◌, ◌||◌, nat_le, nat_eq, if◌then◌else◌, List, [], ◌∷◌, drop, length, Option, Some, None, codes, bytes_eq, fold, min}
use Rattle.std.specs.List.{position, before_first, list_all, starts_with}
use Rattle.std.specs.Option.{option_map}
use Rattle.std.specs.Char.{is_ascii_digit}
use Rattle.text_lines.specs.Number.{decimal_value}
use Rattle.asm_text.specs.declared.numbers.Number.{Number}
use Rattle.asm_text.specs.declared.values.Kind.{Kind}
use Rattle.asm_text.specs.Text.{begins_with, is_label}

-- NUMBERS

abbrev pub is_minus : ℕ → Bool
is_minus c = c == 45

abbrev pub is_low_hex : ℕ → Bool
is_low_hex c = nat_le 97 c && nat_le c 102

abbrev pub is_high_hex : ℕ → Bool
is_high_hex c = nat_le 65 c && nat_le c 70

-- the digits of base 16, of either case
abbrev pub is_hex_digit : ℕ → Bool
is_hex_digit c = is_ascii_digit c || is_low_hex c || is_high_hex c

abbrev pub hex_digit_value : ℕ → ℕ
hex_digit_value c = if is_low_hex c then c - 87 else if is_high_hex c then c - 55 else c - 48

abbrev pub hex_value : List ℕ → ℕ
hex_value digits = fold (λ n d. n * 16 + hex_digit_value d) 0 digits

abbrev pub is_empty : List ℕ → Bool
is_empty [] = true
is_empty (c ∷ cs) = false

-- 2^64 stands for every magnitude from there on, which no form takes
abbrev pub most_magnitude : ℕ
most_magnitude = 2 ^ 64

-- one or more decimal digits, or `0x` and one or more hexadecimal digits; zeros in front are digits too
abbrev pub is_hex : List ℕ → Bool
is_hex text = starts_with nat_eq text (codes "0x")

abbrev pub magnitude_of : List ℕ → Option ℕ
magnitude_of text =
    if is_hex text then (if not (is_empty (drop 2 text)) && list_all is_hex_digit (drop 2 text) then Some (min (hex_value (drop 2 text)) most_magnitude) else None) else
    if not (is_empty text) && list_all is_ascii_digit text then Some (min (decimal_value text) most_magnitude) else None

abbrev pub number : Bool → ℕ → Number
number negative magnitude = record { negative = negative; magnitude = magnitude }

-- with `-` in front if wanted
abbrev pub number_of : List ℕ → Option Number
number_of text = if begins_with is_minus text then option_map (number true) (magnitude_of (drop 1 text)) else option_map (number false) (magnitude_of text)

-- at least minus `below` and at most `above`
abbrev pub is_within : (below above : ℕ) → Number → Bool
is_within below above n = nat_le n.magnitude (if n.negative then below else above)

abbrev pub minus : ℕ → ℤ
minus zero = pos 0
minus (suc n) = negsuc n

abbrev pub signed : Number → ℤ
signed n = if n.negative then minus n.magnitude else pos n.magnitude

-- the number in so many bits, in two's complement where it is negative
abbrev pub bits_of : (width : ℕ) → Number → ℕ
bits_of width n = if n.negative && not (n.magnitude == 0) then 2 ^ width - n.magnitude else n.magnitude

-- REGISTERS (UNPRIV, "RISC-V Assembly Programmer's Handbook") AND CSRS (PRIV, "CSR Listing")

-- x0 to x31
abbrev pub register_numbers : List (List ℕ)
register_numbers =
    codes "x0" ∷ codes "x1" ∷ codes "x2" ∷ codes "x3" ∷ codes "x4" ∷ codes "x5" ∷ codes "x6" ∷ codes "x7" ∷
    codes "x8" ∷ codes "x9" ∷ codes "x10" ∷ codes "x11" ∷ codes "x12" ∷ codes "x13" ∷ codes "x14" ∷ codes "x15" ∷
    codes "x16" ∷ codes "x17" ∷ codes "x18" ∷ codes "x19" ∷ codes "x20" ∷ codes "x21" ∷ codes "x22" ∷ codes "x23" ∷
    codes "x24" ∷ codes "x25" ∷ codes "x26" ∷ codes "x27" ∷ codes "x28" ∷ codes "x29" ∷ codes "x30" ∷ codes "x31" ∷ []

-- the other name of each, by what it is for
abbrev pub register_names : List (List ℕ)
register_names =
    codes "zero" ∷ codes "ra" ∷ codes "sp" ∷ codes "gp" ∷ codes "tp" ∷ codes "t0" ∷ codes "t1" ∷ codes "t2" ∷
    codes "s0" ∷ codes "s1" ∷ codes "a0" ∷ codes "a1" ∷ codes "a2" ∷ codes "a3" ∷ codes "a4" ∷ codes "a5" ∷
    codes "a6" ∷ codes "a7" ∷ codes "s2" ∷ codes "s3" ∷ codes "s4" ∷ codes "s5" ∷ codes "s6" ∷ codes "s7" ∷
    codes "s8" ∷ codes "s9" ∷ codes "s10" ∷ codes "s11" ∷ codes "t3" ∷ codes "t4" ∷ codes "t5" ∷ codes "t6" ∷ []

abbrev pub place_in : List (List ℕ) → List ℕ → Option ℕ
place_in names text = position (λ name. bytes_eq text name) names

abbrev pub first_of : Option ℕ → Option ℕ → Option ℕ
first_of None other = other
first_of (Some n) other = Some n

abbrev pub register_of : List ℕ → Option ℕ
register_of text = first_of (place_in register_numbers text) (place_in register_names text)

abbrev pub csr_named : List ℕ → Option ℕ
csr_named text =
    if bytes_eq text (codes "sstatus") then Some 0x100 else
    if bytes_eq text (codes "sie") then Some 0x104 else
    if bytes_eq text (codes "stvec") then Some 0x105 else
    if bytes_eq text (codes "scounteren") then Some 0x106 else
    if bytes_eq text (codes "sscratch") then Some 0x140 else
    if bytes_eq text (codes "sepc") then Some 0x141 else
    if bytes_eq text (codes "scause") then Some 0x142 else
    if bytes_eq text (codes "stval") then Some 0x143 else
    if bytes_eq text (codes "sip") then Some 0x144 else
    if bytes_eq text (codes "satp") then Some 0x180 else
    None

abbrev pub number_or : Option ℕ → Option Number → Option Number
number_or None other = other
number_or (Some n) other = Some (number false n)

-- a CSR's name or number
abbrev pub csr_number_of : List ℕ → Option Number
csr_number_of text = number_or (csr_named text) (number_of text)

-- TARGETS

-- a label, or an absolute address
pub data Target : Type 0 where
  Label : (name : List ℕ) → Target
  Address : (number : Number) → Target

abbrev pub address_or : List ℕ → Option Number → Option Target
address_or text None = None
address_or text (Some n) = Some (Address n)

abbrev pub target_of : List ℕ → Option Target
target_of text = if is_label text then Some (Label text) else address_or text (number_of text)

-- KINDS OF OPERAND: a register, `n`, `n(rs1)`, `(rs1)`, a CSR, a target, a label

-- what an operand says
pub data Value : Type 0 where
  Reg : (n : ℕ) → Value
  Num : (n : Number) → Value
  Off : (n : Number) (rs1 : ℕ) → Value
  To : (target : Target) → Value

abbrev pub is_open : ℕ → Bool
is_open c = c == 40

abbrev pub is_close : ℕ → Bool
is_close c = c == 41

-- what stands in front of the first `)`, and from there on
abbrev pub before_close : List ℕ → List ℕ
before_close text = before_first is_close text

abbrev pub from_close : List ℕ → List ℕ
from_close text = drop (length (before_close text)) text

-- the register of `(rs1)`: it stands between `(` and a `)` that is the last byte
abbrev pub base_of : List ℕ → Option ℕ
base_of text = if begins_with is_open text && bytes_eq (from_close (drop 1 text)) (codes ")") then register_of (before_close (drop 1 text)) else None

abbrev pub off : Option Number → Option ℕ → Option Value
off (Some n) (Some rs1) = Some (Off n rs1)
off n rs1 = None

-- a number in front of `(`, and behind it the register and `)`
abbrev pub based_of : List ℕ → Option Value
based_of text = off (number_of (before_first is_open text)) (base_of (drop (length (before_first is_open text)) text))

abbrev pub value_of : Kind → List ℕ → Option Value
value_of Kind.Register text = option_map Reg (register_of text)
value_of Kind.Count text = option_map Num (number_of text)
value_of Kind.Based text = based_of text
value_of Kind.Base text = option_map Reg (base_of text)
value_of Kind.Csr text = option_map Num (csr_number_of text)
value_of Kind.Where text = option_map To (target_of text)
value_of Kind.Labelled text = if is_label text then Some (To (Label text)) else None

abbrev pub with_value : Option Value → Option (List Value) → Option (List Value)
with_value (Some value) (Some values) = Some (value ∷ values)
with_value value values = None

-- operands of these kinds, one of each
abbrev pub values_of : List Kind → List (List ℕ) → Option (List Value)
values_of [] [] = Some []
values_of (kind ∷ kinds) (text ∷ texts) = with_value (value_of kind text) (values_of kinds texts)
values_of kinds texts = None

-- one or more numbers
abbrev pub with_number : Option Number → Option (List Number) → Option (List Number)
with_number (Some n) (Some ns) = Some (n ∷ ns)
with_number n ns = None

abbrev pub all_numbers : List (List ℕ) → Option (List Number)
all_numbers [] = Some []
all_numbers (text ∷ texts) = with_number (number_of text) (all_numbers texts)

abbrev pub numbers_of : List (List ℕ) → Option (List Number)
numbers_of [] = None
numbers_of texts = all_numbers texts
