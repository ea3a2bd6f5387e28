-- The listing of an image: a line for each word of its parts' file bytes.
use Rattle.std.specs.Prelude.{ℕ, zero, suc, ℤ, pos, negsuc, ◌+◌, ◌-◌, ◌/◌, ◌%◌, ◌^◌, ◌<◌, ◌≤◌, Bool, true, false, nat_lt, if◌then◌else◌, List, [], ◌∷◌, ◌++◌, slice_range}
use Rattle.std.specs.Prelude.{Option, Some, None, codes, decimal}
use Rattle.std.specs.Fmt.{digits, signed_decimal}
use Rattle.elf_load.specs.declared.image.Part.{Part}
use Rattle.elf_load.specs.Header.{number_at}
use Rattle.rv64_decode.specs.declared.instruction.Instr.{Instr}
use Rattle.rv64_decode.specs.Encoding.{Decodes}
use Rattle.rv_asm.specs.declared.operands.Operands.{Operands}
use Rattle.rv_asm.specs.declared.operands.Parts.{Parts}
use Rattle.asm_text.specs.Table.{name_of}
use Rattle.rv_asm.specs.Parts.{parts_of}

-- NUMBERS

-- a number in so many hexadecimal digits, in lower case
abbrev pub hex_digit : ℕ → ℕ
hex_digit d = if nat_lt d 10 then 48 + d else 87 + d

unfoldable pub hex : (count value : ℕ) → List ℕ
hex zero value = []
hex (suc n) value = hex n (value / 16) ++ hex_digit (value % 16) ∷ []

-- a number in the form `0x`, without zeros in front
abbrev pub short_hex : ℕ → List ℕ
short_hex value = codes "0x" ++ digits 16 false value

-- the address that lies at a distance
abbrev pub target : (place : ℕ) (distance : ℤ) → ℕ
target place (pos n) = place + n
target place (negsuc n) = place - suc n

-- TEXTS OF INSTRUCTIONS

-- a register by its number, `x0` to `x31`
abbrev pub register : ℕ → List ℕ
register n = codes "x" ++ decimal n

-- the operands of an instruction at a place, behind a blank
abbrev pub operand_text : (place : ℕ) → Operands → List ℕ
operand_text place Operands.Nothing = []
operand_text place (Operands.Upper rd bits) = codes " x" ++ decimal rd ++ codes ", 0x" ++ digits 16 false bits
operand_text place (Operands.Jump rd distance) = codes " x" ++ decimal rd ++ codes ", 0x" ++ digits 16 false (target place distance)
operand_text place (Operands.Branch rs1 rs2 distance) = codes " x" ++ decimal rs1 ++ codes ", x" ++ decimal rs2 ++ codes ", 0x" ++ digits 16 false (target place distance)
operand_text place (Operands.Load rd rs1 offset) = codes " x" ++ decimal rd ++ codes ", " ++ signed_decimal offset ++ codes "(x" ++ decimal rs1 ++ codes ")"
operand_text place (Operands.Store rs1 rs2 offset) = codes " x" ++ decimal rs2 ++ codes ", " ++ signed_decimal offset ++ codes "(x" ++ decimal rs1 ++ codes ")"
operand_text place (Operands.Immediate rd rs1 imm) = codes " x" ++ decimal rd ++ codes ", x" ++ decimal rs1 ++ codes ", " ++ signed_decimal imm
operand_text place (Operands.Shift rd rs1 amount) = codes " x" ++ decimal rd ++ codes ", x" ++ decimal rs1 ++ codes ", " ++ decimal amount
operand_text place (Operands.Registers rd rs1 rs2) = codes " x" ++ decimal rd ++ codes ", x" ++ decimal rs1 ++ codes ", x" ++ decimal rs2
operand_text place (Operands.Pages rs1 rs2) = codes " x" ++ decimal rs1 ++ codes ", x" ++ decimal rs2
operand_text place (Operands.Csr rd csr rs1) = codes " x" ++ decimal rd ++ codes ", 0x" ++ digits 16 false csr ++ codes ", x" ++ decimal rs1
operand_text place (Operands.CsrValue rd csr value) = codes " x" ++ decimal rd ++ codes ", 0x" ++ digits 16 false csr ++ codes ", " ++ decimal value
operand_text place (Operands.Reserve rd rs1) = codes " x" ++ decimal rd ++ codes ", (x" ++ decimal rs1 ++ codes ")"
operand_text place (Operands.Atomic rd rs1 rs2) = codes " x" ++ decimal rd ++ codes ", x" ++ decimal rs2 ++ codes ", (x" ++ decimal rs1 ++ codes ")"

-- the bits aq and rl behind the name of an atomic operation
abbrev pub order_text : (aq rl : Bool) → List ℕ
order_text false false = []
order_text true false = codes ".aq"
order_text false true = codes ".rl"
order_text true true = codes ".aqrl"

-- An instruction, or a word that is none or has no form.
abbrev pub parts_text : (place word : ℕ) → Option Parts → List ℕ
parts_text place word None = codes ".word 0x" ++ hex 8 word
parts_text place word (Some parts) = name_of parts.mnemonic ++ order_text parts.aq parts.rl ++ operand_text place parts.operands

abbrev pub parts_in : Option Instr → Option Parts
parts_in None = None
parts_in (Some instr) = parts_of instr

abbrev pub instr_text : (place word : ℕ) → Option Instr → List ℕ
instr_text place word instr = parts_text place word (parts_in instr)

-- LINES

-- an address, in 8 digits, or in 16 where it has more
abbrev pub address : ℕ → List ℕ
address place = if nat_lt place (2 ^ 32) then hex 8 place else hex 16 place

-- `ADDR: WORD TEXT`
abbrev pub word_line : (place word : ℕ) → Option Instr → List ℕ
word_line place word instr = address place ++ codes ": " ++ hex 8 word ++ codes " " ++ instr_text place word instr ++ codes "\n"

-- numbers, apart by commas
abbrev pub numbers_behind : List ℕ → List ℕ
numbers_behind [] = []
numbers_behind (byte ∷ bytes) = codes ", " ++ decimal byte ++ numbers_behind bytes

abbrev pub numbers_text : List ℕ → List ℕ
numbers_text [] = []
numbers_text (byte ∷ bytes) = decimal byte ++ numbers_behind bytes

-- `ADDR: .byte` with the numbers of a rest of 1 to 3 bytes
abbrev pub rest_line : (place : ℕ) → List ℕ → List ℕ
rest_line place bytes = address place ++ codes ": .byte " ++ numbers_text bytes ++ codes "\n"

-- The lines of the `len` bytes from a file's byte `at` on, which lie in memory from `place` on.
pub data IsListed (file : List ℕ) : (at len place : ℕ) → (text : List ℕ) → Type 0 where
  nothing : (at place : ℕ) → IsListed file at 0 place []
  rest : (at len place : ℕ) → 0 < len → len < 4 → IsListed file at len place (rest_line place (slice_range file at (at + len)))
  word : (at len place : ℕ) (instr : Option Instr) (text : List ℕ) → Decodes (number_at file at 4) instr → 4 ≤ len
      → IsListed file (at + 4) (len - 4) (place + 4) text → IsListed file at len place (word_line place (number_at file at 4) instr ++ text)

-- the listing of an image: its parts' file bytes, in the order of the table
pub data IsListing (file : List ℕ) : List Part → (text : List ℕ) → Type 0 where
  none : IsListing file [] []
  part : (p : Part) (parts : List Part) (text more : List ℕ) → IsListed file p.at p.len p.place text → IsListing file parts more → IsListing file (p ∷ parts) (text ++ more)
