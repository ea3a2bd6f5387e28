-- The bytes of a text: each line by itself, its labels' places, and the first line with a fault.
use Rattle.std.specs.Prelude.{ℕ, ℤ, pos, zero, suc, ◌+◌, ◌-◌, ◌*◌, ◌/◌, ◌%◌, ◌^◌, ◌==◌, Bool, true, false, not, ◌&&◌, nat_le, nat_lt, if◌then◌else◌, List, [], ◌∷◌, ◌++◌, length, replicate, Option, Some, None, Result, Ok, Err, bytes_eq}
use Rattle.std.specs.Int.{cast_signed, w32}
use Rattle.std.specs.List.{list_any}
use Rattle.rv64_decode.specs.declared.instruction.Instr.{Instr}
use Rattle.rv64_decode.specs.Encoding.{encoding_of}
use Rattle.text_lines.specs.Lines.{lines_of}
use Rattle.asm_text.specs.Table.{Shape, alone, upper, jump, branch, load, store, immediate, shift, registers, pages, csr, csr_value, reserve, atomic, shape_of}
use Rattle.asm_text.specs.declared.faults.Fault.{Fault}
use Rattle.asm_text.specs.declared.numbers.Number.{Number}
use Rattle.asm_text.specs.Operand.{is_within, minus, signed, bits_of, Target, Label, Address, Value, Reg, Num, Off, To}
use Rattle.asm_text.specs.Action.{Action, Nothing, Makes, LoadsNumber, LoadsAddress, Data, MovesTo, Line, line_of, kind_of, lower_fault}

-- PLACES

-- where the image begins, and where the longest ends
abbrev pub first_place : ℕ
first_place = 0x8000_0000

abbrev pub last_place : ℕ
last_place = first_place + 16777216

-- a label that is set at a place
pub record Set : Type 0 where
  pub name : List ℕ
  pub place : ℕ

-- where a label is set: by the first line that sets it
abbrev pub place_of : List Set → List ℕ → Option ℕ
place_of [] name = None
place_of (s ∷ sets) name = if bytes_eq name s.name then Some s.place else place_of sets name

-- ENCODINGS

-- a number in so many bytes, the lowest first
unfoldable pub bytes_of : (count value : ℕ) → List ℕ
bytes_of zero value = []
bytes_of (suc n) value = value % 256 ∷ bytes_of n (value / 256)

abbrev pub word_bytes : Instr → List ℕ
word_bytes instr = bytes_of 4 (encoding_of instr)

-- where a target lies; none lies below 0
abbrev pub or_no_label : Option ℕ → Result ℕ Fault
or_no_label None = Err Fault.NoLabel
or_no_label (Some place) = Ok place

abbrev pub address_of : List Set → Target → Result ℕ Fault
address_of sets (Label name) = or_no_label (place_of sets name)
address_of sets (Address n) = if is_within 0 n.magnitude n then Ok n.magnitude else Err Fault.OutOfRange

abbrev pub is_even : ℕ → Bool
is_even n = n % 2 == 0

-- the distance to an address, where it is even and fits so many bits and a sign
abbrev pub distance : (bits place address : ℕ) → Result ℤ Fault
distance bits place address =
    if nat_le place address
    then (if nat_lt (address - place) (2 ^ bits) && is_even (address - place) then Ok (pos (address - place)) else Err Fault.OutOfRange)
    else (if nat_le (place - address) (2 ^ bits) && is_even (place - address) then Ok (minus (place - address)) else Err Fault.OutOfRange)

-- OPERANDS OF EACH FORM, with its numbers in range. No form is given values of other kinds.

abbrev pub register_in : Value → Result ℕ Fault
register_in (Reg n) = Ok n
register_in value = Err Fault.WrongForm

abbrev pub number_in : Value → Result Number Fault
number_in (Num n) = Ok n
number_in value = Err Fault.WrongForm

abbrev pub offset_in : Value → Result (Number × ℕ) Fault
offset_in (Off n rs1) = Ok (n, rs1)
offset_in value = Err Fault.WrongForm

-- the distance to a target
abbrev pub distance_to : (bits place : ℕ) → Result ℕ Fault → Result ℤ Fault
distance_to bits place (Err fault) = Err fault
distance_to bits place (Ok address) = distance bits place address

abbrev pub distance_in : List Set → (bits place : ℕ) → Value → Result ℤ Fault
distance_in sets bits place (To target) = distance_to bits place (address_of sets target)
distance_in sets bits place value = Err Fault.WrongForm

abbrev pub number_within : (below above : ℕ) → Number → Result Number Fault
number_within below above n = if is_within below above n then Ok n else Err Fault.OutOfRange

abbrev pub and_then : {A B : Type 0} → Result A Fault → (A → Result B Fault) → Result B Fault
and_then (Err fault) f = Err fault
and_then (Ok a) f = f a

-- the immediate of `lui` and `auipc` by its upper 20 bits
abbrev pub upper_immediate : ℕ → ℤ
upper_immediate bits = cast_signed w32 (bits * 2 ^ 12)

abbrev pub nothing_in : List Value → Instr → Result Instr Fault
nothing_in [] instr = Ok instr
nothing_in values instr = Err Fault.WrongForm

abbrev pub pair_in : List Value → Result (ℕ × ℕ) Fault
pair_in (a ∷ b ∷ []) = and_then (register_in a) (λ r. and_then (register_in b) (λ s. Ok (r, s)))
pair_in values = Err Fault.WrongForm

abbrev pub triple_in : List Value → Result (ℕ × ℕ × ℕ) Fault
triple_in (a ∷ b ∷ c ∷ []) = and_then (register_in a) (λ r. and_then (register_in b) (λ s. and_then (register_in c) (λ t. Ok (r, s, t))))
triple_in values = Err Fault.WrongForm

abbrev pub upper_in : List Value → Result (ℕ × ℤ) Fault
upper_in (a ∷ b ∷ []) = and_then (register_in a) (λ rd. and_then (number_in b) (λ n. and_then (number_within 0 0xfffff n) (λ m. Ok (rd, upper_immediate m.magnitude))))
upper_in values = Err Fault.WrongForm

abbrev pub jump_in : List Set → (place : ℕ) → List Value → Result (ℕ × ℤ) Fault
jump_in sets place (a ∷ b ∷ []) = and_then (register_in a) (λ rd. and_then (distance_in sets 20 place b) (λ distance. Ok (rd, distance)))
jump_in sets place values = Err Fault.WrongForm

abbrev pub branch_in : List Set → (place : ℕ) → List Value → Result (ℕ × ℕ × ℤ) Fault
branch_in sets place (a ∷ b ∷ c ∷ []) = and_then (register_in a) (λ rs1. and_then (register_in b) (λ rs2. and_then (distance_in sets 12 place c) (λ distance. Ok (rs1, rs2, distance))))
branch_in sets place values = Err Fault.WrongForm

-- of loads and stores
abbrev pub based_in : List Value → Result (ℕ × ℕ × ℤ) Fault
based_in (a ∷ b ∷ []) = and_then (register_in a) (λ r. and_then (offset_in b) (λ o. and_then (number_within 2048 2047 o.0) (λ n. Ok (r, o.1, signed n))))
based_in values = Err Fault.WrongForm

abbrev pub immediate_in : List Value → Result (ℕ × ℕ × ℤ) Fault
immediate_in (a ∷ b ∷ c ∷ []) = and_then (register_in a) (λ rd. and_then (register_in b) (λ rs1. and_then (number_in c) (λ n. and_then (number_within 2048 2047 n) (λ m. Ok (rd, rs1, signed m)))))
immediate_in values = Err Fault.WrongForm

abbrev pub shift_in : (bits : ℕ) → List Value → Result (ℕ × ℕ × ℕ) Fault
shift_in bits (a ∷ b ∷ c ∷ []) = and_then (register_in a) (λ rd. and_then (register_in b) (λ rs1. and_then (number_in c) (λ n. and_then (number_within 0 (2 ^ bits - 1) n) (λ m. Ok (rd, rs1, m.magnitude)))))
shift_in bits values = Err Fault.WrongForm

-- rd and rs1 of three, with the CSR last
abbrev pub csr_in : List Value → Result (ℕ × ℕ × ℕ) Fault
csr_in (a ∷ b ∷ c ∷ []) = and_then (register_in a) (λ rd. and_then (number_in b) (λ n. and_then (number_within 0 0xfff n) (λ m. and_then (register_in c) (λ rs1. Ok (rd, rs1, m.magnitude)))))
csr_in values = Err Fault.WrongForm

abbrev pub csr_value_in : List Value → Result (ℕ × ℕ × ℕ) Fault
csr_value_in (a ∷ b ∷ c ∷ []) = and_then (register_in a) (λ rd. and_then (number_in b) (λ n. and_then (number_within 0 0xfff n) (λ m. and_then (number_in c) (λ v. and_then (number_within 0 31 v) (λ w. Ok (rd, w.magnitude, m.magnitude))))))
csr_value_in values = Err Fault.WrongForm

abbrev pub made_of : {A B : Type 0} → (A → B → Instr) → Result (A × B) Fault → Result Instr Fault
made_of make (Err fault) = Err fault
made_of make (Ok p) = Ok (make p.0 p.1)

abbrev pub made_of_three : {A B C : Type 0} → (A → B → C → Instr) → Result (A × B × C) Fault → Result Instr Fault
made_of_three make (Err fault) = Err fault
made_of_three make (Ok p) = Ok (make p.0 p.1 p.2)

-- the instruction of a form's operands
abbrev pub instr_of : List Set → (place : ℕ) → Shape → (aq rl : Bool) → List Value → Result Instr Fault
instr_of sets place (alone instr) aq rl values = nothing_in values instr
instr_of sets place (upper make) aq rl values = made_of make (upper_in values)
instr_of sets place (jump make) aq rl values = made_of make (jump_in sets place values)
instr_of sets place (branch make) aq rl values = made_of_three make (branch_in sets place values)
instr_of sets place (load make) aq rl values = made_of_three make (based_in values)
instr_of sets place (store make) aq rl values = made_of_three (λ rs2 rs1 imm. make rs1 rs2 imm) (based_in values)
instr_of sets place (immediate make) aq rl values = made_of_three make (immediate_in values)
instr_of sets place (shift bits make) aq rl values = made_of_three make (shift_in bits values)
instr_of sets place (registers make) aq rl values = made_of_three make (triple_in values)
instr_of sets place (pages make) aq rl values = made_of make (pair_in values)
instr_of sets place (csr make) aq rl values = made_of_three make (csr_in values)
instr_of sets place (csr_value make) aq rl values = made_of_three make (csr_value_in values)
instr_of sets place (reserve make) aq rl values = made_of (make aq rl) (pair_in values)
instr_of sets place (atomic make) aq rl values = made_of_three (λ rd rs2 rs1. make aq rl rd rs1 rs2) (triple_in values)

abbrev pub one_word_of : Result Instr Fault → Result (List ℕ) Fault
one_word_of (Err fault) = Err fault
one_word_of (Ok instr) = Ok (word_bytes instr)

-- A number of 32 bits in two parts: the low 12 bits as a signed number, and the upper 20 bits that give with it the number.
abbrev pub low_part : ℕ → ℤ
low_part bits = if nat_lt (bits % 2 ^ 12) (2 ^ 11) then pos (bits % 2 ^ 12) else minus (2 ^ 12 - bits % 2 ^ 12)

abbrev pub upper_part : ℕ → ℕ
upper_part bits = (bits + 2 ^ 11) / 2 ^ 12 % 2 ^ 20

-- `li` is lui and addiw
abbrev pub number_loaded : (rd : ℕ) → Number → Result (List ℕ) Fault
number_loaded rd n =
    if is_within (2 ^ 31) (2 ^ 31 - 1) n
    then Ok (word_bytes (Instr.Lui rd (upper_immediate (upper_part (bits_of 32 n)))) ++ word_bytes (Instr.Addiw rd rd (low_part (bits_of 32 n))))
    else Err Fault.OutOfRange

-- `la` is auipc and addi, over the distance to the label
abbrev pub address_loaded : (rd place : ℕ) → Option ℕ → Result (List ℕ) Fault
address_loaded rd place None = Err Fault.NoLabel
address_loaded rd place (Some address) =
    let distance = (address + 2 ^ 32 - place) % 2 ^ 32 in
    Ok (word_bytes (Instr.Auipc rd (upper_immediate (upper_part distance))) ++ word_bytes (Instr.Addi rd rd (low_part distance)))

-- bytes, and those behind them
abbrev pub then_bytes : Result (List ℕ) Fault → Result (List ℕ) Fault → Result (List ℕ) Fault
then_bytes (Err fault) more = Err fault
then_bytes (Ok bytes) (Err fault) = Err fault
then_bytes (Ok bytes) (Ok more) = Ok (bytes ++ more)

-- a number of so many bytes, signed or unsigned
abbrev pub number_bytes : (width : ℕ) → Number → Result (List ℕ) Fault
number_bytes width n = if is_within (2 ^ (8 * width - 1)) (2 ^ (8 * width) - 1) n then Ok (bytes_of width (bits_of (8 * width) n)) else Err Fault.OutOfRange

abbrev pub data_bytes : (width : ℕ) → List Number → Result (List ℕ) Fault
data_bytes width [] = Ok []
data_bytes width (n ∷ ns) = then_bytes (number_bytes width n) (data_bytes width ns)

-- the place moves forward, or stays
abbrev pub can_move : (place : ℕ) → Number → Bool
can_move place n = is_within 0 last_place n && nat_le place n.magnitude

abbrev pub gap_bytes : (place : ℕ) → Number → Result (List ℕ) Fault
gap_bytes place n = if can_move place n then Ok (replicate (n.magnitude - place) 0) else Err Fault.OutOfPlace

-- the bytes of an action at a place, or its fault
abbrev pub action_bytes : List Set → (place : ℕ) → Action → Result (List ℕ) Fault
action_bytes sets place Nothing = Ok []
action_bytes sets place (Makes c values) = one_word_of (instr_of sets place (shape_of c.mnemonic) c.aq c.rl values)
action_bytes sets place (LoadsNumber rd n) = number_loaded rd n
action_bytes sets place (LoadsAddress rd label) = address_loaded rd place (place_of sets label)
action_bytes sets place (Data width numbers) = data_bytes width numbers
action_bytes sets place (MovesTo n) = gap_bytes place n

-- LINES

-- the room that an action takes, whatever its numbers are; one without a form takes none, nor does a move that isn't made
abbrev pub room_of : (place : ℕ) → Result Action Fault → ℕ
room_of place (Err fault) = 0
room_of place (Ok Nothing) = 0
room_of place (Ok (Makes c values)) = 4
room_of place (Ok (LoadsNumber rd n)) = 8
room_of place (Ok (LoadsAddress rd label)) = 8
room_of place (Ok (Data width numbers)) = width * length numbers
room_of place (Ok (MovesTo n)) = if can_move place n then n.magnitude - place else 0

-- The place behind a line. One that would end behind the last place takes no room.
abbrev pub ends_within : (place : ℕ) → Line → Bool
ends_within place line = nat_le (place + room_of place line.action) last_place

abbrev pub place_behind : (place : ℕ) → Line → ℕ
place_behind place line = if ends_within place line then place + room_of place line.action else place

-- a label stands at the place in front of its line's action
abbrev pub set_by : (place : ℕ) → Option (List ℕ) → List Set
set_by place None = []
set_by place (Some name) = record { name = name; place = place } ∷ []

-- the labels of lines, in order
abbrev pub sets_of : (place : ℕ) → List (List ℕ) → List Set
sets_of place [] = []
sets_of place (bytes ∷ lines) = set_by place (line_of bytes).label ++ sets_of (place_behind place (line_of bytes)) lines

-- THE FIRST FAULT

-- the lowest fault of a line, or its bytes
abbrev pub lower : Bool → (fault : Fault) → Result (List ℕ) Fault → Result (List ℕ) Fault
lower false fault found = found
lower true fault (Ok bytes) = Err fault
lower true fault (Err other) = Err (lower_fault fault other)

abbrev pub is_set : List Set → Option (List ℕ) → Bool
is_set sets None = false
is_set sets (Some name) = list_any (λ s. bytes_eq name s.name) sets

abbrev pub line_action : List Set → (place : ℕ) → Result Action Fault → Result (List ℕ) Fault
line_action sets place (Err fault) = Err fault
line_action sets place (Ok action) = action_bytes sets place action

-- `before` are the labels of the lines before it, `sets` those of all lines
abbrev pub line_bytes : (before sets : List Set) → (place : ℕ) → Line → Result (List ℕ) Fault
line_bytes before sets place line =
    lower (not (ends_within place line)) Fault.OutOfPlace (lower (is_set before line.label) Fault.LabelTwice (line_action sets place line.action))

-- a line's number, from 1, with the kind of its fault
pub record Bad : Type 0 where
  pub line : ℕ
  pub kind : ℕ

abbrev pub bytes_then : (number : ℕ) → Result (List ℕ) Fault → Result (List ℕ) Bad → Result (List ℕ) Bad
bytes_then number (Err fault) more = Err (record { line = number; kind = kind_of fault })
bytes_then number (Ok bytes) (Err bad) = Err bad
bytes_then number (Ok bytes) (Ok more) = Ok (bytes ++ more)

abbrev pub lines_bytes : (before sets : List Set) → (place number : ℕ) → List (List ℕ) → Result (List ℕ) Bad
lines_bytes before sets place number [] = Ok []
lines_bytes before sets place number (bytes ∷ lines) =
    let line = line_of bytes in
    bytes_then number (line_bytes before sets place line)
    (lines_bytes (before ++ set_by place line.label) sets (place_behind place line) (number + 1) lines)

-- the image of a text, or its first line with a fault and its lowest kind
unfoldable pub image_of_text : List ℕ → Result (List ℕ) Bad
image_of_text text = let lines = lines_of text in lines_bytes [] (sets_of first_place lines) first_place 1 lines

-- THE FILE (ELF-64 Object File Format, "ELF header" and "Program header table"; psABI, "File Header")

-- The header: 64-bit, little-endian, version 1; an executable file (type 2) for RISC-V (machine 243), version 1; the entry; a table of
-- one program header of 56 bytes behind this header of 64; no sections, no flags.
abbrev pub elf_header : List ℕ
elf_header =
    0x7f ∷ 0x45 ∷ 0x4c ∷ 0x46 ∷ 2 ∷ 1 ∷ 1 ∷ replicate 9 0
    ++ bytes_of 2 2 ++ bytes_of 2 243 ++ bytes_of 4 1 ++ bytes_of 8 first_place ++ bytes_of 8 64 ++ bytes_of 8 0
    ++ bytes_of 4 0 ++ bytes_of 2 64 ++ bytes_of 2 56 ++ bytes_of 2 1 ++ bytes_of 2 0 ++ bytes_of 2 0 ++ bytes_of 2 0

-- the program header: to be loaded (type 1), readable, writable and executable (7), from the file's byte 4096 to the first place on
abbrev pub program_header : (len : ℕ) → List ℕ
program_header len =
    bytes_of 4 1 ++ bytes_of 4 7 ++ bytes_of 8 4096 ++ bytes_of 8 first_place ++ bytes_of 8 first_place ++ bytes_of 8 len ++ bytes_of 8 len ++ bytes_of 8 4096

-- the image stands behind the headers and zeros, from byte 4096 on
abbrev pub file_of : List ℕ → List ℕ
file_of image = elf_header ++ program_header (length image) ++ replicate (4096 - 120) 0 ++ image

abbrev pub file_or : Result (List ℕ) Bad → Result (List ℕ) Bad
file_or (Err bad) = Err bad
file_or (Ok image) = Ok (file_of image)

unfoldable pub assembly_of : List ℕ → Result (List ℕ) Bad
assembly_of text = file_or (image_of_text text)
