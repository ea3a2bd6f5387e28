-- What a line says: its label, and the instruction, the data or the move of the place of its name and operands.
use Rattle.std.specs.Prelude.{ℕ, Bool, true, false, nat_le, ◌-◌, ◌&&◌, nat_lt, if◌then◌else◌, List, [], ◌∷◌, length, take, drop, find, Option, Some, None, Result, Ok, Err, codes, bytes_eq}
use Rattle.asm_text.specs.declared.mnemonic.Mnemonic.{Mnemonic}
use Rattle.asm_text.specs.declared.mnemonic.TheConstants.{MNEMONICS}
use Rattle.asm_text.specs.Table.{Shape, alone, upper, jump, branch, load, store, immediate, shift, registers, pages, csr, csr_value, reserve, atomic, name_of, shape_of}
use Rattle.asm_text.specs.declared.faults.Fault.{Fault}
use Rattle.asm_text.specs.declared.mnemonic.Form.{Form}
use Rattle.asm_text.specs.declared.mnemonic.Coded.{Coded}
use Rattle.asm_text.specs.declared.numbers.Number.{Number}
use Rattle.asm_text.specs.declared.values.Kind.{Kind}
use Rattle.asm_text.specs.Text.{body_of, label_of, behind_label, name_in, behind_name, operands_of}
use Rattle.asm_text.specs.Operand.{number, Label, Value, Reg, Num, To, values_of, numbers_of}

-- KINDS OF FAULT, of which a line has the lowest

abbrev pub kind_of : Fault → ℕ
kind_of Fault.NoName = 1
kind_of Fault.WrongForm = 2
kind_of Fault.OutOfRange = 3
kind_of Fault.NoLabel = 4
kind_of Fault.LabelTwice = 5
kind_of Fault.OutOfPlace = 6

abbrev pub lower_fault : Fault → Fault → Fault
lower_fault fault other = if nat_le (kind_of fault) (kind_of other) then fault else other

-- NAMES

abbrev pub form_of : Shape → Form
form_of (alone instr) = Form.Alone
form_of (upper make) = Form.Upper
form_of (jump make) = Form.Jump
form_of (branch make) = Form.Branch
form_of (load make) = Form.Load
form_of (store make) = Form.Store
form_of (immediate make) = Form.Immediate
form_of (shift bits make) = Form.Shift
form_of (registers make) = Form.Registers
form_of (pages make) = Form.Pages
form_of (csr make) = Form.Csr
form_of (csr_value make) = Form.CsrValue
form_of (reserve make) = Form.Reserve
form_of (atomic make) = Form.Atomic

-- the operands of each form
abbrev pub kinds_of : Form → List Kind
kinds_of Form.Alone = []
kinds_of Form.Upper = Kind.Register ∷ Kind.Count ∷ []
kinds_of Form.Jump = Kind.Register ∷ Kind.Where ∷ []
kinds_of Form.Branch = Kind.Register ∷ Kind.Register ∷ Kind.Where ∷ []
kinds_of Form.Load = Kind.Register ∷ Kind.Based ∷ []
kinds_of Form.Store = Kind.Register ∷ Kind.Based ∷ []
kinds_of Form.Immediate = Kind.Register ∷ Kind.Register ∷ Kind.Count ∷ []
kinds_of Form.Shift = Kind.Register ∷ Kind.Register ∷ Kind.Count ∷ []
kinds_of Form.Registers = Kind.Register ∷ Kind.Register ∷ Kind.Register ∷ []
kinds_of Form.Pages = Kind.Register ∷ Kind.Register ∷ []
kinds_of Form.Csr = Kind.Register ∷ Kind.Csr ∷ Kind.Register ∷ []
kinds_of Form.CsrValue = Kind.Register ∷ Kind.Csr ∷ Kind.Count ∷ []
kinds_of Form.Reserve = Kind.Register ∷ Kind.Base ∷ []
kinds_of Form.Atomic = Kind.Register ∷ Kind.Register ∷ Kind.Base ∷ []

-- a mnemonic with the bits aq and rl, which only an atomic operation has
abbrev pub coded : (aq rl : Bool) → Mnemonic → Coded
coded aq rl mnemonic = record { mnemonic = mnemonic; aq = aq; rl = rl }

abbrev pub is_atomic : Form → Bool
is_atomic Form.Reserve = true
is_atomic Form.Atomic = true
is_atomic form = false

abbrev pub is_named : List ℕ → Mnemonic → Bool
is_named name mnemonic = bytes_eq name (name_of mnemonic)

abbrev pub mnemonic_of : List ℕ → Option Mnemonic
mnemonic_of name = find (is_named name) MNEMONICS

-- the name ends in this, behind something
abbrev pub ends_in : List ℕ → List ℕ → Bool
ends_in end name = nat_lt (length end) (length name) && bytes_eq (drop (length name - length end) name) end

abbrev pub without : List ℕ → List ℕ → List ℕ
without end name = take (length name - length end) name

abbrev pub if_atomic : (aq rl : Bool) → Option Mnemonic → Option Coded
if_atomic aq rl None = None
if_atomic aq rl (Some mnemonic) = if is_atomic (form_of (shape_of mnemonic)) then Some (coded aq rl mnemonic) else None

-- `.aq`, `.rl` or `.aqrl` behind the name of an atomic operation
abbrev pub ordered_of : List ℕ → Option Coded
ordered_of name =
    if ends_in (codes ".aqrl") name then if_atomic true true (mnemonic_of (without (codes ".aqrl") name)) else
    if ends_in (codes ".aq") name then if_atomic true false (mnemonic_of (without (codes ".aq") name)) else
    if ends_in (codes ".rl") name then if_atomic false true (mnemonic_of (without (codes ".rl") name)) else
    None

abbrev pub plain_or_ordered : List ℕ → Option Mnemonic → Option Coded
plain_or_ordered name (Some mnemonic) = Some (coded false false mnemonic)
plain_or_ordered name None = ordered_of name

abbrev pub coded_of : List ℕ → Option Coded
coded_of name = plain_or_ordered name (mnemonic_of name)

-- ACTIONS

pub data Action : Type 0 where
  -- nothing but a label, if that
  Nothing : Action
  -- one instruction
  Makes : (coded : Coded) (values : List Value) → Action
  -- `li rd, n`
  LoadsNumber : (rd : ℕ) (n : Number) → Action
  -- `la rd, label`
  LoadsAddress : (rd : ℕ) (label : List ℕ) → Action
  -- numbers of so many bytes each
  Data : (width : ℕ) (numbers : List Number) → Action
  -- `.org N`
  MovesTo : (n : Number) → Action

abbrev pub or_wrong_form : Option Action → Result Action Fault
or_wrong_form None = Err Fault.WrongForm
or_wrong_form (Some action) = Ok action

-- `mv rd, rs` is `addi rd, rs, 0`, and `j T` is `jal x0, T`
abbrev pub move : List Value → Option Action
move (Reg rd ∷ Reg rs ∷ []) = Some (Makes (coded false false Mnemonic.Addi) (Reg rd ∷ Reg rs ∷ Num (number false 0) ∷ []))
move values = None

abbrev pub jump_to : List Value → Option Action
jump_to (To target ∷ []) = Some (Makes (coded false false Mnemonic.Jal) (Reg 0 ∷ To target ∷ []))
jump_to values = None

abbrev pub load_number : List Value → Option Action
load_number (Reg rd ∷ Num n ∷ []) = Some (LoadsNumber rd n)
load_number values = None

abbrev pub load_address : List Value → Option Action
load_address (Reg rd ∷ To (Label name) ∷ []) = Some (LoadsAddress rd name)
load_address values = None

abbrev pub move_to : List Value → Option Action
move_to (Num n ∷ []) = Some (MovesTo n)
move_to values = None

-- the values of an action's operands, where they have these kinds
abbrev pub with_values : (List Value → Option Action) → Option (List Value) → Result Action Fault
with_values action None = Err Fault.WrongForm
with_values action (Some values) = or_wrong_form (action values)

abbrev pub data_of : (width : ℕ) → Option (List Number) → Result Action Fault
data_of width None = Err Fault.WrongForm
data_of width (Some numbers) = Ok (Data width numbers)

abbrev pub makes : Coded → Option (List Value) → Result Action Fault
makes c None = Err Fault.WrongForm
makes c (Some values) = Ok (Makes c values)

abbrev pub instruction_of : Option Coded → (operands : List (List ℕ)) → Result Action Fault
instruction_of None operands = Err Fault.NoName
instruction_of (Some c) operands = makes c (values_of (kinds_of (form_of (shape_of c.mnemonic))) operands)

-- a directive, or an instruction of the table
abbrev pub directive_of : (name : List ℕ) (operands : List (List ℕ)) → Result Action Fault
directive_of name operands =
    if bytes_eq name (codes ".byte") then data_of 1 (numbers_of operands) else
    if bytes_eq name (codes ".word") then data_of 4 (numbers_of operands) else
    if bytes_eq name (codes ".dword") then data_of 8 (numbers_of operands) else
    if bytes_eq name (codes ".org") then with_values move_to (values_of (Kind.Count ∷ []) operands) else
    instruction_of (coded_of name) operands

-- what a name and its operands say
abbrev pub action_of : (name : List ℕ) (operands : List (List ℕ)) → Result Action Fault
action_of [] operands = Ok Nothing
action_of name operands =
    if bytes_eq name (codes "mv") then with_values move (values_of (Kind.Register ∷ Kind.Register ∷ []) operands) else
    if bytes_eq name (codes "j") then with_values jump_to (values_of (Kind.Where ∷ []) operands) else
    if bytes_eq name (codes "li") then with_values load_number (values_of (Kind.Register ∷ Kind.Count ∷ []) operands) else
    if bytes_eq name (codes "la") then with_values load_address (values_of (Kind.Register ∷ Kind.Labelled ∷ []) operands) else
    directive_of name operands

-- LINES

pub record Line : Type 0 where
  pub label : Option (List ℕ)
  pub action : Result Action Fault

abbrev pub line_of : List ℕ → Line
line_of bytes =
    let said = behind_label (body_of bytes) in
    record { label = label_of (body_of bytes); action = action_of (name_in said) (operands_of (behind_name said)) }
