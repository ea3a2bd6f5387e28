-- Lines as the code keeps them.
use Rattle.std.specs.Prelude.{◌≡◌, ◌<◌, ◌≤◌, ◌^◌, ℕ, List, [], ◌∷◌, length, map, Option, Some, None, Result, Ok, Err}
use Rattle.std.specs.Option.{option_map}
use Rattle.std.specs.List.{slice_split}
use denote.Ref.{Bor}
use Rattle.asm_text.specs.Text.{is_comma, operand_in}
use Rattle.asm_text.specs.declared.values.Target.{Target as TargetRead}
use Rattle.asm_text.specs.declared.values.Value.{Value as ValueRead}
use Rattle.asm_text.specs.declared.values.Values.{Values as ValuesRead}
use Rattle.asm_text.specs.declared.statement.Action.{Action as ActionRead}
use Rattle.asm_text.specs.declared.statement.Line.{Line as LineRead}
use Rattle.asm_text.specs.declared.faults.Fault.{Fault}
use Rattle.asm_text.specs.declared.numbers.Number.{Number}
use Rattle.asm_text.specs.Action.{Action, Nothing, Makes, LoadsNumber, LoadsAddress, Data, MovesTo, Line}
use Rattle.asm_text.specs.Operand.{all_numbers, Target, Label, Address, Value, Reg, Num, Off, To}

abbrev pub target_as : TargetRead → Target
target_as (TargetRead.Label name) = Label name.now
target_as (TargetRead.Address number) = Address number

abbrev pub value_as : ValueRead → Value
value_as (ValueRead.Reg n) = Reg n
value_as (ValueRead.Num n) = Num n
value_as (ValueRead.Off n rs1) = Off n rs1
value_as (ValueRead.To target) = To (target_as target)

-- the operands that are left of a text, or none
abbrev pub texts_in : List ℕ → List (List ℕ)
texts_in text = map operand_in (slice_split is_comma text)

abbrev pub texts_left : Option (Bor (List ℕ)) → List (List ℕ)
texts_left None = []
texts_left (Some text) = texts_in text.now

abbrev pub values_as : ValuesRead → List Value
values_as ValuesRead.Nothing = []
values_as (ValuesRead.One first) = value_as first ∷ []
values_as (ValuesRead.Two first second) = value_as first ∷ value_as second ∷ []
values_as (ValuesRead.Three first second third) = value_as first ∷ value_as second ∷ value_as third ∷ []

abbrev pub or_none : Option (List Number) → List Number
or_none None = []
or_none (Some numbers) = numbers

-- the numbers of data are kept as their text
abbrev pub action_as : ActionRead → Action
action_as ActionRead.Nothing = Nothing
action_as (ActionRead.Makes coded values) = Makes coded (values_as values)
action_as (ActionRead.LoadsNumber rd n) = LoadsNumber rd n
action_as (ActionRead.LoadsAddress rd label) = LoadsAddress rd label.now
action_as (ActionRead.Data width text count) = Data width (or_none (all_numbers (texts_in text.now)))
action_as (ActionRead.MovesTo n) = MovesTo n

-- its register is one of 32
abbrev pub IsValueRead : ValueRead → Type 0
IsValueRead (ValueRead.Reg n) = n < 32
IsValueRead (ValueRead.Off n rs1) = rs1 < 32
IsValueRead value = Unit {0}

abbrev pub AreRead : ValuesRead → Type 0
AreRead ValuesRead.Nothing = Unit {0}
AreRead (ValuesRead.One first) = IsValueRead first
AreRead (ValuesRead.Two first second) = IsValueRead first × IsValueRead second
AreRead (ValuesRead.Three first second third) = IsValueRead first × IsValueRead second × IsValueRead third

-- the operands of data are numbers, so many
pub record IsData (width : ℕ) (text : List ℕ) (count : ℕ) : Type 0 where
  pub numbers : List Number
  pub are : all_numbers (texts_in text) ≡ Some numbers
  pub many : length numbers ≡ count
  pub few : count ≤ 2 ^ 64
  pub some : 0 < width
  pub narrow : width ≤ 8

-- the registers are some of 32
abbrev pub IsRead : ActionRead → Type 0
IsRead (ActionRead.Makes coded values) = AreRead values
IsRead (ActionRead.LoadsNumber rd n) = rd < 32
IsRead (ActionRead.LoadsAddress rd label) = rd < 32
IsRead (ActionRead.Data width text count) = IsData width text.now count
IsRead action = Unit {0}

abbrev pub found_as : Result ActionRead Fault → Result Action Fault
found_as (Ok action) = Ok (action_as action)
found_as (Err fault) = Err fault

abbrev pub text_of : Bor (List ℕ) → List ℕ
text_of text = text.now

abbrev pub line_as : LineRead → Line
line_as line = record { label = option_map text_of line.label; action = found_as line.action }
