-- A command line: a command, its operands, and options, which stand at any place behind the command.
use Rattle.std.specs.Prelude.{ℕ, Bool, true, false, not, ◌&&◌, ◌||◌, ◌==◌, nat_le, nat_lt, if◌then◌else◌, List, [], ◌∷◌, ◌++◌, length, Option, Some, None, codes, bytes_eq, is_none, unwrap_or}
use Rattle.std.specs.List.{before_first, after_first, list_any}
use Rattle.std.specs.Option.{option_and_then, option_map}
use Rattle.text_lines.specs.Number.{number_within}

-- the machine that a line asks for, and whether the registers are to be reported
pub record Asked : Type 0 where
  pub harts : ℕ
  pub pages : ℕ
  pub limit : ℕ
  pub regs : Bool

-- what a line says, by its command
pub data Line : Type 0 where
  Plain : (elf order : List ℕ) (asked : Asked) → Line
  Dis : (elf : List ℕ) → Line
  Asm : (text : List ℕ) → Line
  Gen : (number : ℕ) → Line

-- what was read so far
pub record SoFar : Type 0 where
  pub operands : List (List ℕ)
  pub harts : Option ℕ
  pub pages : Option ℕ
  pub limit : Option ℕ
  pub regs : Bool

abbrev pub nothing : SoFar
nothing = record { operands = []; harts = None; pages = None; limit = None; regs = false }

-- WORDS

-- a word that begins with a dash
abbrev pub is_dashed : List ℕ → Bool
is_dashed [] = false
is_dashed (c ∷ cs) = c == 45

-- an operand in front of `--`: no word that begins with a dash, but for `-` itself
abbrev pub is_operand : List ℕ → Bool
is_operand word = not (is_dashed word) || bytes_eq word (codes "-")

-- an option with its value, `NAME=VALUE`, is parted at its first `=`
abbrev pub is_equals : ℕ → Bool
is_equals c = c == 61

abbrev pub has_value : List ℕ → Bool
has_value word = list_any is_equals word

abbrev pub name_in : List ℕ → List ℕ
name_in word = before_first is_equals word

abbrev pub value_in : List ℕ → List ℕ
value_in word = after_first is_equals word

-- WHAT THEY SAY

-- an operand more; no command has more than three
abbrev pub most_operands : ℕ
most_operands = 3

abbrev pub with_operand : List ℕ → SoFar → Option SoFar
with_operand word seen =
    if nat_lt (length seen.operands) most_operands then Some (record seen { operands = seen.operands ++ word ∷ [] }) else None

-- `--regs`, once
abbrev pub with_regs : SoFar → Option SoFar
with_regs seen = if seen.regs then None else Some (record seen { regs = true })

-- the number that a text is, where it is one within these bounds
abbrev pub number_between : (least most : ℕ) → List ℕ → Option ℕ
number_between least most text = option_and_then (λ n. if nat_le least n then Some n else None) (number_within text most)

-- a value for a place that is free
abbrev pub taken : (place value : Option ℕ) → Option ℕ
taken None value = value
taken (Some n) value = None

-- an option that takes a number, by its name; no other takes a value
unfoldable pub with_value : (name value : List ℕ) → SoFar → Option SoFar
with_value name value seen =
    if bytes_eq name (codes "--harts") then option_map (λ n. record seen { harts = Some n }) (taken seen.harts (number_between 1 8 value)) else
    if bytes_eq name (codes "--pages") then option_map (λ n. record seen { pages = Some n }) (taken seen.pages (number_between 256 4096 value)) else
    if bytes_eq name (codes "--limit") then option_map (λ n. record seen { limit = Some n }) (taken seen.limit (number_between 1 1000000000000 value)) else
    None

-- LINES

-- what was read after words behind `--`
abbrev pub after_operands : List (List ℕ) → SoFar → Option SoFar
after_operands [] seen = Some seen
after_operands (word ∷ words) seen = option_and_then (after_operands words) (with_operand word seen)

-- What was read after words in front of `--`; `awaits` is the name of an option whose value is the next word. A word that
-- is none of the others is an option with its value or awaits one: `with_value` refuses a name that takes none.
abbrev pub after_words : List (List ℕ) → (awaits : Option (List ℕ)) → SoFar → Option SoFar
after_words [] None seen = Some seen
after_words [] (Some name) seen = None
after_words (word ∷ words) (Some name) seen =
    if is_dashed word then None else option_and_then (after_words words None) (with_value name word seen)
after_words (word ∷ words) None seen =
    if is_operand word then option_and_then (after_words words None) (with_operand word seen) else
    if bytes_eq word (codes "--") then after_operands words seen else
    if bytes_eq word (codes "--regs") then option_and_then (after_words words None) (with_regs seen) else
    if has_value word then option_and_then (after_words words None) (with_value (name_in word) (value_in word) seen) else
    after_words words (Some word) seen

-- an option that is not there has its default
abbrev pub asked_of : SoFar → Asked
asked_of seen = record {
  harts = unwrap_or seen.harts 1;
  pages = unwrap_or seen.pages 1024;
  limit = unwrap_or seen.limit 50000000;
  regs = seen.regs;
}

-- `plain ELF ORDER`
abbrev pub plain_from : (operands : List (List ℕ)) → Asked → Option Line
plain_from (elf ∷ order ∷ []) asked = Some (Plain elf order asked)
plain_from _ asked = None

-- there is no option
abbrev pub has_no_option : SoFar → Bool
has_no_option seen = is_none seen.harts && is_none seen.pages && is_none seen.limit && not seen.regs

-- `dis ELF`, which has no options
abbrev pub dis_from : (operands : List (List ℕ)) → (no_option : Bool) → Option Line
dis_from (elf ∷ []) true = Some (Dis elf)
dis_from _ no_option = None

-- `asm TEXT`, which has no options
abbrev pub asm_from : (operands : List (List ℕ)) → (no_option : Bool) → Option Line
asm_from (text ∷ []) true = Some (Asm text)
asm_from _ no_option = None

-- `gen N`, which has no options
abbrev pub gen_from : (operands : List (List ℕ)) → (no_option : Bool) → Option Line
gen_from (number ∷ []) true = option_map Gen (number_within number 4294967295)
gen_from _ no_option = None

-- the line of a command
abbrev pub line_from : (command : List ℕ) → SoFar → Option Line
line_from command seen =
    if bytes_eq command (codes "plain") then plain_from seen.operands (asked_of seen) else
    if bytes_eq command (codes "dis") then dis_from seen.operands (has_no_option seen) else
    if bytes_eq command (codes "asm") then asm_from seen.operands (has_no_option seen) else
    if bytes_eq command (codes "gen") then gen_from seen.operands (has_no_option seen) else
    None

-- the lines that run a machine
abbrev pub runs_machine : Line → Bool
runs_machine (Plain elf order asked) = true
runs_machine (Dis elf) = false
runs_machine (Asm text) = false
runs_machine (Gen number) = false

-- the words of a line, of which the first is the command
abbrev pub line_of : List (List ℕ) → Option Line
line_of [] = None
line_of (command ∷ words) = option_and_then (line_from command) (after_words words None nothing)
