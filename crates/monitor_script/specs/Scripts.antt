-- The commands of a script: what the monitor is to do, line by line.
use Rattle.std.specs.Prelude.{ℕ, ◌+◌, ◌*◌, ◌^◌, Bool, true, ◌&&◌, nat_le, if◌then◌else◌, List, [], ◌∷◌, ◌++◌, length, drop, Option, Some, None, Result, Ok, Err, codes, bytes_eq}
use Rattle.std.specs.List.{list_all}
use Rattle.text_lines.specs.Lines.{lines_of, words_of, says_nothing}
use Rattle.text_lines.specs.Number.{number_within}
use Rattle.asm_text.specs.Operand.{is_hex, is_hex_digit, hex_value}
use Rattle.monitor_script.specs.declared.scripts.Command.{Command}
use Rattle.monitor_script.specs.declared.scripts.Command.TheVariants.{Await, Dump, Stop}

-- bytes of RAM, which begins at 0x80000000 and has pages of 4096 bytes
abbrev pub are_in_ram : (pages at len : ℕ) → Bool
are_in_ram pages at len = nat_le (2 ^ 31) at && nat_le (at + len) (2 ^ 31 + 4096 * pages)

-- What a command may ask of a machine with so many pages: to wait for no more bytes than the console takes, and for 1 to 4096 bytes of RAM.
abbrev pub is_possible : (pages : ℕ) → Command → Bool
is_possible pages (Await count) = nat_le count 1048576
is_possible pages (Dump at len) = nat_le 1 len && nat_le len 4096 && are_in_ram pages at len
is_possible pages Stop = true

-- the address that a word is: `0x` and 1 to 16 hexadecimal digits
abbrev pub is_address : List ℕ → Bool
is_address word = is_hex word && nat_le 3 (length word) && nat_le (length word) 18 && list_all is_hex_digit (drop 2 word)

abbrev pub address_of : List ℕ → Option ℕ
address_of word = if is_address word then Some (hex_value (drop 2 word)) else None

abbrev pub await_of : (count : Option ℕ) → Option Command
await_of None = None
await_of (Some count) = Some (Await count)

abbrev pub dump_of : (at len : Option ℕ) → Option Command
dump_of (Some at) (Some len) = Some (Dump at len)
dump_of _ _ = None

-- the command that a line's words name: `stop`, `await N` or `dump ADDR LEN`
abbrev pub named_by : List (List ℕ) → Option Command
named_by (name ∷ []) = if bytes_eq name (codes "stop") then Some Stop else None
named_by (name ∷ count ∷ []) = if bytes_eq name (codes "await") then await_of (number_within count 1048576) else None
named_by (name ∷ at ∷ len ∷ []) = if bytes_eq name (codes "dump") then dump_of (address_of at) (number_within len 4096) else None
named_by _ = None

-- where such a machine can do it
abbrev pub if_possible : (pages : ℕ) → Option Command → Option Command
if_possible pages None = None
if_possible pages (Some command) = if is_possible pages command then Some command else None

abbrev pub command_of : (pages : ℕ) → List (List ℕ) → Option Command
command_of pages words = if_possible pages (named_by words)

-- The commands of the lines from that number on, behind other commands, 1,000 at most; or the number of the first bad line.
abbrev pub commands_from : (pages : ℕ) → List (List ℕ) → (line : ℕ) → List Command → Result (List Command) ℕ
commands_from pages [] line commands = Ok commands
commands_from pages (text ∷ texts) line commands =
    if says_nothing (words_of text) then commands_from pages texts (line + 1) commands else
    elim (command_of pages (words_of text)) [
      | None ↦ Err line
      | Some command ↦ if nat_le (length commands + 1) 1000 then commands_from pages texts (line + 1) (commands ++ command ∷ []) else Err line
    ]

-- The commands of a text, or the number of its first bad line, from 1.
abbrev pub script_of : List ℕ → (pages : ℕ) → Result (List Command) ℕ
script_of text pages = commands_from pages (lines_of text) 1 []
