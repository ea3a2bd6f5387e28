-- The report of a machine that has ended.
use Rattle.std.specs.Prelude.{ℕ, zero, suc, ◌+◌, ◌/◌, ◌%◌, Bool, ◌==◌, nat_lt, if◌then◌else◌, List, [], ◌∷◌, ◌++◌, length, drop, Option, Some, None, codes, decimal}
use Rattle.rv64_priv.specs.State.{Arch}
use Rattle.machine_model.specs.declared.reason.Reason.{Reason}
use Rattle.machine_model.specs.Event.{Event}
use Rattle.machine_model.specs.State.{Setup, Hart}
use Rattle.machine_model.specs.Run.{state_of}
use Rattle.machine_model.specs.Script.{ScriptResult, Pages, Bytes, script_results}

-- how it ended, by its first reason
abbrev pub ending_of : Option Reason → List ℕ
ending_of None = codes "order ended"
ending_of (Some Reason.Pass) = codes "pass"
ending_of (Some (Reason.Fail code)) = codes "fail " ++ decimal code
ending_of (Some (Reason.Limit hart)) = codes "limit hart " ++ decimal hart
ending_of (Some Reason.OutFull) = codes "output full"
ending_of (Some Reason.AllStopped) = codes "all harts stopped"
ending_of (Some Reason.Stopped) = codes "stopped"

abbrev pub end_line : Option Reason → List ℕ
end_line reason = codes "end: " ++ ending_of reason ++ codes "\n"

-- a number in so many hexadecimal digits, in lower case
abbrev pub hex_digit : ℕ → ℕ
hex_digit d = if nat_lt d 10 then 48 + d else 87 + d

unfoldable pub hex : (digits value : ℕ) → List ℕ
hex zero value = []
hex (suc n) value = hex n (value / 16) ++ hex_digit (value % 16) ∷ []

-- registers, each behind a space
abbrev pub registers : List ℕ → List ℕ
registers [] = []
registers (x ∷ xs) = codes " " ++ hex 16 x ++ registers xs

-- `hart H COUNT PC X1 .. X31`
abbrev pub hart_line : (h count : ℕ) → Arch → List ℕ
hart_line h count a = codes "hart " ++ decimal h ++ codes " " ++ decimal count ++ codes " " ++ hex 16 a.pc ++ registers (drop 1 a.x) ++ codes "\n"

abbrev pub hart_lines : (h : ℕ) → List Hart → List ℕ
hart_lines h [] = []
hart_lines h (t ∷ harts) = hart_line h t.count t.arch ++ hart_lines (h + 1) harts

-- a number below 2^64 in hexadecimal, in lower case, without zeros in front
abbrev pub without_zeros : List ℕ → List ℕ
without_zeros [] = []
without_zeros (digit ∷ digits) = if digit == 48 then without_zeros digits else digit ∷ digits

abbrev pub short_hex : ℕ → List ℕ
short_hex value = without_zeros (hex 15 (value / 16)) ++ hex_digit (value % 16) ∷ []

-- pages, each behind a space
abbrev pub page_numbers : List ℕ → List ℕ
page_numbers [] = []
page_numbers (page ∷ pages) = codes " " ++ short_hex page ++ page_numbers pages

-- bytes, two digits each
abbrev pub byte_digits : List ℕ → List ℕ
byte_digits [] = []
byte_digits (byte ∷ bytes) = hex 2 byte ++ byte_digits bytes

-- What the script came to: `snapshot K: C pages` with the pages, where K counts the snapshots from 1; `dump ADDR:` with the bytes.
abbrev pub result_lines : (k : ℕ) → List ScriptResult → List ℕ
result_lines k [] = []
result_lines k (Pages pages ∷ results) =
    codes "snapshot " ++ decimal k ++ codes ": " ++ decimal (length pages) ++ codes " pages" ++ page_numbers pages ++ codes "\n" ++ result_lines (k + 1) results
result_lines k (Bytes at bytes ∷ results) = codes "dump " ++ short_hex at ++ codes ": " ++ byte_digits bytes ++ codes "\n" ++ result_lines k results

-- what the script came to, the machine's end, and where the registers are asked for a line for each hart
abbrev pub report_from : (regs : Bool) → List ScriptResult → Option Reason → List Hart → List ℕ
report_from regs results reason harts = result_lines 1 results ++ end_line reason ++ (if regs then hart_lines 0 harts else [])

-- the report of a run
abbrev pub report_of : (regs : Bool) → Setup → List Event → List ℕ
report_of regs u run = report_from regs (script_results run) (state_of u run).reason (state_of u run).harts
