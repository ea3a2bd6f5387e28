-- A monitor between two turns, as contracts see it.
use Rattle.std.specs.Prelude.{ℕ, ◌+◌, ◌≤◌, Bool, true, false, List, [], ◌∷◌, drop, take, map}
use Rattle.monitor_script.specs.declared.scripts.Command.{Command}
use Rattle.monitor_script.specs.declared.scripts.Command.TheVariants.{Await, Dump, Stop}
use Rattle.machine_model.specs.Script.{ScriptResult}
use Rattle.machine_model.specs.Script as script
use Rattle.machine_model.specs.State.{Command as Line, AwaitBytes, DumpBytes, StopAll}
use Rattle.monitor.specs.declared.monitor.Monitor.TheInside.{Inside}
use Rattle.monitor.specs.declared.monitor.Outcome.{Outcome}
use Rattle.monitor.specs.declared.monitor.Outcome.TheVariants.{Bytes}

pub record Monitor : Type 0 where
  -- what is left of it, the command in progress first
  pub script : List Command
  -- it has claimed the section
  pub claimed : Bool
  -- all is done, and it has made its last step
  pub rests : Bool
  pub outcomes : List Outcome
  -- of all dumps
  pub bytes : List ℕ

abbrev pub monitor_of : Inside → Monitor
monitor_of m = record { script = drop m.next m.commands.items; claimed = m.claimed; rests = m.rests; outcomes = m.outcomes.items; bytes = m.bytes.items }

-- as it begins
abbrev pub first_monitor : List Command → Monitor
first_monitor commands = record { script = commands; claimed = false; rests = false; outcomes = []; bytes = [] }

-- it goes on to the command behind
abbrev pub past : Monitor → Monitor
past m = record m { script = drop 1 m.script }

abbrev pub with_claim : Bool → Monitor → Monitor
with_claim claimed m = record m { claimed = claimed }

-- how many outcomes commands have, and how many bytes
abbrev pub dumps_in : List Command → ℕ
dumps_in [] = 0
dumps_in (Dump at len ∷ commands) = 1 + dumps_in commands
dumps_in (command ∷ commands) = dumps_in commands

abbrev pub bytes_in : List Command → ℕ
bytes_in [] = 0
bytes_in (Dump at len ∷ commands) = len + bytes_in commands
bytes_in (command ∷ commands) = bytes_in commands

-- a dump is in progress, or next
abbrev pub is_dumping : List Command → Bool
is_dumping (Dump at len ∷ commands) = true
is_dumping commands = false

-- the same as lines of the reference machine's script
abbrev pub line_of : Command → Line
line_of (Await count) = AwaitBytes count
line_of (Dump at len) = DumpBytes at len
line_of Stop = StopAll

abbrev pub lines_of : List Command → List Line
lines_of commands = map line_of commands

-- and what they came to as its results: a dump's bytes lie among all from a place on
abbrev pub result_of : List ℕ → Outcome → ScriptResult
result_of bytes (Bytes at len from) = script.Bytes at (take len (drop from bytes))

-- its bytes are among so many
abbrev pub IsThere : (count : ℕ) → Outcome → Type 0
IsThere count (Bytes at len from) = from + len ≤ count

abbrev pub results_of : Monitor → List ScriptResult
results_of m = map (result_of m.bytes) m.outcomes
