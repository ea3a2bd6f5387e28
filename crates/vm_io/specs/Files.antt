-- Files in memory: a name means the first file that has it.
use Rattle.std.specs.Prelude.{ℕ, Bool, List, Option, find}
use Rattle.std.specs.Option.{option_map, option_map_or}
use Rattle.std.specs.Str.{bytes_eq}
use Rattle.std.specs.String.{string_bytes}
use Rattle.vm_io.specs.declared.memory.MemFile.{MemFile}

-- the file has this name
abbrev pub is_named : List ℕ → MemFile → Bool
is_named name file = bytes_eq (string_bytes file.name) name

-- the bytes of the file of this name
abbrev pub bytes_of : List MemFile → List ℕ → Option (List ℕ)
bytes_of files name = option_map (λ file. file.bytes.items) (find (is_named name) files)

-- the count of this name; all names without a file share one
abbrev pub count_of : List MemFile → ℕ → List ℕ → ℕ
count_of files shared name = option_map_or (λ file. file.faults) (find (is_named name) files) shared
