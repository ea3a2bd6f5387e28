-- The headers so far, and what the rest of the table gives.
use Rattle.std.proofs.Common.{◌≡◌, ◌+◌, ◌-◌, ◌*◌, ◌++◌, map}
use Rattle.std.specs.Prelude.{filter}
use Rattle.elf_load.specs.Fields.{fields_of}
use Rattle.elf_load.specs.Header.{headers_from}
use Rattle.elf_load.specs.ImageOf.{is_placed}
use Rattle.elf_load.proofs.segments.placed_headers.Given as goal

abbrev pub invariant-loop-i : goal.invariant-loop-i
invariant-loop-i l =
    map fields_of l.headers.items ++ filter is_placed (headers_from l.file (l.table + 56 * l.i) (l.i-end - l.i))
    ≡ filter is_placed (headers_from l.file l.table l.i-end)
