-- No header so far fails a check.
use Rattle.std.proofs.Common.{◌≡◌, map, drop}
use Rattle.elf_load.specs.Fields.{fields_of}
use Rattle.elf_load.specs.ImageOf.{first_failed, all_place_checks}
use Rattle.elf_load.proofs.segments.place_faults.Given as goal

abbrev pub invariant-loop-header : goal.invariant-loop-header
invariant-loop-header l =
    first_failed (all_place_checks l.len l.pages (map fields_of l.headers))
    ≡ first_failed (all_place_checks l.len l.pages (map fields_of (drop l.header-index l.headers)))
