-- No header so far shares a byte.
use Rattle.std.proofs.Common.{◌≡◌, map, drop}
use Rattle.std.specs.List.{list_any}
use Rattle.elf_load.specs.Fields.{fields_of}
use Rattle.elf_load.specs.ImageOf.{shares_byte}
use Rattle.elf_load.proofs.segments.shares_with_any.Given as goal

abbrev pub invariant-loop-other : goal.invariant-loop-other
invariant-loop-other l =
    list_any (shares_byte (fields_of l.one)) (map fields_of l.others)
    ≡ list_any (shares_byte (fields_of l.one)) (map fields_of (drop l.other-index l.others))
