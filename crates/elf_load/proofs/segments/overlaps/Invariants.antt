-- No header so far shares a byte with one behind it.
use Rattle.std.proofs.Common.{◌≡◌, map, drop}
use Rattle.elf_load.specs.Fields.{fields_of}
use Rattle.elf_load.specs.ImageOf.{overlaps}
use Rattle.elf_load.proofs.segments.overlaps.Given as goal

abbrev pub invariant-loop-i : goal.invariant-loop-i
invariant-loop-i l = overlaps (map fields_of l.headers) ≡ overlaps (map fields_of (drop l.i l.headers))
