-- No header so far holds the entry.
use Rattle.std.proofs.Common.{◌≡◌, map, drop}
use Rattle.elf_load.specs.Fields.{fields_of}
use Rattle.elf_load.specs.ImageOf.{start_among}
use Rattle.elf_load.proofs.segments.start_among.Given as goal

abbrev pub invariant-loop-header : goal.invariant-loop-header
invariant-loop-header l =
    start_among l.entry (map fields_of l.headers) ≡ start_among l.entry (map fields_of (drop l.header-index l.headers))
