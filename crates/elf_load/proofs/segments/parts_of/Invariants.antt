-- The parts of the headers so far.
use Rattle.std.proofs.Common.{◌≡◌, map, take}
use Rattle.elf_load.specs.Fields.{fields_of}
use Rattle.elf_load.specs.ImageOf.{part_of}
use Rattle.elf_load.proofs.segments.parts_of.Given as goal

abbrev pub invariant-loop-header : goal.invariant-loop-header
invariant-loop-header l = l.parts.items ≡ map (λ h. part_of (fields_of h)) (take l.header-index l.headers)
