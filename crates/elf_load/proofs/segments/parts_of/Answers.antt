-- All headers gave their parts.
use Rattle.std.proofs.Common.{ap, ◌∙◌, map, arith}
use Rattle.std.proofs.lemmas.List.{take_all}
use Rattle.elf_load.specs.Fields.{fields_of}
use Rattle.elf_load.specs.ImageOf.{part_of}
use Rattle.elf_load.proofs.Headers.{map_twice}
use Rattle.elf_load.proofs.segments.parts_of.Goals as goal

pub returns : goal.returns
returns c =
    c.loop-header.invariant
    ∙ ap (λ hs. map (λ h. part_of (fields_of h)) hs) (take_all c.loop-header.header-index c.args.headers.now (omega arith))
    ∙ map_twice part_of fields_of c.args.headers.now
