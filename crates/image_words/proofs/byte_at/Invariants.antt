-- No part so far holds the byte.
use Rattle.std.proofs.Common.{◌≡◌}
use Rattle.std.specs.Prelude.{drop}
use Rattle.elf_load.specs.Contents.{contents}
use Rattle.image_words.proofs.byte_at.Given as goal

abbrev pub invariant-loop-part : goal.invariant-loop-part
invariant-loop-part l = contents l.file l.parts l.pa ≡ contents l.file (drop l.part-index l.parts) l.pa
