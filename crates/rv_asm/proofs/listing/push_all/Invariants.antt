use Rattle.std.proofs.Common.{drop}
use Rattle.std.specs.Prelude.{string_bytes}
use Rattle.rv_asm.specs.Lists.{AreInFile}
use Rattle.rv_asm.proofs.Listed.{LeadsToParts}
use Rattle.rv_asm.proofs.listing.push_all.Given as goal

abbrev pub invariant-loop-part : goal.invariant-loop-part
invariant-loop-part l = record {
  in_file : AreInFile l.file (drop l.part-index l.parts);
  leads : LeadsToParts l.file l.parts (string_bytes l.initial.text) (drop l.part-index l.parts) (string_bytes l.text);
}
