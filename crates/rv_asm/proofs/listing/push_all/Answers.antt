use Rattle.std.proofs.Common.{List, subst, sym, arith}
use Rattle.std.specs.Prelude.{string_bytes}
use Rattle.std.proofs.lemmas.List.{drop_all}
use Rattle.elf_load.specs.declared.image.Part.{Part}
use Rattle.rv_asm.specs.Lists.{ListsParts}
use Rattle.rv_asm.proofs.Listed.{next_part, lists_no_part}
use Rattle.rv_asm.proofs.listing.push_all.Goals as goal

pub loop-part-preserved : goal.loop-part-preserved
loop-part-preserved c =
    let both = next_part c.args.file.now c.args.parts.now c.loop-part.part-index _ (string_bytes c.args.text.now) (string_bytes c.loop-part.text) (string_bytes c.push_lines.new.text)
    c.loop-part-test.true c.in_ok-push_lines.ensures c.loop-part.invariant.in_file c.loop-part.invariant.leads in
    record { in_file = both.0; leads = both.1 }

pub returns : goal.returns
returns c = c.loop-part.invariant.leads (string_bytes c.loop-part.text)
    (subst (λ (parts : List Part). ListsParts c.args.file.now parts (string_bytes c.loop-part.text) (string_bytes c.loop-part.text))
    (sym (drop_all c.loop-part.part-index c.args.parts.now (omega arith)))
    (lists_no_part c.args.file.now (string_bytes c.loop-part.text)))
