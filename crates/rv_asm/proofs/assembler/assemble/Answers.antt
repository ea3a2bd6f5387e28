use Rattle.std.proofs.Common.{◌∙◌, sym, ap, ◌++◌}
use Rattle.std.specs.Prelude.{Ok}
use Rattle.rv_asm.specs.Assembly.{file_of}
use Rattle.rv_asm.proofs.FileMade.{file_found, file_refused}
use Rattle.rv_asm.proofs.assembler.assemble.Goals as goal

pub returns-in-Err-clause-refused : goal.returns-in-Err-clause-refused
returns-in-Err-clause-refused c = file_refused c.args.text.now c.in-Err.error c.in-Err.ensures.refused

pub returns-in-Ok-push_file-clause-file : goal.returns-in-Ok-push_file-clause-file
returns-in-Ok-push_file-clause-file c = file_found c.args.text.now c.in-Ok-image_of.image.items c.in-Ok-image_of.ensures.image
    ∙ ap Ok (sym (c.in-Ok-push_file.ensures ∙ ap (λ xs. xs ++ file_of c.as_slice.result.now) c.new-file.ensures.items ∙ ap file_of c.as_slice.ensures.value))
