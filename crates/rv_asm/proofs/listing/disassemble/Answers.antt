use Rattle.std.proofs.Common.{List, subst, sym}
use Rattle.elf_load.specs.declared.image.Part.{Part}
use Rattle.elf_load.specs.Loaded.{Loaded}
use Rattle.rv_asm.specs.Lists.{AreInFile}
use Rattle.rv_asm.proofs.InFile.{parts_in_file}
use Rattle.rv_asm.proofs.listing.disassemble.Goals as goal

pub push_all-requires : goal.push_all-requires
push_all-requires c =
    let inside = subst (λ (image : Loaded). AreInFile c.args.file.now image.parts) (sym c.image.view_is) (parts_in_file c.args.file.now c.args.image.now c.requires) in
    subst (λ (parts : List Part). AreInFile c.args.file.now parts) (sym c.as_slice.ensures.value) inside
