-- The file was read, its image accepted and its listing made.
use Rattle.std.proofs.Common.{◌≡◌, refl, subst, List, ℕ}
use Rattle.std.specs.Prelude.{Ok}
use Rattle.elf_load.specs.ImageOf.{image_of}
use Rattle.rv_asm.specs.Listing.{IsListing}
use Rattle.tlbvm.specs.Intake.{name_of, most_pages, Name, Work, Lists, Gives}
use Rattle.tlbvm.proofs.Intakes.{read_on, image_goes}
use Rattle.tlbvm.proofs.start.listing.Goals as goal

pub returns-clause-ok : goal.returns-clause-ok
returns-clause-ok g c =
    let names : List ℕ → Name = name_of g.F.Images.told g.F.Images.faults c.args.images.now c.read_file.new.images in
    let file = c.in_ok-file.file.items in
    let image = c.in_ok-image.image in
    let work : Work = Lists file image in
    let is_image : image_of file most_pages ≡ Ok image = subst (λ x. image_of x most_pages ≡ Ok image) c.as_slice.ensures.value c.in_ok-image.ensures.ok in
    record {
      work = work;
      came = read_on names c.args.elf.now _ file (Ok (Gives work)) c.in_ok-file.ensures.ok (image_goes names (image_of file most_pages) image _ (Ok (Gives work)) is_image refl);
      is_due = subst (λ x. IsListing x image.parts c.in_ok-disassemble.field-0.items) c.as_slice-2.ensures.value c.in_ok-disassemble.ensures;
    }
