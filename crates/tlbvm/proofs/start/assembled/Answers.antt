-- The text was read, and its file made.
use Rattle.std.proofs.Common.{◌≡◌, refl, subst, List, ℕ}
use Rattle.std.specs.Prelude.{Ok}
use Rattle.rv_asm.specs.Assembly.{assembly_of}
use Rattle.tlbvm.specs.Intake.{name_of, Name, Work, Makes, Gives}
use Rattle.tlbvm.proofs.Intakes.{read_on, text_goes}
use Rattle.tlbvm.proofs.start.assembled.Goals as goal

pub returns-clause-ok : goal.returns-clause-ok
returns-clause-ok g c =
    let names : List ℕ → Name = name_of g.F.Images.told g.F.Images.faults c.args.images.now c.read_file.new.images in
    let lines = c.in_ok-lines.lines.items in
    let file = c.in_ok-assemble.field-0.items in
    let work : Work = Makes file in
    let is_made : assembly_of lines ≡ Ok file = subst (λ x. assembly_of x ≡ Ok file) c.as_slice.ensures.value c.in_ok-assemble.ensures.file in
    record {
      work = work;
      came = read_on names c.args.text.now _ lines (Ok (Gives work)) c.in_ok-lines.ensures.ok (text_goes names (assembly_of lines) file _ (Ok (Gives work)) is_made refl);
      is_due = refl;
    }
