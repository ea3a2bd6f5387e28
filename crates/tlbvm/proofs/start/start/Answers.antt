-- Both files were read, and each was accepted: the machine is at its first state.
use Rattle.std.proofs.Common.{◌≡◌, refl, subst, rules, List, ℕ}
use Rattle.std.specs.Prelude.{Ok}
use Rattle.elf_load.specs.ImageOf.{image_of}
use Rattle.machine_model.specs.State.{initial}
use Rattle.machine_model.specs.Image.{setup_of}
use Rattle.ref_machine.specs.Shows.{Shows}
use Rattle.tlbvm.specs.Items.{order_of}
use Rattle.tlbvm.specs.Intake.{name_of, layout_of, Name, Input, Runs, plain_input, plain_intake, WereRead}
use Rattle.tlbvm.specs.Lines.{asked_as}
use Rattle.tlbvm.specs.Refused.{IsRefused, IsUnread}
use Rattle.tlbvm.proofs.Intakes.{read_since, unread_since, unread, read_on, refused_on, image_goes, image_on, order_goes}
use Rattle.tlbvm.proofs.There.{items_there}
use Rattle.tlbvm.proofs.start.start.Goals as goal

pub returns-in_err-text-clause-err : goal.returns-in_err-text-clause-err
returns-in_err-text-clause-err g c =
    let names : List ℕ → Name = name_of g.F.Images.told g.F.Images.faults c.args.images.now c.read_file-2.new.images in
    let file = c.in_ok-file.file.items in
    let pages = c.args.asked.pages in
    let image = c.in_ok-image.image in
    let status = c.in_err-text.field-0.0 in
    let read : WereRead (names c.args.elf.now) file = read_since (names c.args.elf.now) (name_of g.F.Images.told g.F.Images.faults c.args.images.now c.read_file.new.images c.args.elf.now) file refl c.in_ok-file.ensures.ok in
    let is_image : image_of file pages ≡ Ok image = subst (λ x. image_of x pages ≡ Ok image) c.as_slice.ensures.value c.in_ok-image.ensures.ok in
    let late : IsUnread (names c.args.order.now) status = unread_since (names c.args.order.now)
    (name_of g.F.Images.told g.F.Images.faults c.read_file.new.images c.read_file-2.new.images c.args.order.now) status
    (c.in_ok-file.ensures.same c.args.order.now) (c.in_ok-file.ensures.grows c.args.order.now) refl c.in_err-text.ensures.err in
    let refused : IsRefused names (plain_intake c.args.elf.now c.args.order.now (asked_as c.args.asked)) status =
    refused_on names c.args.elf.now _ file status read (image_on names (image_of file pages) image _ status is_image (unread names c.args.order.now _ status late)) in
    search rules

pub returns-clause-ok : goal.returns-clause-ok
returns-clause-ok g c =
    let names : List ℕ → Name = name_of g.F.Images.told g.F.Images.faults c.args.images.now c.read_file-2.new.images in
    let file = c.in_ok-file.file.items in
    let text = c.in_ok-text.text.items in
    let asked = asked_as c.args.asked in
    let image = c.in_ok-image.image in
    let items = c.in_ok-items.items.items in
    let input : Input = plain_input asked file image items in
    let read : WereRead (names c.args.elf.now) file = read_since (names c.args.elf.now) (name_of g.F.Images.told g.F.Images.faults c.args.images.now c.read_file.new.images c.args.elf.now) file refl c.in_ok-file.ensures.ok in
    let text_read : WereRead (names c.args.order.now) text = read_since (names c.args.order.now)
    (name_of g.F.Images.told g.F.Images.faults c.read_file.new.images c.read_file-2.new.images c.args.order.now) text (c.in_ok-file.ensures.same c.args.order.now) c.in_ok-text.ensures.ok in
    let is_image : image_of file asked.pages ≡ Ok image = subst (λ x. image_of x asked.pages ≡ Ok image) c.as_slice.ensures.value c.in_ok-image.ensures.ok in
    let is_order : order_of text asked.harts ≡ Ok items = subst (λ x. order_of x asked.harts ≡ Ok items) c.as_slice-2.ensures.value c.in_ok-items.ensures.ok in
    record {
      input = input;
      came = read_on names c.args.elf.now _ file (Ok (Runs input)) read (image_goes names (image_of file asked.pages) image _ (Ok (Runs input)) is_image
          (read_on names c.args.order.now _ text (Ok (Runs input)) text_read (order_goes names (order_of text asked.harts) items _ (Ok (Runs input)) is_order refl)));
      is_pace = refl;
      is_regs = refl;
      first = subst (λ x. Shows (setup_of (layout_of asked) x image asked.limit) c.in_ok-machine.machine (initial (setup_of (layout_of asked) x image asked.limit)))
          c.as_slice-3.ensures.value c.in_ok-machine.ensures.first;
    }

pub returns-clause-there : goal.returns-clause-there
returns-clause-there g c = items_there c.as_slice-2.result.now c.args.asked.harts c.in_ok-items.items.items c.requires.0 c.in_ok-items.ensures.ok
