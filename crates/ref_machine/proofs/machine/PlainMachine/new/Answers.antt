-- The image's start is a multiple of 4, and what is loaded is the first state.
use Rattle.std.proofs.Common.{◌≡◌, ◌%◌, ap, sym, ◌∙◌, subst, List}
use Rattle.elf_load.specs.Loaded.{Loaded}
use Rattle.elf_load.proofs.Starts.{start_aligned}
use Rattle.ref_machine.specs.declared.hart.HartSlot.{HartSlot}
use Rattle.machine_model.specs.State.{initial}
use Rattle.ref_machine.specs.PlainState.{PlainState, first_slots}
use Rattle.ref_machine.specs.Shows.{Shows}
use Rattle.machine_model.specs.Image.{setup_of}
use Rattle.ref_machine.proofs.First.{first_shown}
use Rattle.ref_machine.proofs.machine.PlainMachine.new.Goals as goal

pub first_slots-requires-clause-aligned : goal.first_slots-requires-clause-aligned
first_slots-requires-clause-aligned c =
    subst (λ (l : Loaded). l.start % 4 ≡ 0) (sym c.image.view_is) (start_aligned c.args.file.now c.args.layout.pages c.args.image.now c.requires.image)

pub returns : goal.returns
returns c =
    let u = setup_of c.args.layout c.args.file.now c.args.image.now c.args.limit in
    let machine : List HartSlot → PlainState = λ slots. record { slots = slots; shared = c.in_ok-shared.shared } in
    let made : c.in_ok-slots.slots.items ≡ first_slots c.args.layout.harts c.args.image.now.start
    = c.in_ok-slots.ensures ∙ ap (λ (l : Loaded). first_slots c.args.layout.harts l.start) c.image.view_is in
    record {
      first = subst (λ (ts : List HartSlot). Shows u (machine ts) (initial u)) (sym made)
          (first_shown c.args.layout c.args.file.now c.args.image.now c.args.limit c.in_ok-shared.shared c.requires.layout.some_hart c.in_ok-shared.ensures);
    }
