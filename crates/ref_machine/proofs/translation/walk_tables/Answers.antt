-- Where a walk of the page tables ends.
use Rattle.std.proofs.Common.{sym, subst}
use Rattle.ref_machine.specs.SharedState.{ram_reads}
use Rattle.ref_machine.specs.Translation.{end_of, IsSoundEnd}
use Rattle.ref_machine.proofs.Fresh.{from_sound, sound_small}
use Rattle.ref_machine.proofs.translation.walk_tables.Goals as goal

pub returns-clause-sound : goal.returns-clause-sound
returns-clause-sound c =
    subst (λ w. IsSoundEnd c.args.pages c.args.kind w) (sym c.walk_from.ensures)
    (from_sound c.args.pages c.args.regime.now c.args.kind (ram_reads c.args.ram.now) c.args.va 3 _)

pub returns-clause-small : goal.returns-clause-small
returns-clause-small c =
    sound_small c.args.pages c.args.kind (end_of c.walk_from.result) c.requires.pages
    (subst (λ w. IsSoundEnd c.args.pages c.args.kind w) (sym c.walk_from.ensures)
    (from_sound c.args.pages c.args.regime.now c.args.kind (ram_reads c.args.ram.now) c.args.va 3 _))
