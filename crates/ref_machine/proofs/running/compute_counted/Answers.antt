-- Such an instruction keeps all but registers and pc.
use Rattle.std.proofs.Common.{refl, sym, subst}
use Rattle.ref_machine.specs.Steps.{IsShort}
use Rattle.ref_machine.proofs.Short.{short_alone}
use Rattle.ref_machine.proofs.running.compute_counted.Goals as goal

pub returns-clause-short : goal.returns-clause-short
returns-clause-short c = λ _.
    let t = c.args.slot.now in
    let b = c.args.shared.now in
    subst (λ x. IsShort t b x b) (sym c.count_one.ensures)
    (short_alone t b c.args.instr.now c.compute.new.arch (sym c.if-not-compute.ensures.which) (c.if-not-compute.ensures.done refl))
