-- The steps of the hart are turns of the machine.
use Rattle.std.proofs.Common.{◌≡◌, ◌<◌, length, ap, arith}
use Rattle.ref_machine.specs.PlainState.{PlainState, state_view}
use Rattle.std.proofs.lemmas.Grind.{common_steps}
use Rattle.std.proofs.lemmas.List.Elements.{All-set}
use Rattle.ref_machine.specs.Paths.{AreWalks}
use Rattle.ref_machine.proofs.Short.{ran_at}
use Rattle.ref_machine.proofs.machine.PlainMachine.run.Goals as goal

pub returns-in-Started-clause-ran : goal.returns-in-Started-clause-ran
returns-in-Started-clause-ran c =
    let there = c.self.invariant.there in
    let at = c.from-index.ensures in
    let hart = c.requires.there in
    let same : c.self.inside.shared.layout.harts ≡ c.args.self.now.shared.layout.harts = ap (λ (p : PlainState). p.shared.layout.harts) c.self.view_is in
    let lt : c.from-index.result < length c.self.inside.slots.items = omega (arith, there, at, hart, same) in
    ran_at c.args.hart c.from-index.result c.run.result c.args.self.now (state_view c.self.inside) c.index_mut.result.now c.run.new.slot c.run.new.shared
    c.self.view_is at lt c.index_mut.ensures.value c.run.ensures.ahead.steps

pub invariant_of-self : goal.invariant_of-self
invariant_of-self c = record {
  few = grind (arith, common_steps);
  there = grind (arith, common_steps);
  kept = grind (arith, common_steps);
  walks_there = grind (arith, common_steps);
  walks = All-set AreWalks c.self.inside.walks.items c.from-index.result c.run.new.walks c.run.ensures.walks c.self.invariant.walks;
}
