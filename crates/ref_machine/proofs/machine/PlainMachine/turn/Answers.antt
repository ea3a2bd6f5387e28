-- A turn is taken where there is no reason yet; behind the first one it changes nothing, as in the plain run.
use Rattle.std.proofs.Common.{◌<◌, length, ap, sym, ◌∙◌, arith}
use Rattle.std.specs.Prelude.{is_some}
use Rattle.ref_machine.proofs.Turned.{turned, turned_over}
use Rattle.ref_machine.proofs.machine.PlainMachine.turn.Goals as goal

pub returns-in-Some-clause-turned : goal.returns-in-Some-clause-turned
returns-in-Some-clause-turned c = turned_over c.args.hart c.args.self.now (ap is_some (sym c.reason.ensures.reason ∙ c.in-Some.is))

pub returns-clause-turned : goal.returns-clause-turned
returns-clause-turned c =
    let there = c.requires in
    let slots = c.reason.ensures.slots in
    let lt : c.args.hart < length c.args.self.now.slots = omega (arith, there, slots) in
    turned c.args.hart c.args.self.now c.take_turn.new.self lt (sym c.reason.ensures.reason ∙ c.in_default.is) c.take_turn.ensures.turn
