-- One item more; behind the first reason no turn is taken.
use Rattle.std.proofs.Common.{sym, ◌∙◌, ap, ◌+◌, take}
use Rattle.std.specs.Prelude.{is_some}
use Rattle.tlbvm.specs.declared.items.Item.TheVariants.{Hart}
use Rattle.tlbvm.specs.Turns.{hart_turns, turns_of}
use Rattle.tlbvm.proofs.Orderly.{over_to, items_behind, items_more}
use Rattle.tlbvm.proofs.taking.take_turns.Goals as goal

pub returns-in-Some-clause-ran : goal.returns-in-Some-clause-ran
returns-in-Some-clause-ran c =
    let n = c.loop-item.item-index in
    let items = c.args.items.now in
    over_to (hart_turns (turns_of c.args.harts (take (n + 1) items))) (hart_turns (turns_of c.args.harts items)) c.args.machine.now c.take_item.new.machine (items_behind c.args.harts (n + 1) items)
    (ap is_some (sym c.take_item.ensures.reason ∙ c.in-Some.is))
    (items_more c.args.harts n items (Hart 0 0) c.args.machine.now c.loop-item.machine c.take_item.new.machine c.loop-item-test.true c.loop-item.invariant.ran c.take_item.ensures.ran)

pub loop-item-preserved : goal.loop-item-preserved
loop-item-preserved c = record {
  layout = c.take_item.ensures.layout ∙ c.loop-item.invariant.layout;
  going = sym c.take_item.ensures.reason ∙ c.in_default.is;
  ran = items_more c.args.harts c.loop-item.item-index c.args.items.now (Hart 0 0) c.args.machine.now c.loop-item.machine c.take_item.new.machine c.loop-item-test.true c.loop-item.invariant.ran c.take_item.ensures.ran;
}

pub returns-in-Some-clause-layout : goal.returns-in-Some-clause-layout
returns-in-Some-clause-layout c = c.take_item.ensures.layout ∙ c.loop-item.invariant.layout
