-- The turns of an item are its harts'; the monitor's do nothing.
use Rattle.std.proofs.Common.{sym, subst}
use Rattle.ref_machine.specs.Ran.{Ran}
use Rattle.tlbvm.specs.Turns.{hart_turns, item_turns, IsItemThere}
use Rattle.tlbvm.proofs.Orderly.{item_times, item_monitor}
use Rattle.tlbvm.proofs.taking.take_item.Goals as goal

pub returns-in-Hart-clause-ran : goal.returns-in-Hart-clause-ran
returns-in-Hart-clause-ran c =
    subst (λ i. Ran (hart_turns (item_turns c.args.harts i)) c.args.machine.now c.take_times.new.machine) (sym c.in-Hart.is)
    (item_times c.args.harts c.in-Hart.turns c.in-Hart.hart c.args.machine.now c.take_times.new.machine
    (subst (λ i. IsItemThere c.args.harts i) c.in-Hart.is c.requires.there) c.requires.few c.take_times.ensures.ran)

pub returns-in-Monitor-clause-ran : goal.returns-in-Monitor-clause-ran
returns-in-Monitor-clause-ran c =
    subst (λ i. Ran (hart_turns (item_turns c.args.harts i)) c.args.machine.now c.args.machine.now) (sym c.in-Monitor.is)
    (item_monitor c.in-Monitor.turns c.args.machine.now)
