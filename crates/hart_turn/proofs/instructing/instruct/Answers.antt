use Rattle.code_fetch.specs.declared.fetching.Fetched.TheVariants as comes
use Rattle.std.proofs.Common.{refl}
use Rattle.hart_turn.specs.Paths as paths
use Rattle.guest_ram.specs.Areas.{IsOfCalls}
use Rattle.tlb_fill.specs.Stepping.{IsOfFill}
use Rattle.hart_turn.proofs.Draws.{calls_neither, draws_goes, fill_neither}
use Rattle.hart_turn.proofs.Instructed.{instructed, then_executes, then_faults, then_fetches}
use Rattle.hart_turn.proofs.instructing.instruct.Goals as goal

pub carry_out-requires-clause-draws : goal.carry_out-requires-clause-draws
carry_out-requires-clause-draws g c = draws_goes 16 IsOfFill (g.P.Look.shows c.take_interrupt.new.port) (g.P.Look.shows c.fetch_code.new.port) fill_neither c.fetch_code.ensures.goes (draws_goes 1 IsOfCalls (g.P.Look.shows c.args.port.now) (g.P.Look.shows c.take_interrupt.new.port) calls_neither c.take_interrupt.ensures.goes c.requires.draws)

pub returns-in-Busy-clause-part : goal.returns-in-Busy-clause-part
returns-in-Busy-clause-part g c = then_fetches c.args.hart.now c.take_interrupt.new.hart c.fetch_code.new.hart (g.P.Look.shows c.args.port.now) (g.P.Look.shows c.take_interrupt.new.port) (g.P.Look.shows c.fetch_code.new.port) c.if-take_interrupt.ensures.part c.fetch_code.new.hart (g.P.Look.shows c.fetch_code.new.port) c.in-Busy.ensures.part

pub returns-in-Fault-clause-part : goal.returns-in-Fault-clause-part
returns-in-Fault-clause-part g c = then_faults c.args.hart.now c.take_interrupt.new.hart c.fetch_code.new.hart (g.P.Look.shows c.args.port.now) (g.P.Look.shows c.take_interrupt.new.port) (g.P.Look.shows c.fetch_code.new.port) c.if-take_interrupt.ensures.part c.in-Fault.cause c.in-Fault.tval c.count_up.new.hart (g.P.Look.shows c.count_up.new.port) c.in-Fault.ensures.part c.count_up.ensures.part

pub returns-in-Word-clause-part : goal.returns-in-Word-clause-part
returns-in-Word-clause-part g c = then_executes c.args.hart.now c.take_interrupt.new.hart c.fetch_code.new.hart (g.P.Look.shows c.args.port.now) (g.P.Look.shows c.take_interrupt.new.port) (g.P.Look.shows c.fetch_code.new.port) c.if-take_interrupt.ensures.part c.in-Word.word c.carry_out.new.hart (g.P.Look.shows c.carry_out.new.port) c.in-Word.ensures.part c.carry_out.ensures.ended

pub returns-then-take_interrupt-clause-path : goal.returns-then-take_interrupt-clause-path
returns-then-take_interrupt-clause-path g c = paths.interrupted c.if-take_interrupt.ensures.looked c.take_interrupt.ensures.goes c.if-take_interrupt.ensures.hart

pub returns-in-Busy-clause-path : goal.returns-in-Busy-clause-path
returns-in-Busy-clause-path g c = instructed c.args.hart.now c.take_interrupt.new.hart c.fetch_code.new.hart c.fetch_code.new.hart (g.P.Look.shows c.args.port.now) (g.P.Look.shows c.take_interrupt.new.port) (g.P.Look.shows c.fetch_code.new.port) (g.P.Look.shows c.fetch_code.new.port) (comes.Busy c.in-Busy.busy) _ c.if-take_interrupt.ensures.hart c.if-take_interrupt.ensures.looked c.take_interrupt.ensures.goes c.in-Busy.ensures.fetched c.in-Busy.ensures.hart c.fetch_code.ensures.goes c.fetch_code.ensures.with
    (paths.locked c.in-Busy.busy refl refl)

pub returns-in-Fault-clause-path : goal.returns-in-Fault-clause-path
returns-in-Fault-clause-path g c = instructed c.args.hart.now c.take_interrupt.new.hart c.fetch_code.new.hart c.count_up.new.hart (g.P.Look.shows c.args.port.now) (g.P.Look.shows c.take_interrupt.new.port) (g.P.Look.shows c.fetch_code.new.port) (g.P.Look.shows c.count_up.new.port) (comes.Fault c.in-Fault.cause c.in-Fault.tval) _ c.if-take_interrupt.ensures.hart c.if-take_interrupt.ensures.looked c.take_interrupt.ensures.goes c.in-Fault.ensures.fetched c.in-Fault.ensures.hart c.fetch_code.ensures.goes c.fetch_code.ensures.with
    (paths.faulted c.in-Fault.cause c.in-Fault.tval c.count_up.ensures.counted c.count_up.ensures.goes)

pub returns-in-Word-clause-path : goal.returns-in-Word-clause-path
returns-in-Word-clause-path g c = instructed c.args.hart.now c.take_interrupt.new.hart c.fetch_code.new.hart c.carry_out.new.hart (g.P.Look.shows c.args.port.now) (g.P.Look.shows c.take_interrupt.new.port) (g.P.Look.shows c.fetch_code.new.port) (g.P.Look.shows c.carry_out.new.port) (comes.Word c.in-Word.word) c.carry_out.result c.if-take_interrupt.ensures.hart c.if-take_interrupt.ensures.looked c.take_interrupt.ensures.goes c.in-Word.ensures.fetched c.in-Word.ensures.hart c.fetch_code.ensures.goes c.fetch_code.ensures.with
    (c.carry_out.ensures.path)
