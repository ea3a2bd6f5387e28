use Rattle.std.proofs.Common.{arith}
use Rattle.machine_model.specs.ReasonWords.{reason_word}
use Rattle.guest_ram.proofs.Moves.{goes_at_most}
use Rattle.hart_turn.specs.Parts.{IsOfBegin}
use Rattle.hart_turn.proofs.Begun.{begins, begins_and_ends, ended_goes, looked_goes, with_look}
use Rattle.hart_turn.proofs.beginning.begin.Goals as goal

pub leave_for_good-requires : goal.leave_for_good-requires
leave_for_good-requires g c = record { with = with_look c.args.hart.now (g.P.Look.shows c.args.port.now) (g.P.Look.shows c.begin_turn.new.port) (reason_word c.in-Some.reason) c.in-Some.ensures.ends c.begin_turn.ensures.acting c.requires.with }

pub returns-in-None-clause-with : goal.returns-in-None-clause-with
returns-in-None-clause-with g c = with_look c.args.hart.now (g.P.Look.shows c.args.port.now) (g.P.Look.shows c.begin_turn.new.port) 0 c.in-None.ensures.goes_on c.begin_turn.ensures.acting c.requires.with

pub returns-in-None-clause-part : goal.returns-in-None-clause-part
returns-in-None-clause-part g c = begins c.args.hart.now (g.P.Look.shows c.args.port.now) (g.P.Look.shows c.begin_turn.new.port) 0 c.in-None.ensures.goes_on

pub returns-in-None-clause-goes : goal.returns-in-None-clause-goes
returns-in-None-clause-goes g c = goes_at_most 1 3 IsOfBegin _ _ (omega arith) (looked_goes 0 _ _ c.in-None.ensures.goes_on)

pub returns-in-Some-clause-end_part : goal.returns-in-Some-clause-end_part
returns-in-Some-clause-end_part g c = begins_and_ends c.args.hart.now (g.P.Look.shows c.args.port.now) (g.P.Look.shows c.begin_turn.new.port) (reason_word c.in-Some.reason) c.in-Some.ensures.ends c.leave_for_good.new.hart (g.P.Look.shows c.leave_for_good.new.port) c.leave_for_good.ensures.part

pub returns-in-Some-clause-goes : goal.returns-in-Some-clause-goes
returns-in-Some-clause-goes g c = ended_goes (reason_word c.in-Some.reason) _ _ _ c.in-Some.ensures.ends c.leave_for_good.ensures.goes
