use Rattle.std.proofs.Common.{refl, subst, arith}
use Rattle.machine_model.specs.declared.reason.Reason.{Reason}
use Rattle.guest_devices.specs.Output.{HasSetStop}
use Rattle.hart_turn.specs.Parts.{at_limit}
use Rattle.hart_turn.proofs.Counted.{limit_ends, with_limit, within_ends}
use Rattle.hart_turn.proofs.counting.count_up.Goals as goal

pub returns-then-hart-clause-part : goal.returns-then-hart-clause-part
returns-then-hart-clause-part g c = within_ends c.args.hart.now (g.P.Look.shows c.args.port.now) c.requires.below c.if-hart.true

pub returns-clause-counted : goal.returns-clause-counted
returns-clause-counted g c = at_limit c.set_stop.result refl (omega (arith, c.if-hart.false)) (subst (λ n. HasSetStop (Reason.Limit n) c.set_stop.result (g.P.Look.shows c.args.port.now) (g.P.Look.shows c.set_stop.new.port)) c.requires.with.number c.set_stop.ensures.set)

pub returns-clause-with : goal.returns-clause-with
returns-clause-with g c = with_limit c.args.hart.now (g.P.Look.shows c.args.port.now) (g.P.Look.shows c.set_stop.new.port) c.set_stop.result (subst (λ n. HasSetStop (Reason.Limit n) c.set_stop.result (g.P.Look.shows c.args.port.now) (g.P.Look.shows c.set_stop.new.port)) c.requires.with.number c.set_stop.ensures.set) c.requires.with c.set_stop.ensures.acting

pub returns-clause-part : goal.returns-clause-part
returns-clause-part g c = limit_ends c.args.hart.now (g.P.Look.shows c.args.port.now) (g.P.Look.shows c.set_stop.new.port) c.set_stop.result (subst (λ n. HasSetStop (Reason.Limit n) c.set_stop.result (g.P.Look.shows c.args.port.now) (g.P.Look.shows c.set_stop.new.port)) c.requires.with.number c.set_stop.ensures.set) c.requires.with (omega (arith, c.if-hart.false))
