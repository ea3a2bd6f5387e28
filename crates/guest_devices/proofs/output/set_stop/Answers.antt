use Rattle.std.proofs.Common.{sym, subst}
use Rattle.step_laws.specs.declared.steps.WordOp.TheVariants.{Exchange}
use Rattle.machine_model.proofs.Reasons.{reasons_may_stand}
use Rattle.guest_ram.specs.Areas.{IsOfEnd}
use Rattle.guest_ram.specs.Ports.{May, layout_of}
use Rattle.guest_ram.proofs.MaySteps.{may_set_stop}
use Rattle.guest_ram.proofs.Moves.{goes_step}
use Rattle.guest_devices.proofs.output.set_stop.Goals as goal

pub compare_exchange-found-requires-clause-may : goal.compare_exchange-found-requires-clause-may
compare_exchange-found-requires-clause-may g c = subst (May (g.P.Look.shows c.args.port.now) c.stop_word.result (Exchange 0)) (sym c.reason_word.ensures)
    (may_set_stop _ _ _ c.stop_word.ensures.name (reasons_may_stand (layout_of (g.P.Look.shows c.args.port.now)) c.args.reason c.requires.reason) c.requires.acting)

pub returns-then-found-eq0-clause-goes : goal.returns-then-found-eq0-clause-goes
returns-then-found-eq0-clause-goes g c = goes_step IsOfEnd _ _ _ _ _ _ _ c.compare_exchange-found.ensures.step c.compare_exchange-found.ensures.allowed c.stop_word.ensures.name tt

pub returns-in-Some-clause-goes : goal.returns-in-Some-clause-goes
returns-in-Some-clause-goes g c = goes_step IsOfEnd _ _ _ _ _ _ _ c.compare_exchange-found.ensures.step c.compare_exchange-found.ensures.allowed c.stop_word.ensures.name tt
