use Rattle.turn_pieces.proofs.Writers.{part_then}
use Rattle.hart_turn.specs.Logs.{AtEnd}
use Rattle.hart_turn.proofs.Moving.{leaves_goes, signs}
use Rattle.hart_turn.proofs.leaving.leave_for_good.Goals as goal

pub returns-clause-part : goal.returns-clause-part
returns-clause-part g c = part_then (AtEnd c.args.hart.now (g.P.Look.shows c.args.port.now)) (AtEnd c.step_away.new.hart (g.P.Look.shows c.step_away.new.port)) (AtEnd c.step_away.new.hart (g.P.Look.shows c.sign_off.new.port))
    c.step_away.ensures.part (signs c.step_away.new.hart (g.P.Look.shows c.step_away.new.port) (g.P.Look.shows c.sign_off.new.port) c.sign_off.ensures.signed)

pub returns-clause-goes : goal.returns-clause-goes
returns-clause-goes g c = leaves_goes _ _ _ c.step_away.ensures.goes c.sign_off.ensures.signed
