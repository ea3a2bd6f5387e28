use Rattle.std.proofs.Common.{refl}
use Rattle.std.specs.Prelude.{◌-◌}
use Rattle.step_laws.specs.Map.{Run}
use Rattle.step_laws.specs.declared.steps.WordOp.TheVariants.{Store}
use Rattle.guest_ram.proofs.Moves.{goes_made}
use Rattle.signal_pieces.specs.Signalling.{IsOfSides}
use Rattle.hart_turn.proofs.Moving.{left, restands}
use Rattle.hart_turn.proofs.leaving.spend.Goals as goal

pub returns-clause-with : goal.returns-clause-with
returns-clause-with g c = (left c.args.hart.now (g.P.Look.shows c.args.port.now) (g.P.Look.shows c.leave.new.port) c.requires.with (c.args.hart.now.quantum - 1) c.leave.ensures.left c.leave.ensures.acting c.leave.ensures.out c.leave.ensures.claim).with

pub returns-clause-part : goal.returns-clause-part
returns-clause-part g c = (left c.args.hart.now (g.P.Look.shows c.args.port.now) (g.P.Look.shows c.leave.new.port) c.requires.with (c.args.hart.now.quantum - 1) c.leave.ensures.left c.leave.ensures.acting c.leave.ensures.out c.leave.ensures.claim).ends

pub returns-clause-goes : goal.returns-clause-goes
returns-clause-goes g c = goes_made IsOfSides _ _ (Run _) Store 0 0 c.leave.ensures.left tt

pub returns-then-hart-ne1-clause-part : goal.returns-then-hart-ne1-clause-part
returns-then-hart-ne1-clause-part g c = restands c.args.hart.now (record c.args.hart.now { quantum = c.args.hart.now.quantum - 1 }) (g.P.Look.shows c.args.port.now) refl
