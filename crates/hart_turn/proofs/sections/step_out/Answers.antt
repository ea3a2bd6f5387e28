use Rattle.std.proofs.Common.{refl, arith}
use Rattle.step_laws.specs.Map.{Kick}
use Rattle.step_laws.specs.declared.steps.WordOp.TheVariants.{Load}
use Rattle.guest_ram.proofs.Moves.{goes_at_most, goes_made}
use Rattle.signal_pieces.specs.Signalling.{IsOfSides}
use Rattle.turn_pieces.proofs.Writers.{part_nowhere}
use Rattle.hart_turn.specs.Logs.{AtWork}
use Rattle.hart_turn.specs.Parts.{was_called}
use Rattle.hart_turn.proofs.Moving.{called_goes, called_out, found_some, looked}
use Rattle.hart_turn.proofs.sections.step_out.Goals as goal

pub returns-then-not-hart-clause-part : goal.returns-then-not-hart-clause-part
returns-then-not-hart-clause-part g c = part_nowhere (AtWork c.args.hart.now (g.P.Look.shows c.args.port.now))

pub returns-then-not-is_kicked-clause-with : goal.returns-then-not-is_kicked-clause-with
returns-then-not-is_kicked-clause-with g c = (looked c.args.hart.now (g.P.Look.shows c.args.port.now) (g.P.Look.shows c.is_kicked.new.port) c.requires.with c.is_kicked.ensures.found.0 c.is_kicked.ensures.found.1 c.is_kicked.ensures.acting c.is_kicked.ensures.stands).with

pub returns-then-not-is_kicked-clause-part : goal.returns-then-not-is_kicked-clause-part
returns-then-not-is_kicked-clause-part g c = (looked c.args.hart.now (g.P.Look.shows c.args.port.now) (g.P.Look.shows c.is_kicked.new.port) c.requires.with c.is_kicked.ensures.found.0 c.is_kicked.ensures.found.1 c.is_kicked.ensures.acting c.is_kicked.ensures.stands).works

pub returns-then-not-is_kicked-clause-goes : goal.returns-then-not-is_kicked-clause-goes
returns-then-not-is_kicked-clause-goes g c = goes_at_most 1 2 IsOfSides _ _ (omega arith) (goes_made IsOfSides _ _ (Kick _) Load 0 c.is_kicked.ensures.found.0 c.is_kicked.ensures.found.1 tt)

pub returns-clause-steps : goal.returns-clause-steps
returns-clause-steps g c = was_called c.is_kicked.ensures.found.0 (g.P.Look.shows c.is_kicked.new.port) c.if-not-hart.false (found_some c.is_kicked.ensures.found.0 c.is_kicked.result c.is_kicked.ensures.found.2 c.if-not-is_kicked.false) refl c.is_kicked.ensures.found.1 c.leave.ensures.left

pub returns-clause-with : goal.returns-clause-with
returns-clause-with g c = (called_out c.args.hart.now (g.P.Look.shows c.args.port.now) (g.P.Look.shows c.is_kicked.new.port) c.requires.with c.is_kicked.ensures.found.0 (g.P.Look.shows c.leave.new.port) c.is_kicked.ensures.found.1 c.is_kicked.ensures.acting c.is_kicked.ensures.stands c.leave.ensures.left c.leave.ensures.acting c.leave.ensures.out c.leave.ensures.claim).with

pub returns-clause-part : goal.returns-clause-part
returns-clause-part g c = (called_out c.args.hart.now (g.P.Look.shows c.args.port.now) (g.P.Look.shows c.is_kicked.new.port) c.requires.with c.is_kicked.ensures.found.0 (g.P.Look.shows c.leave.new.port) c.is_kicked.ensures.found.1 c.is_kicked.ensures.acting c.is_kicked.ensures.stands c.leave.ensures.left c.leave.ensures.acting c.leave.ensures.out c.leave.ensures.claim).works

pub returns-clause-goes : goal.returns-clause-goes
returns-clause-goes g c = called_goes c.is_kicked.ensures.found.0 _ _ _ c.is_kicked.ensures.found.1 c.leave.ensures.left
