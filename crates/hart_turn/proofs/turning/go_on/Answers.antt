use Rattle.hart_turn.specs.Paths as paths
use Rattle.std.proofs.Common.{◌+◌, ◌*◌}
use Rattle.flush.specs.Flushed.{full_steps}
use Rattle.signal_pieces.specs.Signalling.{IsOfSides}
use Rattle.turn_pieces.proofs.Writers.{part_then}
use Rattle.hart_turn.specs.Logs.{AtWork}
use Rattle.hart_turn.specs.Parts.{IsOfRequests}
use Rattle.hart_turn.proofs.Draws.{draws_goes, requests_neither, sides_neither}
use Rattle.hart_turn.proofs.Instructed.{works_to_end}
use Rattle.hart_turn.proofs.Turned.{works_then}
use Rattle.hart_turn.proofs.turning.go_on.Goals as goal

pub returns-then-hart-clause-part : goal.returns-then-hart-clause-part
returns-then-hart-clause-part g c = works_then c.args.hart.now c.step_out.new.hart c.work.new.hart (g.P.Look.shows c.args.port.now) (g.P.Look.shows c.step_out.new.port) (g.P.Look.shows c.work.new.port) c.step_out.ensures.part c.work.ensures.part

pub come_in-requires-clause-draws : goal.come_in-requires-clause-draws
come_in-requires-clause-draws g c = draws_goes (1 + 9 * (full_steps c.step_out.new.hart.book.size + 388)) IsOfRequests (g.P.Look.shows c.step_out.new.port) (g.P.Look.shows c.serve_requests.new.port) requests_neither c.serve_requests.ensures.goes (draws_goes 2 IsOfSides (g.P.Look.shows c.args.port.now) (g.P.Look.shows c.step_out.new.port) sides_neither c.step_out.ensures.goes c.requires.draws)

pub returns-in-Err-clause-part : goal.returns-in-Err-clause-part
returns-in-Err-clause-part g c = works_to_end c.args.hart.now c.serve_requests.new.hart (g.P.Look.shows c.args.port.now) (g.P.Look.shows c.serve_requests.new.port) (part_then (AtWork c.args.hart.now (g.P.Look.shows c.args.port.now)) (AtWork c.step_out.new.hart (g.P.Look.shows c.step_out.new.port)) (AtWork c.serve_requests.new.hart (g.P.Look.shows c.serve_requests.new.port)) c.step_out.ensures.part c.serve_requests.ensures.part)

pub returns-in-Ok-clause-part : goal.returns-in-Ok-clause-part
returns-in-Ok-clause-part g c = works_then c.args.hart.now c.step_out.new.hart c.come_in.new.hart (g.P.Look.shows c.args.port.now) (g.P.Look.shows c.step_out.new.port) (g.P.Look.shows c.come_in.new.port) c.step_out.ensures.part (works_then c.step_out.new.hart c.serve_requests.new.hart c.come_in.new.hart (g.P.Look.shows c.step_out.new.port) (g.P.Look.shows c.serve_requests.new.port) (g.P.Look.shows c.come_in.new.port) c.serve_requests.ensures.part c.come_in.ensures.part)

pub returns-then-hart-clause-path : goal.returns-then-hart-clause-path
returns-then-hart-clause-path g c = paths.inside c.work.result c.step_out.new.hart (g.P.Look.shows c.step_out.new.port) c.step_out.ensures.steps c.step_out.ensures.goes c.step_out.ensures.with c.if-hart.true c.work.ensures.path

pub returns-in-Err-clause-path : goal.returns-in-Err-clause-path
returns-in-Err-clause-path g c = paths.locked c.in-Err.busy c.step_out.new.hart (g.P.Look.shows c.step_out.new.port) c.step_out.ensures.steps c.step_out.ensures.goes c.step_out.ensures.with c.if-hart.false c.in-Err.ensures.held c.serve_requests.ensures.goes

pub returns-in-Ok-clause-path : goal.returns-in-Ok-clause-path
returns-in-Ok-clause-path g c = paths.served c.in-Ok.has_served c.come_in.result c.step_out.new.hart c.serve_requests.new.hart (g.P.Look.shows c.step_out.new.port) (g.P.Look.shows c.serve_requests.new.port) c.step_out.ensures.steps c.step_out.ensures.goes c.step_out.ensures.with c.if-hart.false c.in-Ok.ensures.served c.serve_requests.ensures.goes c.serve_requests.ensures.with c.come_in.ensures.path
