use Rattle.std.proofs.Common.{◌+◌, ◌*◌}
use Rattle.rv64_priv.specs.Csr.{regime}
use Rattle.flush.specs.Flushed.{full_steps}
use Rattle.turn_pieces.proofs.Writers.{part_then}
use Rattle.hart_turn.specs.Logs.{AtWork}
use Rattle.hart_turn.proofs.Moving.{cleared}
use Rattle.hart_turn.proofs.Rounds.{either_knows, either_works, has_fills, requests_goes, with_round}
use Rattle.hart_turn.proofs.requests.serve_requests.Goals as goal

pub serve_round-requires-clause-fills : goal.serve_round-requires-clause-fills
serve_round-requires-clause-fills g c = has_fills c.args.hart.now.book (regime c.args.hart.now.arch) (g.P.Look.shows c.clear_kick.new.port) (cleared c.args.hart.now (g.P.Look.shows c.args.port.now) (g.P.Look.shows c.clear_kick.new.port) c.requires.with c.clear_kick.ensures.cleared c.clear_kick.ensures.acting c.clear_kick.ensures.stands).with.fills

pub returns-clause-with : goal.returns-clause-with
returns-clause-with g c =
    let x = (cleared c.args.hart.now (g.P.Look.shows c.args.port.now) (g.P.Look.shows c.clear_kick.new.port) c.requires.with c.clear_kick.ensures.cleared c.clear_kick.ensures.acting c.clear_kick.ensures.stands).with in
    with_round (9 * (full_steps c.args.hart.now.book.size + 388)) c.args.hart.now c.serve_round.new.book c.serve_round.new.served (g.P.Look.shows c.clear_kick.new.port) (g.P.Look.shows c.serve_round.new.port) c.serve_round.ensures.goes x c.serve_round.ensures.beside (either_knows (9 * (full_steps c.args.hart.now.book.size + 388)) c.args.hart.now c.serve_round.new.book c.serve_round.new.served (g.P.Look.shows c.clear_kick.new.port) (g.P.Look.shows c.serve_round.new.port) c.serve_round.ensures.goes x c.serve_round.result c.serve_round.ensures.gone c.serve_round.ensures.busy) (c.serve_round.ensures.sent c.args.hart.now.sent x.sent) c.serve_round.ensures.ring

pub returns-clause-part : goal.returns-clause-part
returns-clause-part g c =
    let x = cleared c.args.hart.now (g.P.Look.shows c.args.port.now) (g.P.Look.shows c.clear_kick.new.port) c.requires.with c.clear_kick.ensures.cleared c.clear_kick.ensures.acting c.clear_kick.ensures.stands in
    part_then (AtWork c.args.hart.now (g.P.Look.shows c.args.port.now)) (AtWork c.args.hart.now (g.P.Look.shows c.clear_kick.new.port)) (AtWork (record c.args.hart.now { book = c.serve_round.new.book; served = c.serve_round.new.served }) (g.P.Look.shows c.serve_round.new.port)) x.works
    (either_works (9 * (full_steps c.args.hart.now.book.size + 388)) c.args.hart.now c.serve_round.new.book c.serve_round.new.served (g.P.Look.shows c.clear_kick.new.port) (g.P.Look.shows c.serve_round.new.port) c.serve_round.ensures.goes x.with c.serve_round.result c.serve_round.ensures.gone c.serve_round.ensures.busy)

pub returns-clause-goes : goal.returns-clause-goes
returns-clause-goes g c = requests_goes (9 * (full_steps c.args.hart.now.book.size + 388)) (g.P.Look.shows c.args.port.now) (g.P.Look.shows c.clear_kick.new.port) (g.P.Look.shows c.serve_round.new.port) c.clear_kick.ensures.cleared c.serve_round.ensures.goes
