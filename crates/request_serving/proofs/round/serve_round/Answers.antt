-- One source more.
use Rattle.std.proofs.Common.{◌+◌, arith}
use Rattle.guest_ram.specs.Areas.{IsOfService}
use Rattle.guest_ram.proofs.Moves.{goes_none, goes_at_most}
use Rattle.request_serving.specs.Served.{none, more}
use Rattle.request_serving.proofs.Rounds.{goes_all, goes_more}
use Rattle.request_serving.proofs.round.serve_round.Goals as goal

pub loop-source-init : goal.loop-source-init
loop-source-init g c = record {
  gone = none;
  few = omega arith;
  sent = λ sent at. at;
  ring = c.requires.ring;
  fills = c.requires.fills;
  beside = c.requires.beside;
  untouched = c.requires.untouched;
  size = omega arith;
  goes = goes_at_most 0 _ IsOfService _ _ (omega arith) (goes_none IsOfService (g.P.Look.shows c.args.port.now));
}

pub loop-source-preserved : goal.loop-source-preserved
loop-source-preserved g c = let before = c.loop-source.invariant in let made = c.in-Ok.ensures in record {
  gone = more before.gone made.moved;
  few = omega arith;
  sent = λ sent at. made.sent sent (before.sent sent at);
  ring = made.ring;
  fills = made.fills;
  beside = made.beside;
  untouched = made.untouched;
  size = omega (arith, before.size, made.size);
  goes = goes_more c.loop-source.source c.loop-source.book.size c.args.book.now.size _ _ _ before.size before.goes made.goes;
}

pub returns-in-Err-clause-goes : goal.returns-in-Err-clause-goes
returns-in-Err-clause-goes g c = let before = c.loop-source.invariant in goes_all (c.loop-source.source + 1) c.args.book.now.size _ _ (omega arith) (goes_more c.loop-source.source c.loop-source.book.size c.args.book.now.size _ _ _ before.size before.goes c.in-Err.ensures.goes)
