-- The flush, and then the ack.
use Rattle.std.proofs.Common.{◌+◌, arith}
use Rattle.guest_ram.specs.Areas.{IsOfTable}
use Rattle.guest_ram.proofs.Moves.{goes_then, goes_at_most}
use Rattle.guest_ram.specs.Areas.{IsOfService}
use Rattle.flush.specs.Flushed.{full_steps}
use Rattle.work_queue.proofs.Ringed.{sent_goes, served_goes}
use Rattle.work_queue.specs.Rings.{next_ack}
use Rattle.request_serving.proofs.Acking.{filled, held_filled, served}
use Rattle.request_serving.proofs.Aside.{fills_places, places_serve, table_no_place, table_serves, untouched_goes}
use Rattle.request_serving.proofs.serving.serve.Goals as goal

pub returns-in_err-flush_for-clause-fills : goal.returns-in_err-flush_for-clause-fills
returns-in_err-flush_for-clause-fills g c = held_filled _ _ _ _ _ c.requires.fills c.in_err-flush_for.ensures.busy

pub returns-in_err-flush_for-clause-goes : goal.returns-in_err-flush_for-clause-goes
returns-in_err-flush_for-clause-goes g c = table_serves (full_steps c.args.book.now.size + 386) _ _ _ (omega arith) c.flush_for.ensures.goes

pub ack-requires-clause-served : goal.ack-requires-clause-served
ack-requires-clause-served g c = served_goes _ IsOfTable _ _ table_no_place c.flush_for.ensures.goes c.args.served.now c.requires.served

pub ack-requires-clause-untouched : goal.ack-requires-clause-untouched
ack-requires-clause-untouched g c = untouched_goes _ _ _ c.flush_for.ensures.goes c.requires.untouched

pub ack-requires-clause-may : goal.ack-requires-clause-may
ack-requires-clause-may g c = served _ (g.P.Look.shows c.args.port.now) _ c.args.book.now _ c.args.request.now c.args.source (next_ack c.args.served.now c.args.source) c.requires.beside.book.number c.requires.request c.requires.loaded c.requires.fills c.flush_for.ensures.goes c.in_ok-flush_for.ensures.flushed

pub returns-clause-sent : goal.returns-clause-sent
returns-clause-sent g c sent before = c.ack.ensures.sent sent (sent_goes _ IsOfTable _ _ table_no_place c.flush_for.ensures.goes sent before)

pub returns-clause-fills : goal.returns-clause-fills
returns-clause-fills g c = fills_places _ 1 _ _ (filled _ _ _ c.args.book.now _ c.args.request.now c.requires.fills c.flush_for.ensures.goes c.in_ok-flush_for.ensures.flushed) c.ack.ensures.goes

pub returns-clause-goes : goal.returns-clause-goes
returns-clause-goes g c = goes_at_most (full_steps c.args.book.now.size + 386 + 1) _ IsOfService _ _ (omega arith)
    (goes_then (full_steps c.args.book.now.size + 386) 1 IsOfService _ _ _ (table_serves (full_steps c.args.book.now.size + 386) _ _ _ (omega arith) c.flush_for.ensures.goes) (places_serve 1 _ _ _ (omega arith) c.ack.ensures.goes))
