-- The load, and what follows it.
use Rattle.std.proofs.Common.{◌+◌, arith}
use Rattle.guest_ram.specs.Areas.{IsOfService}
use Rattle.guest_ram.proofs.Moves.{goes_then, goes_at_most}
use Rattle.flush.specs.Flushed.{full_steps}
use Rattle.request_serving.proofs.Aside.{fills_places, places_serve}
use Rattle.request_serving.proofs.serving.serve_source.Goals as goal

pub serve-requires-clause-fills : goal.serve-requires-clause-fills
serve-requires-clause-fills g c = fills_places _ 1 _ _ c.requires.fills c.next_request.ensures.goes

pub returns-in-None-clause-fills : goal.returns-in-None-clause-fills
returns-in-None-clause-fills g c = fills_places _ 1 _ _ c.requires.fills c.next_request.ensures.goes

pub returns-in-None-clause-goes : goal.returns-in-None-clause-goes
returns-in-None-clause-goes g c = places_serve 1 _ _ _ (omega arith) c.next_request.ensures.goes

pub returns-in-Ok-clause-goes : goal.returns-in-Ok-clause-goes
returns-in-Ok-clause-goes g c = goes_at_most (1 + (full_steps c.args.book.now.size + 387)) _ IsOfService _ _ (omega arith)
    (goes_then 1 (full_steps c.args.book.now.size + 387) IsOfService _ _ _ (places_serve 1 1 _ _ (omega arith) c.next_request.ensures.goes) c.serve.ensures.goes)

pub returns-in-Err-clause-goes : goal.returns-in-Err-clause-goes
returns-in-Err-clause-goes g c = goes_at_most (1 + (full_steps c.args.book.now.size + 387)) _ IsOfService _ _ (omega arith)
    (goes_then 1 (full_steps c.args.book.now.size + 387) IsOfService _ _ _ (places_serve 1 1 _ _ (omega arith) c.next_request.ensures.goes) c.serve.ensures.goes)
