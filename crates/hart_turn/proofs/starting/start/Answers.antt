use Rattle.std.proofs.Common.{◌+◌, true, ap}
use Rattle.hart_turn.specs.Parts.{began}
use Rattle.flush.specs.Flushed.{full_steps}
use Rattle.hart_turn.proofs.Starts.{begun_of, begun_works, held_works, stopped_of, stopped_works, waits_still, with_begun, with_held, with_stopped}
use Rattle.hart_turn.proofs.starting.start.Goals as goal

pub returns-in-Err-clause-with : goal.returns-in-Err-clause-with
returns-in-Err-clause-with g c = with_held (full_steps c.args.hart.now.book.size + 4) c.args.hart.now (g.P.Look.shows c.args.port.now) (g.P.Look.shows c.take_start.new.port) c.take_start.ensures.goes c.requires.with c.requires.stopped c.in-Err.busy.holder c.take_start.new.book c.take_start.ensures.beside c.in-Err.ensures.busy

pub returns-in-Err-clause-part : goal.returns-in-Err-clause-part
returns-in-Err-clause-part g c = held_works (full_steps c.args.hart.now.book.size + 4) c.args.hart.now (g.P.Look.shows c.args.port.now) (g.P.Look.shows c.take_start.new.port) c.take_start.ensures.goes c.requires.with c.requires.stopped c.in-Err.busy.holder c.take_start.new.book c.in-Err.ensures.busy

pub returns-in-Ok-None-clause-with : goal.returns-in-Ok-None-clause-with
returns-in-Ok-None-clause-with g c = with_stopped (full_steps c.args.hart.now.book.size + 4) c.args.hart.now (g.P.Look.shows c.args.port.now) (g.P.Look.shows c.take_start.new.port) c.take_start.ensures.goes c.requires.with c.requires.stopped c.take_start.new.book c.take_start.ensures.beside (stopped_of c.in-Ok-None.field-0 (g.P.Look.shows c.args.port.now) (g.P.Look.shows c.take_start.new.port) c.args.hart.now.book c.take_start.new.book c.in-Ok-None.field-0-is c.in-Ok-None.ensures.none)

pub returns-in-Ok-None-clause-part : goal.returns-in-Ok-None-clause-part
returns-in-Ok-None-clause-part g c = stopped_works (full_steps c.args.hart.now.book.size + 4) c.args.hart.now (g.P.Look.shows c.args.port.now) (g.P.Look.shows c.take_start.new.port) c.take_start.ensures.goes c.requires.with c.requires.stopped c.take_start.new.book (stopped_of c.in-Ok-None.field-0 (g.P.Look.shows c.args.port.now) (g.P.Look.shows c.take_start.new.port) c.args.hart.now.book c.take_start.new.book c.in-Ok-None.field-0-is c.in-Ok-None.ensures.none)

pub returns-in-Ok-Some-clause-with : goal.returns-in-Ok-Some-clause-with
returns-in-Ok-Some-clause-with g c = with_begun (full_steps c.args.hart.now.book.size + 4) c.args.hart.now (g.P.Look.shows c.args.port.now) (g.P.Look.shows c.take_start.new.port) c.take_start.ensures.goes c.requires.with c.requires.stopped c.arch_at-hart.result c.in-Ok-Some.start c.take_start.new.book c.take_start.ensures.beside (begun_of c.in-Ok-Some.field-0 c.in-Ok-Some.start (g.P.Look.shows c.args.port.now) (g.P.Look.shows c.take_start.new.port) c.args.hart.now.book c.take_start.new.book c.in-Ok-Some.field-0-is c.in-Ok-Some.ensures.begun)

pub returns-in-Ok-Some-clause-part : goal.returns-in-Ok-Some-clause-part
returns-in-Ok-Some-clause-part g c = begun_works (full_steps c.args.hart.now.book.size + 4) c.args.hart.now (g.P.Look.shows c.args.port.now) (g.P.Look.shows c.take_start.new.port) c.take_start.ensures.goes c.requires.with c.requires.stopped c.in-Ok-Some.start c.take_start.new.book c.arch_at-hart.result c.arch_at-hart.ensures (begun_of c.in-Ok-Some.field-0 c.in-Ok-Some.start (g.P.Look.shows c.args.port.now) (g.P.Look.shows c.take_start.new.port) c.args.hart.now.book c.take_start.new.book c.in-Ok-Some.field-0-is c.in-Ok-Some.ensures.begun)

pub returns-in-Ok-None-clause-started : goal.returns-in-Ok-None-clause-started
returns-in-Ok-None-clause-started g c = waits_still c.args.hart.now (g.P.Look.shows c.args.port.now) (g.P.Look.shows c.take_start.new.port) c.take_start.new.book (stopped_of c.in-Ok-None.field-0 (g.P.Look.shows c.args.port.now) (g.P.Look.shows c.take_start.new.port) c.args.hart.now.book c.take_start.new.book c.in-Ok-None.field-0-is c.in-Ok-None.ensures.none)

pub returns-in-Ok-Some-clause-started : goal.returns-in-Ok-Some-clause-started
returns-in-Ok-Some-clause-started g c = began c.in-Ok-Some.start (ap (λ d. record c.args.hart.now { arch = d; runs = true; book = c.take_start.new.book }) c.arch_at-hart.ensures) (begun_of c.in-Ok-Some.field-0 c.in-Ok-Some.start (g.P.Look.shows c.args.port.now) (g.P.Look.shows c.take_start.new.port) c.args.hart.now.book c.take_start.new.book c.in-Ok-Some.field-0-is c.in-Ok-Some.ensures.begun)
