use Rattle.std.proofs.Common.{refl}
use Rattle.machine_model.specs.Memory.{Memory}
use Rattle.hart_calls.proofs.Printed.{copied_more, ran_out}
use Rattle.hart_calls.proofs.printing.copy_bytes.Goals as goal

pub loop-index-init : goal.loop-index-init
loop-index-init g c = record { copied = (let none : Memory = λ n. 0 in (none, refl, λ some. absurd (some refl))); may = c.requires }

pub returns-in-None-clause-full : goal.returns-in-None-clause-full
returns-in-None-clause-full g c = λ _.
    let x = c.loop-index.invariant.copied in
    let y = c.in-None.ensures.full in
    ran_out x.0 c.args.from c.loop-index.index c.loop-index.word y.0 (g.P.Look.shows c.args.port.now) (g.P.Look.shows c.loop-index.port) (g.P.Look.shows c.copy_byte.new.port) c.requires.above x.1 x.2 y.1 c.args.count c.loop-index-test.true y.2

pub loop-index-preserved : goal.loop-index-preserved
loop-index-preserved g c =
    let x = c.loop-index.invariant.copied in
    record {
      copied = copied_more x.0 c.args.from c.loop-index.index c.loop-index.word c.in-Some.found (g.P.Look.shows c.args.port.now) (g.P.Look.shows c.loop-index.port) (g.P.Look.shows c.copy_byte.new.port) c.requires.above x.1 x.2 c.in-Some.ensures.kept c.in-Some.ensures.copied;
      may = c.copy_byte.ensures.may;
    }
