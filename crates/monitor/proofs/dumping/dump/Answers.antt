use Rattle.std.proofs.Common.{◌+◌, false, ap, ◌∙◌, arith}
use Rattle.guest_ram.specs.Areas.{IsOfSection}
use Rattle.guest_ram.proofs.Moves.{goes_at_most, goes_then, goes_within}
use Rattle.machine_model.specs.Sbi.{bytes_from}
use Rattle.signal_pieces.specs.Signalling.{IsOfSides}
use Rattle.monitor.specs.Monitors.{Monitor, past, with_claim}
use Rattle.monitor.specs.Reads.{most_loads}
use Rattle.monitor.specs.Steps.{IsOfMonitor, IsRam, with_bytes}
use Rattle.monitor.proofs.Areas.{ram_mine, read_stands, section_mine, sides_mine}
use Rattle.monitor.proofs.Going.{dump_possible, dumped_with}
use Rattle.monitor.proofs.Words.{few_loads, many_bytes}
use Rattle.monitor.proofs.dumping.dump.Goals as goal

pub release-requires-clause-claimant : goal.release-requires-clause-claimant
release-requires-clause-claimant g c = (read_stands (most_loads c.args.at c.args.len) (g.P.Look.shows c.go_alone.new.port) (g.P.Look.shows c.keep_bytes.new.port) c.keep_bytes.ensures.goes).claim
    ∙ c.go_alone.ensures.with.claim ∙ ap (λ (x : Monitor). x.claimed) c.in-Ok.ensures.made

pub returns-in-Ok-clause-done : goal.returns-in-Ok-clause-done
returns-in-Ok-clause-done g c = let x = c.keep_bytes.ensures.kept in record {
  alone = g.P.Look.shows c.go_alone.new.port;
  read = g.P.Look.shows c.keep_bytes.new.port;
  finds = x.0;
  goes = c.in-Ok.ensures.alone;
  sides = c.go_alone.ensures.goes;
  section = c.in-Ok.ensures.section;
  reads = x.1;
  gives = c.release.ensures.released;
  keeps = ap (with_claim false) (c.monitor.view_is ∙ x.2 ∙ ap (λ (z : Monitor). past (with_bytes c.args.at c.args.len (bytes_from x.0 c.args.at c.args.len) z)) c.in-Ok.ensures.made);
}

pub returns-in-Ok-clause-with : goal.returns-in-Ok-clause-with
returns-in-Ok-clause-with g c =
    let x = c.keep_bytes.ensures.kept in
    let bs = bytes_from x.0 c.args.at c.args.len in
    let p = g.P.Look.shows c.go_alone.new.port in
    let mid = g.P.Look.shows c.keep_bytes.new.port in
    let q = g.P.Look.shows c.release.new.port in
    let stands = read_stands (most_loads c.args.at c.args.len) p mid c.keep_bytes.ensures.goes in
    dumped_with (most_loads c.args.at c.args.len + 1) IsOfMonitor c.args.at c.args.len bs c.go_alone.new.monitor _ p q c.go_alone.ensures.with
    (goes_then (most_loads c.args.at c.args.len) 1 IsOfMonitor p mid q (goes_within (most_loads c.args.at c.args.len) IsRam IsOfMonitor p mid ram_mine c.keep_bytes.ensures.goes) (goes_within 1 IsOfSection IsOfMonitor mid q section_mine c.release.ensures.goes))
    c.release.ensures.acting (c.release.ensures.phase ∙ stands.phase ∙ c.go_alone.ensures.with.out) c.release.ensures.claimless
    (ap (λ (z : Monitor). z.rests) c.in-Ok.ensures.made ∙ c.requires.works) (many_bytes x.0 c.args.at c.args.len)
    (ap (with_claim false) (c.monitor.view_is ∙ x.2))

pub returns-in-Ok-clause-goes : goal.returns-in-Ok-clause-goes
returns-in-Ok-clause-goes g c =
    let can = c.requires.with in
    let dump = dump_possible _ c.args.at c.args.len _ _ c.requires.next can.possible in
    let few = few_loads c.args.at c.args.len dump.few in
    goes_at_most (18 + most_loads c.args.at c.args.len + 1) 600 IsOfMonitor _ _ (omega (arith, few)) (goes_then (18 + most_loads c.args.at c.args.len) 1 IsOfMonitor _ _ _
    (goes_then 18 (most_loads c.args.at c.args.len) IsOfMonitor _ _ _ (goes_within 18 IsOfSides IsOfMonitor _ _ sides_mine c.go_alone.ensures.goes) (goes_within (most_loads c.args.at c.args.len) IsRam IsOfMonitor _ _ ram_mine c.keep_bytes.ensures.goes))
    (goes_within 1 IsOfSection IsOfMonitor _ _ section_mine c.release.ensures.goes))

pub returns-in-Err-clause-goes : goal.returns-in-Err-clause-goes
returns-in-Err-clause-goes g c = goes_at_most 18 600 IsOfMonitor _ _ (omega arith) (goes_within 18 IsOfSides IsOfMonitor _ _ sides_mine c.go_alone.ensures.goes)
