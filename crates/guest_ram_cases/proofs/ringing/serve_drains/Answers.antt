use Rattle.std.proofs.Common.{◌≡◌, ◌≢◌, ◌+◌, ◌*◌, ◌∙◌, ap, length, arith}
use Rattle.guest_ram.specs.Areas.{IsOfPlaces}
use Rattle.guest_ram.proofs.Moves.{goes_then, goes_at_most}
use Rattle.guest_ram_cases.proofs.Posts.{one_more}
use Rattle.guest_ram_cases.proofs.ringing.serve_drains.Goals as goal

pub returns-then-serve_drain-ne3-clause-goes : goal.returns-then-serve_drain-ne3-clause-goes
returns-then-serve_drain-ne3-clause-goes g c = let n = c.loop-served.served in goes_at_most (2 * n + 2) 18 IsOfPlaces _ _ (omega arith) (goes_then (2 * n) 2 IsOfPlaces _ _ _ c.loop-served.invariant.goes c.serve_drain.ensures.goes)

pub returns-then-serve_drain-ne3-clause-acked : goal.returns-then-serve_drain-ne3-clause-acked
returns-then-serve_drain-ne3-clause-acked g c = let ne : c.serve_drain.result ≢ 3 = λ e. omega (arith, e) in ap length (c.serve_drain.ensures.kept ne) ∙ c.loop-served.invariant.acked

pub loop-served-preserved : goal.loop-served-preserved
loop-served-preserved g c = let n = c.loop-served.served in let three : c.serve_drain.result ≡ 3 = omega arith in record {
  serving = c.serve_drain.ensures.serving c.loop-served.invariant.serving;
  acked = one_more _ _ 3 n (c.serve_drain.ensures.acked three) c.loop-served.invariant.acked;
  goes = goes_at_most (2 * n + 2) (2 * (n + 1)) IsOfPlaces _ _ (omega arith) (goes_then (2 * n) 2 IsOfPlaces _ _ _ c.loop-served.invariant.goes c.serve_drain.ensures.goes);
}

pub returns-then-serve_drain-ne3-clause-serving : goal.returns-then-serve_drain-ne3-clause-serving
returns-then-serve_drain-ne3-clause-serving g c = c.serve_drain.ensures.serving c.loop-served.invariant.serving
