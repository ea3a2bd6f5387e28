use Rattle.std.proofs.Common.{true, ◌∙◌}
use Rattle.guest_ram.specs.Areas.{IsOfSection}
use Rattle.guest_ram_cases.specs.States.{IsAtRest}
use Rattle.exclusive.specs.Claims.{IsOfClaims}
use Rattle.hart_calls.specs.Called.{IsOfHartCalls}
use Rattle.hart_calls.specs.Ends.{runs_on}
use Rattle.call_rows.proofs.Standings.{claims_off, out_is, rest_called, rest_goes, runner, section_off}
use Rattle.call_rows.proofs.calls.call_alone.Goals as goal

pub returns-in-Err-clause-refused : goal.returns-in-Err-clause-refused
returns-in-Err-clause-refused g c = record {
  rest = rest_goes 9 IsOfClaims _ _ c.claim.ensures.goes true claims_off c.claim.ensures.acting c.requires.standing.rest;
  out = out_is (g.P.Look.shows c.claim.new.port) c.claim.ensures.out c.in-Err.ensures.claimless;
}

pub returns-in-Err-all_out-clause-refused : goal.returns-in-Err-all_out-clause-refused
returns-in-Err-all_out-clause-refused g c =
    let claimed : IsAtRest (g.P.Look.shows c.claim.new.port) true = rest_goes 9 IsOfClaims _ _ c.claim.ensures.goes true claims_off c.claim.ensures.acting c.requires.standing.rest in
    let looked : IsAtRest (g.P.Look.shows c.all_out.new.port) true = rest_goes 9 IsOfSection _ _ c.all_out.ensures.goes true section_off c.all_out.ensures.acting claimed in
    record {
      rest = rest_goes 1 IsOfSection _ _ c.release.ensures.goes true section_off c.release.ensures.acting looked;
      out = out_is (g.P.Look.shows c.release.new.port) (c.release.ensures.phase ∙ c.all_out.ensures.phase ∙ c.claim.ensures.out) c.release.ensures.claimless;
    }

pub sbi-end-requires-clause-runner : goal.sbi-end-requires-clause-runner
sbi-end-requires-clause-runner g c =
    let claimed : IsAtRest (g.P.Look.shows c.claim.new.port) true = rest_goes 9 IsOfClaims _ _ c.claim.ensures.goes true claims_off c.claim.ensures.acting c.requires.standing.rest in
    runner _ (rest_goes 9 IsOfSection _ _ c.all_out.ensures.goes true section_off c.all_out.ensures.acting claimed)

pub returns-clause-made : goal.returns-clause-made
returns-clause-made g c =
    let claimed : IsAtRest (g.P.Look.shows c.claim.new.port) true = rest_goes 9 IsOfClaims _ _ c.claim.ensures.goes true claims_off c.claim.ensures.acting c.requires.standing.rest in
    let looked : IsAtRest (g.P.Look.shows c.all_out.new.port) true = rest_goes 9 IsOfSection _ _ c.all_out.ensures.goes true section_off c.all_out.ensures.acting claimed in
    let s = c.sbi-end.ensures in
    let called : IsAtRest (g.P.Look.shows c.sbi-end.new.port) (runs_on c.sbi-end.result) = rest_called 769 IsOfHartCalls _ _ s.goes (runs_on c.sbi-end.result) s.runs s.free s.paid s.acting looked.hart in
    record {
      rest = rest_goes 1 IsOfSection _ _ c.release-2.ensures.goes (runs_on c.sbi-end.result) section_off c.release-2.ensures.acting called;
      out = out_is (g.P.Look.shows c.release-2.new.port) (c.release-2.ensures.phase ∙ s.stands.phase ∙ c.all_out.ensures.phase ∙ c.claim.ensures.out) c.release-2.ensures.claimless;
    }
