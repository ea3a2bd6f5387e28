use Rattle.std.proofs.Common.{true, ◌∙◌}
use Rattle.guest_ram.specs.Areas.{IsOfSection}
use Rattle.guest_ram_cases.specs.States.{IsAtRest}
use Rattle.hart_calls.specs.Called.{IsOfHartCalls}
use Rattle.hart_calls.specs.Ends.{runs_on}
use Rattle.call_rows.proofs.Standings.{out_is, rest_called, rest_goes, runner, section_off}
use Rattle.call_rows.proofs.calls.call_inside.Goals as goal

pub returns-in-Err-clause-refused : goal.returns-in-Err-clause-refused
returns-in-Err-clause-refused g c = record {
  rest = rest_goes 3 IsOfSection _ _ c.enter.ensures.goes true section_off c.enter.ensures.acting c.requires.standing.rest;
  out = out_is (g.P.Look.shows c.enter.new.port) c.in-Err.ensures.back c.enter.ensures.claimless;
}

pub sbi-end-requires-clause-runner : goal.sbi-end-requires-clause-runner
sbi-end-requires-clause-runner g c = runner _ (rest_goes 3 IsOfSection _ _ c.enter.ensures.goes true section_off c.enter.ensures.acting c.requires.standing.rest)

pub returns-clause-made : goal.returns-clause-made
returns-clause-made g c =
    let entered : IsAtRest (g.P.Look.shows c.enter.new.port) true = rest_goes 3 IsOfSection _ _ c.enter.ensures.goes true section_off c.enter.ensures.acting c.requires.standing.rest in
    let s = c.sbi-end.ensures in
    let called : IsAtRest (g.P.Look.shows c.sbi-end.new.port) (runs_on c.sbi-end.result) = rest_called 769 IsOfHartCalls _ _ s.goes (runs_on c.sbi-end.result) s.runs s.free s.paid s.acting entered.hart in
    record {
      rest = rest_goes 1 IsOfSection _ _ c.leave.ensures.goes (runs_on c.sbi-end.result) section_off c.leave.ensures.acting called;
      out = out_is (g.P.Look.shows c.leave.new.port) c.leave.ensures.out (c.leave.ensures.claim ∙ s.stands.claim ∙ c.enter.ensures.claimless);
    }
