use Rattle.tlb_fill.specs.Stepping.{IsOfFill}
use Rattle.hart_turn.proofs.Draws.{draws_goes, fill_neither}
use Rattle.hart_turn.proofs.tests_fences.start_fence.Goals as goal

pub ask_fence-requires-clause-draws : goal.ask_fence-requires-clause-draws
ask_fence-requires-clause-draws g c = draws_goes 16 IsOfFill (g.P.Look.shows c.stand.new.port) (g.P.Look.shows c.fetch_code.new.port) fill_neither c.fetch_code.ensures.goes c.stand.ensures.draws
