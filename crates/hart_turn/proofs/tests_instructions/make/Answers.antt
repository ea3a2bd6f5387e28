use Rattle.tlb_fill.specs.Stepping.{IsOfFill}
use Rattle.hart_turn.proofs.Draws.{draws_goes, fill_neither}
use Rattle.hart_turn.proofs.tests_instructions.make.Goals as goal

pub execute_word-requires-clause-draws : goal.execute_word-requires-clause-draws
execute_word-requires-clause-draws g c = draws_goes 16 IsOfFill (g.P.Look.shows c.args.port.now) (g.P.Look.shows c.fetch_code.new.port) fill_neither c.fetch_code.ensures.goes c.requires.draws
