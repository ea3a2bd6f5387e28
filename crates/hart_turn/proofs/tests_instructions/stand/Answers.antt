use Rattle.signal_pieces.specs.Signalling.{IsOfSides}
use Rattle.hart_turn.proofs.Draws.{draws_goes, sides_neither}
use Rattle.hart_turn.proofs.tests_instructions.stand.Goals as goal

pub returns-clause-draws : goal.returns-clause-draws
returns-clause-draws g c = draws_goes 18 IsOfSides (g.P.Look.shows c.args.port.now) (g.P.Look.shows c.go_alone.new.port) sides_neither c.go_alone.ensures.goes c.requires.draws

pub returns-then-eq-clause-draws : goal.returns-then-eq-clause-draws
returns-then-eq-clause-draws g c = draws_goes 3 IsOfSides (g.P.Look.shows c.args.port.now) (g.P.Look.shows c.go_in.new.port) sides_neither c.go_in.ensures.goes c.requires.draws
