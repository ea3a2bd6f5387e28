use Rattle.hart_turn.proofs.Asked.{word_asked}
use Rattle.hart_turn.proofs.tests_fences.ask_fence.Goals as goal

pub returns-else-not-hart-clause-with : goal.returns-else-not-hart-clause-with
returns-else-not-hart-clause-with g c = c.begin_fence.ensures.with (g.P.Look.shows c.execute_word.new.port)
    (word_asked c.args.word c.in-Fence.harts c.in-Fence.span c.args.hart.now c.execute_word.new.hart (g.P.Look.shows c.args.port.now) (g.P.Look.shows c.execute_word.new.port) c.in-Fence.ensures.executed) c.execute_word.ensures.with
