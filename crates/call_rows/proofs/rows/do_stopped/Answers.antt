use Rattle.call_rows.proofs.Standings.{out_states}
use Rattle.call_rows.proofs.rows.do_stopped.Goals as goal

pub returns-in-Some-clause-standing : goal.returns-in-Some-clause-standing
returns-in-Some-clause-standing g c = record { rest = c.in-Some.ensures.runs c.requires.rest; out = out_states 4 _ _ c.take_start.ensures.goes c.requires.out }

pub returns-in-None-clause-standing : goal.returns-in-None-clause-standing
returns-in-None-clause-standing g c = record { rest = c.in-None.ensures.still c.requires.rest; out = out_states 4 _ _ c.take_start.ensures.goes c.requires.out }
