use Rattle.table_pieces.proofs.Placing.{busy_rests, full_is_placed, pages_are_placed}
use Rattle.table_pieces.proofs.laws.law_flushes.Goals as goal

pub returns-clause-all : goal.returns-clause-all
returns-clause-all c = full_is_placed

pub returns-clause-pages : goal.returns-clause-pages
returns-clause-pages c = pages_are_placed

pub returns-clause-busy : goal.returns-clause-busy
returns-clause-busy c = busy_rests
