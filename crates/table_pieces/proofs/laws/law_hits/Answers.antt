use Rattle.table_pieces.proofs.Behind.{answers_hit, others_stay}
use Rattle.table_pieces.proofs.Hits.{accesses_hit, atomics_hit}
use Rattle.table_pieces.proofs.Kept.{hits_are_loads, misses_walk}
use Rattle.table_pieces.proofs.laws.law_hits.Goals as goal

pub returns-clause-hits : goal.returns-clause-hits
returns-clause-hits c = hits_are_loads

pub returns-clause-misses : goal.returns-clause-misses
returns-clause-misses c = misses_walk

pub returns-clause-answers : goal.returns-clause-answers
returns-clause-answers c = answers_hit

pub returns-clause-others : goal.returns-clause-others
returns-clause-others c = others_stay

pub returns-clause-accesses : goal.returns-clause-accesses
returns-clause-accesses c = accesses_hit

pub returns-clause-atomics : goal.returns-clause-atomics
returns-clause-atomics c = atomics_hit
