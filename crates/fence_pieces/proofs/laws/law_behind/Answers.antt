use Rattle.fence_pieces.proofs.Behind.{behind_stays, flushes_stay, grown_is_behind}
use Rattle.fence_pieces.proofs.laws.law_behind.Goals as goal

pub returns-clause-grown : goal.returns-clause-grown
returns-clause-grown c = grown_is_behind

pub returns-clause-stays : goal.returns-clause-stays
returns-clause-stays c = behind_stays

pub returns-clause-flushed : goal.returns-clause-flushed
returns-clause-flushed c = flushes_stay
