use Rattle.fence_pieces.proofs.Owning.{pieces_are_flushed, pieces_are_held, pieces_are_whole}
use Rattle.fence_pieces.proofs.laws.law_own.Goals as goal

pub returns-clause-flushed : goal.returns-clause-flushed
returns-clause-flushed c = pieces_are_flushed

pub returns-clause-held : goal.returns-clause-held
returns-clause-held c = pieces_are_held

pub returns-clause-whole : goal.returns-clause-whole
returns-clause-whole c = pieces_are_whole
