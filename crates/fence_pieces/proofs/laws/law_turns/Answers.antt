use Rattle.fence_pieces.proofs.Turning.{turns_are_held, turns_are_made, turns_go_on}
use Rattle.fence_pieces.proofs.laws.law_turns.Goals as goal

pub returns-clause-made : goal.returns-clause-made
returns-clause-made c = turns_are_made

pub returns-clause-held : goal.returns-clause-held
returns-clause-held c = turns_are_held

pub returns-clause-on : goal.returns-clause-on
returns-clause-on c = turns_go_on
