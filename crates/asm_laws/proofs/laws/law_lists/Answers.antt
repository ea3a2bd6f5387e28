use Rattle.asm_laws.proofs.Law.{lists_back}
use Rattle.asm_laws.proofs.laws.law_lists.Goals as goal

pub returns : goal.returns
returns c = lists_back
