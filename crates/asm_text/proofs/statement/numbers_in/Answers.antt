use Rattle.asm_text.proofs.Read.{data_found}
use Rattle.asm_text.proofs.statement.numbers_in.Goals as goal

pub returns-in-Some-clause-action : goal.returns-in-Some-clause-action
returns-in-Some-clause-action c = data_found c.args.width c.in-Some.count c.args.text.now c.in-Some.ensures.value
