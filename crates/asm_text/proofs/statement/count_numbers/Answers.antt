use Rattle.std.proofs.Common.{◌+◌, ◌≤◌, length, arith}
use Rattle.asm_text.specs.Text.{is_comma, operand_in}
use Rattle.asm_text.specs.Values.{texts_in}
use Rattle.asm_text.proofs.Read.{few_pieces}
use Rattle.asm_text.proofs.statement.count_numbers.Goals as goal

pub overflow_add-count : goal.overflow_add-count
overflow_add-count c = let few : length (texts_in c.args.text.now) ≤ length c.args.text.now + 1 = few_pieces is_comma operand_in c.args.text.now in omega (arith, few, c.loop-left.invariant.sum)

pub returns-clause-few : goal.returns-clause-few
returns-clause-few c = let few : length (texts_in c.args.text.now) ≤ length c.args.text.now + 1 = few_pieces is_comma operand_in c.args.text.now in omega (arith, few, c.loop-left.invariant.sum)
