use Rattle.std.proofs.Common.{sym, ap, ◌∙◌, [], Some}
use Rattle.asm_text.specs.Operand.{Num, with_value}
use Rattle.asm_text.specs.Action.{with_values, move_to}
use Rattle.asm_text.proofs.statement.place_moved.Goals as goal

pub returns-in_default-clause-action : goal.returns-in_default-clause-action
returns-in_default-clause-action c = sym (ap (with_values move_to) (c.in_default.ensures ([])))

pub returns-then-not-are_read-clause-action : goal.returns-then-not-are_read-clause-action
returns-then-not-are_read-clause-action c = sym (ap (with_values move_to) (c.in-Some.ensures ([]) ∙ ap (with_value (Some (Num c.in-Some.n))) (c.if-not-are_read.ensures)))

pub returns-clause-action : goal.returns-clause-action
returns-clause-action c = sym (ap (with_values move_to) (c.in-Some.ensures ([]) ∙ ap (with_value (Some (Num c.in-Some.n))) (c.if-not-are_read.ensures)))
