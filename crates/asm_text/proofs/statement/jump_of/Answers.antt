use Rattle.std.proofs.Common.{sym, ap, ◌∙◌, [], Some}
use Rattle.asm_text.specs.Operand.{To, with_value}
use Rattle.asm_text.specs.Action.{with_values, jump_to}
use Rattle.asm_text.specs.Values.{target_as}
use Rattle.asm_text.proofs.statement.jump_of.Goals as goal

pub returns-in_default-clause-action : goal.returns-in_default-clause-action
returns-in_default-clause-action c = sym (ap (with_values jump_to) (c.in_default.ensures ([])))

pub returns-then-not-are_read-clause-action : goal.returns-then-not-are_read-clause-action
returns-then-not-are_read-clause-action c = sym (ap (with_values jump_to) (c.in-Some.ensures ([]) ∙ ap (with_value (Some (To (target_as c.in-Some.target)))) (c.if-not-are_read.ensures)))

pub returns-clause-action : goal.returns-clause-action
returns-clause-action c = sym (ap (with_values jump_to) (c.in-Some.ensures ([]) ∙ ap (with_value (Some (To (target_as c.in-Some.target)))) (c.if-not-are_read.ensures)))
