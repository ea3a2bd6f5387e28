use Rattle.std.proofs.Common.{sym, ap, ◌∙◌, [], ◌∷◌, Some}
use Rattle.asm_text.specs.Operand.{Reg, with_value}
use Rattle.asm_text.specs.declared.values.Kind.{Kind}
use Rattle.asm_text.specs.Action.{with_values, move}
use Rattle.asm_text.proofs.statement.move_of.Goals as goal

pub returns-in_default-clause-action : goal.returns-in_default-clause-action
returns-in_default-clause-action c = sym (ap (with_values move) (c.in_default.ensures.value (Kind.Register ∷ [])))

pub returns-in_default-next_register-clause-action : goal.returns-in_default-next_register-clause-action
returns-in_default-next_register-clause-action c = sym (ap (with_values move) (c.in-Some.ensures.value (Kind.Register ∷ []) ∙ ap (with_value (Some (Reg c.in-Some.rd))) (c.in_default-next_register.ensures.value ([]))))

pub returns-then-not-are_read-clause-action : goal.returns-then-not-are_read-clause-action
returns-then-not-are_read-clause-action c = sym (ap (with_values move) (c.in-Some.ensures.value (Kind.Register ∷ []) ∙ ap (with_value (Some (Reg c.in-Some.rd))) (c.in-Some-next_register.ensures.value ([]) ∙ ap (with_value (Some (Reg c.in-Some-next_register.rs))) (c.if-not-are_read.ensures))))

pub returns-clause-action : goal.returns-clause-action
returns-clause-action c = sym (ap (with_values move) (c.in-Some.ensures.value (Kind.Register ∷ []) ∙ ap (with_value (Some (Reg c.in-Some.rd))) (c.in-Some-next_register.ensures.value ([]) ∙ ap (with_value (Some (Reg c.in-Some-next_register.rs))) (c.if-not-are_read.ensures))))
