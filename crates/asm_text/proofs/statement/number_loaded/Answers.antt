use Rattle.std.proofs.Common.{sym, ap, ◌∙◌, [], ◌∷◌, Some}
use Rattle.asm_text.specs.Operand.{Reg, Num, with_value}
use Rattle.asm_text.specs.declared.values.Kind.{Kind}
use Rattle.asm_text.specs.Action.{with_values, load_number}
use Rattle.asm_text.proofs.statement.number_loaded.Goals as goal

pub returns-in_default-clause-action : goal.returns-in_default-clause-action
returns-in_default-clause-action c = sym (ap (with_values load_number) (c.in_default.ensures.value (Kind.Count ∷ [])))

pub returns-in_default-next_count-clause-action : goal.returns-in_default-next_count-clause-action
returns-in_default-next_count-clause-action c = sym (ap (with_values load_number) (c.in-Some.ensures.value (Kind.Count ∷ []) ∙ ap (with_value (Some (Reg c.in-Some.rd))) (c.in_default-next_count.ensures ([]))))

pub returns-then-not-are_read-clause-action : goal.returns-then-not-are_read-clause-action
returns-then-not-are_read-clause-action c = sym (ap (with_values load_number) (c.in-Some.ensures.value (Kind.Count ∷ []) ∙ ap (with_value (Some (Reg c.in-Some.rd))) (c.in-Some-next_count.ensures ([]) ∙ ap (with_value (Some (Num c.in-Some-next_count.n))) (c.if-not-are_read.ensures))))

pub returns-clause-action : goal.returns-clause-action
returns-clause-action c = sym (ap (with_values load_number) (c.in-Some.ensures.value (Kind.Count ∷ []) ∙ ap (with_value (Some (Reg c.in-Some.rd))) (c.in-Some-next_count.ensures ([]) ∙ ap (with_value (Some (Num c.in-Some-next_count.n))) (c.if-not-are_read.ensures))))
