use Rattle.std.proofs.Common.{sym, ap, ◌∙◌, [], ◌∷◌, Some}
use Rattle.asm_text.specs.Operand.{Reg, To, Label, with_value}
use Rattle.asm_text.specs.declared.values.Kind.{Kind}
use Rattle.asm_text.specs.Action.{with_values, load_address}
use Rattle.asm_text.proofs.statement.address_loaded.Goals as goal

pub returns-in_default-clause-action : goal.returns-in_default-clause-action
returns-in_default-clause-action c = sym (ap (with_values load_address) (c.in_default.ensures.value (Kind.Labelled ∷ [])))

pub returns-in_default-next_label-clause-action : goal.returns-in_default-next_label-clause-action
returns-in_default-next_label-clause-action c = sym (ap (with_values load_address) (c.in-Some.ensures.value (Kind.Labelled ∷ []) ∙ ap (with_value (Some (Reg c.in-Some.rd))) (c.in_default-next_label.ensures ([]))))

pub returns-then-not-are_read-clause-action : goal.returns-then-not-are_read-clause-action
returns-then-not-are_read-clause-action c = sym (ap (with_values load_address) (c.in-Some.ensures.value (Kind.Labelled ∷ []) ∙ ap (with_value (Some (Reg c.in-Some.rd))) (c.in-Some-next_label.ensures ([]) ∙ ap (with_value (Some (To (Label c.in-Some-next_label.label.now)))) (c.if-not-are_read.ensures))))

pub returns-clause-action : goal.returns-clause-action
returns-clause-action c = sym (ap (with_values load_address) (c.in-Some.ensures.value (Kind.Labelled ∷ []) ∙ ap (with_value (Some (Reg c.in-Some.rd))) (c.in-Some-next_label.ensures ([]) ∙ ap (with_value (Some (To (Label c.in-Some-next_label.label.now)))) (c.if-not-are_read.ensures))))
