use Rattle.std.proofs.Common.{sym, ap, ◌∙◌, [], ◌∷◌, Some}
use Rattle.asm_text.specs.Operand.{with_value}
use Rattle.asm_text.specs.Values.{value_as}
use Rattle.asm_text.proofs.reading.three_values.Goals as goal

pub returns-in_default-clause-values : goal.returns-in_default-clause-values
returns-in_default-clause-values c = sym (c.in_default.ensures.value (c.args.other ∷ c.args.last ∷ []))

pub returns-in_default-next_value-clause-values : goal.returns-in_default-next_value-clause-values
returns-in_default-next_value-clause-values c = sym (c.in-Some.ensures.value (c.args.other ∷ c.args.last ∷ []) ∙ ap (with_value (Some (value_as c.in-Some.first))) (c.in_default-next_value.ensures.value (c.args.last ∷ [])))

pub returns-in_default-next_value-2-clause-values : goal.returns-in_default-next_value-2-clause-values
returns-in_default-next_value-2-clause-values c = sym (c.in-Some.ensures.value (c.args.other ∷ c.args.last ∷ []) ∙ ap (with_value (Some (value_as c.in-Some.first))) (c.in-Some-next_value.ensures.value (c.args.last ∷ []) ∙ ap (with_value (Some (value_as c.in-Some-next_value.second))) (c.in_default-next_value-2.ensures.value ([]))))

pub returns-then-are_read-clause-values : goal.returns-then-are_read-clause-values
returns-then-are_read-clause-values c = sym (c.in-Some.ensures.value (c.args.other ∷ c.args.last ∷ []) ∙ ap (with_value (Some (value_as c.in-Some.first))) (c.in-Some-next_value.ensures.value (c.args.last ∷ []) ∙ ap (with_value (Some (value_as c.in-Some-next_value.second))) (c.in-Some-next_value-2.ensures.value ([]) ∙ ap (with_value (Some (value_as c.in-Some-next_value-2.third))) (c.if-are_read.ensures))))

pub returns-else-are_read-clause-values : goal.returns-else-are_read-clause-values
returns-else-are_read-clause-values c = sym (c.in-Some.ensures.value (c.args.other ∷ c.args.last ∷ []) ∙ ap (with_value (Some (value_as c.in-Some.first))) (c.in-Some-next_value.ensures.value (c.args.last ∷ []) ∙ ap (with_value (Some (value_as c.in-Some-next_value.second))) (c.in-Some-next_value-2.ensures.value ([]) ∙ ap (with_value (Some (value_as c.in-Some-next_value-2.third))) (c.if-are_read.ensures))))
