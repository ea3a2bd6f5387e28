use Rattle.std.proofs.Common.{◌≡◌, ◌^◌, min, take}
use Rattle.text_lines.specs.Number.{decimal_value}
use Rattle.asm_text.proofs.numbers.decimal_value.Given as goal

abbrev pub invariant-loop-digit : goal.invariant-loop-digit
invariant-loop-digit l = l.value ≡ min (decimal_value (take l.digit-index l.digits)) (2 ^ 64)
