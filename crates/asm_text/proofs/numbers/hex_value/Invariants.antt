use Rattle.std.proofs.Common.{◌≡◌, ◌^◌, min, take}
use Rattle.asm_text.specs.Operand.{hex_value}
use Rattle.asm_text.proofs.numbers.hex_value.Given as goal

abbrev pub invariant-loop-digit : goal.invariant-loop-digit
invariant-loop-digit l = l.value ≡ min (hex_value (take l.digit-index l.digits)) (2 ^ 64)
