-- The value of the digits so far, or the cap.
use Rattle.std.proofs.Common.{◌≡◌, ◌≤◌}
use Rattle.std.specs.Prelude.{take, min}
use Rattle.text_lines.specs.Number.{decimal_value}
use Rattle.text_lines.proofs.numbers.capped_value.Given as goal

abbrev pub invariant-loop-digit : goal.invariant-loop-digit
invariant-loop-digit l = record {
  value : l.value ≡ min (decimal_value (take l.digit-index l.digits)) l.cap;
  small : l.value ≤ l.cap;
}
