use Rattle.std.proofs.Common.{◌≡◌, ◌+◌, ℕ, List, length}
use Rattle.std.specs.Prelude.{Option}
use denote.Ref.{Bor}
use Rattle.asm_text.specs.Operand.{all_numbers}
use Rattle.asm_text.specs.Values.{texts_in, texts_left}
use Rattle.asm_text.proofs.Read.{counted}
use Rattle.asm_text.proofs.statement.count_numbers.Given as goal

pub record Counts (text : List ℕ) (left : Option (Bor (List ℕ))) (count : ℕ) : Type 0 where
  pub numbers : counted 0 (all_numbers (texts_in text)) ≡ counted count (all_numbers (texts_left left))
  pub sum : count + length (texts_left left) ≡ length (texts_in text)

abbrev pub invariant-loop-left : goal.invariant-loop-left
invariant-loop-left l = Counts l.fn.text l.left l.count

abbrev pub decreases-loop-left : goal.decreases-loop-left
decreases-loop-left l = length (texts_left l.left)
