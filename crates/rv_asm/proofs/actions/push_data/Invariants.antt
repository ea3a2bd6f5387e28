use Rattle.std.proofs.Common.{◌≡◌, ◌++◌, ℕ, List, length}
use Rattle.std.specs.Prelude.{Option, Some, Ok}
use denote.Ref.{Bor}
use Rattle.asm_text.specs.declared.numbers.Number.{Number}
use Rattle.asm_text.specs.Operand.{all_numbers}
use Rattle.asm_text.specs.Values.{or_none, texts_in, texts_left}
use Rattle.rv_asm.specs.Assembly.{data_bytes, then_bytes}
use Rattle.rv_asm.proofs.actions.push_data.Given as goal

pub record Pushed (width : ℕ) (text : List ℕ) (left : Option (Bor (List ℕ))) (old new : List ℕ) : Type 0 where
  pub numbers : List Number
  pub done : List ℕ
  pub rest : all_numbers (texts_left left) ≡ Some numbers
  pub added : new ≡ old ++ done
  pub bytes : data_bytes width (or_none (all_numbers (texts_in text))) ≡ then_bytes (Ok done) (data_bytes width numbers)

abbrev pub invariant-loop-left : goal.invariant-loop-left
invariant-loop-left l = Pushed l.width l.fn.text l.left l.fn.image.items l.image.items

abbrev pub decreases-loop-left : goal.decreases-loop-left
decreases-loop-left l = length (texts_left l.left)
