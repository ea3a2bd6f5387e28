-- Numbers of slots.
use Rattle.std.proofs.Common.{◌≡◌, ℕ, ◌-◌, ◌%◌, ◌<◌, ◌≤◌, sym, ap, ◌∙◌, arith, inl, inr}
use Rattle.std.specs.Prelude.{bit_and}
use Rattle.std.proofs.lemmas.Nat.{and_mask}
use Rattle.std.proofs.Math.Nat.{mod-lt}
use Rattle.step_laws.specs.Fields.{IsSize}

pub mask_slot : (n size : ℕ) → IsSize size → bit_and n (size - 1) ≡ n % size
mask_slot n size (inl e) = ap (λ s. bit_and n (s - 1)) e ∙ and_mask n 6 ∙ ap (λ s. n % s) (sym e)
mask_slot n size (inr (inl e)) = ap (λ s. bit_and n (s - 1)) e ∙ and_mask n 7 ∙ ap (λ s. n % s) (sym e)
mask_slot n size (inr (inr (inl e))) = ap (λ s. bit_and n (s - 1)) e ∙ and_mask n 8 ∙ ap (λ s. n % s) (sym e)
mask_slot n size (inr (inr (inr (inl e)))) = ap (λ s. bit_and n (s - 1)) e ∙ and_mask n 9 ∙ ap (λ s. n % s) (sym e)
mask_slot n size (inr (inr (inr (inr e)))) = ap (λ s. bit_and n (s - 1)) e ∙ and_mask n 10 ∙ ap (λ s. n % s) (sym e)

pub size_some : (size : ℕ) → IsSize size → (64 ≤ size) × (size ≤ 1024)
size_some size (inl e) = (omega (arith, e), omega (arith, e))
size_some size (inr (inl e)) = (omega (arith, e), omega (arith, e))
size_some size (inr (inr (inl e))) = (omega (arith, e), omega (arith, e))
size_some size (inr (inr (inr (inl e)))) = (omega (arith, e), omega (arith, e))
size_some size (inr (inr (inr (inr e)))) = (omega (arith, e), omega (arith, e))

pub slot_below : (n size : ℕ) → IsSize size → n % size < size
slot_below n size s = let e = size_some size s in mod-lt n (omega (arith, e.0))
