-- Registers as a listing writes them.
use Rattle.std.proofs.Common.{◌≡◌, refl, ap, sym, subst, ◌∙◌, ℕ, suc, zero, ◌+◌, ◌<◌, ◌≤◌, Bool, true, false, ◌&&◌, List, [], ◌∷◌, ◌++◌, arith}
use Rattle.std.specs.Prelude.{◌/◌, ◌%◌, if◌then◌else◌, Option, Some, None, codes, nat_eq, nat_lt}
use Rattle.std.proofs.lemmas.Fmt.{decimal_digit, decimal_step}
use Rattle.std.specs.Fmt.{decimal}
use Rattle.asm_text.specs.Operand.{register_of}
use Rattle.asm_laws.proofs.Lists.{both}

abbrev is_some_of : ℕ → Option ℕ → Bool
is_some_of n None = false
is_some_of n (Some m) = nat_eq m n

-- one or two digits
abbrev two_digits : ℕ → List ℕ
two_digits n = if nat_lt n 10 then (48 + n) ∷ [] else (48 + n / 10) ∷ (48 + n % 10) ∷ []

decimal_two : (n : ℕ) → n < 32 → decimal n ≡ two_digits n
decimal_two n h = by_ten (nat_lt n 10) refl
  where
    by_ten : (b : Bool) → nat_lt n 10 ≡ b → decimal n ≡ (if b then (48 + n) ∷ [] else (48 + n / 10) ∷ (48 + n % 10) ∷ [])
    by_ten true e = let less : n < 10 = grind (arith, e) in decimal_digit n less
    by_ten false e =
        let more : 10 ≤ n = grind (arith, e) in
        let high : n / 10 < 10 = omega (arith, h) in
        decimal_step n more (omega (arith, h)) ∙ rw (decimal_digit (n / 10) high) refl

abbrev reads_back : ℕ → Bool
reads_back n = is_some_of n (register_of (codes "x" ++ two_digits n))

unfoldable all_below : (ℕ → Bool) → ℕ → Bool
all_below p zero = true
all_below p (suc n) = p n && all_below p n

below : (p : ℕ → Bool) (k n : ℕ) → all_below p k ≡ true → n < k → p n ≡ true
unfolding all_below
below p zero n e h = absurd (omega (arith, h))
below p (suc k) n e h = by_last (nat_eq n k) refl (below p k n (both (p k) (all_below p k) e).1)
  where
    by_last : (b : Bool) → nat_eq n k ≡ b → (n < k → p n ≡ true) → p n ≡ true
    by_last true f less = let same : n ≡ k = grind (arith, f) in subst (λ i. p i ≡ true) (sym same) (both (p k) (all_below p k) e).0
    by_last false f less = let other : n < k = grind (arith, f, h) in less other

all_read : all_below reads_back 32 ≡ true
unfolding all_below
all_read = refl

is_same : (n : ℕ) (o : Option ℕ) → is_some_of n o ≡ true → o ≡ Some n
is_same n None e = cc
is_same n (Some m) e = let same : m ≡ n = grind (arith, e) in ap Some same

pub register_read : (n : ℕ) → n < 32 → register_of (codes "x" ++ decimal n) ≡ Some n
register_read n h = rw (decimal_two n h) (is_same n (register_of (codes "x" ++ two_digits n)) (below reads_back 32 n all_read h))
