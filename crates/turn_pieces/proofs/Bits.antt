-- A mark is of one page.
use Rattle.std.proofs.Common.{◌≡◌, ◌<◌, ◌≤◌, ◌+◌, ◌-◌, ◌*◌, ◌/◌, ◌%◌, ◌^◌, ℕ, zero, suc, true, refl, sym, ap, ◌∙◌, arith, eqb-true, subst, shr_lt}
use Rattle.std.specs.Prelude.{◌==◌}
use Rattle.std.proofs.lemmas.Bool.{and_parts}
use Rattle.std.proofs.lemmas.Nat.{pow_below, pow-add, shl-shr}
use Rattle.step_laws.specs.Marks.{is_mark, is_set}
use Rattle.step_laws.proofs.Named.{by_lt}

even_power : (d : ℕ) → 2 ^ d % 2 ≡ 1 → d ≡ 0
even_power zero e = refl
even_power (suc d) e = let k : 2 ^ (d + 1) ≡ 2 ^ d * 2 ^ 1 = pow-add 2 d 1 in absurd (omega (arith, e, k))

below_none : (m n : ℕ) → m < n → 2 ^ m / 2 ^ n % 2 ≡ 1 → m ≡ n
below_none m n lt e =
    let h : 2 ^ m < 2 ^ (0 + n) = subst (λ k. 2 ^ m < 2 ^ k) (let q : n ≡ 0 + n = omega arith in q) (pow_below m n lt) in
    let k : 2 ^ m / 2 ^ n < 2 ^ 0 = shr_lt 0 n h in absurd (omega (arith, e, k))

above_same : (m n : ℕ) → n ≤ m → 2 ^ m / 2 ^ n % 2 ≡ 1 → m ≡ n
above_same m n le e =
    let d : 2 ^ m ≡ 2 ^ (m - n) * 2 ^ n = ap (λ k. 2 ^ k) (let q : m ≡ (m - n) + n = omega (arith, le) in q) ∙ pow-add 2 (m - n) n in
    let q = even_power (m - n) (sym (ap (λ k. k / 2 ^ n % 2) d ∙ ap (λ k. k % 2) (shl-shr (2 ^ (m - n)) n)) ∙ e) in omega (arith, le, q)

-- the mark of a page marks no other
pub one_page : (page other arg : ℕ) → arg ≡ 2 ^ (page % 64) → is_mark other (page / 64) arg ≡ true → other ≡ page
one_page page other arg is e =
    let k = and_parts (page / 64 == other / 64) (is_set arg other) e in
    let q : page / 64 ≡ other / 64 = eqb-true (page / 64) (other / 64) k.0 in
    let b : page % 64 ≡ other % 64 = same_bit (page % 64) (other % 64) (sym (ap (λ n. n / 2 ^ (other % 64) % 2) is) ∙ eqb-true (arg / 2 ^ (other % 64) % 2) 1 k.1) in
    omega (arith, q, b)
  where
    same_bit : (m n : ℕ) → 2 ^ m / 2 ^ n % 2 ≡ 1 → m ≡ n
    same_bit m n = by_lt m n (λ _. 2 ^ m / 2 ^ n % 2 ≡ 1 → m ≡ n) (below_none m n) (above_same m n)
