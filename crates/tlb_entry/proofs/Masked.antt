-- A hit by one comparison of what has to agree.
use Rattle.std.proofs.Common.{◌≡◌, ℕ, ◌+◌, ◌-◌, ◌*◌, ◌/◌, ◌%◌, ◌^◌, ◌<◌, Bool, true, false, refl, sym, ap, ◌∙◌, arith}
use Rattle.std.specs.Prelude.{◌==◌, ◌&&◌, bit_and, if◌then◌else◌}
use Rattle.std.proofs.lemmas.Bool.{and_parts, and_from, eq-eqb, eqb-true}
use Rattle.std.proofs.lemmas.Nat.{and_mask, and_block}
use Rattle.std.proofs.Math.Nat.{mod-lt}
use Rattle.step_laws.specs.Fields.{invalid_bit, compare_page, user_bit}
use Rattle.tlb_entry.specs.Compare.{hit}

low_bits : (r : ℕ) → bit_and r 9 ≡ r / 8 % 2 * 8 + r % 8 % 2
low_bits r = ap (λ n. bit_and n 9) split ∙ and_block 3 (r / 8) 1 (r % 8) 1 (mod-lt r (omega arith)) (omega arith)
    ∙ ap (λ n. n * 8 + bit_and (r % 8) 1) (and_mask (r / 8) 1) ∙ ap (λ n. r / 8 % 2 * 8 + n) (and_mask (r % 8) 1)
  where
    split : r ≡ r / 8 * 2 ^ 3 + r % 8
    split = omega arith

pub masked : (n : ℕ) → n < 2 ^ 64 → bit_and n 0xfffffffffffff009 ≡ n / 4096 * 4096 + (n / 8 % 2 * 8 + n % 2)
masked n less = ap (λ m. bit_and m 0xfffffffffffff009) split ∙ and_block 12 (n / 4096) (2 ^ 52 - 1) (n % 4096) 9 (mod-lt n (omega arith)) (omega arith)
    ∙ ap (λ m. m * 4096 + bit_and (n % 4096) 9) (and_mask (n / 4096) 52 ∙ high) ∙ ap (λ m. n / 4096 * 4096 + m) (low_bits (n % 4096) ∙ low)
  where
    split : n ≡ n / 4096 * 2 ^ 12 + n % 4096
    split = omega arith

    high : n / 4096 % 2 ^ 52 ≡ n / 4096
    high = omega (arith, less)

    low : n % 4096 / 8 % 2 * 8 + n % 4096 % 8 % 2 ≡ n / 8 % 2 * 8 + n % 2
    low = omega arith

same_tests : (a b : Bool) → (a ≡ true → b ≡ true) → (b ≡ true → a ≡ true) → a ≡ b
same_tests true b f g = sym (f refl)
same_tests false true f g = g refl
same_tests false false f g = refl

pub masked_hits : (n va : ℕ) (user : Bool) → n < 2 ^ 64 → (bit_and n 0xfffffffffffff009 == va / 4096 * 4096 + (if user then 8 else 0)) ≡ hit n va user
masked_hits n va user less = same_tests (bit_and n 0xfffffffffffff009 == va / 4096 * 4096 + (if user then 8 else 0)) (hit n va user) (to user) (from user)
  where
    to : (u : Bool) → (bit_and n 0xfffffffffffff009 == va / 4096 * 4096 + (if u then 8 else 0)) ≡ true → hit n va u ≡ true
    to true e = let x : n / 4096 * 4096 + (n / 8 % 2 * 8 + n % 2) ≡ va / 4096 * 4096 + 8 = sym (masked n less) ∙ eqb-true (bit_and n 0xfffffffffffff009) (va / 4096 * 4096 + 8) e in
        and_from (invalid_bit n == 0) ((compare_page n == compare_page va) && (user_bit n == 1)) (eq-eqb (invalid_bit n) 0 (omega (arith, x)))
        (and_from (compare_page n == compare_page va) (user_bit n == 1) (eq-eqb (compare_page n) (compare_page va) (omega (arith, x))) (eq-eqb (user_bit n) 1 (omega (arith, x))))
    to false e = let x : n / 4096 * 4096 + (n / 8 % 2 * 8 + n % 2) ≡ va / 4096 * 4096 + 0 = sym (masked n less) ∙ eqb-true (bit_and n 0xfffffffffffff009) (va / 4096 * 4096 + 0) e in
        and_from (invalid_bit n == 0) ((compare_page n == compare_page va) && (user_bit n == 0)) (eq-eqb (invalid_bit n) 0 (omega (arith, x)))
        (and_from (compare_page n == compare_page va) (user_bit n == 0) (eq-eqb (compare_page n) (compare_page va) (omega (arith, x))) (eq-eqb (user_bit n) 0 (omega (arith, x))))

    from : (u : Bool) → hit n va u ≡ true → (bit_and n 0xfffffffffffff009 == va / 4096 * 4096 + (if u then 8 else 0)) ≡ true
    from true e = let p = and_parts (invalid_bit n == 0) ((compare_page n == compare_page va) && (user_bit n == 1)) e in let q = and_parts (compare_page n == compare_page va) (user_bit n == 1) p.1 in
        let v : n % 2 ≡ 0 = eqb-true (invalid_bit n) 0 p.0 in let a : n / 2 ^ 12 * 2 ^ 12 ≡ va / 2 ^ 12 * 2 ^ 12 = eqb-true (compare_page n) (compare_page va) q.0 in let m : n / 8 % 2 ≡ 1 = eqb-true (user_bit n) 1 q.1 in
        eq-eqb (bit_and n 0xfffffffffffff009) (va / 4096 * 4096 + 8) (masked n less ∙ omega (arith, v, a, m))
    from false e = let p = and_parts (invalid_bit n == 0) ((compare_page n == compare_page va) && (user_bit n == 0)) e in let q = and_parts (compare_page n == compare_page va) (user_bit n == 0) p.1 in
        let v : n % 2 ≡ 0 = eqb-true (invalid_bit n) 0 p.0 in let a : n / 2 ^ 12 * 2 ^ 12 ≡ va / 2 ^ 12 * 2 ^ 12 = eqb-true (compare_page n) (compare_page va) q.0 in let m : n / 8 % 2 ≡ 0 = eqb-true (user_bit n) 0 q.1 in
        eq-eqb (bit_and n 0xfffffffffffff009) (va / 4096 * 4096 + 0) (masked n less ∙ omega (arith, v, a, m))
