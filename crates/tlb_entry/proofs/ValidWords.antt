-- Where the words of entries hit.
use Rattle.std.proofs.Common.{◌≡◌, ℕ, ◌*◌, ◌/◌, ◌%◌, ◌^◌, Bool, true, false, true≢false, refl, sym, ap, ◌∙◌, arith}
use Rattle.std.specs.Prelude.{◌↔◌, ◌==◌, ◌&&◌, if◌then◌else◌}
use Rattle.std.proofs.lemmas.Bool.{and_parts, and_from, eq-eqb, eqb-true}
use Rattle.step_laws.specs.Fields.{invalid_bit, compare_page, user_bit}
use Rattle.tlb_entry.specs.Compare.{compare_word, hit, is_not_dirty, is_for_device}
use Rattle.tlb_entry.specs.Filled.{serves, waits_for_mark, EntryWords}

abbrev bit : Bool → ℕ
bit b = if b then 1 else 0

same_bit : (a b : Bool) → bit a ≡ bit b → a ≡ b
same_bit true true e = refl
same_bit false false e = refl
same_bit true false e = absurd (omega (arith, e))
same_bit false true e = absurd (omega (arith, e))

-- the fields of a number that has them
hit_iff : (n va other : ℕ) (u user : Bool) → n % 2 ≡ 0 → n / 2 ^ 12 ≡ va / 2 ^ 12 → n / 8 % 2 ≡ bit u
    → (hit n other user ≡ true) ↔ ((other / 2 ^ 12 ≡ va / 2 ^ 12) × (user ≡ u))
hit_iff n va other u user valid page mode = (to, from)
  where
    to : hit n other user ≡ true → (other / 2 ^ 12 ≡ va / 2 ^ 12) × (user ≡ u)
    to e = let p = and_parts (invalid_bit n == 0) ((compare_page n == compare_page other) && (user_bit n == bit user)) e in
        let q = and_parts (compare_page n == compare_page other) (user_bit n == bit user) p.1 in
        let same : n / 2 ^ 12 * 2 ^ 12 ≡ other / 2 ^ 12 * 2 ^ 12 = eqb-true (compare_page n) (compare_page other) q.0 in
        (omega (arith, same, page), same_bit user u (sym (eqb-true (user_bit n) (bit user) q.1) ∙ mode))

    from : (other / 2 ^ 12 ≡ va / 2 ^ 12) × (user ≡ u) → hit n other user ≡ true
    from e = and_from (invalid_bit n == 0) ((compare_page n == compare_page other) && (user_bit n == bit user)) (eq-eqb (invalid_bit n) 0 valid)
        (and_from (compare_page n == compare_page other) (user_bit n == bit user) (eq-eqb (compare_page n) (compare_page other) (ap (λ m. m * 2 ^ 12) (page ∙ sym e.0)))
        (eq-eqb (user_bit n) (bit user) (mode ∙ ap bit (sym e.1))))

is_valid : (va : ℕ) (d e u : Bool) → compare_word va d e u % 2 ≡ 0
is_valid va true true true = omega arith
is_valid va true true false = omega arith
is_valid va true false true = omega arith
is_valid va true false false = omega arith
is_valid va false true true = omega arith
is_valid va false true false = omega arith
is_valid va false false true = omega arith
is_valid va false false false = omega arith

is_page : (va : ℕ) (d e u : Bool) → compare_word va d e u / 2 ^ 12 ≡ va / 2 ^ 12
is_page va true true true = omega arith
is_page va true true false = omega arith
is_page va true false true = omega arith
is_page va true false false = omega arith
is_page va false true true = omega arith
is_page va false true false = omega arith
is_page va false false true = omega arith
is_page va false false false = omega arith

is_mode : (va : ℕ) (d e u : Bool) → compare_word va d e u / 8 % 2 ≡ bit u
is_mode va true true true = omega arith
is_mode va true true false = omega arith
is_mode va true false true = omega arith
is_mode va true false false = omega arith
is_mode va false true true = omega arith
is_mode va false true false = omega arith
is_mode va false false true = omega arith
is_mode va false false false = omega arith

clean_bit : (va : ℕ) (d e u : Bool) → is_not_dirty (compare_word va d e u) ≡ d
clean_bit va true e u = eq-eqb (compare_word va true e u / 2 % 2) 1 (at e u)
  where
    at : (e u : Bool) → compare_word va true e u / 2 % 2 ≡ 1
    at true true = omega arith
    at true false = omega arith
    at false true = omega arith
    at false false = omega arith
clean_bit va false e u = ap (λ n. n == 1) (at e u)
  where
    at : (e u : Bool) → compare_word va false e u / 2 % 2 ≡ 0
    at true true = omega arith
    at true false = omega arith
    at false true = omega arith
    at false false = omega arith

device_bit : (va : ℕ) (d e u : Bool) → is_for_device (compare_word va d e u) ≡ e
device_bit va d true u = eq-eqb (compare_word va d true u / 4 % 2) 1 (at d u)
  where
    at : (d u : Bool) → compare_word va d true u / 4 % 2 ≡ 1
    at true true = omega arith
    at true false = omega arith
    at false true = omega arith
    at false false = omega arith
device_bit va d false u = ap (λ n. n == 1) (at d u)
  where
    at : (d u : Bool) → compare_word va d false u / 4 % 2 ≡ 0
    at true true = omega arith
    at true false = omega arith
    at false true = omega arith
    at false false = omega arith

pub entry_words : EntryWords
entry_words = record {
  hits = λ pte va other device r kind user. by (serves pte device r kind) va other (waits_for_mark device kind) device r.user user;
  says = λ pte va device r kind served. (
    ap (λ (b : Bool). is_not_dirty (if b then compare_word va (waits_for_mark device kind) device r.user else 1)) served ∙ clean_bit va (waits_for_mark device kind) device r.user,
    ap (λ (b : Bool). is_for_device (if b then compare_word va (waits_for_mark device kind) device r.user else 1)) served ∙ device_bit va (waits_for_mark device kind) device r.user,
  );
}
  where
    by : (b : Bool) (va other : ℕ) (d e u user : Bool) → (hit (if b then compare_word va d e u else 1) other user ≡ true) ↔ ((b ≡ true) × (other / 2 ^ 12 ≡ va / 2 ^ 12) × (user ≡ u))
    by true va other d e u user = let i = hit_iff (compare_word va d e u) va other u user (is_valid va d e u) (is_page va d e u) (is_mode va d e u) in
        ((λ h. (refl, (i.0 h).0, (i.0 h).1)), (λ h. i.1 (h.1, h.2)))
    by false va other d e u user = ((λ h. absurd (true≢false (sym h))), (λ h. absurd (true≢false (sym h.0))))
