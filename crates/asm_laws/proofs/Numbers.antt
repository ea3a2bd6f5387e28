-- Numbers as a listing writes them, read back.
use Rattle.std.proofs.Common.{◌≡◌, refl, ◌∙◌, ℕ, suc, zero, ◌+◌, ◌*◌, ◌-◌, ◌<◌, ◌≤◌, true, false, List, [], ◌∷◌, ◌++◌, length, arith}
use Rattle.std.specs.Prelude.{◌/◌, ◌%◌, ◌^◌, ℤ, pos, negsuc, Some, codes, min}
use Rattle.std.specs.List.{list_all, fold}
use Rattle.std.specs.Str.Parse.{digits_value_after, AllDigits, IsNumeral, digits_value}
use Rattle.std.specs.Char.{digit_value, is_ascii_digit}
use Rattle.std.specs.Fmt.{digits, decimal, signed_decimal}
use Rattle.std.proofs.lemmas.List.{length-append}
use Rattle.std.proofs.lemmas.Fmt.{digits_is_IsNumeral, decimal_is_IsNumeral}
use Rattle.rv64_decode.specs.Format.{IsSigned}
use Rattle.text_lines.specs.Number.{decimal_value}
use Rattle.asm_text.specs.declared.numbers.Number.{Number}
use Rattle.asm_text.specs.Text.{begins_with}
use Rattle.asm_text.specs.Operand.{is_hex_digit, hex_digit_value, hex_value, is_hex, is_empty, magnitude_of, most_magnitude, number, number_of, is_minus}
use Rattle.rv_asm.specs.Listing.{hex, hex_digit}
use Rattle.asm_laws.proofs.Lists.{head_passes, tail_passes, all_passes}

-- DIGITS

decimal_digit_is : (c : ℕ) → digit_value c < 10 → (is_ascii_digit c ≡ true) × (digit_value c ≡ c - 48)
decimal_digit_is c h = (grind (arith, h), grind (arith, h))

hex_digit_is : (c : ℕ) → digit_value c < 16 → (is_hex_digit c ≡ true) × (hex_digit_value c ≡ digit_value c)
hex_digit_is c h = (grind (arith, h), grind (arith, h))

decimal_digits : (ds : List ℕ) → AllDigits 10 ds → list_all is_ascii_digit ds ≡ true
decimal_digits [] a = refl
decimal_digits (c ∷ cs) a = rw ((decimal_digit_is c a.0).0, decimal_digits cs a.1) refl

decimal_fold : (n : ℕ) (ds : List ℕ) → AllDigits 10 ds → fold (λ n d. n * 10 + (d - 48)) n ds ≡ digits_value_after 10 n ds
decimal_fold n [] a = refl
decimal_fold n (c ∷ cs) a = rw ((decimal_digit_is c a.0).1) (decimal_fold (n * 10 + (c - 48)) cs a.1)

hex_digits : (ds : List ℕ) → AllDigits 16 ds → list_all is_hex_digit ds ≡ true
hex_digits [] a = refl
hex_digits (c ∷ cs) a = rw ((hex_digit_is c a.0).0, hex_digits cs a.1) refl

hex_fold : (n : ℕ) (ds : List ℕ) → AllDigits 16 ds → fold (λ n d. n * 16 + hex_digit_value d) n ds ≡ digits_value_after 16 n ds
hex_fold n [] a = refl
hex_fold n (c ∷ cs) a = rw ((hex_digit_is c a.0).1) (hex_fold (n * 16 + digit_value c) cs a.1)

-- no text of decimal digits begins with `-` or `0x`
no_minus : (ds : List ℕ) → list_all is_ascii_digit ds ≡ true → begins_with is_minus ds ≡ false
no_minus [] e = refl
no_minus (c ∷ cs) e = let is : is_ascii_digit c ≡ true = head_passes is_ascii_digit c cs e in grind (arith, is)

no_hex : (ds : List ℕ) → list_all is_ascii_digit ds ≡ true → is_hex ds ≡ false
no_hex [] e = refl
no_hex (c ∷ []) e = grind arith
no_hex (c ∷ d ∷ ds) e =
    let is : is_ascii_digit d ≡ true = head_passes is_ascii_digit d ds (tail_passes is_ascii_digit c (d ∷ ds) e) in
    grind (arith, is)

pub not_empty : (ds : List ℕ) → 0 < length ds → is_empty ds ≡ false
not_empty [] h = absurd (omega (arith, h))
not_empty (c ∷ cs) h = refl

min_is : (n : ℕ) → n < 2 ^ 64 → min n most_magnitude ≡ n
min_is n h = omega (arith, h)

-- a text of decimal digits, not none, is their number
digits_number : (ds : List ℕ) (n : ℕ) → 0 < length ds → list_all is_ascii_digit ds ≡ true → decimal_value ds ≡ n → n < 2 ^ 64 → magnitude_of ds ≡ Some n
digits_number ds n some all value within = rw (no_hex ds all, not_empty ds some, all, value, min_is n within) refl

hex_number : (ds : List ℕ) (n : ℕ) → 0 < length ds → list_all is_hex_digit ds ≡ true → hex_value ds ≡ n → n < 2 ^ 64 → number_of (codes "0x" ++ ds) ≡ Some (number false n)
hex_number ds n some all value within = rw (not_empty ds some, all, value, min_is n within) refl

-- what `decimal` writes
pub decimal_all : (n : ℕ) → n < 2 ^ 64 → list_all is_ascii_digit (decimal n) ≡ true
decimal_all n h = decimal_digits (decimal n) (decimal_is_IsNumeral n h).0.1

pub decimal_some : (n : ℕ) → n < 2 ^ 64 → 0 < length (decimal n)
decimal_some n h = (decimal_is_IsNumeral n h).0.0

decimal_back : (n : ℕ) → n < 2 ^ 64 → decimal_value (decimal n) ≡ n
decimal_back n h = decimal_fold 0 (decimal n) (decimal_is_IsNumeral n h).0.1 ∙ (decimal_is_IsNumeral n h).1

decimal_magnitude : (n : ℕ) → n < 2 ^ 64 → magnitude_of (decimal n) ≡ Some n
decimal_magnitude n h = digits_number (decimal n) n (decimal_some n h) (decimal_all n h) (decimal_back n h) h

pub decimal_number : (n : ℕ) → n < 2 ^ 64 → number_of (decimal n) ≡ Some (number false n)
decimal_number n h = rw (no_minus (decimal n) (decimal_all n h), decimal_magnitude n h) refl

-- the number of a sign and a magnitude
abbrev pub as_number : ℤ → Number
as_number (pos n) = number false n
as_number (negsuc n) = number true (suc n)

pub small_pos : (n : ℕ) → IsSigned 12 (pos n) → n ≤ 2047
small_pos n (h, k) = grind (arith, h, k)

pub small_neg : (n : ℕ) → IsSigned 12 (negsuc n) → n ≤ 2047
small_neg n (h, k) = grind (arith, h, k)

pub signed_number : (z : ℤ) → IsSigned 12 z → number_of (signed_decimal z) ≡ Some (as_number z)
signed_number (pos n) h = let le = small_pos n h in decimal_number n (omega (arith, le))
signed_number (negsuc n) h = let le = small_neg n h in rw (decimal_magnitude (suc n) (omega (arith, le))) refl

wide : (n : ℕ) → n < 2 ^ 64 → n < 16 ^ 64
wide n h = omega (arith, h)

hex_numeral : (n : ℕ) → n < 2 ^ 64 → IsNumeral 16 (digits 16 false n) × (digits_value 16 (digits 16 false n) ≡ n)
hex_numeral n h = digits_is_IsNumeral 16 false (omega arith) (omega arith) n (wide n h)

pub short_hex_all : (n : ℕ) → n < 2 ^ 64 → list_all is_hex_digit (digits 16 false n) ≡ true
short_hex_all n h = hex_digits (digits 16 false n) (hex_numeral n h).0.1

pub short_hex_number : (n : ℕ) → n < 2 ^ 64 → number_of (codes "0x" ++ digits 16 false n) ≡ Some (number false n)
short_hex_number n h =
    hex_number (digits 16 false n) n (hex_numeral n h).0.0 (short_hex_all n h) (hex_fold 0 (digits 16 false n) (hex_numeral n h).0.1 ∙ (hex_numeral n h).1) h

-- a number in so many hexadecimal digits
hex_digit_back : (d : ℕ) → d < 16 → (is_hex_digit (hex_digit d) ≡ true) × (hex_digit_value (hex_digit d) ≡ d)
hex_digit_back d h = (grind (arith, h), grind (arith, h))

fold_snoc : (f : ℕ → ℕ → ℕ) (a d : ℕ) (ds : List ℕ) → fold f a (ds ++ d ∷ []) ≡ f (fold f a ds) d
fold_snoc f a d [] = refl
fold_snoc f a d (c ∷ cs) = fold_snoc f (f a c) d cs

pub hex_all : (k n : ℕ) → list_all is_hex_digit (hex k n) ≡ true
unfolding hex
hex_all zero n = refl
hex_all (suc k) n = all_passes is_hex_digit (hex k (n / 16)) (hex_digit (n % 16) ∷ []) (hex_all k (n / 16)) (rw ((hex_digit_back (n % 16) (omega arith)).0) refl)

hex_back : (k n : ℕ) → n < 16 ^ k → hex_value (hex k n) ≡ n
unfolding hex
hex_back zero n h = omega (arith, h)
hex_back (suc k) n h =
    fold_snoc (λ a d. a * 16 + hex_digit_value d) 0 (hex_digit (n % 16)) (hex k (n / 16))
    ∙ rw (hex_back k (n / 16) (lower k n h), (hex_digit_back (n % 16) (omega arith)).1) (omega arith)
  where
    lower : (k n : ℕ) → n < 16 ^ suc k → n / 16 < 16 ^ k
    lower k n h = let e : 16 ^ suc k ≡ 16 * 16 ^ k = omega arith in omega (arith, h, e)

hex_some : (k n : ℕ) → 0 < length (hex (suc k) n)
unfolding hex
hex_some k n = let e = length-append (hex k (n / 16)) (hex_digit (n % 16) ∷ []) in omega (arith, e)

pub hex_length : (k n : ℕ) → length (hex k n) ≡ k
unfolding hex
hex_length zero n = refl
hex_length (suc k) n = length-append (hex k (n / 16)) (hex_digit (n % 16) ∷ []) ∙ (let e = hex_length k (n / 16) in omega (arith, e))

-- a word in eight hexadecimal digits
pub hex_number_read : (n : ℕ) → n < 2 ^ 32 → number_of (codes "0x" ++ hex 8 n) ≡ Some (number false n)
hex_number_read n h = hex_number (hex 8 n) n (hex_some 7 n) (hex_all 8 n) (hex_back 8 n h) (omega (arith, h))
