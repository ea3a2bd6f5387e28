-- Bytes of a file as numbers and back, and pieces of lists.
use Rattle.std.proofs.Common.{◌≡◌, refl, ap, sym, ◌∙◌, ℕ, zero, suc, ◌+◌, ◌*◌, ◌-◌, ◌<◌, ◌≤◌, List, [], ◌∷◌, ◌++◌, length, drop, get_or, arith}
use Rattle.std.specs.Prelude.{◌/◌, ◌%◌, slice_range, All}
use Rattle.std.proofs.lemmas.List.{drop_more}
use Rattle.elf_load.specs.Header.{number_at}
use Rattle.rv_asm.specs.Assembly.{bytes_of}

pub slice_none : (xs : List ℕ) (at : ℕ) → slice_range xs at (at + 0) ≡ []
slice_none xs at = let e : at + 0 - at ≡ 0 = omega arith in rw e refl

slice_next : (xs : List ℕ) (at n : ℕ) → at < length xs → slice_range xs at (at + suc n) ≡ get_or xs at 0 ∷ slice_range xs (at + 1) (at + 1 + n)
slice_next xs at n h =
    let e : at + suc n - at ≡ suc n = omega arith in
    let f : at + 1 + n - (at + 1) ≡ n = omega arith in
    rw (e, f, drop_more xs at 0 h) refl

pub slice_parts : (xs : List ℕ) (at k n : ℕ) → at + k ≤ length xs → slice_range xs at (at + (k + n)) ≡ slice_range xs at (at + k) ++ slice_range xs (at + k) (at + k + n)
slice_parts xs at zero n h =
    let e : at + (zero + n) ≡ at + n = omega arith in
    let f : at + zero ≡ at = omega arith in
    rw (slice_none xs at, f) (ap (slice_range xs at) e)
slice_parts xs at (suc k) n h =
    let e : at + (suc k + n) ≡ at + suc (k + n) = omega arith in
    let f : at + suc k ≡ at + 1 + k = omega arith in
    let here : at < length xs = omega (arith, h) in
    let rest = slice_parts xs (at + 1) k n (omega (arith, h)) in
    ap (slice_range xs at) e ∙ slice_next xs at (k + n) here ∙ ap (λ l. get_or xs at 0 ∷ l) rest
    ∙ ap (λ l. l ++ slice_range xs (at + 1 + k) (at + 1 + k + n)) (sym (slice_next xs at k here))
    ∙ ap (λ i. slice_range xs at (at + suc k) ++ slice_range xs i (i + n)) (sym f)

pub length_slice : (xs : List ℕ) (at k : ℕ) → at + k ≤ length xs → length (slice_range xs at (at + k)) ≡ k
length_slice xs at zero h = ap length (slice_none xs at)
length_slice xs at (suc k) h =
    let here : at < length xs = omega (arith, h) in
    ap length (slice_next xs at k here) ∙ ap suc (length_slice xs (at + 1) k (omega (arith, h)))

-- the little-endian number of some bytes has these bytes
pub bytes_back : (file : List ℕ) (at k : ℕ) → All (λ byte. byte < 256) file → at + k ≤ length file → bytes_of k (number_at file at k) ≡ slice_range file at (at + k)
unfolding bytes_of
bytes_back file at zero bytes h = sym (slice_none file at)
bytes_back file at (suc k) bytes h =
    let here : at < length file = omega (arith, h) in
    let byte : get_or file at 0 < 256 = bytes at 0 here in
    let number : ℕ = number_at file (at + 1) k in
    let low : (get_or file at 0 + 256 * number) % 256 ≡ get_or file at 0 = omega (arith, byte) in
    let high : (get_or file at 0 + 256 * number) / 256 ≡ number = omega (arith, byte) in
    rw (low, high) (ap (λ l. get_or file at 0 ∷ l) (bytes_back file (at + 1) k bytes (omega (arith, h))) ∙ sym (slice_next file at k here))

pub number_below : (file : List ℕ) (at : ℕ) → All (λ byte. byte < 256) file → at + 4 ≤ length file → number_at file at 4 < 4294967296
number_below file at bytes h =
    let b0 : get_or file at 0 < 256 = bytes at 0 (omega (arith, h)) in
    let b1 : get_or file (at + 1) 0 < 256 = bytes (at + 1) 0 (omega (arith, h)) in
    let b2 : get_or file (at + 1 + 1) 0 < 256 = bytes (at + 1 + 1) 0 (omega (arith, h)) in
    let b3 : get_or file (at + 1 + 1 + 1) 0 < 256 = bytes (at + 1 + 1 + 1) 0 (omega (arith, h)) in
    omega (arith, b0, b1, b2, b3)

pub drop_past : (xs ys : List ℕ) (n : ℕ) → drop (length xs + n) (xs ++ ys) ≡ drop n ys
drop_past [] ys n = let e : 0 + n ≡ n = omega arith in ap (λ i. drop i ys) e
drop_past (x ∷ xs) ys n = let e : suc (length xs) + n ≡ suc (length xs + n) = omega arith in ap (λ i. drop i (x ∷ (xs ++ ys))) e ∙ drop_past xs ys n
