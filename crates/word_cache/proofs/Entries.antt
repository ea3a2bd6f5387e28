-- Entries of words that were decoded.
use Rattle.std.proofs.Common.{◌≡◌, ◌≢◌, ℕ, zero, suc, ◌<◌, List, [], ◌∷◌, Some, length, length-set, refl, sym, subst, ◌∙◌, arith}
use Rattle.std.specs.Prelude.{Option, replicate, slice_index, slice_index_or, slice_set}
use Rattle.std.proofs.lemmas.List.{get_or-replicate, length-replicate}
use Rattle.rv64_decode.specs.declared.instruction.Instr.{Instr}
use Rattle.rv64_decode.specs.declared.instruction.Instr.TheVariants.{Ecall}
use Rattle.rv64_decode.specs.Encoding.{IsInRange, encoding_of}
use Rattle.word_cache.specs.Cached.{AreDecoded, DecodesOnly}

-- of two lists, entry by entry
pub pairs_at : {A : Type 0} (d : A) (P : ℕ → A → Type 0) (xs : List ℕ) (ys : List A) (a i x : ℕ) (y : A) → length xs ≡ length ys → i < length xs → P x y → (i ≢ a → P (slice_index xs i) (slice_index_or ys i d))
    → P (slice_index (slice_set xs a x) i) (slice_index_or (slice_set ys a y) i d)
pairs_at d P [] ys a i x y same lt p q = absurd (omega (arith, lt))
pairs_at d P (u ∷ xs) [] a i x y same lt p q = absurd (omega (arith, same))
pairs_at d P (u ∷ xs) (v ∷ ys) zero zero x y same lt p q = p
pairs_at d P (u ∷ xs) (v ∷ ys) zero (suc i) x y same lt p q = q (λ e. omega (arith, e))
pairs_at d P (u ∷ xs) (v ∷ ys) (suc a) zero x y same lt p q = q (λ e. omega (arith, e))
pairs_at d P (u ∷ xs) (v ∷ ys) (suc a) (suc i) x y same lt p q = pairs_at d P xs ys a i x y (omega (arith, same)) (omega (arith, lt)) p (λ ne. q (λ e. ne (omega (arith, e))))

pub kept_set : (words : List ℕ) (instrs : List Instr) (a word : ℕ) (instr : Instr) → length words ≡ length instrs → AreDecoded words instrs → DecodesOnly word (Some instr) → AreDecoded (slice_set words a word) (slice_set instrs a instr)
kept_set words instrs a word instr same all k i lt =
    let here : i < length words = subst (λ n. i < n) (length-set words a word) lt in
    pairs_at Ecall (λ w j. DecodesOnly w (Some j)) words instrs a i word instr same here k (λ ne. all i here)

-- the first entries
pub kept_first : (n : ℕ) → DecodesOnly 0x73 (Some Ecall) → AreDecoded (replicate n 0x73) (replicate n Ecall)
kept_first n k i lt =
    let here : i < n = subst (λ m. i < m) (length-replicate n 0x73) lt in
    subst (λ w. DecodesOnly w (Some (slice_index_or (replicate n Ecall) i Ecall))) (sym (get_or-replicate n i 0x73 0 here)) (subst (λ j. DecodesOnly 0x73 (Some j)) (sym (get_or-replicate n i Ecall Ecall here)) k)

pub first_only : (found : Option Instr) → ((i : Instr) → IsInRange i → encoding_of i ≡ 0x73 → found ≡ Some i) → DecodesOnly 0x73 (Some Ecall)
first_only found only = record { decodes = (tt, refl); only = λ i range is. sym (only Ecall tt refl) ∙ only i range is }
