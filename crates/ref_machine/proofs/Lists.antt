-- A fact of all elements of a list, where one is set.
use Rattle.std.proofs.Common.{ℕ, zero, suc, ◌<◌, List, [], ◌∷◌, length, arith}
use Rattle.std.specs.Prelude.{◌≢◌, slice_index_or, slice_set}

pub set_at : {A : Type 0} (d : A) (P : A → Type 0) (xs : List A) (a i : ℕ) (x : A) → i < length xs → P x → (i ≢ a → P (slice_index_or xs i d)) → P (slice_index_or (slice_set xs a x) i d)
set_at d P [] a i x lt p q = absurd (omega (arith, lt))
set_at d P (y ∷ xs) zero zero x lt p q = p
set_at d P (y ∷ xs) zero (suc i) x lt p q = q (λ e. omega (arith, e))
set_at d P (y ∷ xs) (suc a) zero x lt p q = q (λ e. omega (arith, e))
set_at d P (y ∷ xs) (suc a) (suc i) x lt p q = set_at d P xs a i x (omega (arith, lt)) p (λ ne. q (λ e. ne (omega (arith, e))))
