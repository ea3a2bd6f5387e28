-- Lists of which each element passes a test, and where the first stands that doesn't.
use Rattle.std.proofs.Common.{◌≡◌, refl, ap, ◌∙◌, ℕ, suc, ◌+◌, Bool, true, false, ◌&&◌, List, [], ◌∷◌, ◌++◌, length, take, arith}
use Rattle.std.specs.List.{list_all, prefix_len}
use Rattle.std.proofs.lemmas.List.Folds.{list_all-append}

one_suc : (n : ℕ) → 1 + n ≡ suc n
one_suc n = omega arith

pub both : (a b : Bool) → (a && b) ≡ true → (a ≡ true) × (b ≡ true)
both true true e = (refl, refl)
both true false e = cc
both false b e = cc

pub head_passes : (p : ℕ → Bool) (x : ℕ) (xs : List ℕ) → list_all p (x ∷ xs) ≡ true → p x ≡ true
head_passes p x xs e = (both (p x) (list_all p xs) e).0

pub tail_passes : (p : ℕ → Bool) (x : ℕ) (xs : List ℕ) → list_all p (x ∷ xs) ≡ true → list_all p xs ≡ true
tail_passes p x xs e = (both (p x) (list_all p xs) e).1

pub all_passes : (p : ℕ → Bool) (xs ys : List ℕ) → list_all p xs ≡ true → list_all p ys ≡ true → list_all p (xs ++ ys) ≡ true
all_passes p xs ys e f = list_all-append p xs ys ∙ rw (e, f) refl

-- what passes one test passes another
pub pass_on : (p q : ℕ → Bool) → ((x : ℕ) → p x ≡ true → q x ≡ true) → (xs : List ℕ) → list_all p xs ≡ true → list_all q xs ≡ true
pass_on p q on [] e = refl
pass_on p q on (x ∷ xs) e = rw (on x (head_passes p x xs e), pass_on p q on xs (tail_passes p x xs e)) refl

pub prefix_all : (p : ℕ → Bool) (xs : List ℕ) → list_all p xs ≡ true → prefix_len p xs ≡ length xs
prefix_all p [] e = refl
prefix_all p (x ∷ xs) e = rw (head_passes p x xs e, prefix_all p xs (tail_passes p x xs e)) (one_suc (length xs))

pub prefix_to : (p : ℕ → Bool) (xs : List ℕ) (y : ℕ) (ys : List ℕ) → list_all p xs ≡ true → p y ≡ false → prefix_len p (xs ++ y ∷ ys) ≡ length xs
prefix_to p [] y ys e f = rw f refl
prefix_to p (x ∷ xs) y ys e f = rw (head_passes p x xs e, prefix_to p xs y ys (tail_passes p x xs e) f) (one_suc (length xs))

pub front : (xs ys : List ℕ) → take (length xs) (xs ++ ys) ≡ xs
front [] ys = refl
front (x ∷ xs) ys = ap (λ l. x ∷ l) (front xs ys)
