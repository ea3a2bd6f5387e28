-- Where a byte stands first, and the pieces of a text that commas part.
use Rattle.std.proofs.Common.{◌≡◌, refl, sym, subst, Some, None, ltb, ℕ, suc, ◌+◌, ◌<◌, ◌≤◌, Bool, true, false, cond, List, [], ◌∷◌, length, arith}
use Rattle.std.proofs.lemmas.Bool.{ltb-true, ltb-false}
use Rattle.std.proofs.lemmas.List.Sums.{prefix_len-le-length}
use Rattle.std.specs.Prelude.{not}
use Rattle.std.specs.List.{position, position_or_len, slice_split}

place_is : (p : ℕ → Bool) (cs : List ℕ) (n : ℕ) → position p cs ≡ Some n → (position_or_len p cs ≡ n) × (n < length cs)
place_is p cs n e = by_length (ltb (position_or_len p cs) (length cs)) refl e
  where
    by_length : (b : Bool) → ltb (position_or_len p cs) (length cs) ≡ b → cond b (Some (position_or_len p cs)) None ≡ Some n → (position_or_len p cs ≡ n) × (n < length cs)
    by_length true f e = let same : position_or_len p cs ≡ n = cc in (same, subst (λ i. i < length cs) same (ltb-true (position_or_len p cs) (length cs) f))
    by_length false f e = absurd (none_some e)
      where
        none_some : None ≡ Some n → ⊥
        none_some e = cc

no_place : (p : ℕ → Bool) (cs : List ℕ) → position p cs ≡ None → length cs ≤ position_or_len p cs
no_place p cs e = by_length (ltb (position_or_len p cs) (length cs)) refl e
  where
    by_length : (b : Bool) → ltb (position_or_len p cs) (length cs) ≡ b → cond b (Some (position_or_len p cs)) None ≡ None → length cs ≤ position_or_len p cs
    by_length true f e = cc
    by_length false f e = ltb-false (position_or_len p cs) (length cs) f

pub place_found : (p : ℕ → Bool) (cs : List ℕ) (n : ℕ) → position p cs ≡ Some n → n ≡ position_or_len p cs
place_found p cs n e = sym (place_is p cs n e).0

pub place_within : (p : ℕ → Bool) (cs : List ℕ) (n : ℕ) → position p cs ≡ Some n → n ≤ length cs
place_within p cs n e = let less : n < length cs = (place_is p cs n e).1 in omega arith

pub place_missing : (p : ℕ → Bool) (cs : List ℕ) → position p cs ≡ None → length cs ≡ position_or_len p cs
place_missing p cs e =
    let over : length cs ≤ position_or_len p cs = no_place p cs e in
    let within : position_or_len p cs ≤ length cs = prefix_len-le-length (λ c. not (p c)) cs in
    omega arith

-- without a comma there is one piece
pub one_piece : (p : ℕ → Bool) (cs : List ℕ) → length cs ≤ position_or_len p cs → slice_split p cs ≡ cs ∷ []
one_piece p [] h = refl
one_piece p (c ∷ cs) h = by_comma (p c) refl (one_piece p cs)
  where
    one_suc : (n : ℕ) → 1 + n ≡ suc n
    one_suc n = omega arith

    later : p c ≡ false → position_or_len p (c ∷ cs) ≡ suc (position_or_len p cs)
    later e = rw e (one_suc (position_or_len p cs))

    here : p c ≡ true → position_or_len p (c ∷ cs) ≡ 0
    here e = rw e refl

    by_comma : (b : Bool) → p c ≡ b → (length cs ≤ position_or_len p cs → slice_split p cs ≡ cs ∷ []) → slice_split p (c ∷ cs) ≡ (c ∷ cs) ∷ []
    by_comma true e k = absurd (omega (arith, h, here e))
    by_comma false e k = rw (e, k (omega (arith, h, later e))) refl
