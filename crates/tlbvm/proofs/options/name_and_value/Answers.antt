-- The first `=` parts the word.
use Rattle.std.proofs.Common.{◌≡◌, ℕ, ◌<◌, List, [], ◌∷◌, length, Bool, true, false, refl, lit<, arith}
use Rattle.std.specs.List.{list_any, position_or_len}
use Rattle.std.proofs.lemmas.Str.Pattern.{split_once_first}
use Rattle.tlbvm.proofs.options.name_and_value.Goals as goal

any_within : (p : ℕ → Bool) (xs : List ℕ) → position_or_len p xs < length xs → list_any p xs ≡ true
any_within p [] within = absurd (omega (arith, within))
any_within p (x ∷ xs) within = grind (arith, any_within p xs)

none_at_end : (p : ℕ → Bool) (xs : List ℕ) → position_or_len p xs ≡ length xs → list_any p xs ≡ false
none_at_end p [] end = refl
none_at_end p (x ∷ xs) end = grind (arith, none_at_end p xs)

pub returns : goal.returns
returns c =
    let h = split_once_first 61 c.args.word.now c.split_once.result c.split_once.ensures.cases (lit< tt) in grind (arith, any_within, none_at_end)
