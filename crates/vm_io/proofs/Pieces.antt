-- A file is read front to back in pieces, and bytes are handed over in the same way.
use Rattle.std.proofs.Common.{◌≡◌, ℕ, ◌+◌, ◌-◌, ◌<◌, ◌≤◌, List, ◌++◌, Option, None, Some, IfSome, length, take, drop, sym, ap, ◌∙◌, arith, length-drop, subst}
use Rattle.std.specs.Io.KnownBytes.{Appends}
use Rattle.std.proofs.KnownBytes.{Appends-trans}
use Rattle.std.proofs.Math.Seq.{take-add}
use Rattle.std.proofs.lemmas.List.{length-take, length-take-le, take-take}
use Rattle.std.proofs.lemmas.Grind.{common_steps}

-- a piece that stands in a list behind `from` elements ends within the list
pub piece-within : (xs piece : List ℕ) (from n : ℕ) → n ≤ length piece → 0 < n → take n piece ≡ take n (drop from xs) → from + n ≤ length xs
piece-within xs piece from n fits some same =
    let given : length (take n piece) ≡ n = length-take-le n piece fits in
    let stands : length (take n piece) ≤ length xs - from = grind (arith, ap length same, length-take {A = ℕ}, length-drop {A = ℕ}) in
    omega arith

-- a file whose first bytes were all read, and none lies behind them, was read whole
pub whole : (told now : Option (List ℕ)) (file : List ℕ) (len from : ℕ) → now ≡ told → from ≡ len
    → IfSome told (λ bytes. file ≡ take len bytes) → IfSome now (λ bytes. length bytes ≤ from) → IfSome told (λ bytes. file ≡ bytes)
whole None now file len from e at front ends = tt
whole (Some bytes) None file len from e at front ends = absurd cc
whole (Some bytes) (Some same) file len from e at front ends = grind (arith, common_steps, length-take {A = ℕ})

-- the file is longer than `limit` where the piece that was read reaches past it
pub longer : (told now : Option (List ℕ)) (piece : List ℕ) (from n limit : ℕ) → now ≡ told → n ≤ length piece → from ≤ limit → limit - from < n
    → IfSome now (λ bytes. take n piece ≡ take n (drop from bytes)) → IfSome told (λ bytes. limit < length bytes)
longer None now piece from n limit e fits low past same = tt
longer (Some bytes) None piece from n limit e fits low past same = absurd cc
longer (Some bytes) (Some again) piece from n limit e fits low past same =
    let reach : from + n ≤ length again = piece-within again piece from n fits (omega arith) same in
    let one : length again ≡ length bytes = grind arith in
    omega arith

-- one more piece, and the file's first bytes are still those that were read
pub front-then : (told now : Option (List ℕ)) (old new piece : List ℕ) (len from n len' : ℕ) → now ≡ told → from ≡ len → len' ≡ len + n → new ≡ old ++ take n piece
    → IfSome told (λ bytes. old ≡ take len bytes) → IfSome now (λ bytes. take n piece ≡ take n (drop from bytes))
    → IfSome told (λ bytes. new ≡ take len' bytes)
front-then None now old new piece len from n len' e at sum grown front more = tt
front-then (Some bytes) None old new piece len from n len' e at sum grown front more = absurd cc
front-then (Some bytes) (Some again) old new piece len from n len' e at sum grown front more = grind (arith, take-add len n bytes)

-- a piece that was handed over ends within the bytes
pub end-within : (bytes : List ℕ) (from n room : ℕ) → from ≤ length bytes → n ≤ length (take room (drop from bytes)) → from + n ≤ length bytes
end-within bytes from n room low fits = grind (arith, length-take {A = ℕ}, length-drop {A = ℕ})

-- one more piece was taken behind the first `from` bytes
pub Appends-then : (a b c : Option (List ℕ)) (bytes : List ℕ) (from n room : ℕ) → n ≤ length (take room (drop from bytes))
    → Appends a b (take from bytes) → Appends b c (take n (take room (drop from bytes))) → Appends a c (take (from + n) bytes)
Appends-then a b c bytes from n room fits first then =
    let low : n ≤ room = grind (arith, length-take {A = ℕ}) in
    let joined : take (from + n) bytes ≡ take from bytes ++ take n (take room (drop from bytes)) =
    take-add from n bytes ∙ ap (λ piece. take from bytes ++ piece) (sym (take-take n room (drop from bytes) low)) in
    subst (Appends a c) (sym joined) (Appends-trans a b c _ _ first then)
