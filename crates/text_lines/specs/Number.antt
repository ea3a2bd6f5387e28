-- Decimal numbers in texts and command lines.
use Rattle.std.specs.Prelude.{ℕ, ◌+◌, ◌-◌, ◌*◌, Bool, ◌&&◌, nat_le, if◌then◌else◌, List, Option, Some, None, length, fold}
use Rattle.std.specs.Char.{is_ascii_digit}
use Rattle.std.specs.List.{list_all}

-- the number that decimal digits spell
abbrev pub decimal_value : List ℕ → ℕ
decimal_value digits = fold (λ n d. n * 10 + (d - 48)) 0 digits

-- 1 to 20 decimal digits; zeros in front are digits too
abbrev pub is_number : List ℕ → Bool
is_number text = nat_le 1 (length text) && nat_le (length text) 20 && list_all is_ascii_digit text

-- the number that a text is, where it is one and is at most that
abbrev pub number_within : List ℕ → (most : ℕ) → Option ℕ
number_within text most = if is_number text && nat_le (decimal_value text) most then Some (decimal_value text) else None
