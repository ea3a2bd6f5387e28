-- How many words bytes of RAM lie in.
use Rattle.std.specs.Prelude.{ℕ, zero, suc, ◌+◌, ◌-◌, ◌/◌, Bool, true, false}

-- the words that so many bytes from an address on lie in
abbrev pub most_loads : (from count : ℕ) → ℕ
most_loads from zero = 0
most_loads from (suc more) = (from + more) / 8 - from / 8 + 1

abbrev pub one_if : Bool → ℕ
one_if true = 1
one_if false = 0
