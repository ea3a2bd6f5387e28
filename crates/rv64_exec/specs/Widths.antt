-- The widths of what an instruction needs.
use Rattle.std.specs.Prelude.{ℕ, Bool, ◌||◌, ◌==◌, IsTrue}
use Rattle.rv64_exec.specs.declared.needs.Need.{Need}

-- the widths of loads and stores, in bytes
abbrev pub is_width : ℕ → Bool
is_width width = (width == 1) || (width == 2) || (width == 4) || (width == 8)

-- a load or a store has such a width; nothing else is restricted
abbrev pub IsWellFormedNeed : Need → Type 0
IsWellFormedNeed (Need.Load va width signed) = IsTrue (is_width width)
IsWellFormedNeed (Need.Store va width value) = IsTrue (is_width width)
IsWellFormedNeed _ = Unit {0}
