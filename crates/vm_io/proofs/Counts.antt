-- What one more fault does to a count.
use Rattle.std.proofs.Common.{◌≡◌, ℕ, ◌+◌, ◌<◌, ◌≤◌, min, arith, rules}
use Rattle.vm_io.specs.Faults.{Rose}

-- a count that goes up by one, or stays at its last value, rose
pub Rose-next : (old new : ℕ) → new ≡ min (old + 1) 18446744073709551615 → Rose old new
Rose-next old new next = search rules

-- it did not fall
pub next-le : (old new : ℕ) → old < 18446744073709551616 → new ≡ min (old + 1) 18446744073709551615 → old ≤ new
next-le old new fits next = omega arith
