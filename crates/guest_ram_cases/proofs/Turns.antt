-- A hart's bit in IPI.
use Rattle.std.proofs.Common.{◌≡◌, ℕ, ◌*◌, ◌%◌, ◌^◌, ◌<◌, arith}
use Rattle.std.proofs.Math.Pow.{pow-lt}

pub hart_bit : (hart : ℕ) → hart < 8 → 1 * 2 ^ hart % 18446744073709551616 ≡ 2 ^ hart
hart_bit hart few = let l : 2 ^ hart < 2 ^ 64 = pow-lt (let x : hart < 64 = omega (arith, few) in x) in omega (arith, l)
