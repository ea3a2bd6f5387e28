-- Bits are cleared by an operation with all others.
use Rattle.std.proofs.Common.{◌≡◌, ℕ, ◌+◌, ◌-◌, ◌<◌, ◌^◌, arith, sym, subst}
use Rattle.std.specs.Prelude.{bit_and}
use Rattle.std.proofs.lemmas.Nat.{and-not, and_comm}
use Rattle.rv64_exec.specs.declared.needs.IpiOp.{IpiOp}
use Rattle.step_laws.specs.Steps.{new_of}
use Rattle.guest_devices.specs.Pending.{pending_op, pending_arg, pending_after}

others : (mask found : ℕ) → mask < 2 ^ 64 → found < 2 ^ 64 → bit_and found (2 ^ 64 - 1 - mask) ≡ found - bit_and found mask
others mask found small less =
    let whole : bit_and (2 ^ 64 - 1 - mask) found + bit_and mask found ≡ found = and-not 64 mask found small less in
    let left : bit_and found (2 ^ 64 - 1 - mask) ≡ bit_and (2 ^ 64 - 1 - mask) found = and_comm found (2 ^ 64 - 1 - mask) in
    let right : bit_and found mask ≡ bit_and mask found = and_comm found mask in
    omega (arith, whole, left, right)

pub cleared : (op : IpiOp) (mask found : ℕ) → op ≡ IpiOp.Clear → mask < 2 ^ 64 → found < 2 ^ 64 → new_of (pending_op op) found (pending_arg op mask) ≡ pending_after op mask found
cleared op mask found is small less = subst (λ (o : IpiOp). new_of (pending_op o) found (pending_arg o mask) ≡ pending_after o mask found) (sym is) (others mask found small less)
