-- The harts' pending software interrupts: bit h of the word IPI for hart h.
use Rattle.std.specs.Prelude.{ℕ, ◌-◌, ◌^◌, bit_and, bit_or}
use Rattle.rv64_exec.specs.declared.needs.IpiOp.{IpiOp}
use Rattle.step_laws.specs.declared.steps.WordOp.{WordOp}
use Rattle.step_laws.specs.declared.steps.WordOp.TheVariants.{Load, And, Or}
use Rattle.step_laws.specs.Map.{Ipi}
use Rattle.guest_ram.specs.Ports.{Shown, Made}

abbrev pub pending_op : IpiOp → WordOp
pending_op IpiOp.Read = Load
pending_op IpiOp.Set = Or
pending_op IpiOp.Clear = And

-- what the operation gets: to clear, all bits but those of the mask
abbrev pub pending_arg : IpiOp → (mask : ℕ) → ℕ
pending_arg IpiOp.Read mask = 0
pending_arg IpiOp.Set mask = mask
pending_arg IpiOp.Clear mask = 2 ^ 64 - 1 - mask

-- by one operation, which found these bits
abbrev pub HasChangedPending : IpiOp → (mask found : ℕ) → Shown → Shown → Type 0
HasChangedPending op mask found p q = Made p q Ipi (pending_op op) (pending_arg op mask) found

-- the bits that are pending then
abbrev pub pending_after : IpiOp → (mask found : ℕ) → ℕ
pending_after IpiOp.Read mask found = found
pending_after IpiOp.Set mask found = bit_or found mask
pending_after IpiOp.Clear mask found = found - bit_and found mask
