-- The harts so far, and room for the others.
use Rattle.std.proofs.Common.{◌≡◌, ◌≤◌}
use Rattle.std.specs.Prelude.{vec_len, vec_capacity}
use Rattle.ref_machine.specs.PlainState.{first_slots}
use Rattle.ref_machine.proofs.machine.first_slots.Given as goal

abbrev pub invariant-loop-hart : goal.invariant-loop-hart
invariant-loop-hart l = (l.slots.items ≡ first_slots l._hart l.start) × (vec_len l.slots ≡ l._hart) × (l.harts ≤ vec_capacity l.slots)
