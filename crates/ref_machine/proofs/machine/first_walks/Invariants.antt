-- The harts so far, and room for the others.
use Rattle.std.proofs.Common.{◌≡◌, ◌≤◌}
use Rattle.std.specs.Prelude.{All, vec_len, vec_capacity}
use Rattle.ref_machine.specs.Paths.{AreWalks}
use Rattle.ref_machine.proofs.machine.first_walks.Given as goal

abbrev pub invariant-loop-hart : goal.invariant-loop-hart
invariant-loop-hart l = (All AreWalks l.walks.items) × (vec_len l.walks ≡ l._hart) × (l.harts ≤ vec_capacity l.walks)
