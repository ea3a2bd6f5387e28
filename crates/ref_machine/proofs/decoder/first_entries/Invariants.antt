-- The entries so far, and room for the others.
use Rattle.std.proofs.Common.{◌≡◌, ◌≤◌}
use Rattle.std.specs.Prelude.{replicate, vec_len, vec_capacity}
use Rattle.ref_machine.proofs.decoder.first_entries.Given as goal

abbrev pub invariant-loop : goal.invariant-loop
invariant-loop l = (l.entries.items ≡ replicate l.counter l.entry) × (vec_len l.entries ≡ l.counter) × (1024 ≤ vec_capacity l.entries)
