-- The console has the bytes so far.
use Rattle.std.proofs.Common.{◌≡◌, ◌≤◌, ◌+◌, ◌++◌}
use Rattle.std.specs.Prelude.{vec_len, vec_capacity}
use Rattle.ref_machine.specs.SharedState.{ram_memory}
use Rattle.machine_model.specs.Sbi.{bytes_from}
use Rattle.ref_machine.proofs.calling.push_bytes.Given as goal

abbrev pub invariant-loop-index : goal.invariant-loop-index
invariant-loop-index l =
    (l.console.items ≡ l.fn.console.items ++ bytes_from (ram_memory l.ram) l.from l.index)
    × (vec_capacity l.fn.console ≤ vec_capacity l.console)
    × (vec_len l.console ≡ vec_len l.fn.console + l.index)
