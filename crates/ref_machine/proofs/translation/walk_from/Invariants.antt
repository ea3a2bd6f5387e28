-- The walk goes on from this table, and ends as the walk from the root.
use Rattle.std.proofs.Common.{◌≡◌, ◌<◌, ◌-◌, ◌^◌}
use Rattle.rv64_priv.specs.Walk.{walk_from}
use Rattle.ref_machine.specs.SharedState.{ram_reads}
use Rattle.ref_machine.proofs.translation.walk_from.Given as goal

abbrev pub invariant-loop-passed : goal.invariant-loop-passed
invariant-loop-passed l = record {
  table : l.table < 2 ^ 56;
  walk : walk_from l.pages l.regime l.kind (ram_reads l.ram) l.va 3 l.root ≡ walk_from l.pages l.regime l.kind (ram_reads l.ram) l.va (3 - l.passed) l.table;
}
