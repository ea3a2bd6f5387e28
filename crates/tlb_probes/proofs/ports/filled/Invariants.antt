use Rattle.std.proofs.Common.{◌≡◌}
use Rattle.tlb_cases.specs.Idle.{IsWith}
use Rattle.tlb_probes.proofs.ports.filled.Given as goal

abbrev pub invariant-loop-slot : goal.invariant-loop-slot
invariant-loop-slot g l = record { with : IsWith l.book 0 (g.P.Look.shows l.port); size : l.book.size ≡ 64 }
