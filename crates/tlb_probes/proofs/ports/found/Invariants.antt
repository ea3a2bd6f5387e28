use Rattle.tlb_cases.specs.Idle.{IsWith}
use Rattle.tlb_probes.proofs.ports.found.Given as goal

abbrev pub invariant-loop : goal.invariant-loop
invariant-loop g l = IsWith l.book 0 (g.P.Look.shows l.port)

abbrev pub invariant-loop-index : goal.invariant-loop-index
invariant-loop-index g l = IsWith l.book 0 (g.P.Look.shows l.port)
