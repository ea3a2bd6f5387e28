-- The turns so far, and the walks that are kept.
use Rattle.rv64_priv.specs.Csr.{regime}
use Rattle.ref_machine.specs.Paths.{ArePaths}
use Rattle.ref_machine.specs.Steps.{IsAhead}
use Rattle.ref_machine.proofs.running.run_short.Given as goal

abbrev pub invariant-loop-taken : goal.invariant-loop-taken
invariant-loop-taken l = record {
  ahead : IsAhead l.hart l.taken l.fn.slot l.fn.shared l.slot l.shared;
  paths : ArePaths l.shared.layout.pages (regime l.slot.arch) l.paths;
}
