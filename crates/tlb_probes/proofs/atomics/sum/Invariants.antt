use Rattle.std.proofs.Common.{◌≡◌, vec_len}
use Rattle.tlb_probes.proofs.atomics.sum.Given as goal

abbrev pub invariant-loop-index : goal.invariant-loop-index
invariant-loop-index l = vec_len l.words ≡ l.index
