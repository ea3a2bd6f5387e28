use Rattle.std.proofs.Common.{length, ◌-◌, ◌≤◌, take}
use Rattle.std.specs.Io.KnownBytes.{Appends}
use Rattle.vm_io.proofs.write.write_all.Given as goal

-- the first bytes were taken, and the count did not fall
abbrev pub invariant-loop-written : goal.invariant-loop-written
invariant-loop-written g l = record {
  within : l.written ≤ length l.bytes;
  taken : Appends (g.S.Sink.taken l.initial.sink) (g.S.Sink.taken l.sink) (take l.written l.bytes);
  grows : g.S.Sink.faults l.initial.sink ≤ g.S.Sink.faults l.sink;
}

abbrev pub decreases-loop-written : goal.decreases-loop-written
decreases-loop-written g l = length l.bytes - l.written
