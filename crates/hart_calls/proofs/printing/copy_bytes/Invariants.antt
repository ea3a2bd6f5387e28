-- The bytes so far were put, and the word of the last one is at hand.
use Rattle.machine_model.specs.Memory.{Memory}
use Rattle.hart_calls.specs.Printing.{HasCopied, MayPrint}
use Rattle.hart_calls.proofs.Printed.{IsLast}
use Rattle.hart_calls.proofs.printing.copy_bytes.Given as goal

abbrev pub invariant-loop-index : goal.invariant-loop-index
invariant-loop-index g l = record {
  copied : (finds : Memory) × HasCopied finds l.from l.index (g.P.Look.shows l.initial.port) (g.P.Look.shows l.port) × IsLast finds l.from l.index l.word;
  may : MayPrint l.from l.count (g.P.Look.shows l.port);
}
