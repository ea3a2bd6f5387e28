-- The bytes so far were read, and the word of the last one is at hand.
use Rattle.std.proofs.Common.{◌≡◌, ◌+◌, ◌++◌}
use Rattle.std.specs.Prelude.{vec_capacity, vec_len}
use Rattle.machine_model.specs.Memory.{Memory}
use Rattle.machine_model.specs.Sbi.{bytes_from}
use Rattle.guest_ram.specs.Ports.{GoesBy}
use Rattle.hart_calls.specs.Printing.{MayPrint}
use Rattle.hart_calls.proofs.Printed.{IsLast}
use Rattle.monitor.specs.Reads.{most_loads}
use Rattle.monitor.specs.Steps.{HasRead, IsRam}
use Rattle.monitor.proofs.reading.read_bytes.Given as goal

abbrev pub invariant-loop-index : goal.invariant-loop-index
invariant-loop-index g l = record {
  read : (finds : Memory) × HasRead finds l.from l.index (g.P.Look.shows l.initial.port) (g.P.Look.shows l.port) × IsLast finds l.from l.index l.word × (l.bytes.items ≡ l.initial.bytes.items ++ bytes_from finds l.from l.index);
  many : vec_len l.bytes ≡ vec_len l.initial.bytes + l.index;
  room : vec_capacity l.bytes ≡ vec_capacity l.initial.bytes;
  may : MayPrint l.from l.count (g.P.Look.shows l.port);
  goes : GoesBy (most_loads l.from l.index) IsRam (g.P.Look.shows l.initial.port) (g.P.Look.shows l.port);
}
