use Rattle.std.proofs.Common.{◌*◌}
use Rattle.guest_ram.specs.Areas.{IsOfTable}
use Rattle.guest_ram.specs.Ports.{GoesBy}
use Rattle.flush.specs.Flushed.{IsWithin}
use Rattle.flush.specs.Sweeping.{HasSwept, IsInside}
use Rattle.flush.proofs.sweeps.sweep.Given as goal

abbrev pub invariant-loop-i : goal.invariant-loop-i
invariant-loop-i g l = record {
  swept : HasSwept (λ n _. IsWithin l.first l.i n) (g.P.Look.shows l.fn.port) (g.P.Look.shows l.port);
  inside : IsInside l.book (g.P.Look.shows l.port);
  goes : GoesBy (6 * l.i) IsOfTable (g.P.Look.shows l.fn.port) (g.P.Look.shows l.port);
}
