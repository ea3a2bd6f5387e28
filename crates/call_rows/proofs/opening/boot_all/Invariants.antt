use Rattle.std.proofs.Common.{ℕ}
use Rattle.guest_ram.specs.Areas.{IsOfRam}
use Rattle.guest_ram.specs.Ports.{GoesBy, IsBooting}
use Rattle.call_rows.proofs.opening.boot_all.Given as goal

abbrev pub invariant-loop-word : goal.invariant-loop-word
invariant-loop-word g l = record {
  booting : IsBooting (g.P.Look.shows l.port);
  goes : (n : ℕ) × GoesBy n IsOfRam (g.P.Look.shows l.fn.port) (g.P.Look.shows l.port);
}
