use Rattle.std.proofs.Common.{◌≤◌}
use Rattle.guest_ram.specs.Areas.{IsOfRam}
use Rattle.guest_ram.specs.Ports.{GoesBy, IsBooting}
use Rattle.tlb_cases.proofs.mapped.boot_map.Given as goal

abbrev pub invariant-loop-number : goal.invariant-loop-number
invariant-loop-number g l = record {
  booting : IsBooting (g.P.Look.shows l.port);
  pages : 1024 ≤ (g.P.Look.shows l.port).machine.layout.pages;
  goes : GoesBy l.number IsOfRam (g.P.Look.shows l.fn.port) (g.P.Look.shows l.port);
}
