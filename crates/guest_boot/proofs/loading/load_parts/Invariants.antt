-- RAM has the parts from here on.
use Rattle.std.proofs.Common.{◌-◌, ◌*◌, ◌≤◌, length, drop}
use Rattle.guest_ram.specs.Ports.{layout_of, IsBooting, GoesBy}
use Rattle.guest_boot.specs.Stored.{IsLoaded, IsOfImage}
use Rattle.guest_boot.proofs.loading.load_parts.Given as goal

abbrev pub invariant-loop-i : goal.invariant-loop-i
invariant-loop-i g l = record {
  booting : IsBooting (g.P.Look.shows l.port);
  few : l.i ≤ length l.parts;
  loaded : IsLoaded l.file (drop l.i l.parts) (layout_of (g.P.Look.shows l.port)) (g.P.Look.shows l.port).own.steps;
  goes : GoesBy (512 * (layout_of (g.P.Look.shows l.fn.port)).pages * (length l.parts - l.i)) IsOfImage (g.P.Look.shows l.fn.port) (g.P.Look.shows l.port);
}
