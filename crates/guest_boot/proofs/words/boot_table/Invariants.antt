use Rattle.std.proofs.Common.{◌≡◌, ◌<◌, ◌≤◌, ◌+◌, ◌-◌, ◌*◌, true}
use Rattle.step_laws.specs.Map.{Size}
use Rattle.step_laws.specs.Loader.{is_stored}
use Rattle.guest_ram.specs.Ports.{IsBooting, GoesBy}
use Rattle.guest_boot.specs.Stored.{AreStored, IsOfBoot, IsSlot}
use Rattle.guest_boot.proofs.words.boot_table.Given as goal

abbrev pub invariant-loop-slot : goal.invariant-loop-slot
invariant-loop-slot g l = record {
  booting : IsBooting (g.P.Look.shows l.port);
  hart : l.hart < (g.P.Look.shows l.port).machine.layout.harts;
  size : is_stored (Size l.hart) (g.P.Look.shows l.port).own.steps ≡ true;
  slots : AreStored (IsSlot l.hart 0 l.slot) (g.P.Look.shows l.port).own.steps;
  goes : GoesBy (1 + 3 * l.slot) IsOfBoot (g.P.Look.shows l.fn.port) (g.P.Look.shows l.port);
}

abbrev pub invariant-loop-victim : goal.invariant-loop-victim
invariant-loop-victim g l = record {
  booting : IsBooting (g.P.Look.shows l.port);
  hart : l.hart < (g.P.Look.shows l.port).machine.layout.harts;
  size : is_stored (Size l.hart) (g.P.Look.shows l.port).own.steps ≡ true;
  main : AreStored (IsSlot l.hart 0 64) (g.P.Look.shows l.port).own.steps;
  from : 1024 ≤ l.victim;
  slots : AreStored (IsSlot l.hart 1024 l.victim) (g.P.Look.shows l.port).own.steps;
  goes : GoesBy (193 + 3 * (l.victim - 1024)) IsOfBoot (g.P.Look.shows l.fn.port) (g.P.Look.shows l.port);
}
