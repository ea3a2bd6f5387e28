use Rattle.std.proofs.Common.{◌≡◌, ◌≤◌, ◌+◌, ◌*◌, true}
use Rattle.step_laws.specs.Map.{Live}
use Rattle.step_laws.specs.Loader.{is_stored}
use Rattle.guest_ram.specs.Ports.{IsBooting, GoesBy}
use Rattle.guest_boot.specs.Stored.{IsOfBoot}
use Rattle.guest_boot.proofs.Storing.{AreStopped, AreBooted}
use Rattle.guest_boot.proofs.words.boot_words.Given as goal

abbrev pub invariant-loop-stopped : goal.invariant-loop-stopped
invariant-loop-stopped g l = record {
  booting : IsBooting (g.P.Look.shows l.port);
  harts : l.harts ≡ (g.P.Look.shows l.port).machine.layout.harts;
  live : is_stored Live (g.P.Look.shows l.port).own.steps ≡ true;
  from : 1 ≤ l.stopped;
  stopped : AreStopped l.stopped (g.P.Look.shows l.port).own.steps;
  goes : GoesBy l.stopped IsOfBoot (g.P.Look.shows l.fn.port) (g.P.Look.shows l.port);
}

abbrev pub invariant-loop-hart : goal.invariant-loop-hart
invariant-loop-hart g l = record {
  booting : IsBooting (g.P.Look.shows l.port);
  harts : l.harts ≡ (g.P.Look.shows l.port).machine.layout.harts;
  live : is_stored Live (g.P.Look.shows l.port).own.steps ≡ true;
  stopped : AreStopped l.harts (g.P.Look.shows l.port).own.steps;
  booted : AreBooted l.hart (g.P.Look.shows l.port).own.steps;
  goes : GoesBy (8 + 217 * l.hart) IsOfBoot (g.P.Look.shows l.fn.port) (g.P.Look.shows l.port);
}
