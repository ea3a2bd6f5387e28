use Rattle.std.proofs.Common.{◌≡◌, ◌<◌}
use Rattle.step_laws.specs.Sections.{phase, inside}
use Rattle.guest_ram.specs.Areas.{IsOfRam}
use Rattle.guest_ram.specs.Ports.{IsActing, GoesBy}
use Rattle.guest_ram_cases.specs.Made.{HasAdded, IsArmedFor}
use Rattle.guest_ram_cases.proofs.inside.add_to_row.Given as goal

abbrev pub invariant-loop-i : goal.invariant-loop-i
invariant-loop-i g l = record {
  acting : IsActing (g.P.Look.shows l.port);
  hart : (g.P.Look.shows l.port).own.actor < (g.P.Look.shows l.port).machine.layout.harts;
  inside : phase (g.P.Look.shows l.port).own.steps ≡ inside;
  armed : IsArmedFor l.from l.count (g.P.Look.shows l.port);
  added : HasAdded (g.P.Look.shows l.initial.port) (g.P.Look.shows l.port) l.from l.i l.value;
  goes : GoesBy l.i IsOfRam (g.P.Look.shows l.initial.port) (g.P.Look.shows l.port);
}
