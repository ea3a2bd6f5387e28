use Rattle.std.specs.Prelude.{◌≡◌, ◌≤◌, ◌-◌, ℕ}
use Rattle.step_laws.specs.Marks.{last_place}
use Rattle.guest_ram.specs.Areas.{IsOfPlaces}
use Rattle.guest_ram.specs.Ports.{GoesBy}
use Rattle.guest_ram_cases.specs.Sweeps.{IsAtStage, waiting_stage}
use Rattle.guest_ram_cases.proofs.snapshotting.await_drains.Given as goal

abbrev pub invariant-loop-hart : goal.invariant-loop-hart
invariant-loop-hart g l = let p = g.P.Look.shows l.port in record {
  from : l.first ≤ l.hart;
  within : l.hart ≤ l.harts;
  harts_are : l.harts ≡ p.machine.layout.harts;
  stage : IsAtStage p (waiting_stage p l.hart);
  places : (t : ℕ) → last_place t p.own.steps ≡ 0;
  goes : GoesBy (l.hart - l.first) IsOfPlaces (g.P.Look.shows l.fn.port) p;
}
