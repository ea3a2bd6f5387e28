use Rattle.std.specs.Prelude.{◌≡◌, ◌+◌, ◌*◌}
use Rattle.step_laws.specs.Marks.{passing, draining, awaiting}
use Rattle.guest_ram.specs.Areas.{AnyWord}
use Rattle.guest_ram.specs.Ports.{GoesBy}
use Rattle.guest_ram_cases.specs.Sweeps.{HasNoPost, IsAtStage}
use Rattle.guest_ram_cases.proofs.Snapshots.{ArePosted, stage_before}
use Rattle.guest_ram_cases.proofs.snapshotting.begin_snapshot.Given as goal

abbrev pub invariant-loop-hart : goal.invariant-loop-hart
invariant-loop-hart g l = let p = g.P.Look.shows l.port in record {
  harts_are : l.harts ≡ p.machine.layout.harts;
  stage : IsAtStage p (stage_before (draining 0) passing p l.hart);
  none : HasNoPost p;
  goes : GoesBy (64 + 1035 * l.hart) AnyWord (g.P.Look.shows l.fn.port) p;
}

abbrev pub invariant-loop-target : goal.invariant-loop-target
invariant-loop-target g l = let p = g.P.Look.shows l.port in record {
  harts_are : l.harts ≡ p.machine.layout.harts;
  stage : IsAtStage p (stage_before (awaiting 0) draining p l.target);
  none : ArePosted p l.target;
  goes : GoesBy (8344 + 2 * l.target) AnyWord (g.P.Look.shows l.fn.port) p;
}
