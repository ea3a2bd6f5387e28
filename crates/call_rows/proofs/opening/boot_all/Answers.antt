use Rattle.std.proofs.Common.{◌+◌}
use Rattle.guest_ram.specs.Areas.{IsOfRam}
use Rattle.guest_ram.proofs.Moves.{goes_then}
use Rattle.call_rows.proofs.opening.boot_all.Goals as goal

pub loop-word-preserved : goal.loop-word-preserved
loop-word-preserved g c = record {
  booting = c.boot_there.ensures.booting;
  goes = (c.loop-word.invariant.goes.0 + 1, goes_then c.loop-word.invariant.goes.0 1 IsOfRam _ _ _ c.loop-word.invariant.goes.1 c.boot_there.ensures.goes);
}
