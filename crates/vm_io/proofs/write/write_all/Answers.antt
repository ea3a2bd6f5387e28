use Rattle.std.proofs.Common.{arith}
use Rattle.vm_io.proofs.Pieces.{Appends-then, end-within}
use Rattle.vm_io.proofs.write.write_all.Goals as goal

pub loop-written-preserved : goal.loop-written-preserved
loop-written-preserved g c = record {
  within = end-within _ _ _ _ c.loop-written.invariant.within c.in-Ok.ensures.fits;
  taken = Appends-then _ _ _ _ _ _ _ c.in-Ok.ensures.fits c.loop-written.invariant.taken c.in-Ok.ensures.ok;
  grows = omega (arith, c.in-Ok.ensures.grows);
}
