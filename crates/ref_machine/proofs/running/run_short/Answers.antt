-- One turn more.
use Rattle.std.proofs.Common.{refl}
use Rattle.ref_machine.proofs.Short.{ahead_none, ahead_more, paths_short}
use Rattle.ref_machine.proofs.running.run_short.Goals as goal

pub loop-taken-init : goal.loop-taken-init
loop-taken-init c = record {
  ahead = ahead_none c.args.hart c.args.slot.now c.args.shared.now;
  paths = c.requires.paths;
}

pub loop-taken-preserved : goal.loop-taken-preserved
loop-taken-preserved c =
    let done = c.if-not-execute_short.ensures in
    record {
      ahead = ahead_more c.args.hart c.loop-taken.taken c.args.slot.now c.args.shared.now c.loop-taken.slot c.loop-taken.shared c.execute_short.new.slot c.execute_short.new.shared
          c.in-Some.word c.in-Some-find.instr.now c.requires.started c.requires.going c.requires.quiet c.loop-taken.invariant.ahead c.in-Some.ensures.word c.in-Some-find.ensures
          (done.done refl c.args.hart) (done.other refl) (done.short refl);
      paths = paths_short c.loop-taken.slot c.loop-taken.shared c.execute_short.new.slot c.execute_short.new.shared c.execute_short.new.paths (done.short refl) done.paths;
    }
