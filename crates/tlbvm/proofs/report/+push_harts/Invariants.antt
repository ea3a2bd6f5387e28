use Rattle.std.proofs.Common.{◌-◌}
use Rattle.tlbvm.proofs.report.+push_harts.Given as goal

abbrev pub decreases-push_harts : goal.decreases-push_harts
decreases-push_harts l = l.machine.now.shared.layout.harts - l.hart
