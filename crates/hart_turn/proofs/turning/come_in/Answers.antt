use Rattle.std.proofs.Common.{rules}
use Rattle.hart_turn.specs.Paths as paths
use Rattle.hart_turn.proofs.turning.come_in.Goals as goal

pub returns-in-Fence-clause-path : goal.returns-in-Fence-clause-path
returns-in-Fence-clause-path g c = paths.resumes c.in-Fence.harts c.in-Fence.span c.in-Fence.fence (search rules) (search rules) c.resume.ensures.path
