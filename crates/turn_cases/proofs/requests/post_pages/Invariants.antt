use Rattle.std.proofs.Common.{◌*◌}
use Rattle.guest_ram.specs.Ports.{GoesBy}
use Rattle.turn_cases.specs.Queues.{IsSource}
use Rattle.turn_cases.proofs.requests.post_pages.Given as goal
use Rattle.work_queue.specs.Posts.{IsOfPosts}

abbrev pub invariant-loop-number : goal.invariant-loop-number
invariant-loop-number g l = record {
  source : IsSource l.sent (g.P.Look.shows l.port);
  goes : GoesBy (3 * l.number) IsOfPosts (g.P.Look.shows l.fn.port) (g.P.Look.shows l.port);
}
