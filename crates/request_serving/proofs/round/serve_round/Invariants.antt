-- The sources so far had their turns.
use Rattle.std.proofs.Common.{◌≡◌, ◌≤◌, ◌+◌, ◌*◌, false}
use Rattle.step_laws.specs.Output.{has_touched}
use Rattle.guest_ram.specs.Areas.{IsOfService}
use Rattle.guest_ram.specs.Ports.{GoesBy}
use Rattle.kept_fills.specs.Beside.{IsBeside}
use Rattle.flush.specs.Flushed.{full_steps}
use Rattle.work_queue.specs.declared.rings.Sent.{Sent}
use Rattle.work_queue.specs.Rings.{IsSentBy, IsServedBy}
use Rattle.request_serving.specs.Served.{HasFills, HasGone}
use Rattle.request_serving.proofs.round.serve_round.Given as goal

abbrev pub invariant-loop-source : goal.invariant-loop-source
invariant-loop-source g l = record {
  gone : HasGone l.fn.served (g.P.Look.shows l.fn.port) l.fn.book l.source l.served (g.P.Look.shows l.port) l.book l.any;
  few : l.source ≤ 9;
  sent : (sent : Sent) → IsSentBy sent (g.P.Look.shows l.fn.port) → IsSentBy sent (g.P.Look.shows l.port);
  ring : IsServedBy l.served (g.P.Look.shows l.port);
  fills : HasFills l.book (g.P.Look.shows l.port);
  beside : IsBeside l.book (g.P.Look.shows l.port);
  untouched : has_touched (g.P.Look.shows l.port).own.steps ≡ false;
  size : l.book.size ≤ l.fn.book.size;
  goes : GoesBy (l.source * (full_steps l.fn.book.size + 388)) IsOfService (g.P.Look.shows l.fn.port) (g.P.Look.shows l.port);
}
