use Rattle.std.proofs.Common.{◌≡◌, ◌<◌, ◌*◌, ℕ, List}
use Rattle.std.specs.Prelude.{slice_index}
use Rattle.step_laws.specs.declared.steps.Step.{Step}
use Rattle.guest_ram.specs.Ports.{GoesBy, IsActing}
use Rattle.work_queue.specs.declared.rings.Served.{Served}
use Rattle.work_queue.specs.Rings.{IsSentBy, IsServedBy}
use Rattle.hart_calls.specs.declared.spans.Span.{Span}
use Rattle.sbi_calls.specs.Fences.{GoesWithFence, IsOfPolls, IsTarget}
use Rattle.sbi_calls.proofs.polling.poll_all.Given as goal

abbrev pub invariant-loop-hart : goal.invariant-loop-hart
invariant-loop-hart g l = record {
  goes_on : (span : Span) (base : List Step) → GoesWithFence l.harts span l.sent l.fn.fence base (g.P.Look.shows l.fn.port) → GoesWithFence l.harts span l.sent l.fence base (g.P.Look.shows l.port);
  all : (t : ℕ) → t < l.hart → IsTarget l.harts (g.P.Look.shows l.port) t → slice_index l.fence.acked t ≡ slice_index l.fn.fence.posted t;
  posted_is : l.fence.posted ≡ l.fn.fence.posted;
  own : slice_index l.fence.acked (g.P.Look.shows l.port).own.actor ≡ slice_index l.fn.fence.acked (g.P.Look.shows l.fn.port).own.actor;
  sent_is : IsSentBy l.sent (g.P.Look.shows l.port);
  served : (served : Served) → IsServedBy served (g.P.Look.shows l.fn.port) → IsServedBy served (g.P.Look.shows l.port);
  acting : IsActing (g.P.Look.shows l.port);
  goes : GoesBy (8 * l.hart) (IsOfPolls (g.P.Look.shows l.fn.port).own.actor) (g.P.Look.shows l.fn.port) (g.P.Look.shows l.port);
}
