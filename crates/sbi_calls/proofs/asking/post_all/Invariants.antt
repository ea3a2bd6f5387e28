use Rattle.std.proofs.Common.{◌≡◌, ◌<◌, ◌*◌, ℕ, List}
use Rattle.std.specs.Prelude.{slice_index}
use Rattle.step_laws.specs.declared.steps.Step.{Step}
use Rattle.guest_ram.specs.Ports.{GoesBy, IsActing}
use Rattle.work_queue.specs.declared.rings.Served.{Served}
use Rattle.work_queue.specs.Rings.{IsSentBy, IsServedBy}
use Rattle.sbi_calls.specs.Fences.{GoesWithFence, IsOfAsks, IsTarget}
use Rattle.sbi_calls.specs.Spans.{pieces_of}
use Rattle.sbi_calls.proofs.asking.post_all.Given as goal

abbrev pub invariant-loop-hart : goal.invariant-loop-hart
invariant-loop-hart g l = record {
  goes_on : (base : List Step) → GoesWithFence l.harts l.span l.fn.sent l.fn.fence base (g.P.Look.shows l.fn.port) → GoesWithFence l.harts l.span l.sent l.fence base (g.P.Look.shows l.port);
  all : (t : ℕ) → t < l.hart → IsTarget l.harts (g.P.Look.shows l.port) t → slice_index l.fence.posted t ≡ pieces_of l.span;
  acked_is : l.fence.acked ≡ l.fn.fence.acked;
  sent_is : IsSentBy l.sent (g.P.Look.shows l.port);
  served : (served : Served) → IsServedBy served (g.P.Look.shows l.fn.port) → IsServedBy served (g.P.Look.shows l.port);
  acting : IsActing (g.P.Look.shows l.port);
  goes : GoesBy (27 * l.hart) (IsOfAsks (g.P.Look.shows l.fn.port).own.actor) (g.P.Look.shows l.fn.port) (g.P.Look.shows l.port);
}
