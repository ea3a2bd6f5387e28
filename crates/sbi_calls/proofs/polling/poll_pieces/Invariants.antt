use Rattle.std.proofs.Common.{◌≤◌, List}
use Rattle.step_laws.specs.declared.steps.Step.{Step}
use Rattle.guest_ram.specs.Ports.{GoesBy, IsActing}
use Rattle.work_queue.specs.declared.rings.Served.{Served}
use Rattle.work_queue.specs.Rings.{IsSentBy, next_post, IsServedBy}
use Rattle.hart_calls.specs.declared.spans.Span.{Span}
use Rattle.sbi_calls.specs.Fences.{IsFenceAt, IsOfPolls}
use Rattle.sbi_calls.proofs.polling.poll_pieces.Given as goal

abbrev pub invariant-loop-number : goal.invariant-loop-number
invariant-loop-number g l = record {
  at : (span : Span) (base : List Step) → IsFenceAt span (next_post l.sent l.target) l.target l.posted l.fn.acked base (g.P.Look.shows l.fn.port) → IsFenceAt span (next_post l.sent l.target) l.target l.posted l.number base (g.P.Look.shows l.port);
  low : l.fn.acked ≤ l.number;
  sent_is : IsSentBy l.sent (g.P.Look.shows l.port);
  served : (served : Served) → IsServedBy served (g.P.Look.shows l.fn.port) → IsServedBy served (g.P.Look.shows l.port);
  acting : IsActing (g.P.Look.shows l.port);
  goes : GoesBy l.number (IsOfPolls (g.P.Look.shows l.fn.port).own.actor) (g.P.Look.shows l.fn.port) (g.P.Look.shows l.port);
}
