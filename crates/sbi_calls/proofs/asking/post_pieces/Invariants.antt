use Rattle.std.proofs.Common.{◌≡◌, ◌≢◌, ◌≤◌, ◌*◌, ℕ, List}
use Rattle.step_laws.specs.declared.steps.Step.{Step}
use Rattle.guest_ram.specs.Ports.{GoesBy, IsActing}
use Rattle.work_queue.specs.declared.rings.Served.{Served}
use Rattle.work_queue.specs.Rings.{IsSentBy, next_post, IsServedBy}
use Rattle.sbi_calls.specs.Fences.{IsFenceAt, IsOfAsks}
use Rattle.sbi_calls.proofs.asking.post_pieces.Given as goal

abbrev pub invariant-loop-number : goal.invariant-loop-number
invariant-loop-number g l = record {
  at : (base : List Step) (acked : ℕ) → IsFenceAt l.span (next_post l.fn.sent l.fn.target) l.fn.target l.fn.posted acked base (g.P.Look.shows l.fn.port)
      → IsFenceAt l.span (next_post l.sent l.fn.target) l.fn.target l.number acked base (g.P.Look.shows l.port);
  others : (t : ℕ) → t ≢ l.fn.target → next_post l.sent t ≡ next_post l.fn.sent t;
  low : l.fn.posted ≤ l.number;
  sent_is : IsSentBy l.sent (g.P.Look.shows l.port);
  served : (served : Served) → IsServedBy served (g.P.Look.shows l.fn.port) → IsServedBy served (g.P.Look.shows l.port);
  acting : IsActing (g.P.Look.shows l.port);
  goes : GoesBy (3 * l.number) (IsOfAsks (g.P.Look.shows l.fn.port).own.actor) (g.P.Look.shows l.fn.port) (g.P.Look.shows l.port);
}
