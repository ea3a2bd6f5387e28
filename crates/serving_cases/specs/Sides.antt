-- The two sides of a fence.
use Rattle.std.specs.Prelude.{◌≡◌, ℕ, ◌<◌, false, true}
use Rattle.step_laws.specs.Output.{has_touched}
use Rattle.guest_ram.specs.Ports.{Shown, layout_of}
use Rattle.tlb_entry.specs.declared.books.Book.{Book}
use Rattle.kept_fills.specs.Beside.{IsBeside}
use Rattle.hart_calls.specs.declared.spans.Span.{Span}
use Rattle.sbi_calls.specs.declared.spans.Fence.{Fence}
use Rattle.sbi_calls.specs.Fences.{IsFencing}
use Rattle.sbi_calls.specs.Spans.{is_named}
use Rattle.work_queue.specs.declared.rings.Sent.{Sent}
use Rattle.work_queue.specs.declared.rings.Served.{Served}
use Rattle.work_queue.specs.Rings.{IsSentBy, IsServedBy}
use Rattle.request_serving.specs.Served.{HasFills}

-- hart 0 makes a fence of the span at hart 1
pub record IsFencer (span : Span) (book : Book) (sent : Sent) (fence : Fence) (p : Shown) : Type 0 where
  pub beside : IsBeside book p
  pub sent_by : IsSentBy sent p
  pub fencing : IsFencing 2 span sent fence p
  pub harts : (t : ℕ) → is_named 2 t ≡ true → t < (layout_of p).harts

-- hart 1 serves what it is asked for
pub record IsServer (book : Book) (served : Served) (p : Shown) : Type 0 where
  pub beside : IsBeside book p
  pub fills : HasFills book p
  pub ring : IsServedBy served p
  pub untouched : has_touched p.own.steps ≡ false
  pub actor : p.own.actor ≡ 1
