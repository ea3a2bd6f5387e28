-- Sources of requests at hart 1, and that hart as their target, beside what they keep of their rings.
use Rattle.std.specs.Prelude.{◌≡◌, ◌≢◌, ◌<◌, false}
use Rattle.step_laws.specs.Output.{has_touched}
use Rattle.guest_ram.specs.Ports.{Shown, IsActing, layout_of}
use Rattle.work_queue.specs.declared.rings.Sent.{Sent}
use Rattle.work_queue.specs.declared.rings.Served.{Served}
use Rattle.work_queue.specs.Rings.{IsSentBy, IsServedBy}

pub record IsSource (sent : Sent) (p : Shown) : Type 0 where
  pub acting : IsActing p
  pub sent_is : IsSentBy sent p
  pub hart : 1 < (layout_of p).harts
  pub other : 1 ≢ p.own.actor

-- it has touched no RAM in its turn
pub record IsTarget (served : Served) (p : Shown) : Type 0 where
  pub acting : IsActing p
  pub served_is : IsServedBy served p
  pub hart : 1 < (layout_of p).harts
  pub own : p.own.actor ≡ 1
  pub untouched : has_touched p.own.steps ≡ false
