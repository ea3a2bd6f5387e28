-- What comes of a call.
use Rattle.std.specs.Prelude.{◌≢◌, ℕ, Bool, true, false, pos}
use Rattle.machine_model.specs.declared.reason.Reason.{Reason}
use Rattle.hart_calls.specs.declared.outcomes.SbiEnd.{SbiEnd}
use Rattle.hart_calls.specs.Asked.{AreHarts}
use Rattle.hart_calls.specs.Spans.{IsSpan}

-- a0 gets 0 and a1 the value
abbrev pub succeeds : ℕ → SbiEnd
succeeds value = SbiEnd.Pair (pos 0) value

-- the hart runs on behind the call
abbrev pub runs_on : SbiEnd → Bool
runs_on SbiEnd.HartStopped = false
runs_on (SbiEnd.Over Reason.AllStopped) = false
runs_on _ = true

-- where a fence is asked for, it names harts that are there, one at least, and pages that there are
abbrev pub IfFence : SbiEnd → (harts : ℕ) → Type 0
IfFence (SbiEnd.Fence mask span) harts = (mask ≢ 0) × AreHarts harts mask × IsSpan span
IfFence _ harts = Unit {0}
