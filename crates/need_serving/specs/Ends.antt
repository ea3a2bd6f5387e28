-- What serving a need comes to, by what its access or its call came to, and what holds behind it.
use Rattle.std.specs.Prelude.{◌≡◌, ◌≢◌, ℕ, ◌^◌, ◌<◌, Bool, true, false, Result, Ok, Err}
use Rattle.rv64_priv.specs.declared.state.Regime.{Regime}
use Rattle.rv64_exec.specs.declared.needs.Answer.{Answer}
use Rattle.rv64_exec.specs.declared.needs.FlushOf.{FlushOf}
use Rattle.rv64_exec.specs.declared.needs.Need.{Need}
use Rattle.rv64_exec.specs.Finish.{Answers}
use Rattle.machine_model.specs.declared.reason.Reason.{Reason}
use Rattle.guest_access.specs.declared.outcomes.Got.{Got}
use Rattle.guest_access.specs.declared.outcomes.Got.TheVariants as gets
use Rattle.hart_calls.specs.declared.outcomes.SbiEnd.{SbiEnd}
use Rattle.hart_calls.specs.Asked.{AreHarts}
use Rattle.hart_calls.specs.Spans.{IsSpan}
use Rattle.tlb_lock.specs.declared.lock.Busy.{Busy}
use Rattle.need_serving.specs.declared.ends.NeedEnd.{NeedEnd}
use Rattle.need_serving.specs.declared.ends.NeedEnd.TheVariants as ends

-- a fault is an answer as any other
abbrev pub end_of_access : Got → NeedEnd
end_of_access (gets.Done answer) = ends.Done answer
end_of_access (gets.Fault cause tval) = ends.Done (Answer.Fault cause tval)
end_of_access (gets.Lost word seen found) = ends.Lost word seen found
end_of_access gets.NeedsSection = ends.NeedsSection
end_of_access (gets.Busy busy) = ends.Busy busy

abbrev pub end_of_flush : Result (Unit {0}) Busy → NeedEnd
end_of_flush (Ok done) = ends.Done Answer.Nothing
end_of_flush (Err busy) = ends.Busy busy

-- a call that ends the machine has no answer; where the last hart stopped, the machine ends
abbrev pub end_of_call : SbiEnd → NeedEnd
end_of_call (SbiEnd.Pair error value) = ends.Done (Answer.Pair error value)
end_of_call (SbiEnd.Single value) = ends.Done (Answer.Single value)
end_of_call (SbiEnd.Fence harts span) = ends.Fence harts span
end_of_call SbiEnd.NeedsSection = ends.NeedsSection
end_of_call SbiEnd.HartStopped = ends.Stopped
end_of_call (SbiEnd.Over Reason.AllStopped) = ends.Stopped
end_of_call (SbiEnd.Over reason) = ends.Done Answer.Nothing

-- whether the hart runs behind it
abbrev pub runs_on : NeedEnd → Bool
runs_on ends.Stopped = false
runs_on end = true

-- an answer is one to the need; only a call stops its hart or asks for a fence
abbrev pub FitsNeed : Need → NeedEnd → Type 0
FitsNeed need (ends.Done answer) = Answers need answer
FitsNeed need ends.Stopped = need ≡ Need.Sbi
FitsNeed need (ends.Fence harts span) = need ≡ Need.Sbi
FitsNeed need _ = Unit {0}

-- a fence names harts that are there, one at least, and pages that there are
abbrev pub IfFence : NeedEnd → (harts : ℕ) → Type 0
IfFence (ends.Fence mask span) harts = (mask ≢ 0) × AreHarts harts mask × IsSpan span
IfFence _ harts = Unit {0}

-- virtual pages have numbers of 52 bits
abbrev pub IsPageNumber : FlushOf → Type 0
IsPageNumber FlushOf.All = Unit {0}
IsPageNumber (FlushOf.Page page) = page < 2 ^ 52

abbrev pub IsPageOf : Need → Type 0
IsPageOf (Need.Flush what) = IsPageNumber what
IsPageOf _ = Unit {0}

-- which regime the hart's entries may be used under behind it: behind a full flush any, else the one before
abbrev pub MayHaveAfter : Need → NeedEnd → (before later : Regime) → Type 0
MayHaveAfter (Need.Flush FlushOf.All) (ends.Done answer) before later = Unit {0}
MayHaveAfter need end before later = later ≡ before
