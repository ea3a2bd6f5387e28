-- A need that was served, by its kind.
use Rattle.std.proofs.Common.{◌≡◌, ℕ, ◌+◌, ◌≤◌, Bool, true, false, refl, sym, subst, arith, inl, inr}
use Rattle.std.specs.Prelude.{Result, Ok, Err, OnOk, IfErr}
use Rattle.rv64_priv.specs.Csr.{regime}
use Rattle.rv64_priv.specs.State.{Arch}
use Rattle.rv64_priv.specs.declared.state.Regime.{Regime}
use Rattle.rv64_exec.specs.declared.needs.Answer.{Answer}
use Rattle.rv64_exec.specs.declared.needs.FlushOf.{FlushOf}
use Rattle.rv64_exec.specs.declared.needs.IpiOp.{IpiOp}
use Rattle.rv64_exec.specs.declared.needs.Need.{Need}
use Rattle.step_laws.specs.Harts.{closed, is_owing, is_running, opening}
use Rattle.machine_model.specs.declared.reason.Reason.{Reason}
use Rattle.guest_ram.specs.Areas.{IsOfCalls, IsOfTable}
use Rattle.guest_ram.specs.Ports.{Shown, GoesBy, IsActing, layout_of}
use Rattle.guest_access.specs.declared.outcomes.Got.{Got}
use Rattle.guest_access.specs.declared.outcomes.Got.TheVariants as gets
use Rattle.guest_access.specs.Accessing.{HasAccessed, IsOfMemory}
use Rattle.guest_access.specs.Reaching.{CanAccess, GoesOn, KnowsFills}
use Rattle.guest_access.specs.Touching.{IsOfAccess}
use Rattle.hart_calls.specs.declared.outcomes.SbiEnd.{SbiEnd}
use Rattle.hart_calls.specs.Called.{HasCalled, IsOfHartCalls}
use Rattle.hart_calls.specs.Ends as calls
use Rattle.hart_calls.specs.States.{IsRunner}
use Rattle.kept_fills.specs.Beside.{IsBeside}
use Rattle.tlb_entry.specs.declared.books.Book.{Book}
use Rattle.need_serving.specs.declared.ends.NeedEnd.{NeedEnd}
use Rattle.need_serving.specs.declared.ends.NeedEnd.TheVariants as ends
use Rattle.need_serving.specs.Ends.{FitsNeed, IfFence, MayHaveAfter, end_of_access, end_of_call, end_of_flush, runs_on}
use Rattle.flush.specs.Flushed.{HasBeenBusy, HasFlushed, HasFlushedAll, full_steps, page_steps}
use Rattle.guest_ram.proofs.Moves.{goes_at_most}
use Rattle.tlb_lock.specs.declared.lock.Busy.{Busy}
use Rattle.need_serving.specs.Serving.{HasFlushedOne, HasServed, HasUsedPending, IsServed, flushes, held}
use Rattle.need_serving.proofs.Fitting.{access_fits}
use Rattle.need_serving.proofs.Kept.{fills_access, fills_call, fills_flush, fills_pending}
use Rattle.need_serving.proofs.Remaining.{access_remains, call_remains, flush_remains, pending_remains, remains_still}

module _ (p : Shown) (b : Book) (a : Arch) (section : Bool) (can : CanAccess b p) (fills : KnowsFills b (regime a) p) (runner : IsRunner p) where
  pub nothing_served : IsServed p p b b a section Need.Nothing (ends.Done Answer.Nothing)
  nothing_served = record { served = (refl, (refl, refl)); fits = refl; fence = tt; fills = λ later e. subst (λ r. KnowsFills b r p) (sym e) fills; remains = remains_still b b p p (ends.Done Answer.Nothing) refl refl can runner refl }

  pub trap_served : (cause tval : ℕ) → IsServed p p b b a section (Need.Trap cause tval) (ends.Done (Answer.Fault cause tval))
  trap_served cause tval = record { served = (refl, (refl, refl)); fits = refl; fence = tt; fills = λ later e. subst (λ r. KnowsFills b r p) (sym e) fills; remains = remains_still b b p p (ends.Done (Answer.Fault cause tval)) refl refl can runner refl }

  module _ (q : Shown) where
    pub pending_served : (op : IpiOp) (value : ℕ) → HasUsedPending p q op value → GoesBy 1 IsOfCalls p q → IsActing q → IsServed p q b b a section (Need.Ipi op) (ends.Done (Answer.Value value))
    pending_served op value used goes acting = record {
      served = (value, used, refl, refl);
      fits = (value, refl);
      fence = tt;
      fills = λ later e. subst (λ r. KnowsFills b r q) (sym e) (fills_pending b (regime a) p q goes fills);
      remains = pending_remains b p q (ends.Done (Answer.Value value)) goes acting can runner refl;
    }

    pub call_served : (call : SbiEnd) → HasCalled section a call p q → GoesBy 769 IsOfHartCalls p q → calls.IfFence call (layout_of p).harts → is_running q.own.actor q.own.runs q.own.steps ≡ calls.runs_on call → is_owing q.own.actor q.own.steps ≡ false → opening q.own.steps ≡ closed
        → IsActing q → IsServed p q b b a section Need.Sbi (end_of_call call)
    call_served call called goes fence runs paid free acting = record {
      served = (call, called, goes, refl, refl);
      fits = fits_call call;
      fence = subst (λ (y : Shown). IfFence (end_of_call call) (layout_of y).harts) (sym goes.grown) (fence_call (layout_of p).harts call fence);
      fills = λ later e. subst (λ r. KnowsFills b r q) (sym (as_before call later e)) (fills_call b (regime a) p q goes fills);
      remains = call_remains b p q call (end_of_call call) refl goes acting can runs paid free;
    }
      where
        fits_call : (call : SbiEnd) → FitsNeed Need.Sbi (end_of_call call)
        fits_call (SbiEnd.Pair error value) = inr (inr (error, value, refl))
        fits_call (SbiEnd.Single value) = inr (inl (value, refl))
        fits_call (SbiEnd.Fence harts span) = refl
        fits_call SbiEnd.NeedsSection = tt
        fits_call SbiEnd.HartStopped = refl
        fits_call (SbiEnd.Over Reason.Pass) = inl refl
        fits_call (SbiEnd.Over (Reason.Fail code)) = inl refl
        fits_call (SbiEnd.Over (Reason.Limit hart)) = inl refl
        fits_call (SbiEnd.Over Reason.OutFull) = inl refl
        fits_call (SbiEnd.Over Reason.AllStopped) = refl
        fits_call (SbiEnd.Over Reason.Stopped) = inl refl

        fence_call : (harts : ℕ) (call : SbiEnd) → calls.IfFence call harts → IfFence (end_of_call call) harts
        fence_call harts (SbiEnd.Pair error value) f = tt
        fence_call harts (SbiEnd.Single value) f = tt
        fence_call harts (SbiEnd.Fence mask span) f = f
        fence_call harts SbiEnd.NeedsSection f = tt
        fence_call harts SbiEnd.HartStopped f = tt
        fence_call harts (SbiEnd.Over Reason.Pass) f = tt
        fence_call harts (SbiEnd.Over (Reason.Fail code)) f = tt
        fence_call harts (SbiEnd.Over (Reason.Limit hart)) f = tt
        fence_call harts (SbiEnd.Over Reason.OutFull) f = tt
        fence_call harts (SbiEnd.Over Reason.AllStopped) f = tt
        fence_call harts (SbiEnd.Over Reason.Stopped) f = tt

        as_before : (call : SbiEnd) (later : Regime) → MayHaveAfter Need.Sbi (end_of_call call) (regime a) later → later ≡ regime a
        as_before call later e = e

    module _ (b' : Book) where
      pub access_served : (need : Need) (got : Got) → IsOfMemory need → HasAccessed p q b b' a section need got → GoesOn p q b b' (regime a) → CanAccess b' q → GoesBy 34 IsOfAccess p q → IsServed p q b b' a section need (end_of_access got)
      access_served need got of accessed on access goes = record {
        served = has_served need of accessed;
        fits = access_fits p q b b' a section need got of accessed;
        fence = fence_access got;
        fills = λ later e. subst (λ r. KnowsFills b' r q) (sym (as_before need of later e)) (fills_access b b' (regime a) p q on fills);
        remains = access_remains b' p q (end_of_access got) goes access runner (runs_access got);
      }
        where
          has_served : (need : Need) → IsOfMemory need → HasAccessed p q b b' a section need got → HasServed p q b b' a section need (end_of_access got)
          has_served (Need.Load va width sign) of x = (got, x, refl)
          has_served (Need.Store va width value) of x = (got, x, refl)
          has_served (Need.Amo va op wide value) of x = (got, x, refl)
          has_served (Need.Lr va wide) of x = (got, x, refl)
          has_served (Need.Sc va wide value) of x = (got, x, refl)
          has_served need of x = absurd of

          fence_access : (got : Got) → IfFence (end_of_access got) (layout_of q).harts
          fence_access (gets.Done answer) = tt
          fence_access (gets.Fault cause tval) = tt
          fence_access (gets.Lost word seen found) = tt
          fence_access gets.NeedsSection = tt
          fence_access (gets.Busy busy) = tt

          runs_access : (got : Got) → runs_on (end_of_access got) ≡ true
          runs_access (gets.Done answer) = refl
          runs_access (gets.Fault cause tval) = refl
          runs_access (gets.Lost word seen found) = refl
          runs_access gets.NeedsSection = refl
          runs_access (gets.Busy busy) = refl

          as_before : (need : Need) → IsOfMemory need → (later : Regime) → MayHaveAfter need (end_of_access got) (regime a) later → later ≡ regime a
          as_before (Need.Load va width sign) of later e = e
          as_before (Need.Store va width value) of later e = e
          as_before (Need.Amo va op wide value) of later e = e
          as_before (Need.Lr va wide) of later e = e
          as_before (Need.Sc va wide value) of later e = e
          as_before need of later e = absurd of

      pub flush_served : (n : ℕ) (what : FlushOf) (end : NeedEnd) → HasFlushedOne p q b b' what end → GoesBy n IsOfTable p q → IsBeside b' q → IsServed p q b b' a section (Need.Flush what) end
      flush_served n what end flushed goes beside = record {
        served = flushed;
        fits = fits_flush end flushed;
        fence = fence_flush end flushed;
        fills = λ later e. fills_flush what end b b' (regime a) later p q flushed e fills;
        remains = flush_remains n b b' p q end goes beside can runner (runs_flush end flushed);
      }
        where
          fits_flush : (end : NeedEnd) → HasFlushedOne p q b b' what end → FitsNeed (Need.Flush what) end
          fits_flush end (flushes f g) = refl
          fits_flush end (held busy f) = tt

          fence_flush : (end : NeedEnd) → HasFlushedOne p q b b' what end → IfFence end (layout_of q).harts
          fence_flush end (flushes f g) = tt
          fence_flush end (held busy f) = tt

          runs_flush : (end : NeedEnd) → HasFlushedOne p q b b' what end → runs_on end ≡ true
          runs_flush end (flushes f g) = refl
          runs_flush end (held busy f) = refl

-- a flush as its call answers
module _ (p q : Shown) (b b' : Book) where
  pub all_flushed : (x : Result (Unit {0}) Busy) → OnOk x (HasFlushedAll p q b b') → IfErr x (λ busy. HasBeenBusy busy.holder p q b b') → GoesBy (full_steps b.size) IsOfTable p q → HasFlushedOne p q b b' FlushOf.All (end_of_flush x)
  all_flushed (Ok done) f none goes = flushes f (goes_at_most (full_steps b.size) (full_steps b.size + 8) IsOfTable p q (omega arith) goes)
  all_flushed (Err busy) f is goes = held busy is

  pub page_goes : (page : ℕ) → GoesBy (page_steps b.large b.size 1) IsOfTable p q → GoesBy (full_steps b.size + 8) IsOfTable p q
  page_goes page goes = goes_at_most (page_steps b.large b.size 1) (full_steps b.size + 8) IsOfTable p q (few b.large) goes
    where
      few : (large : Bool) → page_steps large b.size 1 ≤ full_steps b.size + 8
      few true = omega arith
      few false = omega arith

  pub page_flushed : (page : ℕ) (x : Result (Unit {0}) Busy) → OnOk x (HasFlushed b.large p q b b' page 1) → IfErr x (λ busy. HasBeenBusy busy.holder p q b b') → GoesBy (page_steps b.large b.size 1) IsOfTable p q → HasFlushedOne p q b b' (FlushOf.Page page) (end_of_flush x)
  page_flushed page (Ok done) f none goes = flushes f (page_goes page goes)
  page_flushed page (Err busy) f is goes = held busy is
