-- A need that was served, in its hart's log, by its kind.
use Rattle.std.proofs.Common.{◌≡◌, ℕ, ◌<◌, Bool, refl, sym, subst}
use Rattle.rv64_priv.specs.State.{Arch}
use Rattle.rv64_priv.specs.Csr.{regime}
use Rattle.rv64_priv.specs.declared.state.Regime.{Regime}
use Rattle.rv64_exec.specs.declared.needs.Answer.{Answer}
use Rattle.rv64_exec.specs.declared.needs.Need.{Need}
use Rattle.step_laws.specs.declared.words.Layout.{Layout}
use Rattle.machine_model.specs.Event.{only}
use Rattle.machine_model.specs.Own.{Own, own_executed}
use Rattle.machine_model.specs.State.{Setup}
use Rattle.guest_ram.specs.Ports.{Shown}
use Rattle.tlb_entry.specs.declared.books.Book.{Book}
use Rattle.turn_pieces.specs.Grows.{Ends}
use Rattle.turn_pieces.specs.Log.{Log}
use Rattle.access_pieces.specs.Serving.{Counted, Rests, Served}
use Rattle.access_pieces.proofs.Amos.{amos_serve}
use Rattle.access_pieces.proofs.Loads.{loads_serve}
use Rattle.access_pieces.proofs.Reserved.{conditionals_serve, reserves_serve}
use Rattle.access_pieces.proofs.Stores.{stores_serve}
use Rattle.guest_access.specs.declared.outcomes.Got.{Got}
use Rattle.guest_access.specs.declared.outcomes.Got.TheVariants as gets
use Rattle.need_serving.specs.declared.ends.NeedEnd.{NeedEnd}
use Rattle.need_serving.specs.declared.ends.NeedEnd.TheVariants as ends
use Rattle.need_serving.specs.Ends.{end_of_access, end_of_call}
use Rattle.hart_calls.specs.declared.outcomes.SbiEnd.{SbiEnd}
use Rattle.hart_calls.specs.declared.spans.Span.{Span}
use Rattle.need_serving.specs.Serving.{HasFlushedOne, flushes, held}
use Rattle.rv64_exec.specs.declared.needs.FlushOf.{FlushOf}
use Rattle.machine_model.specs.declared.reason.Reason.{Reason}
use Rattle.need_pieces.specs.Laws.{CanServe, FencesWait, NeedsAreServed}
use Rattle.need_pieces.specs.Serving.{IsServedIn}
use Rattle.need_pieces.proofs.Alone.{nothing_served, pending_served, trap_served}
use Rattle.need_pieces.proofs.Calls.{call_served, fence_waits}
use Rattle.need_pieces.proofs.Flushes.{flush_served}

module _ (others : ℕ → Bool) (o : Own) (p q : Shown) (b b' : Book) (c : Arch) (section : Bool) (later : Regime) (can : CanServe p b section) (u : Setup) (a : ℕ) (l : Log) (x : Rests others o p b (regime c) u a l) where
  there : a < u.layout.harts
  there = subst (λ n. n < u.layout.harts) (sym x.tells.tells.stands.actor) (subst (λ (y : Layout). p.own.actor < y.harts) (sym x.tells.tells.stands.layout) can.runner.hart)

  -- under the regime that it had
  as_before : (end : NeedEnd) (b : Book) → later ≡ regime c → Ends u a l (IsServedIn others o end q b (regime c) u a) → Ends u a l (IsServedIn others o end q b later u a)
  as_before end b same k = subst (λ (r : Regime). Ends u a l (IsServedIn others o end q b r u a)) (sym same) k

  -- nothing was done
  still : (end : NeedEnd) → (q ≡ p) × (b' ≡ b) → Ends u a l (IsServedIn others o end p b (regime c) u a) → Ends u a l (IsServedIn others o end q b' (regime c) u a)
  still end same k = subst (λ (y : Shown). Ends u a l (IsServedIn others o end y b' (regime c) u a)) (sym same.0) (subst (λ (z : Book). Ends u a l (IsServedIn others o end p z (regime c) u a)) (sym same.1) k)

  -- what an access comes to
  accessed : (got : Got) → Ends u a l (Served others o got q b' (regime c) u a) → Ends u a l (IsServedIn others o (end_of_access got) q b' (regime c) u a)
  accessed (gets.Done answer) k = k
  accessed (gets.Fault cause tval) k = k
  accessed (gets.Lost word seen found) k = k
  accessed gets.NeedsSection k = k
  accessed (gets.Busy busy) k = k

  by_access : (end : NeedEnd) (got : Got) → end ≡ end_of_access got → later ≡ regime c → Ends u a l (Served others o got q b' (regime c) u a) → Ends u a l (IsServedIn others o end q b' later u a)
  by_access end got e same k = as_before end b' same (subst (λ (z : NeedEnd). Ends u a l (IsServedIn others o z q b' (regime c) u a)) (sym e) (accessed got k))

pub needs_served : NeedsAreServed
needs_served p q b b' c section Need.Nothing end form value can served no_fence later same others o wants u a l may =
    as_before others o p q b b' c section later can u a l may.rests end b' same (subst (λ (z : NeedEnd). Ends u a l (IsServedIn others o z q b' (regime c) u a)) (sym served.0)
    (still others o p q b b' c section later can u a l may.rests (ends.Done Answer.Nothing) served.1 (nothing_served others o p b (regime c) c u a l may.rests (there others o p q b b' c section later can u a l may.rests) wants)))
needs_served p q b b' c section (Need.Trap cause tval) end form value can served no_fence later same others o wants u a l may =
    as_before others o p q b b' c section later can u a l may.rests end b' same (subst (λ (z : NeedEnd). Ends u a l (IsServedIn others o z q b' (regime c) u a)) (sym served.0)
    (still others o p q b b' c section later can u a l may.rests (ends.Done (Answer.Fault cause tval)) served.1 (trap_served others o p b (regime c) c cause tval u a l may.rests (there others o p q b b' c section later can u a l may.rests) wants)))
needs_served p q b b' c section (Need.Ipi op) end form value can served no_fence later same others o wants u a l may =
    as_before others o p q b b' c section later can u a l may.rests end b' same (subst (λ (z : NeedEnd). Ends u a l (IsServedIn others o z q b' (regime c) u a)) (sym served.2)
    (subst (λ (z : Book). Ends u a l (Counted others (own_executed (only (Answer.Value served.0)) o) q z (regime c) u a)) (sym served.3)
    (pending_served others o p q b (regime c) c op served.0 u a l may.rests (there others o p q b b' c section later can u a l may.rests) wants served.1)))
needs_served p q b b' c section (Need.Flush what) end form value can served no_fence later after others o wants u a l may =
    flush_served others o p q b b' c what end later u a l can.access.beside served after wants may.rests may.not_due (there others o p q b b' c section later can u a l may.rests)
needs_served p q b b' c section Need.Sbi end form value can served no_fence later same others o wants u a l may =
    as_before others o p q b b' c section later can u a l may.rests end b' same (subst (λ (z : Book). Ends u a l (IsServedIn others o end q z (regime c) u a)) (sym served.4)
    (call_served others o p q b c section can.runner can.draws can.told may.runs wants served.2 u a l may.rests served.1.0 served.0 end served.1.2 served.1.1 served.3 no_fence))
needs_served p q b b' c section (Need.Load va width sign) end form value can served no_fence later same others o wants u a l may =
    by_access others o p q b b' c section later can u a l may.rests end served.0 served.2 same (loads_serve p q b b' c va width sign section served.0 form can.access can.told served.1 others o wants u a l may.rests)
needs_served p q b b' c section (Need.Store va width v) end form value can served no_fence later same others o wants u a l may =
    by_access others o p q b b' c section later can u a l may.rests end served.0 served.2 same (stores_serve p q b b' c va width v section served.0 form value can.access can.told can.draws served.1 others o wants u a l may.rests)
needs_served p q b b' c section (Need.Amo va op wide v) end form value can served no_fence later same others o wants u a l may =
    by_access others o p q b b' c section later can u a l may.rests end served.0 served.2 same (amos_serve p q b b' c va op wide v served.0 value can.access served.1 others o wants u a l may.rests)
needs_served p q b b' c section (Need.Lr va wide) end form value can served no_fence later same others o wants u a l may =
    by_access others o p q b b' c section later can u a l may.rests end served.0 served.2 same (reserves_serve p q b b' c va wide served.0 can.access served.1 others o wants u a l may.rests)
needs_served p q b b' c section (Need.Sc va wide v) end form value can served no_fence later same others o wants u a l may =
    by_access others o p q b b' c section later can u a l may.rests end served.0 served.2 same (conditionals_serve p q b b' c va wide v served.0 can.access served.1 others o wants u a l may.rests)

-- only a call asks for a fence
fence_called : (harts : ℕ) (span : Span) (call : SbiEnd) → ends.Fence harts span ≡ end_of_call call → call ≡ SbiEnd.Fence harts span
fence_called harts span (SbiEnd.Pair error value) e = cc
fence_called harts span (SbiEnd.Single value) e = cc
fence_called harts span (SbiEnd.Fence h s) e = cc
fence_called harts span SbiEnd.NeedsSection e = cc
fence_called harts span SbiEnd.HartStopped e = cc
fence_called harts span (SbiEnd.Over Reason.Pass) e = cc
fence_called harts span (SbiEnd.Over (Reason.Fail code)) e = cc
fence_called harts span (SbiEnd.Over (Reason.Limit hart)) e = cc
fence_called harts span (SbiEnd.Over Reason.OutFull) e = cc
fence_called harts span (SbiEnd.Over Reason.AllStopped) e = cc
fence_called harts span (SbiEnd.Over Reason.Stopped) e = cc

no_fence_accessed : (harts : ℕ) (span : Span) (got : Got) → ends.Fence harts span ≡ end_of_access got → ⊥
no_fence_accessed harts span (gets.Done answer) e = cc
no_fence_accessed harts span (gets.Fault cause tval) e = cc
no_fence_accessed harts span (gets.Lost word seen found) e = cc
no_fence_accessed harts span gets.NeedsSection e = cc
no_fence_accessed harts span (gets.Busy busy) e = cc

no_fence_flushed : (p q : Shown) (b b' : Book) (what : FlushOf) (harts : ℕ) (span : Span) (end : NeedEnd) → HasFlushedOne p q b b' what end → end ≡ ends.Fence harts span → ⊥
no_fence_flushed p q b b' what harts span end (flushes f goes) e = cc
no_fence_flushed p q b b' what harts span end (held busy f) e = cc

no_fence_pending : (harts value : ℕ) (span : Span) → ends.Fence harts span ≡ ends.Done (Answer.Value value) → ⊥
no_fence_pending harts value span e = cc

pub fences_wait : FencesWait
fences_wait p q b b' c section Need.Sbi harts span served = (fence_waits p q section served.1.0 served.0 harts span served.1.2 (fence_called harts span served.0 served.3), served.4)
fences_wait p q b b' c section Need.Nothing harts span served = served.1
fences_wait p q b b' c section (Need.Trap cause tval) harts span served = served.1
fences_wait p q b b' c section (Need.Ipi op) harts span served = absurd (no_fence_pending harts served.0 span served.2)
fences_wait p q b b' c section (Need.Flush what) harts span served = absurd (no_fence_flushed p q b b' what harts span (ends.Fence harts span) served refl)
fences_wait p q b b' c section (Need.Load va width sign) harts span served = absurd (no_fence_accessed harts span served.0 served.2)
fences_wait p q b b' c section (Need.Store va width v) harts span served = absurd (no_fence_accessed harts span served.0 served.2)
fences_wait p q b b' c section (Need.Amo va op wide v) harts span served = absurd (no_fence_accessed harts span served.0 served.2)
fences_wait p q b b' c section (Need.Lr va wide) harts span served = absurd (no_fence_accessed harts span served.0 served.2)
fences_wait p q b b' c section (Need.Sc va wide v) harts span served = absurd (no_fence_accessed harts span served.0 served.2)
