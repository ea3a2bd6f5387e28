-- How a hart stands behind what a need did.
use Rattle.std.proofs.Common.{◌≡◌, ℕ, ◌≤◌, true, false, refl, sym, ap, subst, ◌∙◌}
use Rattle.step_laws.specs.Harts.{closed, is_owing, is_running, opening}
use Rattle.step_laws.specs.Map.{Word, Stop, Live, Cons, Ipi, Kick, Lock, Size, Hsm, Start, Opaque, Dirty, Tlb, Console, Ram}
use Rattle.step_laws.specs.Sections.{MayTouch}
use Rattle.guest_ram.specs.Areas.{IsAside, IsOfCalls, IsOfTable}
use Rattle.guest_ram.specs.Ports.{Shown, GoesBy, IsActing}
use Rattle.guest_ram.proofs.Moves.{goes_at_most, goes_made, goes_within, stands_goes, touch_stands}
use Rattle.guest_access.specs.Reaching.{CanAccess}
use Rattle.guest_access.specs.Touching.{IsOfAccess}
use Rattle.hart_calls.specs.declared.outcomes.SbiEnd.{SbiEnd}
use Rattle.hart_calls.specs.Called.{IsOfHartCalls}
use Rattle.hart_calls.specs.Ends as calls
use Rattle.hart_calls.specs.States.{IsRunner}
use Rattle.machine_model.specs.declared.reason.Reason.{Reason}
use Rattle.tlb_entry.specs.declared.books.Book.{Book}
use Rattle.kept_fills.specs.Beside.{IsBeside}
use Rattle.hart_signals.proofs.Aside.{IsOffLock, IsOffStates, beside_goes, opening_goes, owing_goes, running_goes, table_off_states}
use Rattle.need_serving.specs.declared.ends.NeedEnd.{NeedEnd}
use Rattle.need_serving.specs.Ends.{end_of_call, runs_on}
use Rattle.need_serving.specs.Serving.{HasUsedPending, IsOfNeeds, Remains}
use Rattle.guest_devices.specs.Pending.{pending_arg, pending_op}
use Rattle.rv64_exec.specs.declared.needs.IpiOp.{IpiOp}
use Rattle.std.specs.Prelude.{◌^◌}

-- nothing was done
pub remains_still : (b b' : Book) (p q : Shown) (end : NeedEnd) → q ≡ p → b' ≡ b → CanAccess b p → IsRunner p → runs_on end ≡ true → Remains b' p q end
remains_still b b' p q end same book can runner on = subst (λ (x : Shown). Remains b' p x end) (sym same) (subst (λ (c : Book). Remains c p p end) (sym book) (record {
  access = can;
  running = runner.runs ∙ sym on;
  paid = λ e. e;
  free = runner.free;
}))

-- steps that are on no word of hart states
pub remains_goes : (n : ℕ) (A : Word → Type 0) (b' : Book) (p q : Shown) (end : NeedEnd) → ((w : Word) → A w → IsOffStates w) → GoesBy n A p q → CanAccess b' q → IsRunner p → runs_on end ≡ true → Remains b' p q end
remains_goes n A b' p q end aside goes can runner on = record {
  access = can;
  running = running_goes n A p q aside goes ∙ runner.runs ∙ sym on;
  paid = λ e. owing_goes n A p q aside goes ∙ e;
  free = opening_goes n A p q aside goes ∙ runner.free;
}

-- behind steps that leave RUN and PEND the hart is inside as before
pub touch_goes : (n : ℕ) (A : Word → Type 0) (p q : Shown) → ((w : Word) → A w → IsAside w) → GoesBy n A p q → MayTouch p.machine.layout p.own.actor p.own.steps → MayTouch q.machine.layout q.own.actor q.own.steps
touch_goes n A p q aside goes touch = touch_stands n A p q goes (stands_goes n A p q aside goes) touch

table_aside : (w : Word) → IsOfTable w → IsAside w
table_aside (Lock h) t = tt
table_aside (Size h) t = tt
table_aside (Tlb h j f) t = tt
table_aside w t = absurd t

pub flush_remains : (n : ℕ) (b b' : Book) (p q : Shown) (end : NeedEnd) → GoesBy n IsOfTable p q → IsBeside b' q → CanAccess b p → IsRunner p → runs_on end ≡ true → Remains b' p q end
flush_remains n b b' p q end goes beside can runner on = remains_goes n IsOfTable b' p q end table_off_states goes (record { beside = beside; touch = touch_goes n IsOfTable p q table_aside goes can.touch }) runner on

calls_aside : (w : Word) → IsOfCalls w → IsAside w
calls_aside Ipi t = tt
calls_aside (Kick h) t = tt
calls_aside w t = absurd t

calls_off_lock : (w : Word) → IsOfCalls w → IsOffLock w
calls_off_lock Ipi t = tt
calls_off_lock (Kick h) t = tt
calls_off_lock w t = absurd t

calls_off_states : (w : Word) → IsOfCalls w → IsOffStates w
calls_off_states Ipi t = tt
calls_off_states (Kick h) t = tt
calls_off_states w t = absurd t

pub pending_remains : (b : Book) (p q : Shown) (end : NeedEnd) → GoesBy 1 IsOfCalls p q → IsActing q → CanAccess b p → IsRunner p → runs_on end ≡ true → Remains b p q end
pending_remains b p q end goes acting can runner on = remains_goes 1 IsOfCalls b p q end calls_off_states goes
    (record { beside = beside_goes b 1 IsOfCalls p q calls_off_lock goes acting can.beside; touch = touch_goes 1 IsOfCalls p q calls_aside goes can.touch }) runner on

access_off_states : (w : Word) → IsOfAccess w → IsOffStates w
access_off_states (Lock h) t = tt
access_off_states (Size h) t = tt
access_off_states (Tlb h j f) t = tt
access_off_states (Dirty i) t = tt
access_off_states (Ram i) t = tt
access_off_states Cons t = tt
access_off_states (Console i) t = tt
access_off_states Stop t = tt
access_off_states w t = absurd t

pub access_remains : (b' : Book) (p q : Shown) (end : NeedEnd) → GoesBy 34 IsOfAccess p q → CanAccess b' q → IsRunner p → runs_on end ≡ true → Remains b' p q end
access_remains b' p q end goes can runner on = remains_goes 34 IsOfAccess b' p q end access_off_states goes can runner on

hart_calls_off_lock : (w : Word) → IsOfHartCalls w → IsOffLock w
hart_calls_off_lock Stop t = tt
hart_calls_off_lock Live t = tt
hart_calls_off_lock Cons t = tt
hart_calls_off_lock Ipi t = tt
hart_calls_off_lock (Hsm h) t = tt
hart_calls_off_lock (Start h) t = tt
hart_calls_off_lock (Opaque h) t = tt
hart_calls_off_lock (Console i) t = tt
hart_calls_off_lock (Ram i) t = tt
hart_calls_off_lock w t = absurd t

hart_calls_aside : (w : Word) → IsOfHartCalls w → IsAside w
hart_calls_aside Stop t = tt
hart_calls_aside Live t = tt
hart_calls_aside Cons t = tt
hart_calls_aside Ipi t = tt
hart_calls_aside (Hsm h) t = tt
hart_calls_aside (Start h) t = tt
hart_calls_aside (Opaque h) t = tt
hart_calls_aside (Console i) t = tt
hart_calls_aside (Ram i) t = tt
hart_calls_aside w t = absurd t

-- a call stops its hart exactly where its end says so
call_runs : (call : SbiEnd) → runs_on (end_of_call call) ≡ calls.runs_on call
call_runs (SbiEnd.Pair error value) = refl
call_runs (SbiEnd.Single value) = refl
call_runs (SbiEnd.Fence harts span) = refl
call_runs SbiEnd.NeedsSection = refl
call_runs SbiEnd.HartStopped = refl
call_runs (SbiEnd.Over Reason.Pass) = refl
call_runs (SbiEnd.Over (Reason.Fail code)) = refl
call_runs (SbiEnd.Over (Reason.Limit hart)) = refl
call_runs (SbiEnd.Over Reason.OutFull) = refl
call_runs (SbiEnd.Over Reason.AllStopped) = refl
call_runs (SbiEnd.Over Reason.Stopped) = refl

pub call_remains : (b : Book) (p q : Shown) (call : SbiEnd) (end : NeedEnd) → end ≡ end_of_call call → GoesBy 769 IsOfHartCalls p q → IsActing q → CanAccess b p → is_running q.own.actor q.own.runs q.own.steps ≡ calls.runs_on call
    → is_owing q.own.actor q.own.steps ≡ false → opening q.own.steps ≡ closed → Remains b p q end
call_remains b p q call end e goes acting can runs paid free = record {
  access = record { beside = beside_goes b 769 IsOfHartCalls p q hart_calls_off_lock goes acting can.beside; touch = touch_goes 769 IsOfHartCalls p q hart_calls_aside goes can.touch };
  running = runs ∙ sym (call_runs call) ∙ ap runs_on (sym e);
  paid = λ _. paid;
  free = free;
}

-- what each kind of need touches
table_need : (w : Word) → IsOfTable w → IsOfNeeds w
table_need (Lock h) t = tt
table_need (Size h) t = tt
table_need (Tlb h j f) t = tt
table_need w t = absurd t

access_need : (w : Word) → IsOfAccess w → IsOfNeeds w
access_need (Lock h) t = tt
access_need (Size h) t = tt
access_need (Tlb h j f) t = tt
access_need (Dirty i) t = tt
access_need (Ram i) t = tt
access_need Cons t = tt
access_need (Console i) t = tt
access_need Stop t = tt
access_need w t = absurd t

call_need : (w : Word) → IsOfHartCalls w → IsOfNeeds w
call_need Stop t = tt
call_need Live t = tt
call_need Cons t = tt
call_need Ipi t = tt
call_need (Hsm h) t = tt
call_need (Start h) t = tt
call_need (Opaque h) t = tt
call_need (Console i) t = tt
call_need (Ram i) t = tt
call_need w t = absurd t

pub flush_goes : (m n : ℕ) (p q : Shown) → m ≤ n → GoesBy m IsOfTable p q → GoesBy n IsOfNeeds p q
flush_goes m n p q le goes = goes_at_most m n IsOfNeeds p q le (goes_within m IsOfTable IsOfNeeds p q table_need goes)

pub access_goes : (n : ℕ) (p q : Shown) → 34 ≤ n → GoesBy 34 IsOfAccess p q → GoesBy n IsOfNeeds p q
access_goes n p q le goes = goes_at_most 34 n IsOfNeeds p q le (goes_within 34 IsOfAccess IsOfNeeds p q access_need goes)

pub call_goes : (n : ℕ) (p q : Shown) → 769 ≤ n → GoesBy 769 IsOfHartCalls p q → GoesBy n IsOfNeeds p q
call_goes n p q le goes = goes_at_most 769 n IsOfNeeds p q le (goes_within 769 IsOfHartCalls IsOfNeeds p q call_need goes)

pub pending_goes : (n : ℕ) (p q : Shown) (op : IpiOp) (value : ℕ) → 1 ≤ n → HasUsedPending p q op value → GoesBy n IsOfNeeds p q
pending_goes n p q op value le used = goes_at_most 1 n IsOfNeeds p q le (goes_made IsOfNeeds p q Ipi (pending_op op) (pending_arg op (2 ^ p.own.actor)) used.0 used.1 tt)
