-- By which steps a need is served.
use Rattle.std.specs.Prelude.{◌≡◌, ℕ, ◌+◌, ◌^◌, Bool, false}
use Rattle.rv64_priv.specs.Csr.{regime}
use Rattle.rv64_priv.specs.State.{Arch}
use Rattle.rv64_priv.specs.declared.state.Regime.{Regime}
use Rattle.rv64_exec.specs.declared.needs.Answer.{Answer}
use Rattle.rv64_exec.specs.declared.needs.FlushOf.{FlushOf}
use Rattle.rv64_exec.specs.declared.needs.IpiOp.{IpiOp}
use Rattle.rv64_exec.specs.declared.needs.Need.{Need}
use Rattle.step_laws.specs.Harts.{closed, is_owing, is_running, opening}
use Rattle.step_laws.specs.Map.{Word, Place, Pend, Run, Kick, Done}
use Rattle.machine_model.specs.Perform.{sip_value}
use Rattle.guest_ram.specs.Areas.{IsOfTable}
use Rattle.guest_ram.specs.Ports.{Shown, GoesBy, layout_of}
use Rattle.step_laws.specs.Steps.{new_of}
use Rattle.guest_devices.specs.Pending.{HasChangedPending, pending_after, pending_arg, pending_op}
use Rattle.guest_access.specs.declared.outcomes.Got.{Got}
use Rattle.guest_access.specs.Accessing.{HasAccessed}
use Rattle.guest_access.specs.Reaching.{CanAccess, KnowsFills}
use Rattle.hart_calls.specs.declared.outcomes.SbiEnd.{SbiEnd}
use Rattle.hart_calls.specs.Called.{HasCalled, IsOfHartCalls}
use Rattle.tlb_entry.specs.declared.books.Book.{Book}
use Rattle.tlb_lock.specs.declared.lock.Busy.{Busy}
use Rattle.flush.specs.Flushed.{HasBeenBusy, HasFlushed, HasFlushedAll, full_steps}
use Rattle.need_serving.specs.declared.ends.NeedEnd.{NeedEnd}
use Rattle.need_serving.specs.declared.ends.NeedEnd.TheVariants as ends
use Rattle.need_serving.specs.Ends.{FitsNeed, IfFence, MayHaveAfter, end_of_access, end_of_call, runs_on}

-- what needs touch: every word but those that say who is inside and who claims, places, calls to leave, and an actor's last
abbrev pub IsOfNeeds : Word → Type 0
IsOfNeeds (Place t s k) = ⊥
IsOfNeeds Pend = ⊥
IsOfNeeds (Run a) = ⊥
IsOfNeeds (Kick h) = ⊥
IsOfNeeds (Done a) = ⊥
IsOfNeeds _ = Unit {0}

module _ (p q : Shown) where
  -- the own bit of the pending interrupts was read or changed, by one operation; sip shows of it what it was
  abbrev pub HasUsedPending : IpiOp → (value : ℕ) → Type 0
  HasUsedPending op value = (found : ℕ) × HasChangedPending op (2 ^ p.own.actor) found p q × (value ≡ sip_value found p.own.actor)
      × (new_of (pending_op op) found (pending_arg op (2 ^ p.own.actor)) ≡ pending_after op (2 ^ p.own.actor) found)

  module _ (b b' : Book) where
    -- what a flush that an instruction asks for flushed
    abbrev pub HasFlushedWhat : FlushOf → Type 0
    HasFlushedWhat FlushOf.All = HasFlushedAll p q b b'
    HasFlushedWhat (FlushOf.Page page) = HasFlushed b.large p q b b' page 1

    -- it was made, by permitted steps on the hart's table; or the own lock was found held
    pub data HasFlushedOne (what : FlushOf) : NeedEnd → Type 0 where
      flushes : HasFlushedWhat what → GoesBy (full_steps b.size + 8) IsOfTable p q → HasFlushedOne what (ends.Done Answer.Nothing)
      held : (busy : Busy) → HasBeenBusy busy.holder p q b b' → HasFlushedOne what (ends.Busy busy)

    -- nothing was done
    abbrev pub IsStill : Type 0
    IsStill = (q ≡ p) × (b' ≡ b)

    abbrev pub HasServed : Arch → (section : Bool) → Need → NeedEnd → Type 0
    HasServed a section Need.Nothing end = (end ≡ ends.Done Answer.Nothing) × IsStill
    HasServed a section (Need.Trap cause tval) end = (end ≡ ends.Done (Answer.Fault cause tval)) × IsStill
    HasServed a section (Need.Ipi op) end = (value : ℕ) × HasUsedPending op value × (end ≡ ends.Done (Answer.Value value)) × (b' ≡ b)
    HasServed a section (Need.Flush what) end = HasFlushedOne what end
    HasServed a section Need.Sbi end = (call : SbiEnd) × HasCalled section a call p q × GoesBy 769 IsOfHartCalls p q × (end ≡ end_of_call call) × (b' ≡ b)
    HasServed a section need end = (got : Got) × HasAccessed p q b b' a section need got × (end ≡ end_of_access got)

-- The hart is beside its table and inside, or in its section, as before, and makes no start; it runs unless it stopped itself, and then it has
-- taken itself from LIVE
pub record Remains (b' : Book) (p q : Shown) (end : NeedEnd) : Type 0 where
  pub access : CanAccess b' q
  pub running : is_running q.own.actor q.own.runs q.own.steps ≡ runs_on end
  pub paid : is_owing p.own.actor p.own.steps ≡ false → is_owing q.own.actor q.own.steps ≡ false
  pub free : opening q.own.steps ≡ closed

-- The need was served by these steps, and the answer is one to it. The own entries are of walks of the record still, and the hart remains
pub record IsServed (p q : Shown) (b b' : Book) (a : Arch) (section : Bool) (need : Need) (end : NeedEnd) : Type 0 where
  pub served : HasServed p q b b' a section need end
  pub fits : FitsNeed need end
  pub fence : IfFence end (layout_of q).harts
  pub fills : (later : Regime) → MayHaveAfter need end (regime a) later → KnowsFills b' later q
  pub remains : Remains b' p q end
