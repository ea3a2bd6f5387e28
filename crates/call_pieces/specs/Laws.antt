-- What the steps of a call are to its hart's log.
use Rattle.std.specs.Prelude.{◌≡◌, ◌≢◌, ℕ, Bool, true}
use Rattle.rv64_priv.specs.State.{Arch}
use Rattle.rv64_priv.specs.Csr.{regime}
use Rattle.rv64_exec.specs.declared.needs.Need.{Need}
use Rattle.machine_model.specs.Own.{Own, own_executed}
use Rattle.guest_ram.specs.Ports.{Shown, layout_of}
use Rattle.tlb_entry.specs.declared.books.Book.{Book}
use Rattle.turn_pieces.specs.Draws.{may_draw}
use Rattle.turn_pieces.specs.Grows.{Part}
use Rattle.access_pieces.specs.Serving.{Wants}
use Rattle.call_pieces.specs.Idle.{Called, Halted, Idles}
use Rattle.hart_calls.specs.declared.asking.Asked.{Asked}
use Rattle.hart_calls.specs.declared.outcomes.SbiEnd.{SbiEnd}
use Rattle.hart_calls.specs.Asked.{IsAsked}
use Rattle.hart_calls.specs.Called.{HasDone, HasLeft, HasTried}
use Rattle.hart_calls.specs.States.{IsRunner}
use Rattle.call_laws.specs.Did.{did_call}

-- the calls that the law is of: not a fence, which is executed once it is done; not bytes of RAM; and no start of the own hart
abbrev pub IsServed : Shown → Asked → Type 0
IsServed p (Asked.Fences harts span) = ⊥
IsServed p (Asked.Prints from count) = count ≡ 0
IsServed p (Asked.Starts target at opaque) = target ≢ p.own.actor
IsServed p _ = Unit {0}

-- each log that tells of the port before, and whose last step owes no event, goes on by steps that may be made and events that are right to one
-- that tells of the port behind, of a hart that has executed the call, and whose last event then counts an instruction. The hart has drawn no
-- console place beyond the last since it looked at STOP
abbrev pub CallsAreServed : Type 0
CallsAreServed = (p q : Shown) (b : Book) (c : Arch) (section : Bool) (asked : Asked) (end : SbiEnd) (done : HasDone p q section asked end)
    → IsRunner p → may_draw p.own.steps ≡ true → IsAsked (layout_of p) c asked → IsServed p asked
    → (o : Own) → Wants o c Need.Sbi → Part (Idles o p b (regime c)) (Called (own_executed (did_call p q section asked end done) o) q b (regime c))

-- so is a start of the own hart, which runs
abbrev pub OwnStartsAreServed : Type 0
OwnStartsAreServed = (p q : Shown) (b : Book) (c : Arch) (section : Bool) (target at opaque : ℕ) (end : SbiEnd) (done : HasTried p q target at opaque end)
    → IsRunner p → IsAsked (layout_of p) c (Asked.Starts target at opaque) → target ≡ p.own.actor
    → (o : Own) → o.runs ≡ true → Wants o c Need.Sbi → Part (Idles o p b (regime c)) (Called (own_executed (did_call p q section (Asked.Starts target at opaque) end done) o) q b (regime c))

-- and behind a stop the log says that all harts have stopped, where the hart was the last
abbrev pub StopsAreSaid : Type 0
StopsAreSaid = (p q : Shown) (b : Book) (c : Arch) (section : Bool) (end : SbiEnd) (done : HasLeft p q end) → IsRunner p → IsAsked (layout_of p) c Asked.Leaves
    → (o : Own) → Wants o c Need.Sbi → Part (Idles o p b (regime c)) (Halted (own_executed (did_call p q section Asked.Leaves end done) o) q b (regime c))
