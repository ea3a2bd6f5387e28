-- Bytes of RAM that a call prints in its section, in its hart's log.
use Rattle.std.specs.Prelude.{◌≡◌, ℕ, true}
use Rattle.rv64_priv.specs.State.{Arch}
use Rattle.rv64_priv.specs.Csr.{regime}
use Rattle.rv64_exec.specs.declared.needs.Need.{Need}
use Rattle.step_laws.specs.Sections.{IsInSection}
use Rattle.machine_model.specs.Own.{Own, own_executed}
use Rattle.guest_ram.specs.Ports.{Shown, layout_of}
use Rattle.tlb_entry.specs.declared.books.Book.{Book}
use Rattle.turn_pieces.specs.Draws.{may_draw}
use Rattle.turn_pieces.specs.Grows.{Part}
use Rattle.access_pieces.specs.Serving.{Wants}
use Rattle.call_pieces.specs.Idle.{Called, Idles}
use Rattle.hart_calls.specs.declared.asking.Asked.{Asked}
use Rattle.hart_calls.specs.declared.outcomes.SbiEnd.{SbiEnd}
use Rattle.hart_calls.specs.Asked.{IsAsked}
use Rattle.hart_calls.specs.Called.{HasWritten}
use Rattle.hart_calls.specs.States.{IsRunner}
use Rattle.call_laws.specs.Did.{did_writing}

-- in the section, where no other actor draws, such a call is executed in its hart's log as any other: the places that it drew follow one another in
-- each history, and a log where they don't owes nothing of them
abbrev pub BytesAreServed : Type 0
BytesAreServed = (p q : Shown) (b : Book) (c : Arch) (from count : ℕ) (end : SbiEnd) (done : HasWritten p q from count end true)
    → IsRunner p → may_draw p.own.steps ≡ true → IsAsked (layout_of p) c (Asked.Prints from count) → IsInSection (layout_of p) p.own.actor p.own.steps
    → (o : Own) → Wants o c Need.Sbi → Part (Idles o p b (regime c)) (Called (own_executed (did_writing p q from count end true done) o) q b (regime c))
