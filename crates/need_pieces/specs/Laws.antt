-- Laws of served needs: what they are to their hart's log.
use Rattle.std.specs.Prelude.{◌≡◌, ℕ, Bool, true}
use Rattle.rv64_priv.specs.State.{Arch}
use Rattle.rv64_priv.specs.Csr.{regime}
use Rattle.rv64_priv.specs.declared.state.Regime.{Regime}
use Rattle.rv64_exec.specs.Widths.{IsWellFormedNeed}
use Rattle.rv64_exec.specs.declared.needs.Need.{Need}
use Rattle.machine_model.specs.Own.{Own}
use Rattle.machine_model.specs.State.{Setup}
use Rattle.guest_ram.specs.Ports.{Shown}
use Rattle.tlb_entry.specs.declared.books.Book.{Book}
use Rattle.turn_pieces.specs.Draws.{may_draw}
use Rattle.turn_pieces.specs.Grows.{Ends}
use Rattle.turn_pieces.specs.Log.{Log}
use Rattle.access_pieces.specs.Laws.{IsTold}
use Rattle.access_pieces.specs.Serving.{Wants}
use Rattle.guest_access.specs.Reaching.{CanAccess}
use Rattle.hart_calls.specs.States.{IsRunner}
use Rattle.hart_calls.specs.declared.spans.Span.{Span}
use Rattle.need_serving.specs.declared.ends.NeedEnd.{NeedEnd}
use Rattle.need_serving.specs.declared.ends.NeedEnd.TheVariants as ends
use Rattle.need_serving.specs.Ends.{MayHaveAfter}
use Rattle.need_serving.specs.Serving.{HasServed}
use Rattle.need_pieces.specs.Serving.{IsOfRegister, IsServedIn, MayServe}

-- a hart that may serve what its instruction needs
pub record CanServe (p : Shown) (b : Book) (section : Bool) : Type 0 where
  pub access : CanAccess b p
  pub runner : IsRunner p
  pub told : IsTold section p
  -- it has drawn no console place beyond the last since it looked at STOP
  pub draws : may_draw p.own.steps ≡ true

-- it isn't asked to wait for a fence
abbrev pub IsNoFence : NeedEnd → Type 0
IsNoFence (ends.Fence harts span) = ⊥
IsNoFence end = Unit {0}

-- a need that was served is in each log that told of the port before
abbrev pub NeedsAreServed : Type 0
NeedsAreServed = (p q : Shown) (b b' : Book) (c : Arch) (section : Bool) (need : Need) (end : NeedEnd) → IsWellFormedNeed need → IsOfRegister need → CanServe p b section
    → HasServed p q b b' c section need end → IsNoFence end → (later : Regime) → MayHaveAfter need end (regime c) later
    → (others : ℕ → Bool) (o : Own) → Wants o c need → (u : Setup) (a : ℕ) (l : Log) → MayServe others o p b (regime c) u a l
    → Ends u a l (IsServedIn others o end q b' later u a)

-- a fence that was asked for leaves the port and the book as they were
abbrev pub FencesWait : Type 0
FencesWait = (p q : Shown) (b b' : Book) (c : Arch) (section : Bool) (need : Need) (harts : ℕ) (span : Span) → HasServed p q b b' c section need (ends.Fence harts span) → (q ≡ p) × (b' ≡ b)
