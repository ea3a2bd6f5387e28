-- What the execution of an accepted fence is in its hart's log.
use Rattle.std.specs.Prelude.{◌≡◌, ◌≢◌, ℕ, ◌<◌, Bool, true, ◌∷◌, pos}
use Rattle.rv64_priv.specs.State.{Arch}
use Rattle.rv64_priv.specs.declared.state.Regime.{Regime}
use Rattle.rv64_priv.specs.Walk.{PageFault}
use Rattle.rv64_exec.specs.declared.needs.Answer.{Answer}
use Rattle.rv64_exec.specs.declared.needs.Need.{Need}
use Rattle.machine_model.specs.Event.{Event, Exec, only}
use Rattle.machine_model.specs.Own.{Own, own_executed}
use Rattle.machine_model.specs.Run.{counts, last_of, passes}
use Rattle.machine_model.specs.State.{Setup}
use Rattle.guest_ram.specs.Ports.{Shown, layout_of}
use Rattle.tlb_entry.specs.declared.books.Book.{Book}
use Rattle.hart_calls.specs.Asked.{IsAsked}
use Rattle.hart_calls.specs.declared.asking.Asked.{Asked}
use Rattle.hart_calls.specs.declared.spans.Span.{Span}
use Rattle.sbi_calls.specs.Fences.{IsAnsweredAt}
use Rattle.sbi_calls.specs.Spans.{is_named}
use Rattle.turn_pieces.specs.Grows.{Grows}
use Rattle.turn_pieces.specs.Log.{Log, did, events_of, steps_of}
use Rattle.access_pieces.specs.Serving.{Rests, Settles, Wants}
use Rattle.fence_pieces.specs.Behind.{IsBehind}
use Rattle.fence_pieces.specs.Owning.{ArePiecesFlushed}

-- the execution of the call, which succeeds
abbrev pub executed : (a : ℕ) → Event
executed a = Exec a PageFault PageFault (only (Answer.Pair (pos 0) 0))

-- each hart that the mask names is the own one, and all own pieces are flushed since its last fetch, or another, and each piece was answered there since
-- the base
abbrev pub AreAllDone : (harts : ℕ) → Span → (q : Shown) → (a : ℕ) → (base l : Log) → Type 0
AreAllDone harts span q a base l = (t : ℕ) → is_named harts t ≡ true → (t ≡ a → ArePiecesFlushed span a a (events_of l)) × (t ≢ a → IsAnsweredAt span t (steps_of base) q)

-- the log goes on by the execution, to one that tells of the port as it is, and the hart's last event then counts an instruction
pub record IsExecuted (others : ℕ → Bool) (o : Own) (q : Shown) (b : Book) (r : Regime) (u : Setup) (a : ℕ) (l : Log) : Type 0 where
  pub grows : Grows u a l (did (executed a) ∷ l)
  pub settles : Settles others (own_executed (only (Answer.Pair (pos 0) 0)) o) q b r u a (did (executed a) ∷ l)
  pub counts : passes counts (last_of a (events_of (did (executed a) ∷ l))) ≡ true

-- where all that the fence names is done, in a log with no fetch of the hart's since the base
abbrev pub FencesAreDone : Type 0
FencesAreDone = (others : ℕ → Bool) (o : Own) (q : Shown) (b : Book) (r : Regime) (c : Arch) (harts : ℕ) (span : Span) (u : Setup) (a : ℕ) (base l : Log) → Rests others o q b r u a l → a < u.layout.harts
    → Wants o c Need.Sbi → IsAsked (layout_of q) c (Asked.Fences harts span) → IsBehind a base l → AreAllDone harts span q a base l → IsExecuted others o q b r u a l
