-- A turn of a fence in its hart's log: posts, own pieces, polls.
use Rattle.std.proofs.Common.{◌≡◌, ◌≤◌, ◌<◌, ℕ, Bool, List, ◌++◌, sym, ap, subst, ◌∙◌, ⊎_elim}
use Rattle.std.proofs.lemmas.Bool.{cases_lt}
use Rattle.rv64_priv.specs.declared.state.Regime.{Regime}
use Rattle.machine_model.specs.Event.{Event}
use Rattle.machine_model.specs.Lawful.{Flushed}
use Rattle.machine_model.specs.Own.{Own}
use Rattle.machine_model.specs.State.{Setup}
use Rattle.guest_ram.specs.Ports.{Shown}
use Rattle.tlb_entry.specs.declared.books.Book.{Book}
use Rattle.hart_calls.specs.declared.spans.Span.{Span}
use Rattle.sbi_calls.specs.Spans.{piece_of}
use Rattle.sbi_calls.proofs.Asks.{asks_of}
use Rattle.turn_pieces.specs.Log.{Log, events_of}
use Rattle.turn_pieces.specs.Writers.{quietly}
use Rattle.turn_pieces.proofs.Writers.{grows_then}
use Rattle.fence_pieces.specs.Asking.{HasPassed}
use Rattle.fence_pieces.specs.Laws.{TurnsAreHeld, TurnsAreMade, TurnsGoOn}
use Rattle.fence_pieces.specs.Owning.{AreFlushedIn, asked_by, flushes_of}
use Rattle.fence_pieces.proofs.Behind.{behind_stays, flushes_stay}
use Rattle.fence_pieces.proofs.Owning.{pieces_are_flushed, pieces_are_held}
use Rattle.fence_pieces.proofs.Quiet.{asks_rest, events_quietly}

module _ (span : Span) (from to : ℕ) (added : List Event) (others : ℕ → Bool) (o : Own) (c : Book) (r : Regime) (u : Setup) (a : ℕ) where
  -- behind steps alone
  passed_first : (p q s : Shown) (b : Book) (l : Log) (x : HasPassed others o p q b r u a l) → AreFlushedIn span from to added others o s c r u a (quietly x.added l) → AreFlushedIn span from to added others o s c r u a l
  passed_first p q s b l x y = record {
    late = y.late;
    grows = grows_then u a l (quietly x.added l) x.grows y.grows;
    behind = behind_stays a l (quietly x.added l) y.late x.behind y.behind;
    events_are = y.events_are ∙ ap (λ (run : List Event). added ++ run) (events_quietly x.added l);
    rests = y.rests;
    not_due = y.not_due;
    flushed = y.flushed;
  }

  -- steps alone behind it
  passed_later : (p q : Shown) (l : Log) (y : AreFlushedIn span from to added others o p c r u a l) → HasPassed others o p q c r u a y.late → AreFlushedIn span from to added others o q c r u a l
  passed_later p q l y x =
      let late = quietly x.added y.late in
      let same : events_of late ≡ events_of y.late = events_quietly x.added y.late in record {
        late = late;
        grows = grows_then u a l y.late y.grows x.grows;
        behind = behind_stays a l y.late late y.behind x.behind;
        events_are = same ∙ y.events_are;
        rests = x.rests;
        not_due = x.not_due;
        flushed = λ i low high. subst (λ (run : List Event). Flushed run a a (asked_by (piece_of span i))) (sym same) (y.flushed i low high);
      }

pub turns_are_made : TurnsAreMade
turns_are_made span from to p q b c r can x others o u a l rests still =
    let first = asks_rest 216 p x.asked b r can x.posts others o u a l rests still in
    let k = quietly first.1.added l in
    let own = pieces_are_flushed span from to x.asked x.served b c r first.0 x.flushed others o u a k first.1.rests first.1.not_due in
    let y = passed_first span from to (flushes_of x.flushed a) others o c r u a p x.asked x.served b l first.1 own.1 in
    let last = asks_rest 64 x.served q c r own.0 (asks_of 64 x.served.own.actor x.served q x.polls) others o u a y.late y.rests y.not_due in
    (last.0, passed_later span from to (flushes_of x.flushed a) others o c r u a x.served q l y last.1)

pub turns_are_held : TurnsAreHeld
turns_are_held span from to holder p q b c r can x others o u a l rests still =
    let first = asks_rest 216 p x.asked b r can x.posts others o u a l rests still in
    passed_first span from to (flushes_of x.busy.flushed a) others o c r u a p x.asked q b l first.1 (pieces_are_held span from to holder x.asked q b c r first.0 x.busy others o u a (quietly first.1.added l) first.1.rests first.1.not_due)

pub turns_go_on : TurnsGoOn
turns_go_on span from to a l late k before now = λ i high. ⊎_elim (λ (low : i < from). flushes_stay a a (asked_by (piece_of span i)) l late k (before i low)) (λ (far : from ≤ i). now i far high) (cases_lt i from)
