-- The own pieces of a fence in their hart's log, one behind another.
use Rattle.std.proofs.Common.{◌≡◌, ℕ, ◌+◌, ◌/◌, Bool, true, false, List, [], ◌∷◌, Some, refl, sym, ap, subst, ◌∙◌, arith, eq-eqb, le-leb}
use Rattle.std.specs.Prelude.{◌-◌, nat_le, if◌then◌else◌}
use Rattle.std.proofs.lemmas.Bool.{and_from}
use Rattle.rv64_priv.specs.Flush.{Pages}
use Rattle.rv64_priv.specs.declared.state.Regime.{Regime}
use Rattle.step_laws.specs.declared.request.Request.{Request}
use Rattle.step_laws.specs.declared.request.Request.TheVariants.{FlushAll, FlushPages, Drain}
use Rattle.step_laws.proofs.Named.{by_test}
use Rattle.machine_model.specs.Event.{Event, Flushes}
use Rattle.machine_model.specs.Lawful.{Flushed}
use Rattle.machine_model.specs.Own.{Own}
use Rattle.machine_model.specs.Run.{includes, last_of}
use Rattle.machine_model.specs.State.{Setup}
use Rattle.guest_ram.specs.Areas.{IsOfTable}
use Rattle.guest_ram.specs.Ports.{GoesBy, Shown}
use Rattle.tlb_entry.specs.declared.books.Book.{Book}
use Rattle.kept_fills.specs.Beside.{IsBeside}
use Rattle.hart_calls.specs.declared.spans.Span.{Span}
use Rattle.hart_calls.specs.declared.spans.Span.TheVariants as spans
use Rattle.sbi_calls.specs.Fences.{HasFlushedPiece, HaveFlushed, more, none, piece_steps}
use Rattle.sbi_calls.specs.Spans.{piece_of}
use Rattle.turn_pieces.specs.Grows.{stays}
use Rattle.turn_pieces.specs.Log.{Log, did, events_of}
use Rattle.turn_pieces.specs.Writers.{quietly}
use Rattle.turn_pieces.proofs.Writers.{grows_then, not_due_behind}
use Rattle.access_pieces.specs.Serving.{Rests}
use Rattle.table_pieces.specs.Flushing.{IsNotDue, IsPlaced, flush_made}
use Rattle.table_pieces.proofs.Placing.{full_is_placed, pages_are_placed}
use Rattle.fence_pieces.specs.Laws.{FencesStand, PiecesAreFlushed, PiecesAreHeld, PiecesAreWhole}
use Rattle.fence_pieces.specs.Owning.{AreFlushedIn, asked_by, flushes_of, made_for}
use Rattle.fence_pieces.proofs.Asking.{fences_are_asked, piece_high, piece_low, piece_there}
use Rattle.fence_pieces.proofs.Quiet.{events_quietly, lock_passes}
use Rattle.fence_pieces.proofs.Behind.{behind_stays, did_behind, flushed_later, quiet_behind}

-- what is flushed for a piece has in it what the piece asks for
pages_included : (large : Bool) (page count : ℕ) → includes (flush_made large page count) (Pages page count) ≡ true
pages_included true page count = refl
pages_included false page count = and_from (nat_le page page) (nat_le (page + count) (page + count)) (le-leb page page (omega arith)) (le-leb (page + count) (page + count) (omega arith))

asked_included : (request : Request) (large : Bool) → includes (made_for request large) (asked_by request) ≡ true
asked_included FlushAll large = refl
asked_included (FlushPages page count) large = pages_included large page count
asked_included Drain large = refl

-- one piece
piece_placed : (request : Request) (p q : Shown) (b c : Book) (r : Regime) → IsBeside b p → HasFlushedPiece request p q b c → (most : ℕ) → GoesBy most IsOfTable p q → (others : ℕ → Bool) (o : Own) (u : Setup) (a : ℕ) (l : Log) → Rests others o p b r u a l → IsNotDue o u a l
    → IsPlaced others o p q c r (made_for request b.large) u a l
piece_placed FlushAll p q b c r can f most goes others o u a l x still = full_is_placed p q b c r r most can f goes others o u a l x still
piece_placed (FlushPages page count) p q b c r can f most goes others o u a l x still = pages_are_placed p q b c r page count most can f goes others o u a l x still
piece_placed Drain p q b c r can f most goes others o u a l x still = absurd f

module _ (span : Span) (from : ℕ) (p : Shown) (b : Book) (r : Regime) (can : IsBeside b p) (others : ℕ → Bool) (o : Own) (u : Setup) (a : ℕ) (l : Log) (x : Rests others o p b r u a l) (still : IsNotDue o u a l) where
  one_more : (n : ℕ) (q q' : Shown) (c d : Book) (added : List Event) → IsBeside c q → HasFlushedPiece (piece_of span n) q q' c d → (most : ℕ) → GoesBy most IsOfTable q q' → AreFlushedIn span from n added others o q c r u a l
      → AreFlushedIn span from (n + 1) (Flushes a (made_for (piece_of span n) c.large) ∷ added) others o q' d r u a l
  one_more n q q' c d added beside f most goes y =
      let what = made_for (piece_of span n) c.large in
      let e = Flushes a what in
      let z = piece_placed (piece_of span n) q q' c d r beside f most goes others o u a y.late y.rests y.not_due in
      let k = quietly z.added y.late in
      let late = did e ∷ k in
      let events : events_of k ≡ events_of y.late = events_quietly z.added y.late in record {
        late = late;
        grows = grows_then u a l y.late y.grows z.grows;
        behind = behind_stays a l y.late late y.behind (did_behind a e y.late k refl (quiet_behind a z.added y.late));
        events_are = ap (λ (run : List Event). e ∷ run) (events ∙ y.events_are);
        rests = z.rests;
        not_due = not_due_behind u.limit (events_of late) a o.count e (ap (λ (t : Bool). if t then Some e else last_of a (events_of k)) (eq-eqb a a refl)) refl;
        flushed = λ i low high. by_test i n (λ _. Flushed (events_of late) a a (asked_by (piece_of span i)))
            (λ same. subst (λ j. Flushed (events_of late) a a (asked_by (piece_of span j))) (sym same) (z.flushes (asked_by (piece_of span n)) (asked_included (piece_of span n) c.large)))
            (λ other. flushed_later (events_of k) e a a (asked_by (piece_of span i)) refl
            (subst (λ (run : List Event). Flushed run a a (asked_by (piece_of span i))) (sym events) (y.flushed i low (omega (arith, high, other)))));
      }

  all_flushed : (n : ℕ) (q : Shown) (c : Book) (y : HaveFlushed span from p b n q c) → IsBeside c q × AreFlushedIn span from n (flushes_of y a) others o q c r u a l
  all_flushed n q c none = (
    can,
    record { late = l; grows = stays; behind = quiet_behind a [] l; events_are = refl; rests = x; not_due = still; flushed = λ i low high. absurd (omega (arith, low, high)) },
  )
  all_flushed n q c (more {n = n'} {q = q'} {c = c'} before now goes beside) =
      let y = all_flushed n' q' c' before in
      (beside, one_more n' q' q c' c (flushes_of before a) y.0 now (piece_steps c'.large c'.size (piece_of span n')) goes y.1)

pub pieces_are_flushed : PiecesAreFlushed
pieces_are_flushed span from to p q b c r can x others o u a l rests still = all_flushed span from p b r can others o u a l rests still to q c x

pub pieces_are_held : PiecesAreHeld
pieces_are_held span from to holder p q b c r can x others o u a l rests still =
    let y = (all_flushed span from p b r can others o u a l rests still to x.between x.book x.flushed).1 in
    let z = lock_passes holder x.between q x.book c r x.busy others o u a y.late y.rests in
    let late = quietly (z.0 ∷ []) y.late in record {
      late = late;
      grows = grows_then u a l y.late y.grows z.1.grows;
      behind = behind_stays a l y.late late y.behind (quiet_behind a (z.0 ∷ []) y.late);
      events_are = y.events_are;
      rests = z.1.rests;
      not_due = y.not_due;
      flushed = y.flushed;
    }

pub pieces_are_whole : PiecesAreWhole
pieces_are_whole spans.All a t run x = x 0 (omega arith)
pieces_are_whole (spans.Pages page count) a t run x = λ q low high. x ((q - page) / 64) (piece_there page count q low high) q (piece_low page q low) (piece_high page count q low high)

pub fences_stand : FencesStand
fences_stand span p a base l [] own steps behind x = tt
fences_stand span p a base l (t ∷ harts) own steps behind x =
    ((λ same. pieces_are_whole span a a (events_of l) (x.0.0 same), λ other. fences_are_asked span t p a base l own steps behind (x.0.1 other)), fences_stand span p a base l harts own steps behind x.1)
