-- What a log shows of an event its placed steps show.
use Rattle.std.proofs.Common.{◌≡◌, ◌≢◌, ℕ, Bool, true, false, List, [], ◌∷◌, Option, Some, None, sym, ap, subst, ◌∙◌, drop}
use Rattle.std.specs.Prelude.{IsTrue, IsSome}
use Rattle.std.specs.List.{AllByRecursion}
use Rattle.rv64_priv.specs.State.{Arch}
use Rattle.rv64_priv.specs.Csr.{regime}
use Rattle.rv64_priv.specs.declared.state.Kind.{Kind}
use Rattle.rv64_priv.specs.Walk.{Walked}
use Rattle.rv64_exec.specs.Code.{Code}
use Rattle.step_laws.specs.declared.steps.Step.{Step}
use Rattle.step_laws.specs.Words.{ipi_word, monitor}
use Rattle.step_laws.specs.Map.{Start, Opaque}
use Rattle.machine_model.specs.declared.reason.Reason.{Reason}
use Rattle.machine_model.specs.Event.{Event, Outcome, Fetch, Exec, GiveUp, Interrupt, Flushes, Start as Begin, Stop, Await, SnapBegin, SnapEnd, Dump}
use Rattle.machine_model.specs.State.{Setup, hart, initial, Snapshot, DumpBytes, StopAll, AwaitBytes}
use Rattle.machine_model.specs.Own.{Own, own}
use Rattle.machine_model.specs.Access.{second_va}
use Rattle.machine_model.specs.Walks.{Wanted, need_held, access_of}
use Rattle.machine_model.specs.Perform.{Surroundings}
use Rattle.machine_model.specs.Lawful.{is_pending}
use Rattle.machine_model.specs.Own.{own_of}
use Rattle.machine_model.specs.Run.{is_of, last_of, passes, leaves, is_snap_begin, is_due, renews}
use Rattle.machine_model.specs.Lawful.{Flushing, Flushed, flushing, NextLine}
use Rattle.run_laws.proofs.Placed.{Placed, steps, run_of, Stood}
use Rattle.walk_laws.specs.WalkLoads.{Found, found}
use Rattle.run_laws.proofs.Shown.{IsShown, ShownFor, ShownMade}
use Rattle.walk_laws.specs.WalkLoads.{reads_of}
use Rattle.run_laws.proofs.Kept.{part_at, drawn, handed_word, flushed_waiting}
use Rattle.turn_pieces.specs.Folds.{script_of, was_last}
use Rattle.run_laws.proofs.Fits.{Sees, AskedFor, FencesShown, FitsFetch, FitsExec, FitsGiveUp, FitsInterrupt, FitsStart, FitsStop, FitsAwait, Fits}
use Rattle.turn_pieces.specs.Right.{FetchedAt}
use Rattle.turn_pieces.specs.Log.{Log, steps_of, events_of, before, AtLast, HasStood}
use Rattle.run_laws.proofs.Placed.{placed_of}
use Rattle.turn_pieces.specs.Kept.{own_part, places}
use Rattle.turn_pieces.specs.Requests.{HasAsked}
use Rattle.turn_pieces.specs.Right.{IsSeen, SeenFor, SeenMade, HeldHere, MayBe, AreFenced, IsFetch, IsExec, IsGiveUp, IsCalled, IsInterrupt, IsOwnStart, IsStart, IsStop, IsCount, IsAwait, IsFit}
use Rattle.run_laws.proofs.Same.{same_steps, same_before, AtTop, same_top, same_stood, same_held, same_drawn, same_handed, same_flushed, same_asked}
use Rattle.turn_pieces.specs.Doing.{AreFollowing, first_drawn}

all_map : {A : Type 0} (P Q : A → Type 0) (xs : List A) → ((x : A) → P x → Q x) → AllByRecursion P xs → AllByRecursion Q xs
all_map P Q [] f k = tt
all_map P Q (x ∷ xs) f k = (f x k.0, all_map P Q xs f k.1)

module _ (u : Setup) (a : ℕ) (l : Log) (t : Placed) (r : List Placed) (is : placed_of l ≡ t ∷ r) (run_is : run_of (t ∷ r) ≡ events_of l) where
  abbrev p : List Placed
  p = t ∷ r

  part_is : own_part u a l ≡ part_at u a p
  part_is = ap (λ run. own_of a run (own (hart (initial u) a))) (sym run_is)

  -- from what is said of the log's part and events
  by_part : (P : Own → List Event → Type 0) → P (own_part u a l) (events_of l) → P (part_at u a p) (run_of p)
  by_part P x = subst (λ run. P (own_of a run (own (hart (initial u) a))) run) (sym run_is) x

  at_top : (P : Step → Type 0) → AtLast P l → P t.step
  at_top P x = let one : AtTop P (placed_of l) = subst (λ A. A) (sym (same_top P l)) x in subst (AtTop P) is one

  to_last : (P : Step → Type 0) → P t.step → AtLast P l
  to_last P x = subst (λ A. A) (same_top P l) (subst (AtTop P) (sym is) x)

  stood : (stop : Event → Bool) (xs : List Found) → HasStood stop xs l → Stood stop xs p
  stood stop xs x = subst (Stood stop xs) is (same_stood stop xs l x)

  before_is : placed_of (before l) ≡ r
  before_is = same_before l ∙ ap (drop 1) is

  shown : (pages h : ℕ) (c : Arch) (kind : Kind) (va : ℕ) (end : Walked) → IsSeen pages h c kind va end l → IsShown pages h c kind va end p
  shown pages h c kind va end x = record { finds = x.finds; is_end = x.is_end; stood = stood (renews h va end) (reads_of pages (regime c) va x.finds) x.stood }

  shown_for : (pages h : ℕ) (c : Arch) (w : Option Wanted) (walk second : Walked) → SeenFor pages h c w walk second l → ShownFor pages h c w walk second p
  shown_for pages h c None walk second x = tt
  shown_for pages h c (Some w) walk second x = record {
    first_page = shown pages h c w.kind w.va walk x.first_page;
    second_page = λ k j. shown pages h c w.kind (second_va w.va) second (x.second_page k j);
  }

  shown_made : (pages h : ℕ) (c : Arch) (w : Option Wanted) (walks : List Walked) → SeenMade pages h c w walks l → ShownMade pages h c w walks p
  shown_made pages h c w [] x = tt
  shown_made pages h c None (y ∷ ys) x = absurd x
  shown_made pages h c (Some w) (y ∷ []) x = shown pages h c w.kind w.va y x
  shown_made pages h c (Some w) (y ∷ z ∷ []) x = (shown pages h c w.kind w.va y x.0, x.1, x.2, shown pages h c w.kind (second_va w.va) z x.3)
  shown_made pages h c (Some w) (y ∷ z ∷ v ∷ ys) x = absurd x

  may_be : (w : Surroundings) → Sees u a t.step p w → MayBe u a l w
  may_be w x = record {
    layout = x.layout;
    words = x.words;
    here = to_last (HeldHere u w) (x.here, x.modes);
    section = λ k y v s e. x.section (subst (λ h. Rattle.step_laws.specs.Sections.IsInSection u.layout a h) (sym steps_are) k) y v s (ap (λ q. Rattle.run_laws.proofs.Kept.held_at y q) (sym is) ∙ (same_held y l ∙ e));
    started = λ lt e. x.started lt (ap (λ (o : Own). o.runs) (sym part_is) ∙ e);
    follow = subst AreFollowing drawn_is x.follow;
    room = λ i e. x.room i (ap first_drawn drawn_is ∙ e);
  }
    where
      steps_are : steps p ≡ steps_of l
      steps_are = ap steps (sym is) ∙ same_steps l

      drawn_is : drawn p ≡ places l
      drawn_is = ap drawn (sym is) ∙ same_drawn l

  fenced : (f : Option Flushing) → AreFenced a l f → FencesShown a p f
  fenced None x = tt
  fenced (Some f) x = all_map (λ t. (t ≡ a → Flushed (events_of l) a a f.what) × (t ≢ a → HasAsked a t f.what l))
      (λ t. (t ≡ a → Flushed (run_of p) a a f.what) × (t ≢ a → AskedFor a t f.what p)) f.harts
      (λ c k. ((λ e. subst (λ run. Flushed run a a f.what) (sym run_is) (k.0 e)), (λ ne. subst (AskedFor a c f.what) is (same_asked a c f.what l (k.1 ne))))) x

  fit_fetch : (walk : Walked) (code : Code) → IsFetch u a l walk code (own_part u a l) → FitsFetch u a t.step p walk code
  fit_fetch walk code x = record {
    runs = by_part (λ o run. o.runs ≡ true) x.runs;
    holds_none = by_part (λ o run. o.held ≡ None) x.holds_none;
    not_due = by_part (λ o run. is_due u.limit run a o.count ≡ false) x.not_due;
    ipi = x.ipi;
    loaded = stood (is_of a) (found ipi_word x.ipi ∷ []) x.loaded;
    quiet = by_part (λ o run. is_pending o.arch a x.ipi ≡ false) x.quiet;
    shown = by_part (λ o run. IsShown u.layout.pages a o.arch Kind.Fetch o.arch.pc walk p)
        (shown u.layout.pages a (own_part u a l).arch Kind.Fetch (own_part u a l).arch.pc walk x.shown);
    fetched = by_part (λ o run. FetchedAt t.step o.arch.pc walk code) (at_top (λ s. FetchedAt s (own_part u a l).arch.pc walk code) x.fetched);
  }

  fit_exec : (walk second : Walked) (did : Outcome) → IsExec u a l walk second did (own_part u a l) → FitsExec u a t.step p walk second did
  fit_exec walk second did x = record {
    holds = by_part (λ o run. IsSome o.held) x.holds;
    shown = by_part (λ o run. ShownFor u.layout.pages a o.arch (access_of (need_held o.arch o.held)) walk second p)
        (shown_for u.layout.pages a (own_part u a l).arch (access_of (need_held (own_part u a l).arch (own_part u a l).held)) walk second x.shown);
    flushed = λ w s. by_part (λ o run. FencesShown a p (flushing w a o.arch (need_held o.arch o.held)))
        (fenced (flushing w a (own_part u a l).arch (need_held (own_part u a l).arch (own_part u a l).held)) (x.flushed w (may_be w s)));
    right = λ w s. by_part (λ o run. did ≡ Rattle.machine_model.specs.Perform.perform w a o.arch walk second (need_held o.arch o.held)) (x.right w (may_be w s));
  }

  fit_give_up : (walks : List Walked) → IsGiveUp u a l walks (own_part u a l) → FitsGiveUp u a p walks
  fit_give_up walks x = record {
    holds = by_part (λ o run. IsSome o.held) x.holds;
    shown = by_part (λ o run. ShownMade u.layout.pages a o.arch (access_of (need_held o.arch o.held)) walks p)
        (shown_made u.layout.pages a (own_part u a l).arch (access_of (need_held (own_part u a l).arch (own_part u a l).held)) walks x.shown);
  }

  fit_interrupt : IsInterrupt u a l (own_part u a l) → FitsInterrupt u a t.step p
  fit_interrupt x =
      let k = at_top (IsCalled a (own_part u a l).arch) x.called in record {
        runs = by_part (λ o run. o.runs ≡ true) x.runs;
        holds_none = by_part (λ o run. o.held ≡ None) x.holds_none;
        not_due = by_part (λ o run. is_due u.limit run a o.count ≡ false) x.not_due;
        word = k.0;
        op = k.1;
        pending = by_part (λ o run. IsTrue (is_pending o.arch a t.step.answer)) k.2;
      }

  fit_start : (at opaque : ℕ) → IsStart u a l at opaque (own_part u a l) → FitsStart u a t.step p at opaque
  fit_start at opaque x =
      let k = at_top (IsOwnStart a) x.stored in record {
        not_due = by_part (λ o run. is_due u.limit run a o.count ≡ false) x.not_due;
        word = k.0;
        op = k.1;
        arg = k.2;
        at_is = ap (handed_word a (Start a)) (sym before_is) ∙ (same_handed a (Start a) (before l) ∙ x.at_is);
        opaque_is = ap (handed_word a (Opaque a)) (sym before_is) ∙ (same_handed a (Opaque a) (before l) ∙ x.opaque_is);
        flushed = ap (flushed_waiting a) (sym before_is) ∙ (same_flushed a (before l) ∙ x.flushed_all);
      }

  fit_stop : (reason : Reason) → IsStop u a l reason (own_part u a l) → FitsStop u a p reason
  fit_stop (Reason.Limit h) x = (x.0, x.1, by_part (λ o run. is_due u.limit run a o.count ≡ true) x.2)
  fit_stop Reason.AllStopped x = (
    by_part (λ o run. IsTrue (passes leaves (last_of a run))) x.0,
    ap (was_last a) (ap steps (sym before_is) ∙ same_steps (before l)) ∙ x.1,
  )
  fit_stop Reason.Stopped x = (x.0, by_part (λ o run. NextLine (script_of u.script run) StopAll) x.1)
  fit_stop Reason.Pass x = absurd x
  fit_stop (Reason.Fail code) x = absurd x
  fit_stop Reason.OutFull x = absurd x

  fit_await : (count : ℕ) → IsAwait u l count → FitsAwait u t.step p count
  fit_await count x =
      let k = at_top (IsCount count) x.loaded in record {
        line = by_part (λ o run. NextLine (script_of u.script run) (AwaitBytes count)) x.line;
        word = k.0;
        op = k.1;
        enough = k.2;
        room = x.room;
        none_open = ap Rattle.run_laws.proofs.Kept.drawn (sym is) ∙ (same_drawn l ∙ x.none_open);
      }

  began : a ≡ monitor → (P : Bool → Type 0) → P (passes is_snap_begin (last_of monitor (events_of l))) → P (passes is_snap_begin (last_of a (run_of p)))
  began is P x = by_part (λ o run. P (passes is_snap_begin (last_of a run))) (subst (λ b. P (passes is_snap_begin (last_of b (events_of l)))) (sym is) x)

  pub fits : (e : Event) → IsFit u a l e (own_part u a l) → Fits u a t.step p e
  fits (Fetch h walk code) x = (x.0, fit_fetch walk code x.1)
  fits (Exec h walk second did) x = (x.0, fit_exec walk second did x.1)
  fits (GiveUp h walks) x = (x.0, fit_give_up walks x.1)
  fits (Interrupt h) x = (x.0, fit_interrupt x.1)
  fits (Flushes h what) x = (x.0, by_part (λ o run. is_due u.limit run a o.count ≡ false) x.1)
  fits (Begin h at opaque) x = (x.0, fit_start at opaque x.1)
  fits (Stop by reason) x = fit_stop reason x
  fits (Await count) x = (x.0, fit_await count x.1)
  fits SnapBegin x = (x.0, by_part (λ o run. NextLine (script_of u.script run) Snapshot) x.1.line, began x.0 (λ o. o ≡ false) x.1.none_begun)
  fits (SnapEnd pages) x = (x.0, by_part (λ o run. NextLine (script_of u.script run) Snapshot) x.1.line, began x.0 IsTrue x.1.begun)
  fits (Dump at bytes) x = (x.0, by_part (λ o run. NextLine (script_of u.script run) (DumpBytes at (Rattle.std.specs.Prelude.length bytes))) x.1, λ w s. x.2 w (may_be w s))
