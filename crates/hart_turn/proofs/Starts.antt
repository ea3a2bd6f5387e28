-- A stopped hart's start: what goes with it behind one, and where it wasn't called or its lock was held.
use Rattle.std.proofs.Common.{[], ◌≡◌, ℕ, ◌+◌, Bool, true, false, None, refl, sym, ap, subst, ◌∙◌}
use Rattle.std.specs.Prelude.{IfNone, IfSome, Option, Some, ◌==◌, if◌then◌else◌}
use Rattle.std.proofs.lemmas.Bool.{eq-eqb}
use Rattle.rv64_priv.specs.Csr.{regime}
use Rattle.rv64_priv.specs.State.{Arch}
use Rattle.rv64_exec.specs.Code.{Code}
use Rattle.step_laws.specs.declared.steps.WordOp.TheVariants.{Exchange, Load, Store}
use Rattle.step_laws.specs.Harts.{closed, is_owing, is_owing_next, is_running, is_running_next, opening, opening_next}
use Rattle.step_laws.specs.Map.{Word, Hsm, Lock, Opaque, Size, Start as StartWord, Tlb}
use Rattle.machine_model.specs.Change.{begun_arch}
use Rattle.machine_model.specs.State.{Setup}
use Rattle.guest_ram.specs.Areas.{IsAside}
use Rattle.guest_ram.specs.Ports.{GoesBy, Made, Shown}
use Rattle.guest_ram.proofs.Moves.{actor_goes, fold_adds, stands_goes}
use Rattle.tlb_entry.specs.declared.books.Book.{Book}
use Rattle.tlb_table.proofs.Aside.{IsOffTable}
use Rattle.kept_fills.specs.Beside.{IsBeside}
use Rattle.work_queue.proofs.Ringed.{IsNoPlace, sent_goes, served_goes}
use Rattle.rv64_priv.specs.Flush.{Full}
use Rattle.rv64_priv.specs.declared.state.Regime.{Regime}
use Rattle.flush.specs.Flushed.{behind_flush}
use Rattle.guest_access.specs.Reaching.{KnowsFills}
use Rattle.hart_signals.specs.declared.starts.Start.{Start}
use Rattle.hart_signals.specs.Starts.{HasBegun, HasFoundHeld, HasFoundStopped, IsOfStart}
use Rattle.hart_signals.proofs.Aside.{IsOffStates, opening_goes, owing_goes, running_goes}
use Rattle.turn_pieces.specs.Grows.{Ends}
use Rattle.turn_pieces.specs.Log.{Log}
use Rattle.turn_pieces.specs.Writers.{quietly}
use Rattle.access_pieces.specs.Serving.{Rests}
use Rattle.fence_pieces.specs.Asking.{HasPassed}
use Rattle.signal_pieces.specs.Signalling.{ComesTo, nobody}
use Rattle.signal_pieces.proofs.Single.{goes_one}
use Rattle.signal_pieces.proofs.Starting.{held_starts_pass, starts_stand, stopped_pass}
use Rattle.hart_turn.specs.declared.hart.Call.{Call}
use Rattle.hart_turn.specs.declared.hart.Hart.{Hart}
use Rattle.hart_turn.specs.Harts.{GoesWith, IsCallOf, own_of}
use Rattle.hart_turn.specs.Logs.{AtEnd, AtWork, IsCallIn, WorksToEnd}
use Rattle.hart_turn.specs.Parts.{HasStarted, waits}
use Rattle.hart_turn.proofs.Aside.{IsNoEnd, fills_goes, stand_as, stop_goes}
use Rattle.hart_turn.proofs.Looks.{call_none, holds_none}
use Rattle.hart_turn.proofs.Draws.{start_neither}
use Rattle.hart_turn.proofs.Said.{said_goes}

pub stopped_of : (o : Option Start) (p q : Shown) (b b' : Book) → o ≡ None → IfNone o (HasFoundStopped p q b b') → HasFoundStopped p q b b'
stopped_of o p q b b' is x = subst (λ z. IfNone z (HasFoundStopped p q b b')) is x

pub begun_of : (o : Option Start) (start : Start) (p q : Shown) (b b' : Book) → o ≡ Some start → IfSome o (λ s. HasBegun s p q b b') → HasBegun start p q b b'
begun_of o start p q b b' is x = subst (λ z. IfSome z (λ s. HasBegun s p q b b')) is x

-- words of a start
start_aside : (w : Word) → IsOfStart w → IsAside w
start_aside (Hsm h) t = tt
start_aside (StartWord h) t = tt
start_aside (Opaque h) t = tt
start_aside (Lock h) t = tt
start_aside (Size h) t = tt
start_aside (Tlb h j f) t = tt
start_aside w t = absurd t

start_no_place : (w : Word) → IsOfStart w → IsNoPlace w
start_no_place (Hsm h) t = tt
start_no_place (StartWord h) t = tt
start_no_place (Opaque h) t = tt
start_no_place (Lock h) t = tt
start_no_place (Size h) t = tt
start_no_place (Tlb h j f) t = tt
start_no_place w t = absurd t

start_no_end : (w : Word) → IsOfStart w → IsNoEnd w
start_no_end (Hsm h) t = tt
start_no_end (StartWord h) t = tt
start_no_end (Opaque h) t = tt
start_no_end (Lock h) t = tt
start_no_end (Size h) t = tt
start_no_end (Tlb h j f) t = tt
start_no_end w t = absurd t

-- what a hart's own state says of it: whether it runs, makes a start, and owes a step on LIVE
pub record IsOf (running : Bool) (q : Shown) : Type 0 where
  pub runs : is_running q.own.actor q.own.runs q.own.steps ≡ running
  pub free : opening q.own.steps ≡ closed
  pub paid : is_owing q.own.actor q.own.steps ≡ false

-- a look at it changes nothing
looks_at : (running : Bool) (p q : Shown) (found : ℕ) → Made p q (Hsm p.own.actor) Load 0 found → IsOf running p → IsOf running q
looks_at running p q found m x = record {
  runs = ap (λ (z : Shown). is_running z.own.actor z.own.runs q.own.steps) m.step ∙ fold_adds (is_running_next p.own.actor) p.own.runs p q m.word 0 found Load (Hsm p.own.actor) m.step m.name ∙ x.runs;
  free = fold_adds opening_next closed p q m.word 0 found Load (Hsm p.own.actor) m.step m.name ∙ x.free;
  paid = ap (λ (z : Shown). is_owing z.own.actor q.own.steps) m.step ∙ fold_adds (is_owing_next p.own.actor) false p q m.word 0 found Load (Hsm p.own.actor) m.step m.name ∙ x.paid;
}

locks_at : (running : Bool) (p q : Shown) (hart holder : ℕ) → Made p q (Lock hart) (Exchange 0) (p.own.actor + 1) holder → IsOf running p → IsOf running q
locks_at running p q hart holder m x =
    let goes = goes_one p q (Lock hart) (Exchange 0) (p.own.actor + 1) holder m in
    let off : (w : Word) → w ≡ Lock hart → IsOffStates w = λ w e. subst IsOffStates (sym e) tt in record {
      runs = running_goes 1 (λ v. v ≡ Lock hart) p q off goes ∙ x.runs;
      free = opening_goes 1 (λ v. v ≡ Lock hart) p q off goes ∙ x.free;
      paid = owing_goes 1 (λ v. v ≡ Lock hart) p q off goes ∙ x.paid;
    }

own_test : {A : Type 0} (a : ℕ) (x y : A) → (if a == a then x else y) ≡ x
own_test a x y = ap (λ (b : Bool). if b then x else y) (eq-eqb a a refl)

begins_at : (p q : Shown) → Made p q (Hsm p.own.actor) Store 0 0 → is_running q.own.actor q.own.runs q.own.steps ≡ true → IsOf true q
begins_at p q m runs = record {
  runs = runs;
  free = fold_adds opening_next closed p q m.word 0 0 Store (Hsm p.own.actor) m.step m.name;
  paid = ap (λ (z : Shown). is_owing z.own.actor q.own.steps) m.step ∙ fold_adds (is_owing_next p.own.actor) false p q m.word 0 0 Store (Hsm p.own.actor) m.step m.name ∙ own_test p.own.actor false (is_owing p.own.actor p.own.steps);
}

-- what goes with it behind such steps
module _ (n : ℕ) (h : Hart) (p q : Shown) (goes : GoesBy n IsOfStart p q) (can : GoesWith h p) (stopped : h.runs ≡ false) where
  nothing : h.call ≡ Call.Nothing
  nothing = can.stopped stopped

  with_start : (c : Arch) (running : Bool) (book : Book) → IsBeside book q → KnowsFills book (regime c) q → IsOf running q → GoesWith (record h { arch = c; runs = running; book = book }) q
  with_start c running book beside fills is = record {
    beside = beside;
    fills = fills;
    number = can.number ∙ sym (actor_goes n IsOfStart p q goes);
    runs = is.runs;
    free = is.free;
    paid = is.paid;
    stands = (let x = stand_as h p q can.stands (stands_goes n IsOfStart p q start_aside goes) in record { phase_is = x.phase_is; claim_is = x.claim_is; quantum = x.quantum });
    sent = sent_goes n IsOfStart p q start_no_place goes h.sent can.sent;
    served = served_goes n IsOfStart p q start_no_place goes h.served can.served;
    below = λ unsaid. can.below (sym (stop_goes n IsOfStart p q start_no_end goes) ∙ unsaid);
    call = subst (λ (z : Call). IsCallOf z h.sent c q) (sym nothing) tt;
    stopped = λ e. nothing;
  }

  -- as it was
  before : IsOf h.runs p
  before = record { runs = can.runs; free = can.free; paid = can.paid }

  pub with_stopped : (book : Book) → IsBeside book q → HasFoundStopped p q h.book book → GoesWith (record h { book = book }) q
  with_stopped book beside x = with_start h.arch h.runs book beside
      (subst (λ (z : Book). KnowsFills z (regime h.arch) q) (sym x.book) (fills_goes h.book (regime h.arch) 1 (λ v. v ≡ Hsm p.own.actor) p q (λ v e. subst IsOffTable (sym e) tt) (goes_one p q (Hsm p.own.actor) Load 0 x.found x.finds) can.fills))
      (looks_at h.runs p q x.found x.finds before)

  pub with_held : (holder : ℕ) (book : Book) → IsBeside book q → HasFoundHeld holder p q h.book book → GoesWith (record h { book = book }) q
  with_held holder book beside x = with_start h.arch h.runs book beside
      (subst (λ (z : Book). KnowsFills z (regime h.arch) q) (sym x.busy.book) (fills_goes h.book (regime h.arch) 1 (λ v. v ≡ Lock h.book.hart) x.called q (λ v e. subst IsOffTable (sym e) tt) (goes_one x.called q (Lock h.book.hart) (Exchange 0) (x.called.own.actor + 1) holder x.busy.found.1)
      (fills_goes h.book (regime h.arch) 1 (λ v. v ≡ Hsm p.own.actor) p x.called (λ v e. subst IsOffTable (sym e) tt) (goes_one p x.called (Hsm p.own.actor) Load 0 2 x.finds) can.fills)))
      (locks_at h.runs x.called q h.book.hart holder x.busy.found.1 (looks_at h.runs p x.called 2 x.finds before))

  -- behind the start
  fills_begun : (r : Regime) (start : Start) (book : Book) → HasBegun start p q h.book book → KnowsFills book r q
  fills_begun r start book x =
      let called = fills_goes h.book (regime h.arch) 1 (λ v. v ≡ Hsm p.own.actor) p x.called (λ v e. subst IsOffTable (sym e) tt) (goes_one p x.called (Hsm p.own.actor) Load 0 2 x.finds) can.fills in
      let flushed : KnowsFills book r x.flushed = record {
        items = behind_flush Full x.goes.added called.items;
        fills = [];
        goes = x.flushes.goes x.goes.added (regime h.arch) r called.items called.fills (ap (λ (y : Shown). y.own.steps) x.goes.grown) called.goes;
      } in
      let placed = fills_goes book r 1 (λ v. v ≡ StartWord p.own.actor) x.flushed x.placed (λ v e. subst IsOffTable (sym e) tt) (goes_one x.flushed x.placed (StartWord p.own.actor) Load 0 start.at x.places) flushed in
      let handed = fills_goes book r 1 (λ v. v ≡ Opaque p.own.actor) x.placed x.handed (λ v e. subst IsOffTable (sym e) tt) (goes_one x.placed x.handed (Opaque p.own.actor) Load 0 start.opaque x.hands) placed in
      fills_goes book r 1 (λ v. v ≡ Hsm p.own.actor) x.handed q (λ v e. subst IsOffTable (sym e) tt) (goes_one x.handed q (Hsm p.own.actor) Store 0 0 x.begins) handed

  state_begun : (start : Start) (book : Book) → HasBegun start p q h.book book → IsOf true q
  state_begun start book x =
      let own : x.handed.own.actor ≡ p.own.actor = sym (ap (λ (z : Shown). z.own.actor) x.begins.step) ∙ actor_goes n IsOfStart p q goes in
      begins_at x.handed q (subst (λ a. Made x.handed q (Hsm a) Store 0 0) (sym own) x.begins) x.runs

  pub with_begun : (c : Arch) (start : Start) (book : Book) → IsBeside book q → HasBegun start p q h.book book → GoesWith (record h { arch = c; runs = true; book = book }) q
  with_begun c start book beside x = with_start c true book beside (fills_begun (regime c) start book x) (state_begun start book x)

  -- and with its log
  module _ (u : Setup) (a : ℕ) (l : Log) (x : AtWork h p u a l) where
    none : x.ends.held ≡ None
    none = holds_none h.call h.sent h.arch p x.ends.held a l nothing x.ends.call

    rests : Rests nobody (own_of h x.ends.held) p h.book (regime h.arch) u a l
    rests = record { tells = x.ends.settles.tells; idle = x.idle; settled = x.ends.settles.settled }

    passed_on : (book : Book) → HasPassed nobody (own_of h x.ends.held) p q book (regime h.arch) u a l → Ends u a l (AtEnd (record h { book = book }) q u a)
    passed_on book y = record {
      late = quietly y.added l;
      grows = y.grows;
      holds = record {
        limit_is = x.ends.limit_is;
        held = x.ends.held;
        settles = record { tells = y.rests.tells; settled = y.rests.settled };
        not_due = y.not_due;
        said = said_goes n IsOfStart p q u a l (quietly y.added l) start_neither goes x.ends.settles.tells.tells.stands.is y.rests.tells.tells.stands.is y.grows x.ends.said;
        call = subst (λ (z : Option Code). IsCallIn h.call h.sent h.arch q z a (quietly y.added l)) (sym none) (call_none h.call h.sent h.arch q a (quietly y.added l) nothing);
      };
    }

    begun_on : (start : Start) (book : Book) (c : Arch) → c ≡ begun_arch h.number start.at start.opaque → HasBegun start p q h.book book → Ends u a l (AtEnd (record h { arch = c; runs = true; book = book }) q u a)
    begun_on start book c is y =
        let own : h.number ≡ a = can.number ∙ sym rests.tells.tells.stands.actor in
        let same : begun_arch a start.at start.opaque ≡ c = ap (λ m. begun_arch m start.at start.opaque) (sym own) ∙ sym is in
        let z = starts_stand start p q h.book book (regime h.arch) (regime c) can.beside y nobody (own_of h x.ends.held) u a l rests x.ends.not_due in
        let t = subst (λ (d : Arch). ComesTo nobody (record (own_of h x.ends.held) { arch = d; runs = true }) q book (regime c) u a l) same z in record {
          late = t.late;
          grows = t.grows;
          holds = record {
            limit_is = x.ends.limit_is;
            held = x.ends.held;
            settles = t.settles;
            not_due = t.not_due;
            said = said_goes n IsOfStart p q u a l t.late start_neither goes x.ends.settles.tells.tells.stands.is t.settles.tells.tells.stands.is t.grows x.ends.said;
            call = subst (λ (d : Option Code). IsCallIn h.call h.sent c q d a t.late) (sym none) (call_none h.call h.sent c q a t.late nothing);
          };
        }

  pub stopped_works : (book : Book) → HasFoundStopped p q h.book book → WorksToEnd h (record h { book = book }) p q
  stopped_works book y u a l x = passed_on u a l x book (stopped_pass p q h.book book (regime h.arch) y nobody (own_of h x.ends.held) u a l (rests u a l x) x.ends.not_due)

  pub held_works : (holder : ℕ) (book : Book) → HasFoundHeld holder p q h.book book → WorksToEnd h (record h { book = book }) p q
  held_works holder book y u a l x = passed_on u a l x book (held_starts_pass holder p q h.book book (regime h.arch) y nobody (own_of h x.ends.held) u a l (rests u a l x) x.ends.not_due)

  pub begun_works : (start : Start) (book : Book) (c : Arch) → c ≡ begun_arch h.number start.at start.opaque → HasBegun start p q h.book book → WorksToEnd h (record h { arch = c; runs = true; book = book }) p q
  begun_works start book c is y u a l x = begun_on u a l x start book c is y

pub waits_still : (h : Hart) (p q : Shown) (book : Book) → HasFoundStopped p q h.book book → HasStarted h (record h { book = book }) p q false
waits_still h p q book x = waits (ap (λ z. record h { book = z }) x.book) x
