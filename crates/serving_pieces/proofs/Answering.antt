-- A request that was served, in its hart's log: the load, the flush with its event, and the ack.
use Rattle.std.proofs.Common.{◌≡◌, ◌≢◌, ℕ, ◌+◌, Bool, true, false, List, [], ◌∷◌, ◌++◌, None, Some, refl, sym, ap, subst, ◌∙◌, arith, inl, eq-eqb, le-leb}
use Rattle.std.proofs.lemmas.Bool.{and_from}
use Rattle.std.specs.Prelude.{Option, nat_le, ◌==◌, if◌then◌else◌}
use Rattle.rv64_priv.specs.Flush.{Flush, Full, Pages}
use Rattle.rv64_priv.specs.declared.state.Regime.{Regime}
use Rattle.step_laws.specs.declared.request.Request.{Request}
use Rattle.step_laws.specs.declared.request.Request.TheVariants.{FlushAll, FlushPages, Drain}
use Rattle.step_laws.specs.declared.steps.Step.{Step}
use Rattle.step_laws.specs.declared.steps.WordOp.{WordOp}
use Rattle.step_laws.specs.declared.steps.WordOp.TheVariants.{Load, Store}
use Rattle.step_laws.specs.Discipline.{IsDrain, IsUnlock}
use Rattle.step_laws.specs.Fields.{IsWordOf, request_count, request_page}
use Rattle.step_laws.specs.Map.{Word, Lock, Place, Size, Tlb}
use Rattle.step_laws.specs.Places.{last_load, last_load_next}
use Rattle.step_laws.proofs.Named.{same_refl}
use Rattle.machine_model.specs.Event.{Flushes}
use Rattle.machine_model.specs.Own.{Own}
use Rattle.machine_model.specs.Run.{includes, last_of}
use Rattle.machine_model.specs.State.{Setup}
use Rattle.guest_ram.specs.Areas.{IsOfPlaces, IsOfTable}
use Rattle.guest_ram.specs.Ports.{Shown, Made, GoesBy}
use Rattle.guest_ram.proofs.Moves.{acting_adds, fold_adds, fold_goes, goes_made}
use Rattle.tlb_entry.specs.declared.books.Book.{Book}
use Rattle.kept_fills.specs.Beside.{IsBeside}
use Rattle.work_queue.specs.Rings.{next_ack}
use Rattle.turn_pieces.specs.Grows.{Grows, makes, stays}
use Rattle.turn_pieces.specs.Log.{AtLast, Log, did, events_of, made, steps_of}
use Rattle.turn_pieces.specs.Owed.{MayMake, books, owed}
use Rattle.turn_pieces.specs.Requests.{HasFetched, HasFlushed, flush_of}
use Rattle.turn_pieces.specs.Writers.{quietly}
use Rattle.turn_pieces.proofs.Writers.{grows_then, may_clear, may_named, not_due_behind}
use Rattle.flush.specs.Flushed.{full_steps}
use Rattle.table_pieces.specs.Flushing.{IsPlaced, flush_made}
use Rattle.table_pieces.proofs.Placing.{full_is_placed, pages_are_placed}
use Rattle.request_serving.specs.Served.{HasFlushedFor}
use Rattle.request_serving.proofs.Aside.{beside_places}
use Rattle.serving_pieces.specs.Laws.{RequestsAreServed}
use Rattle.serving_pieces.specs.Serving.{IsAtRest, with_flush}
use Rattle.serving_pieces.proofs.Stepping.{load_grows, load_rests, place_same, rests_behind, step_made}

-- A hart stays beside its table over a step on a place
pub beside_place : (b : Book) (p q : Shown) (t s k : ℕ) (op : WordOp) (arg answer : ℕ) → Made p q (Place t s k) op arg answer → IsBeside b p → IsBeside b q
beside_place b p q t s k op arg answer m can =
    beside_places b 1 p q can (goes_made IsOfPlaces p q (Place t s k) op arg answer m tt) (acting_adds p q m.word arg answer op (Place t s k) m.step m.name (λ z. refl) can.acting)

-- no step on the table is on a place
load_aside : (t s k : ℕ) (w : Word) (op : WordOp) (arg answer : ℕ) (x : Option ℕ) → IsOfTable w → last_load_next (Place t s k) w op arg answer x ≡ x
load_aside t s k (Lock h) op arg answer x off = refl
load_aside t s k (Size h) op arg answer x off = refl
load_aside t s k (Tlb h j f) op arg answer x off = refl
load_aside t s k w op arg answer x off = absurd off

-- so behind them the place was last loaded as before
still_loaded : (n : ℕ) (p loaded q : Shown) (t s k word : ℕ) → Made p loaded (Place t s k) Load 0 word → GoesBy n IsOfTable loaded q → last_load (Place t s k) q.own.steps ≡ Some word
still_loaded n p loaded q t s k word m goes =
    fold_goes (last_load_next (Place t s k)) None n IsOfTable loaded q (λ w op arg answer x off. load_aside t s k w op arg answer x off) goes
    ∙ fold_adds (last_load_next (Place t s k)) None p loaded m.word 0 word Load (Place t s k) m.step m.name
    ∙ ap (λ (y : Bool). if y then Some word else last_load (Place t s k) p.own.steps) (same_refl (Place t s k))

-- what a request's word asks for is in the flush that was made for it
includes_pages : (large : Bool) (page count word : ℕ) → IsWordOf (FlushPages page count) word → includes (flush_made large page count) (flush_of word) ≡ true
includes_pages true page count word is = refl
includes_pages false page count word is =
    ap (λ n. includes (Pages page count) (if n == 1 then Full else Pages (request_page word) (request_count word))) is.0
    ∙ ap (λ n. includes (Pages page count) (Pages n (request_count word))) is.2 ∙ ap (λ n. includes (Pages page count) (Pages page n)) is.1
    ∙ and_from (nat_le page page) (nat_le (page + count) (page + count)) (le-leb page page (omega arith)) (le-leb (page + count) (page + count) (omega arith))

-- The log goes on by what the request asks for, behind its load, and has what its ack needs
record IsFlushedIn (others : ℕ → Bool) (o : Own) (p q : Shown) (b b' : Book) (r : Regime) (request : Request) (u : Setup) (a : ℕ) (l : Log) : Type 0 where
  added : List Step
  steps_are : q.own.steps ≡ added ++ p.own.steps
  unlocks : request ≢ Drain → AtLast (IsUnlock a) (quietly added l)
  grows : Grows u a l (with_flush request b.large a (quietly added l))
  rests : IsAtRest others o q b' r u a (with_flush request b.large a (quietly added l))
  serves : (source place word : ℕ) → IsWordOf request word → HasFetched (Place a source place) word l → (IsDrain word → ⊥)
      → HasFlushed a (Place a source place) word (with_flush request b.large a (quietly added l))

module _ (others : ℕ → Bool) (o : Own) (p q : Shown) (b b' : Book) (r : Regime) (u : Setup) (a : ℕ) (l : Log) where
  by_flush : (request : Request) (what : Flush) → ((m : Log) → with_flush request b.large a m ≡ did (Flushes a what) ∷ m) → ((word : ℕ) → IsWordOf request word → includes what (flush_of word) ≡ true)
      → IsPlaced others o p q b' r what u a l → IsFlushedIn others o p q b b' r request u a l
  by_flush request what is asks x = let k = quietly x.added l in record {
    added = x.added;
    steps_are = x.steps_are;
    unlocks = λ ne. x.unlocks;
    grows = subst (λ (m : Log). Grows u a l m) (sym (is k)) x.grows;
    rests = subst (λ (m : Log). IsAtRest others o q b' r u a m) (sym (is k)) (record {
      rests = x.rests;
      not_due = not_due_behind u.limit (Flushes a what ∷ events_of k) a o.count (Flushes a what) (ap (λ (y : Bool). if y then Some (Flushes a what) else last_of a (events_of k)) (eq-eqb a a refl)) refl;
    });
    serves = λ source place word is_word fetched flushes. subst (λ (m : Log). HasFlushed a (Place a source place) word m) (sym (is k)) (x.serves source place word fetched (asks word is_word));
  }

  flushed_in : (request : Request) (most : ℕ) → IsBeside b p → HasFlushedFor request p q b b' → GoesBy most IsOfTable p q → IsAtRest others o p b r u a l → IsFlushedIn others o p q b b' r request u a l
  flushed_in FlushAll most can f goes x = by_flush FlushAll Full (λ m. refl) (λ word is. refl) (full_is_placed p q b b' r r most can f goes others o u a l x.rests x.not_due)
  flushed_in (FlushPages page count) most can f goes x =
      by_flush (FlushPages page count) (flush_made b.large page count) (λ m. refl) (λ word is. includes_pages b.large page count word is) (pages_are_placed p q b b' r page count most can f goes others o u a l x.rests x.not_due)
  flushed_in Drain most can f goes x = record {
    added = [];
    steps_are = ap (λ (y : Shown). y.own.steps) f.0;
    unlocks = λ ne. absurd (ne refl);
    grows = stays;
    rests = subst (λ (y : Shown). IsAtRest others o y b' r u a l) (sym f.0) (subst (λ (c : Book). IsAtRest others o p c r u a l) (sym f.1) x);
    serves = λ source place word is_word fetched flushes. absurd (flushes is_word.0);
  }

pub requests_are_served : RequestsAreServed
requests_are_served source s s' p q b b' r can x others o u a l rest =
    let place = next_ack s source in
    let most = full_steps b.size + 386 in
    let own = p.own.actor in
    let find = x.finds.finds in
    let word = x.finds.word in
    let load = step_made p x.loaded (Place own source place) Load 0 word find in
    let m = made load ∷ l in
    let is_own : own ≡ a = sym rest.rests.tells.tells.stands.actor in
    let fetched : HasFetched (Place a source place) word m = inl (find.name ∙ ap (λ n. Place n source place) is_own, refl, refl) in
    let f = flushed_in others o x.loaded x.done.flushed b b' r u a m x.request most (beside_place b p x.loaded own source place Load 0 word find can) x.done.flushes x.done.goes
    (load_rests p x.loaded own source place word find others o b r u a l rest) in
    let late = with_flush x.request b.large a (quietly f.added m) in
    let t = f.rests.rests.tells.tells in
    let acks = x.done.acks in
    let acked = x.done.flushed.own.actor in
    let ack = step_made x.done.flushed q (Place acked source place) Store 0 0 acks in
    let last : last_load (Place a source place) (steps_of late) ≡ Some word = ap (λ (y : List Step). last_load (Place a source place) y) t.stands.is
    ∙ ap (λ n. last_load (Place n source place) x.done.flushed.own.steps) (sym is_own) ∙ still_loaded most p x.loaded x.done.flushed own source place word find x.done.goes in
    let may : MayMake u a late ack = may_named u a late ack (Place a source place) Store (acks.name ∙ ap (λ n. Place n source place) (sym t.stands.actor)) refl
    (may_clear u a (books late) (owed late) (Place a source place) Store acks.word 0 0 t.clear tt)
    (λ same n loads flushes. let is : word ≡ n = some_is (sym last ∙ loads) in
    subst (λ n. HasFlushed a (Place a source place) n late) is (f.serves source place word x.finds.is_word fetched (λ drain. flushes (subst IsDrain is drain)))) tt in record {
      load = load;
      added = f.added;
      ack = ack;
      steps_are = ap (λ (y : Shown). y.own.steps) acks.step ∙ ap (λ (y : List Step). ack ∷ y) (f.steps_are ∙ ap (λ (y : Shown). f.added ++ y.own.steps) find.step);
      unlocks = f.unlocks;
      grows = makes ack (grows_then u a l m (load_grows p x.loaded own source place word find others o b r u a l rest) f.grows) may;
      rests = rests_behind x.done.flushed q (Place acked source place) Store 0 0 acks tt (place_same x.done.flushed q acked source place Store 0 0 acks) others o b' r u a late f.rests;
    }
  where
    some_is : {m n : ℕ} → Some m ≡ Some n → m ≡ n
    some_is e = cc
