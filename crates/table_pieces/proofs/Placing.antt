-- The steps of a flush in its hart's log, with its event behind the last.
use Rattle.std.proofs.Common.{◌≡◌, ◌≢◌, ℕ, ◌+◌, ◌<◌, ◌≤◌, Bool, true, false, true≢false, List, [], ◌∷◌, ◌++◌, length, None, refl, sym, ap, subst, ◌∙◌, arith, inl, eq-eqb, leb-true, le-leb}
use Rattle.std.proofs.lemmas.Bool.{and_from, and_parts}
use Rattle.std.specs.Prelude.{nat_le, ◌==◌, ◌&&◌, ◌||◌, IsTrue, if◌then◌else◌}
use Rattle.rv64_priv.specs.Flush.{Flush, Full, Pages}
use Rattle.rv64_priv.specs.declared.state.Regime.{Regime}
use Rattle.step_laws.specs.declared.steps.Step.{Step}
use Rattle.step_laws.specs.declared.steps.WordOp.{WordOp}
use Rattle.step_laws.specs.declared.steps.WordOp.TheVariants.{Exchange, Store}
use Rattle.step_laws.specs.declared.words.Layout.{Layout}
use Rattle.step_laws.specs.Discipline.{IsAway, IsUnlock}
use Rattle.step_laws.specs.Harts.{Taking, idle as not_taking, taking, taking_next}
use Rattle.step_laws.specs.Map.{Word, Lock, Place, Size, Tlb, name_of}
use Rattle.machine_model.specs.Event.{Event, Flushes, did_of}
use Rattle.machine_model.specs.Lawful.{Flushed}
use Rattle.machine_model.specs.Own.{Own}
use Rattle.machine_model.specs.Past.{this}
use Rattle.machine_model.specs.Run.{flushes, includes, is_due}
use Rattle.machine_model.specs.State.{Setup}
use Rattle.guest_ram.specs.Areas.{IsOfTable}
use Rattle.guest_ram.specs.Plays.{step_of}
use Rattle.guest_ram.specs.Ports.{Shown, AreAllowed, GoesBy}
use Rattle.guest_ram.proofs.Moves.{fold_goes, goes_made}
use Rattle.tlb_entry.specs.declared.books.Book.{Book}
use Rattle.tlb_fill.proofs.Marking.{same_goes}
use Rattle.tlb_table.proofs.Aside.{IsOffTable}
use Rattle.kept_fills.specs.Beside.{IsBeside}
use Rattle.kept_fills.specs.Fills.{Fill, GoesWithFills}
use Rattle.kept_fills.proofs.Staying.{fills_stay}
use Rattle.walk_laws.specs.KeptWalks.{Item, flushed}
use Rattle.tlb_lock.specs.Locking.{HasFreed}
use Rattle.flush.specs.Flushed.{HasEnded, HasFlushed, behind_flush}
use Rattle.turn_pieces.specs.Doing.{IsCalm, IsQuiet}
use Rattle.turn_pieces.specs.Folds.{is_waiting}
use Rattle.turn_pieces.specs.Grows.{does}
use Rattle.turn_pieces.specs.Kept.{has_flushed_all, is_still_waiting, still_waiting_next}
use Rattle.turn_pieces.specs.KeptWalks.{flushes_in}
use Rattle.turn_pieces.specs.Log.{AtLast, Log, did, events_of, made, steps_of}
use Rattle.turn_pieces.specs.Owed.{books, nothing, owed, pays, unstored, unstored_did, PaysFor}
use Rattle.turn_pieces.specs.Requests.{HasFetched, flush_of}
use Rattle.turn_pieces.specs.Right.{IsFit}
use Rattle.turn_pieces.specs.Writers.{AreCalm, AreOn, IsInner, IsPlain, QuietBy, quietly}
use Rattle.turn_pieces.proofs.Unmarked.{unmarked_did}
use Rattle.turn_pieces.proofs.Writers.{calm_owes, places_did, quietly_grows, quietly_tells, tells_did}
use Rattle.access_pieces.specs.Serving.{Rests, view}
use Rattle.access_pieces.proofs.Awaited.{AreMarksOf, awaited_quietly}
use Rattle.access_pieces.proofs.Spots.{flushes_quietly}
use Rattle.table_pieces.specs.Flushing.{IsNotDue, IsPlaced, flush_made}
use Rattle.table_pieces.specs.Laws.{BusyRests, FullIsPlaced, PagesArePlaced}

-- steps on the words of tables need no event, and mark nothing
table_calm : (a : ℕ) (w : Word) (op : WordOp) (answer : ℕ) → IsOfTable w → IsCalm w op answer × IsPlain a w op
table_calm a (Lock h) op answer t = (tt, tt)
table_calm a (Size h) op answer t = (tt, tt)
table_calm a (Tlb h j f) op answer t = (tt, tt)
table_calm a w op answer t = absurd t

table_inner : (w : Word) → IsOfTable w → IsInner w
table_inner (Lock h) t = tt
table_inner (Size h) t = tt
table_inner (Tlb h j f) t = tt
table_inner w t = absurd t

table_marks : (w : Word) (op : WordOp) (arg page : ℕ) (b : Bool) → IsOfTable w → Rattle.turn_pieces.specs.Marks.awaited_next page w op arg b ≡ b
table_marks (Lock h) op arg page b t = refl
table_marks (Size h) op arg page b t = refl
table_marks (Tlb h j f) op arg page b t = refl
table_marks w op arg page b t = absurd t

table_away : (w : Word) (t s k : ℕ) → IsOfTable w → w ≢ Place t s k
table_away (Lock h) t s k x e = cc
table_away (Size h) t s k x e = cc
table_away (Tlb h j f) t s k x e = cc
table_away w t s k x e = absurd x

all_calm : (p : Shown) (a : ℕ) (r : List Step) → AreAllowed IsOfTable p r → AreCalm a r
all_calm p a [] k = tt
all_calm p a (s ∷ r) k = let x = table_calm a (name_of s.word) s.op s.answer k.0.0 in (x.0, x.1, all_calm p a r k.1)

all_inner : (p : Shown) (r : List Step) → AreAllowed IsOfTable p r → AreOn IsInner r
all_inner p [] k = tt
all_inner p (s ∷ r) k = (table_inner (name_of s.word) k.0.0, all_inner p r k.1)

all_marks : (p : Shown) (r : List Step) → AreAllowed IsOfTable p r → AreMarksOf [] r
all_marks p [] k = tt
all_marks p (s ∷ r) k = (λ page b out. table_marks (name_of s.word) s.op s.arg page b k.0.0, all_marks p r k.1)

fetched_quietly : (p : Shown) (t s k request : ℕ) (r : List Step) (l : Log) → AreAllowed IsOfTable p r → HasFetched (Place t s k) request l → HasFetched (Place t s k) request (quietly r l)
fetched_quietly p t s k request [] l all x = x
fetched_quietly p t s k request (y ∷ r) l all x = Rattle.std.proofs.Common.inr (table_away (name_of y.word) t s k all.0.0, fetched_quietly p t s k request r l all.1 x)

events_quietly : (r : List Step) (l : Log) → events_of (quietly r l) ≡ events_of l
events_quietly [] l = refl
events_quietly (s ∷ r) l = events_quietly r l

owes_quietly : (a : ℕ) (r : List Step) (l : Log) → AreCalm a r → owed l ≡ nothing → owed (quietly r l) ≡ nothing
owes_quietly a [] l c k = k
owes_quietly a (s ∷ r) l c k = calm_owes a (owed (quietly r l)) (unstored (quietly r l)) (name_of s.word) s.op s.word s.arg s.answer c.0 c.1

-- the last step of a log is the newest of its record
last_is : (P : Step → Type 0) (s : Step) (r : List Step) (l : Log) → steps_of l ≡ s ∷ r → P s → AtLast P l
last_is P s r [] e k = cc
last_is P s r (made x ∷ l) e k = let same : s ≡ x = cc in subst P same k
last_is P s r (did y ∷ l) e k = last_is P s r l e k

last_away : (h t s k : ℕ) (l : Log) → AtLast (IsUnlock h) l → AtLast (IsAway (Place t s k)) l
last_away h t s k [] x = x
last_away h t s k (made y ∷ l) x = λ e. lock_away h t s k (sym x.0 ∙ e)
  where
    lock_away : (h t s k : ℕ) → Lock h ≢ Place t s k
    lock_away h t s k e = cc
last_away h t s k (did y ∷ l) x = last_away h t s k l x

-- a hart that waits to begin waits still behind it
waits_on : (a : ℕ) (l : Log) → AtLast (IsUnlock a) l → is_still_waiting a l ≡ is_waiting (taking a (steps_of l))
waits_on a [] x = absurd x
waits_on a (made s ∷ l) x = ap (λ v. still_waiting_next a v s.op (is_waiting (taking a (steps_of l)))) x.0 ∙ sym (ap (λ v. is_waiting (taking_next a v s.op s.arg s.answer (taking a (steps_of l)))) x.0)
waits_on a (did e ∷ l) x = waits_on a l x

table_taking : (a : ℕ) (w : Word) (op : WordOp) (arg answer : ℕ) (x : Taking) → IsOfTable w → taking_next a w op arg answer x ≡ x
table_taking a (Lock h) op arg answer x t = refl
table_taking a (Size h) op arg answer x t = refl
table_taking a (Tlb h j f) op arg answer x t = refl
table_taking a w op arg answer x t = absurd t

or_true : (b : Bool) → (b || true) ≡ true
or_true true = refl
or_true false = refl

-- what a flush includes is flushed behind it
flushed_page : (what : Flush) (first count page : ℕ) → IsTrue (includes what (Pages first count)) → first ≤ page → page < first + count → includes what (Pages page 1) ≡ true
flushed_page Full first count page asks le lt = refl
flushed_page (Pages q n) first count page asks le lt =
    let k = and_parts (nat_le q first) (nat_le (first + count) (q + n)) asks in
    let low : q ≤ first = leb-true q first k.0 in
    let high : first + count ≤ q + n = leb-true (first + count) (q + n) k.1 in
    and_from (nat_le q page) (nat_le (page + 1) (q + n)) (le-leb q page (omega (arith, low, le))) (le-leb (page + 1) (q + n) (omega (arith, high, lt)))

own_flush : (a : ℕ) (what asked : Flush) → includes what asked ≡ true → IsTrue (flushes a asked (Flushes a what))
own_flush a what asked is = ap (λ (y : Bool). y && includes what asked) (eq-eqb a a refl) ∙ is

flushed_now : (a : ℕ) (what asked : Flush) (run : List Event) → IsTrue (includes what asked) → Flushed (Flushes a what ∷ run) a a asked
flushed_now a what Full run asks = this (own_flush a what Full asks)
flushed_now a what (Pages first count) run asks = λ page le lt. this (own_flush a what (Pages page 1) (flushed_page what first count page asks le lt))

quiet_flush : (h : ℕ) (what : Flush) → IsQuiet (Flushes h what)
quiet_flush h what = record { does = record { entry_is = refl; bytes_are = refl; reason_is = refl; starts_is = refl; stops_is = refl }; begins_not = refl }

-- a flush of this, by steps on the table of which the last frees the lock; the book goes with its record behind them by these fills
module _ (p q : Shown) (b b' : Book) (r later : Regime) (what : Flush) (most : ℕ) (can : IsBeside b p) (ended : HasEnded b.hart q) (goes : GoesBy most IsOfTable p q) (others : ℕ → Bool) (o : Own) (u : Setup) (a : ℕ) (l : Log) (x : Rests others o p b r u a l)
    (open_still : IsNotDue o u a l) (fills : List Fill) (kept : GoesWithFills q b' later (behind_flush what goes.added (flushes_in a l)) fills) where
  steps : List Step
  steps = goes.added

  calm : AreCalm a goes.added
  calm = all_calm p a goes.added goes.allowed

  quiet : QuietBy IsInner (length goes.added) (view p) (view q)
  quiet = record { added = goes.added; few = omega arith; grown = ap view goes.grown; calm = all_calm p p.own.actor goes.added goes.allowed; inner = all_inner p goes.added goes.allowed }

  hart : a < u.layout.harts
  hart = subst (λ n. n < u.layout.harts) (sym x.tells.tells.stands.actor) (subst (λ (y : Layout). p.own.actor < y.harts) (sym x.tells.tells.stands.layout) can.hart)

  is_own : b.hart ≡ a
  is_own = can.book.number ∙ sym x.tells.tells.stands.actor

  pub placed : IsPlaced others o p q b' later what u a l
  unfolding quiet
  placed =
      let k = quietly goes.added l in
      let e = Flushes a what in
      let t = quietly_tells IsInner (length goes.added) o (view p) (view q) u a l quiet x.tells.tells in
      let idle : owed k ≡ nothing = owes_quietly a goes.added l calm x.idle in
      let freed : HasFreed b.hart ended.0 q = ended.1 in
      let unlocks : AtLast (IsUnlock a) k = last_is (IsUnlock a) (step_of ended.0.own.actor freed.word Store 0 0) ended.0.own.steps k (t.stands.is ∙ ap (λ (y : Shown). y.own.steps) freed.step)
      (freed.name ∙ ap (λ n. Lock n) is_own, refl, refl) in
      let items : behind_flush what goes.added (flushes_in a l) ≡ flushes_in a (did e ∷ k) = ap (λ (y : List Item). flushed what ∷ y) (sym (flushes_quietly a goes.added l))
      ∙ sym (ap (λ (y : Bool). if y then flushed what ∷ flushes_in a k else flushes_in a k) (eq-eqb a a refl)) in record {
        added = goes.added;
        steps_are = ap (λ (y : Shown). y.own.steps) goes.grown;
        unlocks = unlocks;
        grows = does e (quietly_grows u a goes.added l calm x.tells.tells.clear x.tells.tells.none_drawn) (record {
          own = refl;
          fit = subst (IsFit u a k e) (sym t.stands.part_is) (hart, ap (λ run. is_due u.limit run a o.count) (events_quietly goes.added l) ∙ open_still);
          pays = subst (λ d. PaysFor a (books k) d e) (sym idle) (quiet_flush a what);
        });
        rests = record {
          tells = record {
            tells = tells_did o (view q) u a k e t.stands refl (places_did k e t.none_drawn) (ap (λ d. unstored_did d (did_of e).bytes (unstored k)) idle ∙ t.none_left);
            fills = fills;
            goes = subst (λ (y : List Item). GoesWithFills q b' later y fills) items kept;
          };
          idle = ap pays idle;
          settled = λ page free. unmarked_did u a page k e (awaited_quietly u a page [] goes.added l (all_marks p goes.added goes.allowed) refl ∙ x.settled page free);
        };
        flushes = λ asked asks. flushed_now a what asked (events_of k) asks;
        begins = λ full waits. ap (λ (y : Bool). has_flushed_all a k || (y && ((a == a) && includes what Full))) (waits_on a k unlocks
            ∙ ap (λ (r : List Step). is_waiting (taking a r)) t.stands.is ∙ ap is_waiting (fold_goes (taking_next a) not_taking most IsOfTable p q (λ w op arg answer z on. table_taking a w op arg answer z on) goes)
            ∙ sym (ap (λ (r : List Step). is_waiting (taking a r)) x.tells.tells.stands.is) ∙ waits) ∙ ap (λ (y : Bool). has_flushed_all a k || y) (own_flush a what Full full) ∙ or_true (has_flushed_all a k);
        serves = λ source place request fetched asks. inl (own_flush a what (flush_of request) asks, last_away a a source place k unlocks, fetched_quietly p a source place request goes.added l goes.allowed fetched);
      }

pub full_is_placed : FullIsPlaced
full_is_placed p q b b' r later most can f goes others o u a l x still =
    placed p q b b' r later Full most can f.ended goes others o u a l x still [] (f.goes goes.added r later (flushes_in a l) x.tells.fills (ap (λ (y : Shown). y.own.steps) goes.grown) x.tells.goes)

pages_placed : (p q : Shown) (b b' : Book) (r : Regime) (page count most : ℕ) → IsBeside b p → (large : Bool) → HasFlushed large p q b b' page count → GoesBy most IsOfTable p q
    → (others : ℕ → Bool) (o : Own) (u : Setup) (a : ℕ) (l : Log) → Rests others o p b r u a l → IsNotDue o u a l → IsPlaced others o p q b' r (flush_made large page count) u a l
pages_placed p q b b' r page count most can true f goes others o u a l x still = full_is_placed p q b b' r r most can f goes others o u a l x still
pages_placed p q b b' r page count most can false f goes others o u a l x still =
    placed p q b b' r r (Pages page count) most can f.ended goes others o u a l x still x.tells.fills (f.goes goes.added r (flushes_in a l) x.tells.fills (ap (λ (y : Shown). y.own.steps) goes.grown) x.tells.goes)

pub pages_are_placed : PagesArePlaced
pages_are_placed p q b b' r page count most can f goes others o u a l x still = pages_placed p q b b' r page count most can b.large f goes others o u a l x still

-- a lock that was found held
abbrev IsOfLock : Word → Type 0
IsOfLock (Lock h) = Unit {0}
IsOfLock w = ⊥

lock_table : (w : Word) → IsOfLock w → IsOfTable w
lock_table (Lock h) t = tt
lock_table w t = absurd t

lock_off : (w : Word) → IsOfLock w → IsOffTable w
lock_off (Lock h) t = tt
lock_off w t = absurd t

pub busy_rests : BusyRests
busy_rests p q b b' r holder can f others o u a l x =
    let m = f.found.1 in
    let s = step_of p.own.actor m.word (Exchange 0) (p.own.actor + 1) holder in
    let calm : (n : ℕ) → AreCalm n (s ∷ []) = λ n. (subst (λ v. IsCalm v (Exchange 0) holder) (sym m.name) tt, subst (λ v. IsPlain n v (Exchange 0)) (sym m.name) tt, tt) in
    let quiet : QuietBy IsInner 1 (view p) (view q) = record { added = s ∷ []; few = omega arith; grown = ap view m.step; calm = calm p.own.actor; inner = (subst IsInner (sym m.name) tt, tt) } in
    let marks : AreMarksOf [] (s ∷ []) = (λ page z out. ap (λ v. Rattle.turn_pieces.specs.Marks.awaited_next page v (Exchange 0) (p.own.actor + 1) z) m.name, tt) in record {
      late = made s ∷ l;
      grows = quietly_grows u a (s ∷ []) l (calm a) x.tells.tells.clear x.tells.tells.none_drawn;
      holds = record {
        tells = record {
          tells = quietly_tells IsInner 1 o (view p) (view q) u a l quiet x.tells.tells;
          fills = x.tells.fills;
          goes = subst (λ (y : Book). GoesWithFills q y r (flushes_in a (made s ∷ l)) x.tells.fills) (sym f.book)
              (fills_stay p q b r (flushes_in a l) x.tells.fills (s ∷ []) (ap (λ (y : Shown). y.own.steps) m.step)
              (same_goes 1 IsOfLock p q lock_off (goes_made IsOfLock p q (Lock b.hart) (Exchange 0) (p.own.actor + 1) holder m tt)) x.tells.goes);
        };
        idle = owes_quietly a (s ∷ []) l (calm a) x.idle;
        settled = λ page free. awaited_quietly u a page [] (s ∷ []) l marks refl ∙ x.settled page free;
      };
    }
