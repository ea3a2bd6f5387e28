-- Stored pages are marked, or a snapshot lists them that finished later.
use Rattle.std.proofs.Common.{◌≡◌, ◌≢◌, ◌⊎◌, ◌<◌, ℕ, zero, suc, Bool, true, false, true≢false, List, [], ◌∷◌, ◌++◌, Option, Some, None, refl, sym, ap, subst, ◌∙◌, inl, inr, arith, eq-eqb, ⊎_elim}
use Rattle.std.specs.Prelude.{◌==◌, ◌||◌, if◌then◌else◌}
use Rattle.std.specs.List.{list_any}
use Rattle.step_laws.specs.declared.words.Layout.{Layout}
use Rattle.step_laws.specs.declared.steps.Step.{Step}
use Rattle.step_laws.specs.declared.steps.WordOp.{WordOp}
use Rattle.step_laws.specs.declared.steps.WordOp.TheVariants.{Load, Store, Swap}
use Rattle.step_laws.specs.Words.{monitor}
use Rattle.step_laws.specs.Map.{Word, Stop, Dirty, Lock, Place, name_of}
use Rattle.step_laws.specs.Layout.{IsInLimits}
use Rattle.step_laws.specs.Marks.{Stage, swapping, passing, draining, awaiting, stage, stage_next, last_place, is_taken, is_taken_next}
use Rattle.step_laws.specs.Discipline.{IsDisciplined, IsPermitted, by_loader, by_actor, take}
use Rattle.step_laws.proofs.Named.{by_test}
use Rattle.machine_model.specs.declared.reason.Reason.{Reason}
use Rattle.machine_model.specs.Event.{Event, Fetch, Exec, GiveUp, Interrupt, Flushes, Start as Begin, Stop as Ends, Await, SnapBegin, SnapEnd, Dump, actor_of}
use Rattle.machine_model.specs.State.{Setup, Command, Snapshot}
use Rattle.machine_model.specs.Run.{last_of, passes, leaves, is_snap_begin}
use Rattle.machine_model.specs.Lawful.{NextLine}
use Rattle.turn_pieces.specs.Folds.{script_of}
use Rattle.turn_pieces.specs.Log.{made, did, Log, steps_of, events_of}
use Rattle.turn_pieces.specs.Owed.{Owed, stores, snaps, owes, owed, unstored, Books, books, MayBehind, MayMake}
use Rattle.turn_pieces.specs.Right.{IsRight}
use Rattle.turn_pieces.specs.Snapshots.{is_begun, is_going, pages_taken}
use Rattle.turn_pieces.specs.Grows.{Grows, stays, makes, does, AreTurns, none, turn, rests, IsChain, whole, looks}
use Rattle.run_laws.specs.Parts.{Lists, HasSnapshot}

-- whether the last event of the monitor's has begun a snapshot
abbrev pub has_begun : Log → Bool
has_begun l = passes is_snap_begin (last_of monitor (events_of l))

-- a stage moves on from where no snapshot is going on by the first swap alone
pub goes_on : (layout : Layout) (place : ℕ → ℕ) (w : Word) (op : WordOp) (arg answer : ℕ) (g : Stage) → is_begun (stage_next layout place w op arg answer g) ≡ true
    → (is_begun g ≡ true) ⊎ ((w ≡ Dirty 0) × (op ≡ Swap))
goes_on layout place (Dirty i) Swap arg answer (swapping zero) e = by_test i 0
    (λ b. is_begun (if b then (if suc zero == Rattle.step_laws.specs.Marks.dirty_words layout then passing 0 else swapping 1) else swapping 0) ≡ true → (is_begun (swapping 0) ≡ true) ⊎ ((Dirty i ≡ Dirty 0) × (Swap ≡ Swap)))
    (λ is k. inr (ap Dirty is, refl)) (λ ne k. absurd (true≢false (sym k))) e
goes_on layout place (Lock h) Store arg answer (swapping zero) e = absurd (true≢false (sym e))
goes_on layout place (Place t s n) Store arg answer (swapping zero) e = absurd (true≢false (sym e))
goes_on layout place (Place t s n) Load arg zero (swapping zero) e = absurd (true≢false (sym e))
goes_on layout place (Place t s n) Load arg (suc m) (swapping zero) e = absurd (true≢false (sym e))
goes_on layout place w op arg answer (swapping zero) e = absurd (true≢false (sym e))
goes_on layout place w op arg answer (swapping (suc k)) e = inl refl
goes_on layout place w op arg answer (passing k) e = inl refl
goes_on layout place w op arg answer (draining k) e = inl refl
goes_on layout place w op arg answer (awaiting k) e = inl refl

pub going_stage : (g : Stage) → g ≢ swapping 0 → is_begun g ≡ true
going_stage (swapping zero) ne = absurd (ne refl)
going_stage (swapping (suc k)) ne = refl
going_stage (passing k) ne = refl
going_stage (draining k) ne = refl
going_stage (awaiting k) ne = refl

still_stage : (g : Stage) → is_begun g ≡ false → g ≡ swapping 0
still_stage (swapping zero) e = refl
still_stage (swapping (suc k)) e = absurd (true≢false e)
still_stage (passing k) e = absurd (true≢false e)
still_stage (draining k) e = absurd (true≢false e)
still_stage (awaiting k) e = absurd (true≢false e)

owes_snaps : (o : Owed) (k : _) (w : Word) (op : WordOp) (n arg answer : ℕ) → w ≡ Dirty 0 → op ≡ Swap → owes o k w op n arg answer ≡ snaps
owes_snaps o k w op n arg answer e f = λ i. owes o k (e i) (f i) n arg answer

-- nothing is made before the snapshot's event
no_step : (u : Setup) (a : ℕ) (b : Books) (o : Owed) (w : Word) (op : WordOp) (n arg answer : ℕ) → o ≡ snaps → MayBehind u a b o w op n arg answer → ⊥
no_step u a b o w op n arg answer e k = (subst (λ d. MayBehind u a b d w op n arg answer) e k).0

-- the first swap is made where no snapshot is going on in the run
may_swap : (u : Setup) (a : ℕ) (b : Books) (o : Owed) (n arg answer : ℕ) → MayBehind u a b o (Dirty 0) Swap n arg answer → passes is_snap_begin (last_of monitor b.events) ≡ false
may_swap u a b (stores m v) n arg answer k = absurd k.1
may_swap u a b o n arg answer k = k.1

no_stop : (o : Option Event) → passes is_snap_begin o ≡ true → passes leaves o ≡ true → ⊥
no_stop None e f = true≢false (sym e)
no_stop (Some SnapBegin) e f = true≢false (sym f)
no_stop (Some (Fetch h w c)) e f = true≢false (sym e)
no_stop (Some (Exec h w c x)) e f = true≢false (sym e)
no_stop (Some (GiveUp h w)) e f = true≢false (sym e)
no_stop (Some (Interrupt h)) e f = true≢false (sym e)
no_stop (Some (Flushes h w)) e f = true≢false (sym e)
no_stop (Some (Begin h w c)) e f = true≢false (sym e)
no_stop (Some (Ends h w)) e f = true≢false (sym e)
no_stop (Some (Await n)) e f = true≢false (sym e)
no_stop (Some (SnapEnd ps)) e f = true≢false (sym e)
no_stop (Some (Dump at bs)) e f = true≢false (sym e)

begin_only : (e : Event) → is_snap_begin e ≡ true → e ≡ SnapBegin
begin_only SnapBegin b = refl
begin_only (Fetch h w c) b = absurd (true≢false (sym b))
begin_only (Exec h w c x) b = absurd (true≢false (sym b))
begin_only (GiveUp h w) b = absurd (true≢false (sym b))
begin_only (Interrupt h) b = absurd (true≢false (sym b))
begin_only (Flushes h w) b = absurd (true≢false (sym b))
begin_only (Begin h w c) b = absurd (true≢false (sym b))
begin_only (Ends h w) b = absurd (true≢false (sym b))
begin_only (Await n) b = absurd (true≢false (sym b))
begin_only (SnapEnd ps) b = absurd (true≢false (sym b))
begin_only (Dump at bs) b = absurd (true≢false (sym b))

-- what a snapshot took stays taken, over loads, and where none is going on over all but a first swap
taken_load : (page : ℕ) (w : Word) (op : WordOp) (arg answer : ℕ) (b : Bool) → op ≡ Load → is_taken_next page w op arg answer b ≡ b
taken_load page w op arg answer b e = subst (λ op. is_taken_next page w op arg answer b ≡ b) (sym e) (loads w)
  where
    loads : (w : Word) → is_taken_next page w Load arg answer b ≡ b
    loads (Dirty i) = refl
    loads w = refl

still_first : (i : ℕ) → swapping i ≡ swapping 0 → i ≡ 0
still_first i e = ap at e
  where
    at : Stage → ℕ
    at (swapping k) = k
    at g = 0

taken_stays : {layout : Layout} (page : ℕ) (runs : Bool) (r : List Step) (w : Word) (op : WordOp) (arg answer : ℕ) (b : Bool) → IsPermitted layout monitor runs r w op arg → is_going layout r ≡ false → b ≡ true
    → (w ≡ Dirty 0 → op ≡ Swap → ⊥) → is_taken_next page w op arg answer b ≡ true
taken_stays page runs r (Dirty i) Swap arg answer b (by_loader e m) g t f = absurd (omega (arith, e))
taken_stays {layout} page runs r (Dirty i) Swap arg answer b (by_actor who free (take e at)) g t f = absurd (f (ap Dirty (still_first i (sym at ∙ still_stage (stage layout r) g))) refl)
taken_stays page runs r w op arg answer b perm g t f = t

-- a page that was taken is listed
any_append : (is : ℕ → Bool) (xs ys : List ℕ) → list_any is ys ≡ true → list_any is (xs ++ ys) ≡ true
any_append is [] ys k = k
any_append is (x ∷ xs) ys k = go (is x) (any_append is xs ys k)
  where
    go : (b : Bool) {c : Bool} → c ≡ true → (b || c) ≡ true
    go true e = refl
    go false e = e

any_before : (is : ℕ → Bool) (xs ys : List ℕ) → list_any is xs ≡ true → list_any is (xs ++ ys) ≡ true
any_before is [] ys k = absurd (true≢false (sym k))
any_before is (x ∷ xs) ys k = go (is x) k (any_before is xs ys)
  where
    go : (b : Bool) → (b || list_any is xs) ≡ true → (list_any is xs ≡ true → list_any is (xs ++ ys) ≡ true) → (b || list_any is (xs ++ ys)) ≡ true
    go true e f = refl
    go false e f = f e

taken_listed : (page count : ℕ) (r : List Step) → page < count → is_taken page r ≡ true → list_any (λ listed. listed == page) (pages_taken count r) ≡ true
taken_listed page zero r lt t = absurd (omega (arith, lt))
taken_listed page (suc count) r lt t = by_test page count (λ _. list_any (λ listed. listed == page) (pages_taken (suc count) r) ≡ true)
    (λ e. any_append (λ listed. listed == page) (pages_taken count r) (if is_taken count r then count ∷ [] else []) (subst (λ n. list_any (λ listed. listed == page) (if is_taken n r then n ∷ [] else []) ≡ true) e
    (subst (λ b. list_any (λ listed. listed == page) (if b then page ∷ [] else []) ≡ true) (sym t) (ap (λ b. b || false) (eq-eqb page page refl)))))
    (λ ne. any_before (λ listed. listed == page) (pages_taken count r) (if is_taken count r then count ∷ [] else []) (taken_listed page count r (omega (arith, lt, ne)) t))

module _ (u : Setup) (limits : IsInLimits u.layout) where
  no_hart : {A : Type 0} → monitor < u.layout.harts → A
  no_hart lt = absurd (omega (arith, lt, limits.harts))

  abbrev Line : Log → Command → Type 0
  Line l c = NextLine (script_of u.script (events_of l)) c

  -- where the monitor's last event has begun a snapshot its next one ends it
  ends_it : (l : Log) (e : Event) → IsRight u monitor l e → has_begun l ≡ true → Line l Snapshot → (pages : List ℕ) × (e ≡ SnapEnd pages)
  ends_it l (Fetch h w c) k b line = no_hart k.fit.0
  ends_it l (Exec h w c x) k b line = no_hart k.fit.0
  ends_it l (GiveUp h w) k b line = no_hart k.fit.0
  ends_it l (Interrupt h) k b line = no_hart k.fit.0
  ends_it l (Flushes h w) k b line = no_hart k.fit.0
  ends_it l (Begin h w c) k b line = no_hart k.fit.0
  ends_it l (Ends h (Reason.Limit c)) k b line = no_hart k.fit.1
  ends_it l (Ends h Reason.AllStopped) k b line = absurd (no_stop (last_of monitor (events_of l)) b k.fit.0)
  ends_it l (Ends h Reason.Stopped) k b line = absurd (cc (sym line.1 ∙ k.fit.1.1))
  ends_it l (Ends h Reason.Pass) k b line = absurd k.fit
  ends_it l (Ends h (Reason.Fail c)) k b line = absurd k.fit
  ends_it l (Ends h Reason.OutFull) k b line = absurd k.fit
  ends_it l (Await n) k b line = absurd (cc (sym line.1 ∙ k.fit.1.line.1))
  ends_it l SnapBegin k b line = absurd (true≢false (sym b ∙ k.fit.1.none_begun))
  ends_it l (SnapEnd pages) k b line = (pages, refl)
  ends_it l (Dump at bs) k b line = absurd (cc (sym line.1 ∙ k.fit.1.1))

  -- along the monitor's log: where a snapshot is going on, its last event has begun it, or is to stand at the last step
  record Steady (l : Log) : Type 0 where
    goes : is_going u.layout (steps_of l) ≡ true → (has_begun l ≡ true) ⊎ (owed l ≡ snaps)
    line : has_begun l ≡ true → Line l Snapshot

  begun_is : (l : Log) (e : Event) → actor_of e ≡ monitor → has_begun (did e ∷ l) ≡ is_snap_begin e
  begun_is l e is = ap (λ (b : Bool). passes is_snap_begin (if b then Some e else last_of monitor (events_of l))) (eq-eqb (actor_of e) monitor is)

  steady_made : (l : Log) (s : Step) → Steady l → MayMake u monitor l s → Steady (made s ∷ l)
  steady_made l s j m = record {
    goes = λ g. ⊎_elim (λ (x : is_going u.layout (steps_of l) ≡ true). ⊎_elim (λ (b : has_begun l ≡ true). inl b)
        (λ (o : owed l ≡ snaps). absurd (no_step u monitor (books l) (owed l) (name_of s.word) s.op s.word s.arg s.answer o m.behind)) (j.goes x))
        (λ (x : (name_of s.word ≡ Dirty 0) × (s.op ≡ Swap)). inr (owes_snaps (owed l) (unstored l) (name_of s.word) s.op s.word s.arg s.answer x.0 x.1))
        (goes_on u.layout (λ t. last_place t (steps_of l)) (name_of s.word) s.op s.arg s.answer (stage u.layout (steps_of l)) g);
    line = j.line;
  }

  -- an event at a step that owes the begin of a snapshot is that
  at_begin : (l : Log) (e : Event) → IsRight u monitor l e → owed l ≡ snaps → e ≡ SnapBegin
  at_begin l e k o = subst (λ d. Rattle.turn_pieces.specs.Owed.PaysFor monitor (books l) d e) o k.pays

  finished_at : (l : Log) (e : Event) (pages : List ℕ) → e ≡ SnapEnd pages → IsRight u monitor l e → is_going u.layout (steps_of l) ≡ false
  finished_at l e pages is k = (subst (IsRight u monitor l) is k).fit.1.finished

  line_at : (l : Log) (e : Event) → e ≡ SnapBegin → IsRight u monitor l e → Line (did e ∷ l) Snapshot
  line_at l e is k = subst (λ x. Line (did x ∷ l) Snapshot) (sym is) (subst (IsRight u monitor l) is k).fit.1.line

  steady_did : (l : Log) (e : Event) → Steady l → IsRight u monitor l e → Steady (did e ∷ l)
  steady_did l e j k = record {
    goes = λ g. ⊎_elim (λ (b : has_begun l ≡ true). let x = ends_it l e k b (j.line b) in absurd (true≢false (sym g ∙ finished_at l e x.0 x.1 k)))
        (λ (o : owed l ≡ snaps). inl (begun_is l e k.own ∙ ap is_snap_begin (at_begin l e k o))) (j.goes g);
    line = λ b. line_at l e (begin_only e (sym (begun_is l e k.own) ∙ b)) k;
  }

  steady : {l : Log} → Grows u monitor [] l → Steady l
  steady stays = record { goes = λ g. absurd (true≢false (sym g)); line = λ b. absurd (true≢false (sym b)) }
  steady (makes {m = m} s g k) = steady_made m s (steady g) k
  steady (does {m = m} e g k) = steady_did m e (steady g) k

  -- a snapshot that took the page is finished, and its end isn't there yet
  pub record IsDue (page : ℕ) (l : Log) : Type 0 where
    pub begun : has_begun l ≡ true
    pub still : is_going u.layout (steps_of l) ≡ false
    pub took : is_taken page (steps_of l) ≡ true

  due_made : (page : ℕ) (l : Log) (s : Step) (runs : Bool) → IsDue page l → MayMake u monitor l s → IsPermitted u.layout monitor runs (steps_of l) (name_of s.word) s.op s.arg → IsDue page (made s ∷ l)
  due_made page l s runs d m perm = record {
    begun = d.begun;
    still = stays_still (is_going u.layout (steps_of (made s ∷ l))) refl;
    took = taken_stays page runs (steps_of l) (name_of s.word) s.op s.arg s.answer (is_taken page (steps_of l)) perm d.still d.took first_only;
  }
    where
      first_only : name_of s.word ≡ Dirty 0 → s.op ≡ Swap → ⊥
      first_only e f = true≢false (sym d.begun ∙ may_swap u monitor (books l) (owed l) s.word s.arg s.answer
          (subst (λ op. MayBehind u monitor (books l) (owed l) (Dirty 0) op s.word s.arg s.answer) f (subst (λ w. MayBehind u monitor (books l) (owed l) w s.op s.word s.arg s.answer) e m.behind)))

      stays_still : (b : Bool) → is_going u.layout (steps_of (made s ∷ l)) ≡ b → is_going u.layout (steps_of (made s ∷ l)) ≡ false
      stays_still false e = e
      stays_still true e = ⊎_elim (λ (x : is_going u.layout (steps_of l) ≡ true). absurd (true≢false (sym x ∙ d.still)))
          (λ (x : (name_of s.word ≡ Dirty 0) × (s.op ≡ Swap)). absurd (first_only x.0 x.1))
          (goes_on u.layout (λ t. last_place t (steps_of l)) (name_of s.word) s.op s.arg s.answer (stage u.layout (steps_of l)) e)

  due_did : (page : ℕ) (l : Log) (e : Event) → page < u.layout.pages → Steady l → IsDue page l → IsRight u monitor l e → Lists page (did e)
  due_did page l e lt j d k = let x = ends_it l e k d.begun (j.line d.begun) in subst (λ y. Lists page (did y)) (sym x.1)
      (ap (list_any (λ listed. listed == page)) ((subst (IsRight u monitor l) x.1 k).fit.1.pages_are) ∙ taken_listed page u.layout.pages (steps_of l) lt d.took)

  -- a snapshot that took the page finished in these items
  abbrev pub Finishes : (page : ℕ) → Log → Log → Type 0
  Finishes page base [] = ⊥
  Finishes page base (made x ∷ l) = ((x.op ≡ Load) × (is_going u.layout (steps_of (l ++ base)) ≡ true) × (is_going u.layout (steps_of (made x ∷ (l ++ base))) ≡ false) × (is_taken page (steps_of (l ++ base)) ≡ true)) ⊎ Finishes page base l
  Finishes page base (did e ∷ l) = Finishes page base l

  pub finished : (page : ℕ) (runs : Bool) → page < u.layout.pages → (l base : Log) → Grows u monitor [] (l ++ base) → IsDisciplined u.layout monitor runs (steps_of (l ++ base)) → Finishes page base l
      → HasSnapshot page l ⊎ IsDue page (l ++ base)
  finished page runs lt [] base g d f = absurd f
  finished page runs lt (made x ∷ l) base (makes s g k) d (inl f) = inr (record {
    begun = ⊎_elim (λ (b : has_begun (l ++ base) ≡ true). b) (λ (o : owed (l ++ base) ≡ snaps). absurd (no_step u monitor (books (l ++ base)) (owed (l ++ base)) (name_of x.word) x.op x.word x.arg x.answer o k.behind)) ((steady g).goes f.1);
    still = f.2;
    took = taken_load page (name_of x.word) x.op x.arg x.answer (is_taken page (steps_of (l ++ base))) f.0 ∙ f.3;
  })
  finished page runs lt (made x ∷ l) base (makes s g k) d (inr f) = ⊎_elim (λ (h : HasSnapshot page l). inl (inr h)) (λ (y : IsDue page (l ++ base)). inr (due_made page (l ++ base) x runs y k d.0)) (finished page runs lt l base g d.1 f)
  finished page runs lt (did e ∷ l) base (does y g k) d f = ⊎_elim (λ (h : HasSnapshot page l). inl (inr h)) (λ (z : IsDue page (l ++ base)). inl (inl (due_did page (l ++ base) e lt (steady g) z k))) (finished page runs lt l base g d f)

  -- at the end of a turn none is due
  turns_done : (page : ℕ) {n : ℕ} {l : Log} → AreTurns u monitor n l → IsDue page l → ⊥
  turns_done page none d = true≢false (sym d.begun)
  turns_done page (turn k x) d = true≢false (sym d.begun ∙ (sym (x.closed.snapshot refl) ∙ d.still))
  turns_done page (rests k i f) d = turns_done page k d

  look_still : (g : Stage) (layout : Layout) (place : ℕ → ℕ) (w : Word) (op : WordOp) (arg answer : ℕ) → w ≡ Stop → stage_next layout place w op arg answer g ≡ g
  look_still g layout place w op arg answer e = subst (λ w. stage_next layout place w op arg answer g ≡ g) (sym e) refl

  pub chain_done : (page : ℕ) {n : ℕ} {l : Log} → IsChain u monitor n l → IsDue page l → ⊥
  chain_done page (whole k) d = turns_done page k d
  chain_done page (looks {l = l} s k x) d = turns_done page k (record {
    begun = d.begun;
    still = sym (ap is_begun (look_still (stage u.layout (steps_of l)) u.layout (λ t. last_place t (steps_of l)) (name_of s.word) s.op s.arg s.answer x.0)) ∙ d.still;
    took = sym (taken_load page (name_of s.word) s.op s.arg s.answer (is_taken page (steps_of l)) x.1) ∙ d.took;
  })
