-- Each turn of the plain run is lawful: every moment is now.
use Rattle.std.proofs.Common.{◌≡◌, refl, ℕ, zero, suc, ◌≤◌, ◌<◌, ◌+◌, ◌%◌, ◌++◌, List, [], ◌∷◌, map, Some, None, Option, true, false, Bool, not, ◌&&◌, length, length-set, arith, ap, sym, ◌∙◌, subst}
use Rattle.std.specs.Prelude.{◌≢◌, ◌==◌, IsSome, is_some, MatchBool, if◌then◌else◌, slice_set, replicate, ◌-◌}
use Rattle.std.specs.List.{AllByRecursion, list_all}
use Rattle.std.proofs.lemmas.Bool.{le-leb, eq-eqb, ne_eqb, eqb-true, eqb-false}
use Rattle.std.proofs.lemmas.List.{get_or-set_same, length-replicate}
use Rattle.rv64_priv.specs.declared.state.Kind.{Kind}
use Rattle.rv64_priv.specs.Walk.{Walked, Leaf, PageFault, AccessFault, is_device}
use Rattle.rv64_priv.specs.Flush.{Flush, Full, Pages}
use Rattle.rv64_exec.specs.Code.{Code, no_code}
use Rattle.machine_model.specs.declared.reason.Reason.{Reason}
use Rattle.machine_model.specs.Past.{now, HasSince, this, before}
use Rattle.machine_model.specs.Event.{Event, Outcome, Starting, Fetch, Exec, GiveUp, Interrupt, Flushes, Start, Stop, Await, SnapBegin, SnapEnd, Dump, actor_of, did_of}
use Rattle.machine_model.specs.declared.mode.Mode.{Mode}
use Rattle.machine_model.specs.declared.mode.Mode.TheVariants.{Started, Halted, Pending}
use Rattle.machine_model.specs.State.{Setup, State, Hart, hart, nth, memory, all_halted, is_halted, is_started, initial, new_hart}
use Rattle.machine_model.specs.Access.{Spot, AtRam, AtDevice, Faults, spot_of, second_va}
use Rattle.machine_model.specs.Perform.{surroundings}
use Rattle.machine_model.specs.Walks.{Wanted, need, access_of}
use Rattle.machine_model.specs.Change.{state_after, part_next, has_part, executed, fetched, awaited}
use Rattle.machine_model.specs.Run.{state_of, is_of, includes, flushes, last_of, passes, counts, leaves, says_all_stopped, is_leaf_end, is_due}
use Rattle.machine_model.specs.Lawful.{IsLawful, IsRun, IsSettled, IsAllowed, AllowedFor, IsCode, Flushing, flushing, Flushed as HasFlushed, FlushesDone}
use Rattle.machine_model.specs.Now.{walked_now, first_now, second_now, no_walk, IsNext, is_pending_now, exec_now, fetch_now, fetch_end}
use Rattle.machine_model.specs.Plain.{IsPlainRun, turn, over, plain_turn, turn_in, instruction, executing, with_stops, stops_behind, flush_events}
use Rattle.machine_model.proofs.Harts.{by_set, started_there, pending_there, event_keeps, start_keeps}
use Rattle.machine_model.proofs.Uniform.{changed, changed_length, start_length, run_length}
use Rattle.machine_model.proofs.Owned.{started_awaited}
use Rattle.machine_model.proofs.Named.{AreBelow, flushing_there}

-- the stop at its limit is a hart's next event
abbrev Due : Setup → List Event → ℕ → Bool
Due u run h = is_due u.limit run h (hart (state_of u run) h).count

-- no hart holds a word, no stop is due, and where all are stopped it was said
pub record Settled (u : Setup) (run : List Event) : Type 0 where
  pub holds_none : (h : ℕ) → (hart (state_of u run) h).held ≡ None
  pub undue : (h : ℕ) → Due u run h ≡ false
  pub said : all_halted (state_of u run) ≡ true → HasSince leaves says_all_stopped run

pub record Good (u : Setup) (run : List Event) : Type 0 where
  pub is_run : IsRun u run
  pub settled : Settled u run

pub settled_good : (u : Setup) (run : List Event) → Good u run → IsSettled u run
settled_good u run g = record { limits = λ h _. g.settled.undue h; stopped = g.settled.said }

-- what is due after an event that counts nothing is what was due before
due_by : (b : Bool) (e : Event) (l : Option Event) (x : Bool) → counts e ≡ false → passes counts l && x ≡ false → passes counts (if b then Some e else l) && x ≡ false
due_by true e l x c k = ap (λ v. v && x) c
due_by false e l x c k = k

undue_quiet : (u : Setup) (run : List Event) (e : Event) (h : ℕ) → counts e ≡ false → (hart (state_of u (e ∷ run)) h).count ≡ (hart (state_of u run) h).count
    → Due u run h ≡ false → Due u (e ∷ run) h ≡ false
undue_quiet u run e h c same k =
    due_by (is_of h e) e (last_of h run) ((hart (state_of u (e ∷ run)) h).count == u.limit) c
    (subst (λ n. passes counts (last_of h run) && (n == u.limit) ≡ false) (sym same) k)

-- what is due of another hart stays
undue_other : (u : Setup) (run : List Event) (e : Event) (h : ℕ) → (actor_of e == h) ≡ false → (hart (state_of u (e ∷ run)) h).count ≡ (hart (state_of u run) h).count
    → Due u run h ≡ false → Due u (e ∷ run) h ≡ false
undue_other u run e h other same k =
    ap (λ b. passes counts (if b then Some e else last_of h run) && ((hart (state_of u (e ∷ run)) h).count == u.limit)) other
    ∙ subst (λ n. passes counts (last_of h run) && (n == u.limit) ≡ false) (sym same) k

-- a walk now
pub allowed_now : (u : Setup) (run : List Event) (h : ℕ) (kind : Kind) (va : ℕ) → IsAllowed u run h kind va (walked_now u (state_of u run) h kind va)
allowed_now u run h kind va = record { moment = λ level. run; in_order = λ level. now; past = now; is_end = refl }

pub access_now : (u : Setup) (run : List Event) (h : ℕ) (w : Option Wanted) → AllowedFor u run h (first_now u (state_of u run) h w) (second_now u (state_of u run) h w) w
access_now u run h None = tt
access_now u run h (Some w) = record {
  first_page = allowed_now u run h w.kind w.va;
  second_page = λ crosses _. subst (λ b. IsAllowed u run h w.kind (second_va w.va) (if b then walked_now u (state_of u run) h w.kind (second_va w.va) else no_walk)) (sym crosses) (allowed_now u run h w.kind (second_va w.va));
}

-- the code of the word that the hart's fetch finds
abbrev Found : Setup → State → ℕ → Code → Type 0
Found u s h code = IsCode (memory u s) (hart s h).arch.pc (fetch_end u s h) code

found_by : (u : Setup) (s : State) (h : ℕ) (code : Code) → (hart s h).mode ≡ Started → is_pending_now u s h ≡ false → IsNext u s h code → Found u s h code
found_by u s h code started quiet next =
    subst (λ b. MatchBool b (Found u s h code) (code ≡ no_code)) (ap (λ m. is_started m && not (is_pending_now u s h)) started ∙ ap not quiet) next

pub fetch_lawful : (u : Setup) (run : List Event) (h : ℕ) (code : Code) → Settled u run → (hart (state_of u run) h).mode ≡ Started
    → is_pending_now u (state_of u run) h ≡ false → Found u (state_of u run) h code → IsLawful u run (fetch_now u (state_of u run) h code)
fetch_lawful u run h code k started quiet next = record {
  there = started_there (state_of u run).harts h started;
  started = started;
  holds_none = k.holds_none h;
  not_due = k.undue h;
  uninterrupted = record { moment = run; past = now; quiet = quiet };
  allowed = allowed_now u run h Kind.Fetch (hart (state_of u run) h).arch.pc;
  decoded = next;
}

-- the flushes of the word that a hart holds
abbrev flushes_of : Setup → State → (h : ℕ) → Option Flushing
flushes_of u s h = flushing (surroundings u s) h (hart s h).arch (need s h)

exec_here : (u : Setup) (run : List Event) (h : ℕ) → h < length (state_of u run).harts → IsSome (hart (state_of u run) h).held
    → FlushesDone run h (flushes_of u (state_of u run) h) → IsLawful u run (exec_now u (state_of u run) h)
unfolding exec_now
exec_here u run h i holds flushed = record { there = i; holds = holds; allowed = access_now u run h (access_of (need (state_of u run) h)); flushed = flushed; right = refl }

pub exec_lawful : (u : Setup) (run : List Event) (h : ℕ) (s : State) → state_of u run ≡ s → h < length s.harts → IsSome (hart s h).held
    → FlushesDone run h (flushes_of u s h) → IsLawful u run (exec_now u s h)
exec_lawful u run h s e = subst (λ x. h < length x.harts → IsSome (hart x h).held → FlushesDone run h (flushes_of u x h) → IsLawful u run (exec_now u x h)) e (exec_here u run h)

-- flushes
includes_self : (f : Flush) → includes f f ≡ true
includes_self Full = refl
includes_self (Pages p c) = rw (le-leb p p (omega arith), le-leb (p + c) (p + c) (omega arith)) refl

flush_this : (t : ℕ) (what : Flush) → flushes t what (Flushes t what) ≡ true
flush_this t what = rw (eq-eqb t t refl, includes_self what) refl

abbrev made : Flush → List ℕ → List Event
made what ts = map (λ t. Flushes t what) ts

all_map : {P Q : ℕ → Type 0} → ((x : ℕ) → P x → Q x) → (xs : List ℕ) → AllByRecursion P xs → AllByRecursion Q xs
all_map f [] k = tt
all_map f (x ∷ xs) k = (f x k.0, all_map f xs k.1)

-- a flush of what is asked is one of each of its pages
includes_page : (page count p : ℕ) → page ≤ p → p < page + count → includes (Pages page count) (Pages p 1) ≡ true
includes_page page count p low high = rw (le-leb page p low, le-leb (p + 1) (page + count) (omega (arith, high))) refl

flush_page : (t page count p : ℕ) → page ≤ p → p < page + count → flushes t (Pages p 1) (Flushes t (Pages page count)) ≡ true
flush_page t page count p low high = rw (eq-eqb t t refl, includes_page page count p low high) refl

flushed_this : (h t : ℕ) (what : Flush) (run : List Event) → HasFlushed (Flushes t what ∷ run) h t what
flushed_this h t Full run = this (flush_this t Full)
flushed_this h t (Pages page count) run = λ p low high. this (flush_page t page count p low high)

flushed_more : (h t g : ℕ) (what made_too : Flush) (run : List Event) → HasFlushed run h t what → HasFlushed (Flushes g made_too ∷ run) h t what
flushed_more h t g Full made_too run k = before refl k
flushed_more h t g (Pages page count) made_too run k = λ p low high. before refl (k p low high)

flushed_all : (h : ℕ) (what : Flush) (run : List Event) (ts : List ℕ) → AllByRecursion (λ t. HasFlushed (made what ts ++ run) h t what) ts
flushed_all h what run [] = tt
flushed_all h what run (t ∷ ts) =
    (flushed_this h t what (made what ts ++ run), all_map (λ x k. flushed_more h x t what what (made what ts ++ run) k) ts (flushed_all h what run ts))

made_state : (u : Setup) (what : Flush) (run : List Event) (ts : List ℕ) → state_of u (made what ts ++ run) ≡ state_of u run
made_state u what run [] = refl
made_state u what run (t ∷ ts) = made_state u what run ts

abbrev Undue : Setup → List Event → Type 0
Undue u run = (t : ℕ) → Due u run t ≡ false

-- harts that are there
abbrev AreThere : Setup → List Event → List ℕ → Type 0
AreThere u run ts = AllByRecursion (λ t. t < length (state_of u run).harts) ts

made_run : (u : Setup) (what : Flush) (run : List Event) (ts : List ℕ) → AreThere u run ts → IsRun u run → Undue u run → IsRun u (made what ts ++ run) × Undue u (made what ts ++ run)
made_run u what run [] there p q = (p, q)
made_run u what run (t ∷ ts) there p q =
    let i = made_run u what run ts there.1 p q in
    let here : t < length (state_of u (made what ts ++ run)).harts = subst (λ (s : State). t < length s.harts) (sym (made_state u what run ts)) there.0 in
    (((here, i.1 t), i.0), λ x. undue_quiet u (made what ts ++ run) (Flushes t what) x refl refl (i.1 x))

abbrev AreThereFor : Setup → List Event → Option Flushing → Type 0
AreThereFor u run None = Unit {0}
AreThereFor u run (Some f) = AreThere u run f.harts

-- the flushes before an Exec are lawful, change nothing and are what is asked for
record Flushed (u : Setup) (run : List Event) (h : ℕ) (f : Option Flushing) : Type 0 where
  is_run : IsRun u (flush_events f ++ run)
  undue : Undue u (flush_events f ++ run)
  state : state_of u (flush_events f ++ run) ≡ state_of u run
  done : FlushesDone (flush_events f ++ run) h f

flush_first : (u : Setup) (run : List Event) (h : ℕ) (f : Option Flushing) → AreThereFor u run f → IsRun u run → Undue u run → Flushed u run h f
flush_first u run h None there p q = record { is_run = p; undue = q; state = refl; done = tt }
flush_first u run h (Some f) there p q =
    let i = made_run u f.what run f.harts there p q in
    record { is_run = i.0; undue = i.1; state = made_state u f.what run f.harts; done = flushed_all h f.what run f.harts }

-- stops
and_left : (p q : Bool) → p && q ≡ true → p ≡ true
and_left true q h = refl
and_left false q h = h

and_right : (p q : Bool) → p && q ≡ true → q ≡ true
and_right true q h = h
and_right false q h = cc

abbrev at_limit : Setup → List Event → ℕ → Bool
at_limit u run h = (hart (state_of u run) h).count == u.limit

abbrev all_of : ℕ → Event
all_of h = Stop h Reason.AllStopped

abbrev limit_of : ℕ → Event
limit_of h = Stop h (Reason.Limit h)

-- an instruction that stops its hart is counted
leaves_counts : (e : Event) → leaves e ≡ true → counts e ≡ true
leaves_counts (Fetch h walk code) k = cc
leaves_counts (Exec h walk second did) k = refl
leaves_counts (GiveUp h walks) k = cc
leaves_counts (Interrupt h) k = cc
leaves_counts (Flushes h what) k = cc
leaves_counts (Start h at opaque) k = cc
leaves_counts (Stop by reason) k = cc
leaves_counts (Await n) k = cc
leaves_counts SnapBegin k = cc
leaves_counts (SnapEnd pages) k = cc
leaves_counts (Dump at bytes) k = cc

-- behind a stop of the hart nothing else has changed
undue_stop : (u : Setup) (run : List Event) (h : ℕ) (r : Reason) (t : ℕ) → t ≢ h → Due u run t ≡ false → Due u (Stop h r ∷ run) t ≡ false
undue_stop u run h r t ne k = ap (λ b. passes counts (if b then Some (Stop h r) else last_of t run) && at_limit u run t) (ne_eqb h t (λ e. ne (sym e))) ∙ k

and_none : (p q : Bool) → p && q ≡ false → q ≡ true → p ≡ false
and_none true q k e = sym e ∙ k
and_none false q k e = refl

and_first : (p q : Bool) → p ≡ true → p && q ≡ false → q ≡ false
and_first true q e k = k
and_first false q e k = cc

-- a fact of the hart, and of each other
by_hart : (P : ℕ → Type 0) (h : ℕ) → P h → ((t : ℕ) → t ≢ h → P t) → (t : ℕ) → P t
by_hart P h own others t = go (t == h) refl
  where
    go : (b : Bool) → (t == h) ≡ b → P t
    go true i = subst P (sym (eqb-true t h i)) own
    go false i = others t (eqb-false t h i)

stops_good : (u : Setup) (run : List Event) (h : ℕ) (e : Event) → (actor_of e == h) ≡ true → IsRun u (e ∷ run)
    → ((t : ℕ) → (hart (state_of u (e ∷ run)) t).held ≡ None) → ((t : ℕ) → t ≢ h → Due u (e ∷ run) t ≡ false)
    → (leaves e ≡ false → all_halted (state_of u (e ∷ run)) ≡ false)
    → Good u (stops_behind u h e (state_of u (e ∷ run)) ++ e ∷ run)
stops_good u run h e own is_run empty others runs = go (counts e && (at_limit u (e ∷ run) h)) (leaves e && all_halted (state_of u (e ∷ run))) refl refl
  where
    due : Due u (e ∷ run) h ≡ counts e && (at_limit u (e ∷ run) h)
    due = ap (λ b. passes counts (if b then Some e else last_of h run) && (at_limit u (e ∷ run) h)) own

    left : leaves e ≡ true → passes leaves (last_of h (e ∷ run)) ≡ true
    left k = ap (λ b. passes leaves (if b then Some e else last_of h run)) own ∙ k

    all_due : (run' : List Event) → (hart (state_of u run') h).count ≡ (hart (state_of u (e ∷ run)) h).count → Due u (all_of h ∷ run') h ≡ (at_limit u (e ∷ run) h)
    all_due run' same = ap (λ b. passes counts (if b then Some (all_of h) else last_of h run') && (at_limit u run' h)) (eq-eqb h h refl) ∙ ap (λ n. n == u.limit) same

    limit_undue : (run' : List Event) → Due u (limit_of h ∷ run') h ≡ false
    limit_undue run' = ap (λ b. passes counts (if b then Some (limit_of h) else last_of h run') && (at_limit u run' h)) (eq-eqb h h refl)

    stop_all : leaves e && all_halted (state_of u (e ∷ run)) ≡ true → IsRun u ((all_of h) ∷ e ∷ run)
    stop_all k = ((left (and_left (leaves e) (all_halted (state_of u (e ∷ run))) k), and_right (leaves e) (all_halted (state_of u (e ∷ run))) k), is_run)

    none_left : leaves e && all_halted (state_of u (e ∷ run)) ≡ false → all_halted (state_of u (e ∷ run)) ≡ true → ⊥
    none_left q k = let l = runs (and_none (leaves e) (all_halted (state_of u (e ∷ run))) q k) in cc

    counted_too : leaves e && all_halted (state_of u (e ∷ run)) ≡ true → counts e ≡ true
    counted_too q = leaves_counts e (and_left (leaves e) (all_halted (state_of u (e ∷ run))) q)

    go : (c a : Bool) → counts e && (at_limit u (e ∷ run) h) ≡ c → leaves e && all_halted (state_of u (e ∷ run)) ≡ a
        → Good u (((if c then (limit_of h) ∷ [] else []) ++ (if a then (all_of h) ∷ [] else [])) ++ e ∷ run)
    go false false p q = record {
      is_run = is_run;
      settled = record { holds_none = empty; undue = by_hart (λ t. Due u (e ∷ run) t ≡ false) h (due ∙ p) others; said = λ k. absurd (none_left q k) };
    }
    go false true p q = record {
      is_run = stop_all q;
      settled = record {
        holds_none = empty;
        undue = by_hart (λ t. Due u (all_of h ∷ e ∷ run) t ≡ false) h (all_due (e ∷ run) refl ∙ and_first (counts e) (at_limit u (e ∷ run) h) (counted_too q) p)
            (λ t ne. undue_stop u (e ∷ run) h Reason.AllStopped t ne (others t ne));
        said = λ k. this refl;
      };
    }
    go true false p q = record {
      is_run = ((refl, due ∙ p), is_run);
      settled = record {
        holds_none = empty;
        undue = by_hart (λ t. Due u (limit_of h ∷ e ∷ run) t ≡ false) h (limit_undue (e ∷ run)) (λ t ne. undue_stop u (e ∷ run) h (Reason.Limit h) t ne (others t ne));
        said = λ k. absurd (none_left q k);
      };
    }
    go true true p q = record {
      is_run = ((refl, all_due (e ∷ run) refl ∙ and_right (counts e) (at_limit u (e ∷ run) h) p), stop_all q);
      settled = record {
        holds_none = empty;
        undue = by_hart (λ t. Due u (limit_of h ∷ all_of h ∷ e ∷ run) t ≡ false) h (limit_undue (all_of h ∷ e ∷ run))
            (λ t ne. undue_stop u (all_of h ∷ e ∷ run) h (Reason.Limit h) t ne (undue_stop u (e ∷ run) h Reason.AllStopped t ne (others t ne)));
        said = λ k. before refl (this refl);
      };
    }

-- a Fetch that finds a leaf
leaf_at : (code : Code) (t : Hart) (pa : ℕ) (b : Bool) → fetched code t (if b then AtDevice pa else AtRam pa) ≡ record t { held = Some code }
leaf_at code t pa true = refl
leaf_at code t pa false = refl

pub fetched_leaf : (code : Code) (t : Hart) (va : ℕ) (w : Walked) → is_leaf_end w ≡ true → fetched code t (spot_of Kind.Fetch va w) ≡ record t { held = Some code }
fetched_leaf code t va (Leaf pte page level) k = leaf_at code t (page + va % 4096) (is_device (page + va % 4096))
fetched_leaf code t va PageFault k = cc
fetched_leaf code t va AccessFault k = cc

-- and one that faults
fetched_fault : (code : Code) (t : Hart) (va : ℕ) (w : Walked) → is_leaf_end w ≡ false → (fetched code t (spot_of Kind.Fetch va w)).held ≡ t.held
fetched_fault code t va (Leaf pte page level) k = cc
fetched_fault code t va PageFault k = refl
fetched_fault code t va AccessFault k = refl

-- what an event leaves of other harts
other_keeps : {B : Type 0} (f : Hart → B) → ((g : Starting) (t : Hart) → f (awaited g t) ≡ f t) → (e : Event) (s : State) (h : ℕ) → actor_of e < length s.harts → has_part e ≡ true
    → h ≢ actor_of e → f (hart (state_after e s) h) ≡ f (hart s h)
other_keeps f k e s h i p ne =
    start_keeps f k (if has_part e then slice_set s.harts (actor_of e) (part_next e (nth s.harts (actor_of e))) else s.harts) (did_of e).starts h
    ∙ subst (λ b. f (nth (if b then slice_set s.harts (actor_of e) (part_next e (nth s.harts (actor_of e))) else s.harts) h) ≡ f (nth s.harts h)) (sym p)
    (by_set (λ t. f t ≡ f (nth s.harts h)) s.harts (actor_of e) h (part_next e (nth s.harts (actor_of e))) i (λ same. absurd (ne same)) (λ _. refl))

-- what it leaves of its own
own_part : {B : Type 0} (f : Hart → B) → ((g : Starting) (t : Hart) → f (awaited g t) ≡ f t) → (e : Event) (s : State) → actor_of e < length s.harts → has_part e ≡ true
    → f (hart (state_after e s) (actor_of e)) ≡ f (part_next e (hart s (actor_of e)))
own_part f k e s i p =
    start_keeps f k (if has_part e then slice_set s.harts (actor_of e) (part_next e (nth s.harts (actor_of e))) else s.harts) (did_of e).starts (actor_of e)
    ∙ subst (λ b. f (nth (if b then slice_set s.harts (actor_of e) (part_next e (nth s.harts (actor_of e))) else s.harts) (actor_of e)) ≡ f (part_next e (nth s.harts (actor_of e)))) (sym p)
    (ap f (get_or-set_same s.harts (actor_of e) (part_next e (nth s.harts (actor_of e))) (new_hart Halted 0) i))

-- an Exec and the stops behind it: no hart holds a word
executed_empty : (o : Outcome) (t : Hart) → (executed o t).held ≡ None
unfolding executed
executed_empty o t = refl

-- held words of all harts, from those of the actor and of the others
all_empty : (e : Event) (s : State) → actor_of e < length s.harts → has_part e ≡ true → (part_next e (hart s (actor_of e))).held ≡ None
    → ((t : ℕ) → t ≢ actor_of e → (hart s t).held ≡ None) → (t : ℕ) → (hart (state_after e s) t).held ≡ None
all_empty e s i p own others t = go (t == actor_of e) refl
  where
    go : (b : Bool) → (t == actor_of e) ≡ b → (hart (state_after e s) t).held ≡ None
    go true k = subst (λ x. (hart (state_after e s) x).held ≡ None) (sym (eqb-true t (actor_of e) k)) (own_part (λ t. t.held) (λ g t. refl) e s i p ∙ own)
    go false k = other_keeps (λ t. t.held) (λ g t. refl) e s t i p (eqb-false t (actor_of e) k) ∙ others t (eqb-false t (actor_of e) k)

-- a hart that runs isn't stopped
running_left : (hs : List Hart) (h : ℕ) → h < length hs → is_started (nth hs h).mode ≡ true → list_all (λ (t : Hart). is_halted t.mode) hs ≡ false
running_left [] h lt k = absurd (omega (arith, lt))
running_left (t ∷ hs) zero lt k = go t.mode k
  where
    go : (m : Mode) → is_started m ≡ true → is_halted m && list_all (λ (x : Hart). is_halted x.mode) hs ≡ false
    go Started e = refl
    go Halted e = cc
    go Pending e = refl
running_left (t ∷ hs) (suc h) lt k = go (is_halted t.mode) (running_left hs h (omega (arith, lt)) k)
  where
    go : (b : Bool) → list_all (λ (x : Hart). is_halted x.mode) hs ≡ false → b && list_all (λ (x : Hart). is_halted x.mode) hs ≡ false
    go true left = left
    go false left = refl

-- an event behind which its hart runs leaves not all stopped
runs_after : (e : Event) (s : State) → actor_of e < length s.harts → has_part e ≡ true → is_started (part_next e (hart s (actor_of e))).mode ≡ true → all_halted (state_after e s) ≡ false
runs_after e s i p runs =
    let kept : is_started (hart (state_after e s) (actor_of e)).mode ≡ is_started (part_next e (hart s (actor_of e))).mode = own_part (λ t. is_started t.mode) (λ g t. started_awaited t.mode) e s i p in
    running_left (state_after e s).harts (actor_of e) (subst (λ n. actor_of e < n) (sym (event_length e s)) i) (kept ∙ runs)
  where
    event_length : (e : Event) (s : State) → length (state_after e s).harts ≡ length s.harts
    event_length e s = start_length (changed e s.harts) (did_of e).starts ∙ changed_length e s.harts

-- an instruction that doesn't stop its hart leaves it running
executed_runs : (o : Outcome) (t : Hart) → o.stops ≡ false → is_started t.mode ≡ true → is_started (executed o t).mode ≡ true
unfolding executed
executed_runs o t stays runs = ap (λ b. is_started (if b then Halted else t.mode)) stays ∙ runs

fetched_mode : (code : Code) (t : Hart) (s : Spot) → (fetched code t s).mode ≡ t.mode
fetched_mode code t (AtRam pa) = refl
fetched_mode code t (AtDevice pa) = refl
fetched_mode code t (Faults cause tval) = refl

-- lists of a turn, grouped anew
append_assoc : (a b c : List Event) → (a ++ b) ++ c ≡ a ++ (b ++ c)
append_assoc [] b c = refl
append_assoc (x ∷ a) b c = ap (λ xs. x ∷ xs) (append_assoc a b c)

regroup : (a b run : List Event) (e f : Event) → (((a ++ e ∷ []) ++ b) ++ f ∷ []) ++ run ≡ a ++ e ∷ (b ++ f ∷ run)
regroup [] b run e f = ap (λ xs. e ∷ xs) (append_assoc b (f ∷ []) run)
regroup (x ∷ a) b run e f = ap (λ xs. x ∷ xs) (regroup a b run e f)

-- an Exec and the stops behind it
exec_good_here : (u : Setup) (run : List Event) (h : ℕ) → IsRun u run → Undue u run → h < length (state_of u run).harts → is_started (hart (state_of u run) h).mode ≡ true → IsSome (hart (state_of u run) h).held
    → FlushesDone run h (flushes_of u (state_of u run) h) → ((t : ℕ) → t ≢ h → (hart (state_of u run) t).held ≡ None)
    → Good u (stops_behind u h (exec_now u (state_of u run) h) (state_after (exec_now u (state_of u run) h) (state_of u run)) ++ exec_now u (state_of u run) h ∷ run)
unfolding exec_now
exec_good_here u run h is_run undue i runs holds flushed others =
    stops_good u run h (exec_now u (state_of u run) h) (eq-eqb h h refl) (exec_here u run h i holds flushed, is_run)
    (all_empty (exec_now u (state_of u run) h) (state_of u run) i refl (executed_empty (did_of (exec_now u (state_of u run) h)) (hart (state_of u run) h)) others)
    (λ t ne. undue_other u run (exec_now u (state_of u run) h) t (ne_eqb h t (λ k. ne (sym k)))
    (other_keeps (λ t. t.count) (λ g t. refl) (exec_now u (state_of u run) h) (state_of u run) t i refl ne) (undue t))
    (λ stays. runs_after (exec_now u (state_of u run) h) (state_of u run) i refl (executed_runs (did_of (exec_now u (state_of u run) h)) (hart (state_of u run) h) stays runs))

exec_good : (u : Setup) (run : List Event) (h : ℕ) (s : State) → state_of u run ≡ s → IsRun u run → Undue u run → h < length s.harts → is_started (hart s h).mode ≡ true → IsSome (hart s h).held
    → FlushesDone run h (flushes_of u s h) → ((t : ℕ) → t ≢ h → (hart s t).held ≡ None)
    → Good u (stops_behind u h (exec_now u s h) (state_after (exec_now u s h) s) ++ exec_now u s h ∷ run)
exec_good u run h s e is_run undue =
    subst (λ x. h < length x.harts → is_started (hart x h).mode ≡ true → IsSome (hart x h).held → FlushesDone run h (flushes_of u x h) → ((t : ℕ) → t ≢ h → (hart x t).held ≡ None)
    → Good u (stops_behind u h (exec_now u x h) (state_after (exec_now u x h) x) ++ exec_now u x h ∷ run))
    e (exec_good_here u run h is_run undue)

-- the harts of its flushes are there
flushes_there : (u : Setup) (run : List Event) (h : ℕ) → h < length (state_of u run).harts → AreThereFor u run (flushes_of u (state_of u run) h)
flushes_there u run h i =
    by_flushing (flushes_of u (state_of u run) h) (flushing_there (surroundings u (state_of u run)) h (hart (state_of u run) h).arch (need (state_of u run) h) (length (state_of u run).harts) i all_harts)
  where
    all_harts : (t : ℕ) → t < u.layout.harts → t < length (state_of u run).harts
    all_harts t lt = subst (λ n. t < n) (sym (run_length u run)) (let e = replicated (u.layout.harts - 1) in omega (arith, lt, e))
      where
        replicated : (n : ℕ) → length (replicate n (new_hart Halted 0)) ≡ n
        replicated n = length-replicate n (new_hart Halted 0)

    by_flushing : (f : Option Flushing) → AreBelow (length (state_of u run).harts) f → AreThereFor u run f
    by_flushing None k = tt
    by_flushing (Some f) k = k

-- a Fetch that finds a leaf, and what stands behind it
executing_good : (u : Setup) (run : List Event) (h : ℕ) (code : Code) → Good u run → Settled u run → (hart (state_of u run) h).mode ≡ Started
    → IsLawful u run (fetch_now u (state_of u run) h code) → is_leaf_end (fetch_end u (state_of u run) h) ≡ true
    → Good u ((executing u (state_after (fetch_now u (state_of u run) h code) (state_of u run)) h ++ fetch_now u (state_of u run) h code ∷ []) ++ run)
unfolding executing
executing_good u run h code g k started lawful leaf =
    let s = state_of u run in
    let f = fetch_now u s h code in
    let s1 = state_after f s in
    let i : h < length s.harts = started_there s.harts h started in
    let part : part_next f (hart s h) ≡ record (hart s h) { held = Some code } = fetched_leaf code (hart s h) (hart s h).arch.pc (fetch_end u s h) leaf in
    let count : (t : ℕ) → (hart s1 t).count ≡ (hart s t).count = λ t. event_keeps (λ x. x.count) f (λ g x. refl) (λ x. ap (λ y. y.count) (fetched_leaf code x x.arch.pc (fetch_end u s h) leaf)) s.harts t in
    let undue : Undue u (f ∷ run) = λ t. undue_quiet u run f t (ap not leaf) (count t) (k.undue t) in
    let there : h < length s1.harts = subst (λ n. h < n) (sym (length-set s.harts h _)) i in
    let fl : Flushed u (f ∷ run) h (flushes_of u s1 h) = flush_first u (f ∷ run) h (flushes_of u s1 h) (flushes_there u (f ∷ run) h there) (lawful, g.is_run) undue in
    let runs : is_started (hart s1 h).mode ≡ true = own_part (λ x. is_started x.mode) (λ g x. started_awaited x.mode) f s i refl ∙ ap (λ (x : Hart). is_started x.mode) part ∙ ap is_started started in
    let holds : (hart s1 h).held ≡ Some code = own_part (λ x. x.held) (λ g x. refl) f s i refl ∙ ap (λ x. x.held) part in
    subst (λ es. Good u es) (sym (regroup (stops_behind u h (exec_now u s1 h) (state_after (exec_now u s1 h) s1)) (flush_events (flushes_of u s1 h)) run (exec_now u s1 h) f))
    (exec_good u (flush_events (flushes_of u s1 h) ++ f ∷ run) h s1 fl.state fl.is_run fl.undue there runs (ap is_some holds) fl.done
    (λ t ne. other_keeps (λ x. x.held) (λ g x. refl) f s t i refl ne ∙ k.holds_none t))

-- a Fetch that faults
fault_good : (u : Setup) (run : List Event) (h : ℕ) (code : Code) → Good u run → Settled u run → (hart (state_of u run) h).mode ≡ Started
    → IsLawful u run (fetch_now u (state_of u run) h code) → is_leaf_end (fetch_end u (state_of u run) h) ≡ false
    → Good u (with_stops u (state_of u run) h (fetch_now u (state_of u run) h code) ++ run)
fault_good u run h code g k started lawful fault =
    let s = state_of u run in
    let f = fetch_now u s h code in
    let i : h < length s.harts = started_there s.harts h started in
    subst (λ es. Good u es) (sym (append_assoc (stops_behind u h f (state_after f s)) (f ∷ []) run))
    (stops_good u run h f (eq-eqb h h refl) (lawful, g.is_run)
    (all_empty f s i refl (fetched_fault code (hart s h) (hart s h).arch.pc (fetch_end u s h) fault ∙ k.holds_none h) (λ t ne. k.holds_none t))
    (λ t ne. undue_other u run f t (ne_eqb h t (λ e. ne (sym e))) (other_keeps (λ x. x.count) (λ g x. refl) f s t i refl ne) (k.undue t))
    (λ _. runs_after f s i refl (ap is_started (fetched_mode code (hart s h) (spot_of Kind.Fetch (hart s h).arch.pc (fetch_end u s h)) ∙ started))))

instruction_good : (u : Setup) (run : List Event) (h : ℕ) (code : Code) → Good u run → Settled u run → (hart (state_of u run) h).mode ≡ Started
    → IsLawful u run (fetch_now u (state_of u run) h code) → Good u (instruction u (state_of u run) h code ++ run)
unfolding instruction
instruction_good u run h code g k started lawful = go (is_leaf_end (fetch_end u (state_of u run) h)) refl
  where
    go : (b : Bool) → is_leaf_end (fetch_end u (state_of u run) h) ≡ b
        → Good u ((if b then executing u (state_after (fetch_now u (state_of u run) h code) (state_of u run)) h ++ fetch_now u (state_of u run) h code ∷ []
        else with_stops u (state_of u run) h (fetch_now u (state_of u run) h code)) ++ run)
    go true e = executing_good u run h code g k started lawful e
    go false e = fault_good u run h code g k started lawful e

not_both : (b : Bool) → b ≡ true → b ≡ false → ⊥
not_both b p q = cc

-- an interrupt
interrupt_good : (u : Setup) (run : List Event) (h : ℕ) → Good u run → Settled u run → (hart (state_of u run) h).mode ≡ Started
    → is_pending_now u (state_of u run) h ≡ true → Good u (Interrupt h ∷ run)
interrupt_good u run h g k started pending = record {
  is_run = (record { there = started_there (state_of u run).harts h started; started = started; holds_none = k.holds_none h; not_due = k.undue h; pending = pending }, g.is_run);
  settled = record {
    holds_none = λ t. event_keeps (λ x. x.held) (Interrupt h) (λ g x. refl) (λ x. refl) (state_of u run).harts t ∙ k.holds_none t;
    undue = λ t. undue_quiet u run (Interrupt h) t refl (event_keeps (λ x. x.count) (Interrupt h) (λ g x. refl) (λ x. refl) (state_of u run).harts t) (k.undue t);
    said = λ all. absurd (not_both (all_halted (state_of u (Interrupt h ∷ run))) all (runs_after (Interrupt h) (state_of u run) (started_there (state_of u run).harts h started) refl (ap is_started started)));
  };
}

-- a start
start_good : (u : Setup) (run : List Event) (h : ℕ) → Good u run → Settled u run → (hart (state_of u run) h).mode ≡ Pending
    → Good u (Start h (hart (state_of u run) h).start (hart (state_of u run) h).opaque ∷ Flushes h Full ∷ run)
start_good u run h g k pending =
    let e = Start h (hart (state_of u run) h).start (hart (state_of u run) h).opaque in
    let i : h < length (state_of u run).harts = pending_there (state_of u run).harts h pending in
    let undue : Undue u (Flushes h Full ∷ run) = λ t. undue_quiet u run (Flushes h Full) t refl refl (k.undue t) in
    record {
      is_run = (record { there = i; pending = pending; not_due = undue h; flushed = this (flush_this h Full); at_is = refl; opaque_is = refl }, ((i, k.undue h), g.is_run));
      settled = record {
        holds_none = λ t. event_keeps (λ x. x.held) e (λ g x. refl) (λ x. refl) (state_of u run).harts t ∙ k.holds_none t;
        undue = λ t. undue_quiet u (Flushes h Full ∷ run) e t refl (event_keeps (λ x. x.count) e (λ g x. refl) (λ x. refl) (state_of u run).harts t) (undue t);
        said = λ all. absurd (not_both (all_halted (state_of u (e ∷ Flushes h Full ∷ run))) all (runs_after e (state_of u run) i refl refl));
      };
    }

-- a turn
pub turn_good : (u : Setup) (run : List Event) (h : ℕ) (code : Code) → IsNext u (state_of u run) h code → Good u run → Good u (plain_turn u (state_of u run) h code ++ run)
unfolding plain_turn
turn_good u run h code next g = by_reason (state_of u run).reason refl
  where
    by_pending : (b : Bool) → is_pending_now u (state_of u run) h ≡ b → Settled u run → (hart (state_of u run) h).mode ≡ Started
        → Good u ((if b then Interrupt h ∷ [] else instruction u (state_of u run) h code) ++ run)
    by_pending true e k started = interrupt_good u run h g k started e
    by_pending false e k started = instruction_good u run h code g k started (fetch_lawful u run h code k started e (found_by u (state_of u run) h code started e next))

    by_mode : (m : Mode) → (hart (state_of u run) h).mode ≡ m → Settled u run → Good u (turn_in u (state_of u run) h code m ++ run)
    by_mode Halted e k = g
    by_mode Pending e k = start_good u run h g k e
    by_mode Started e k = by_pending (is_pending_now u (state_of u run) h) refl k e

    by_reason : (r : Option Reason) → (state_of u run).reason ≡ r → Good u ((if is_some r then [] else turn_in u (state_of u run) h code (hart (state_of u run) h).mode) ++ run)
    by_reason (Some r) e = g
    by_reason None e = by_mode (hart (state_of u run) h).mode refl g.settled

-- the first state
stopped_empty : (n t : ℕ) → (nth (replicate n (new_hart Halted 0)) t).held ≡ None
stopped_empty zero t = refl
stopped_empty (suc n) zero = refl
stopped_empty (suc n) (suc t) = stopped_empty n t

first_empty : (u : Setup) (t : ℕ) → (hart (initial u) t).held ≡ None
first_empty u zero = refl
first_empty u (suc t) = stopped_empty (u.layout.harts - 1) t

first_good : (u : Setup) → Good u []
first_good u = record { is_run = tt; settled = record { holds_none = first_empty u; undue = λ t. refl; said = λ k. cc } }

pub plain_good : (u : Setup) (order : List ℕ) (run : List Event) → IsPlainRun u order run → Good u run
plain_good u _ _ IsPlainRun.none = first_good u
plain_good u _ _ (turn h code going next past) = turn_good u _ h code next (plain_good u _ _ past)
plain_good u _ _ (over h ended past) = plain_good u _ _ past
