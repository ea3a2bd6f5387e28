-- Facts on runs that go on, with no cases on events: what a composition of runs stands on.
use Rattle.std.proofs.Common.{◌≡◌, refl, ℕ, ◌<◌, ◌++◌, List, [], ◌∷◌, Some, None, Option, true, false, Bool, ◌&&◌, ap, sym, ◌∙◌, subst, slice_set, length, length-set, not}
use Rattle.std.specs.Prelude.{◌==◌, if◌then◌else◌}
use Rattle.std.proofs.lemmas.Bool.{eq-eqb, eqb-true}
use Rattle.std.proofs.lemmas.List.{get_or-set_other, get_or-set_same}
use Rattle.std.specs.List.{list_all}
use Rattle.rv64_priv.specs.declared.state.Kind.{Kind}
use Rattle.rv64_priv.specs.Csr.{regime}
use Rattle.rv64_priv.specs.Walk.{Walked, Leaf, PageFault, AccessFault, walk_of}
use Rattle.rv64_priv.specs.Flush.{covers}
use Rattle.machine_model.specs.Past.{Since, later, HasSince, before}
use Rattle.machine_model.specs.Event.{Event, Starting, Flushes, actor_of, did_of}
use Rattle.machine_model.specs.declared.mode.Mode.TheVariants.{Halted}
use Rattle.machine_model.specs.State.{Setup, State, Hart, new_hart, initial, nth, hart}
use Rattle.machine_model.specs.Change.{state_after, part_next, has_part, awaited, with_start}
use Rattle.machine_model.specs.Run.{state_of, memory_at, is_of, covers_leaf, renews}
use Rattle.machine_model.specs.Walks.{levels_of}
use Rattle.machine_model.specs.Lawful.{IsAllowed}
use Rattle.machine_model.specs.Laws.{HartsAreParts, WalksStayAllowed, started_by, hart_next}
use Rattle.machine_model.proofs.Harts.{start_keeps}

-- no event passes the test
abbrev pub Passing : (Event → Bool) → List Event → Type 0
Passing stop [] = Unit {0}
Passing stop (e ∷ es) = (stop e ≡ false) × Passing stop es

-- none is of this actor
abbrev pub Others : ℕ → List Event → Type 0
Others h es = Passing (is_of h) es

-- a moment stays at or after the last event of a kind, and what has been done stays done, until the next of the kind
pub since_more : (stop : Event → Bool) (moment es run : List Event) → Passing stop es → Since stop moment run → Since stop moment (es ++ run)
since_more stop moment [] run p k = k
since_more stop moment (e ∷ es) run p k = later p.0 (since_more stop moment es run p.1 k)

pub has_more : (stop test : Event → Bool) (es run : List Event) → Passing stop es → HasSince stop test run → HasSince stop test (es ++ run)
has_more stop test [] run p k = k
has_more stop test (e ∷ es) run p k = before p.0 (has_more stop test es run p.1 k)

false_true : false ≡ true → ⊥
false_true k = cc

-- a hart's registers change by its own events alone
pub set_other : (hs : List Hart) (a h : ℕ) (t : Hart) → (a == h) ≡ false → nth (slice_set hs a t) h ≡ nth hs h
set_other hs a h t e = get_or-set_other hs a h t (new_hart Halted 0) (λ k. false_true (sym e ∙ eq-eqb a h (sym k)))

pub arch_other : (e : Event) (s : State) (h : ℕ) → is_of h e ≡ false → (hart (state_after e s) h).arch ≡ (hart s h).arch
arch_other e s h other =
    start_keeps (λ t. t.arch) (λ g t. refl) (if has_part e then slice_set s.harts (actor_of e) (part_next e (nth s.harts (actor_of e))) else s.harts) (did_of e).starts h
    ∙ by_part (has_part e)
  where
    by_part : (b : Bool) → (nth (if b then slice_set s.harts (actor_of e) (part_next e (nth s.harts (actor_of e))) else s.harts) h).arch ≡ (nth s.harts h).arch
    by_part true = ap (λ t. t.arch) (set_other s.harts (actor_of e) h (part_next e (nth s.harts (actor_of e))) other)
    by_part false = refl

pub arch_others : (u : Setup) (h : ℕ) (es run : List Event) → Others h es → (hart (state_of u (es ++ run)) h).arch ≡ (hart (state_of u run) h).arch
arch_others u h [] run p = refl
arch_others u h (e ∷ es) run p = arch_other e (state_of u (es ++ run)) h p.0 ∙ arch_others u h es run p.1

-- no event of another actor renews a walk of the hart
covers_other : (h va level : ℕ) (e : Event) → is_of h e ≡ false → covers_leaf h va level e ≡ false
covers_other h va level (Flushes g what) k = ap (λ b. b && covers what va level) k
covers_other h va level _ k = refl

pub renews_other : (h va : ℕ) (end : Walked) (e : Event) → is_of h e ≡ false → renews h va end e ≡ false
renews_other h va (Leaf pte page level) e k = covers_other h va level e k
renews_other h va PageFault e k = k
renews_other h va AccessFault e k = k

pub renews_others : (h va : ℕ) (end : Walked) (es : List Event) → Others h es → Passing (renews h va end) es
renews_others h va end [] p = tt
renews_others h va end (e ∷ es) p = (renews_other h va end e p.0, renews_others h va end es p.1)

-- so a walk stays allowed over events that don't renew it, while the hart's registers stay
pub allowed_more : (u : Setup) (h : ℕ) (kind : Kind) (va : ℕ) (end : Walked) (es run : List Event) → Passing (renews h va end) es
    → (hart (state_of u (es ++ run)) h).arch ≡ (hart (state_of u run) h).arch → IsAllowed u run h kind va end → IsAllowed u (es ++ run) h kind va end
allowed_more u h kind va end es run p same k = record {
  moment = k.moment;
  in_order = k.in_order;
  past = since_more (renews h va end) (k.moment 0) es run p k.past;
  is_end = ap (λ a. walk_of u.layout.pages (regime a) kind (levels_of (λ level. memory_at u (k.moment level))) va) same ∙ k.is_end;
}

-- and over all events of other actors
pub allowed_others : (u : Setup) (h : ℕ) (kind : Kind) (va : ℕ) (end : Walked) (es run : List Event) → Others h es → IsAllowed u run h kind va end → IsAllowed u (es ++ run) h kind va end
allowed_others u h kind va end es run p k = allowed_more u h kind va end es run (renews_others h va end es p) (arch_others u h es run p) k

-- each hart by itself
start_is : (hs : List Hart) (o : Option Starting) (h : ℕ) → h < length hs → nth (with_start hs o) h ≡ started_by h o (nth hs h)
start_is hs None h lt = refl
start_is hs (Some g) h lt = go (g.target == h) refl
  where
    go : (b : Bool) → (g.target == h) ≡ b → nth (slice_set hs g.target (awaited g (nth hs g.target))) h ≡ (if b then awaited g (nth hs h) else nth hs h)
    go true e = subst (λ x. nth (slice_set hs x (awaited g (nth hs x))) h ≡ awaited g (nth hs h)) (sym (eqb-true g.target h e)) (get_or-set_same hs h (awaited g (nth hs h)) (new_hart Halted 0) lt)
    go false e = set_other hs g.target h (awaited g (nth hs g.target)) e

abbrev pub changed : Event → List Hart → List Hart
changed e hs = if has_part e then slice_set hs (actor_of e) (part_next e (nth hs (actor_of e))) else hs

changed_is : (e : Event) (hs : List Hart) (h : ℕ) → h < length hs → nth (changed e hs) h ≡ (if has_part e && is_of h e then part_next e (nth hs h) else nth hs h)
changed_is e hs h lt = go (has_part e) (is_of h e) refl
  where
    go : (b c : Bool) → is_of h e ≡ c → nth (if b then slice_set hs (actor_of e) (part_next e (nth hs (actor_of e))) else hs) h ≡ (if b && c then part_next e (nth hs h) else nth hs h)
    go false c k = refl
    go true true k = subst (λ x. nth (slice_set hs x (part_next e (nth hs x))) h ≡ part_next e (nth hs h)) (sym (eqb-true (actor_of e) h k)) (get_or-set_same hs h (part_next e (nth hs h)) (new_hart Halted 0) lt)
    go true false k = set_other hs (actor_of e) h (part_next e (nth hs (actor_of e))) k

pub changed_length : (e : Event) (hs : List Hart) → length (changed e hs) ≡ length hs
changed_length e hs = go (has_part e)
  where
    go : (b : Bool) → length (if b then slice_set hs (actor_of e) (part_next e (nth hs (actor_of e))) else hs) ≡ length hs
    go true = length-set hs (actor_of e) _
    go false = refl

pub start_length : (hs : List Hart) (o : Option Starting) → length (with_start hs o) ≡ length hs
start_length hs None = refl
start_length hs (Some g) = length-set hs g.target _

pub run_length : (u : Setup) (run : List Event) → length (state_of u run).harts ≡ length (initial u).harts
run_length u [] = refl
run_length u (e ∷ run) = start_length (changed e (state_of u run).harts) (did_of e).starts ∙ changed_length e (state_of u run).harts ∙ run_length u run

pub hart_is : (e : Event) (s : State) (h : ℕ) → h < length s.harts → hart (state_after e s) h ≡ hart_next h e (hart s h)
hart_is e s h lt =
    start_is (changed e s.harts) (did_of e).starts h (subst (λ n. h < n) (sym (changed_length e s.harts)) lt)
    ∙ ap (started_by h (did_of e).starts) (changed_is e s.harts h lt)

pub harts_are_parts : HartsAreParts
harts_are_parts u [] h lt = refl
harts_are_parts u (e ∷ run) h lt =
    hart_is e (state_of u run) h (subst (λ n. h < n) (sym (run_length u run)) lt)
    ∙ ap (hart_next h e) (harts_are_parts u run h lt)

others_step : (h : ℕ) (e : Event) (es : List Event) (b : Bool) → is_of h e ≡ b → not b && list_all (λ e. not (is_of h e)) es ≡ true
    → (list_all (λ e. not (is_of h e)) es ≡ true → Others h es) → Others h (e ∷ es)
others_step h e es true p k rest = absurd (false_true k)
others_step h e es false p k rest = (p, rest k)

others_of : (h : ℕ) (es : List Event) → list_all (λ e. not (is_of h e)) es ≡ true → Others h es
others_of h [] k = tt
others_of h (e ∷ es) k = others_step h e es (is_of h e) refl k (others_of h es)

pub walks_stay_allowed : WalksStayAllowed
walks_stay_allowed u h kind va end more run k allowed = allowed_others u h kind va end more run (others_of h more k) allowed
