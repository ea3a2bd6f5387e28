-- The headline's parts, from one run.
use Rattle.std.proofs.Common.{◌≡◌, ◌≢◌, ◌≤◌, ◌<◌, ◌+◌, ℕ, zero, suc, Bool, true, false, true≢false, List, [], ◌∷◌, ◌++◌, length, refl, sym, ap, subst, ◌∙◌, arith, ne_eqb, eqb-true, inl, inr}
use Rattle.std.specs.Prelude.{◌⊎◌, ◌==◌, ◌&&◌, ◌||◌, nat_le, max, if◌then◌else◌, IsTrue}
use Rattle.std.specs.List.{list_any, AllByRecursion}
use Rattle.std.proofs.lemmas.Bool.{and_parts}
use Rattle.std.proofs.lemmas.Bool.Decides.{nat_tests}
use Rattle.std.proofs.lemmas.List.{length-append}
use Rattle.rv64_priv.specs.Flush.{Flush, Full, Pages, covers, first_page}
use Rattle.rv64_priv.specs.Walk.{pages_of_level, Leaf}
use Rattle.step_laws.specs.Words.{monitor, loader}
use Rattle.step_laws.proofs.Named.{by_test}
use Rattle.step_laws.proofs.Apart.{section_law}
use Rattle.step_laws.proofs.Histories.{joined_law}
use Rattle.step_laws.specs.Histories.{IsHistory}
use Rattle.machine_model.specs.Past.{Since, now, later, HasSince, this, before}
use Rattle.machine_model.specs.Event.{Event, Exec, Flushes, SnapEnd, Dump, actor_of}
use Rattle.machine_model.specs.Script.{ScriptResult, Pages as Took, Bytes, script_results}
use Rattle.machine_model.specs.State.{Setup, hart, initial}
use Rattle.machine_model.specs.Own.{Own, own, own_of, own_next}
use Rattle.machine_model.specs.Run.{fetches, flushes, covers_leaf, renews, includes}
use Rattle.machine_model.specs.Lawful.{Flushed, FlushesDone, IsRun}
use Rattle.machine_model.proofs.Owned.{own_is_own}
use Rattle.turn_pieces.specs.Log.{made, did, Log, events_of}
use Rattle.run_laws.specs.Read.{own_items}
use Rattle.run_laws.proofs.States.{harts_there}
use Rattle.run_laws.specs.Parts.{at_fetch, FencesLeaveNone, SectionsAreApart, HartsAreTheirLogs, ScriptIsTheMonitors}

-- a moment that stands at or behind each event that passes one test stands at or behind the last event that passes another, where one
-- that passes the first stands behind that
fetch_short : (h : ℕ) (run : List Event) → length (at_fetch h run) ≤ length run
fetch_short h [] = omega arith
fetch_short h (e ∷ run) = go (fetches h e) (fetch_short h run)
  where
    go : (b : Bool) → length (at_fetch h run) ≤ length run → length (if b then e ∷ run else at_fetch h run) ≤ length (e ∷ run)
    go true k = omega arith
    go false k = omega (arith, k)

module _ (h : ℕ) (test stop : Event → Bool) (ends : (e : Event) → IsTrue (test e) → stop e ≡ true) where
  late_enough : (moment : List Event) {run : List Event} → Since stop moment run → HasSince (fetches h) test run → length (at_fetch h run) ≤ length moment
  late_enough moment now k = fetch_short h moment
  late_enough moment (later {x = e} n s) (this y) = absurd (true≢false (sym (ends e y) ∙ n))
  late_enough moment (later {x = e} {xs = run} n s) (before f k) =
      subst (λ (b : Bool). length (if b then e ∷ run else at_fetch h run) ≤ length moment) (sym f) (late_enough moment s k)

  later_still : (moment newer older : List Event) (e : Event) → HasSince (fetches h) test older → Since stop moment (newer ++ e ∷ older) → length (at_fetch h older) ≤ length moment
  later_still moment [] older e k now = let s = fetch_short h older in omega (arith, s)
  later_still moment [] older e k (later n s) = late_enough moment s k
  later_still moment (x ∷ newer) older e k now = let s = fetch_short h older in omega (arith, s, length-append newer (e ∷ older))
  later_still moment (x ∷ newer) older e k (later n s) = later_still moment newer older e k s

-- one moment behind another
since_then : (stop : Event → Bool) {first mid run : List Event} → Since stop first mid → Since stop mid run → Since stop first run
since_then stop s now = s
since_then stop s (later n k) = later n (since_then stop s k)

abbrev Found : {A : Type 0} → (A → Type 0) → (A → Bool) → Type 0
Found P is = (x : _) × IsTrue (is x) × P x

first_or : {A : Type 0} (P : A → Type 0) (is : A → Bool) (x : A) (b : Bool) → P x → is x ≡ b → (IsTrue b ⊎ Found P is) → Found P is
first_or P is x true k e o = (x, e, k)
first_or P is x false k e (inl i) = absurd (cc (i))
first_or P is x false k e (inr f) = f

or_parts : (b c : Bool) (A : Type 0) → (IsTrue c → A) → IsTrue (b || c) → IsTrue b ⊎ A
or_parts true c A f i = inl refl
or_parts false c A f i = inr (f i)

all_at : {A : Type 0} (P : A → Type 0) (is : A → Bool) (xs : List A) → AllByRecursion P xs → IsTrue (list_any is xs) → Found P is
all_at P is [] k i = absurd (cc (i))
all_at P is (x ∷ xs) k i = first_or P is x (is x) k.0 refl (or_parts (is x) (list_any is xs) (Found P is) (all_at P is xs k.1) i)

-- a flush that includes a page which a leaf lies on covers the leaf
page_within : (first count va level : ℕ) → covers (Pages first count) va level ≡ true
    → (page : ℕ) × (first ≤ page) × (page < first + count) × (first_page va level ≤ page) × (page < first_page va level + pages_of_level level)
page_within first count va level c = (max first (first_page va level), grind arith, grind (arith, nat_tests, c), grind arith, grind (arith, nat_tests, c))

covers_on : (what : Flush) (page va level : ℕ) → includes what (Pages page 1) ≡ true → first_page va level ≤ page → page < first_page va level + pages_of_level level → covers what va level ≡ true
covers_on Full page va level i p q = refl
covers_on (Pages first count) page va level i p q =
    let k = and_parts (nat_le first page) (nat_le (page + 1) (first + count)) i in grind (arith, nat_tests, k.0, k.1, p, q)

covers_page : (t page va level : ℕ) → first_page va level ≤ page → page < first_page va level + pages_of_level level → (e : Event) → IsTrue (flushes t (Pages page 1) e) → covers_leaf t va level e ≡ true
covers_page t page va level p q (Flushes g what) y = let k = and_parts (g == t) (includes what (Pages page 1)) y in λ i. k.0 i && covers_on what page va level k.1 p q i
covers_page t page va level p q e y = absurd (cc (y))

covers_all : (t va level : ℕ) → (e : Event) → IsTrue (flushes t Full e) → covers_leaf t va level e ≡ true
covers_all t va level (Flushes g Full) y = y
covers_all t va level (Flushes g (Pages first count)) y = absurd (cc ((and_parts (g == t) false y).1))
covers_all t va level e y = absurd (cc (y))

flushed_short : (h t va pte address level : ℕ) (what : Flush) (moment newer older : List Event) (e : Event) → Flushed older h t what → covers what va level ≡ true
    → Since (renews t va (Leaf pte address level)) moment (newer ++ e ∷ older) → length (at_fetch h older) ≤ length moment
flushed_short h t va pte address level Full moment newer older e f c s = later_still h (flushes t Full) (covers_leaf t va level) (covers_all t va level) moment newer older e f s
flushed_short h t va pte address level (Pages first count) moment newer older e f c s =
    let k = page_within first count va level c in
    later_still h (flushes t (Pages k.0 1)) (covers_leaf t va level) (covers_page t k.0 va level k.3 k.4) moment newer older e (f k.0 k.1 k.2) s

run_back : (u : Setup) (newer run : List Event) → IsRun u (newer ++ run) → IsRun u run
run_back u [] run k = k
run_back u (e ∷ newer) run k = run_back u newer run k.1

pub fences_leave_none : FencesLeaveNone
fences_leave_none u newer older h walk second outcome asked is asks t named kind va pte address level c allowed read =
    let k : IsRun u (Exec h walk second outcome ∷ older) = run_back u newer (Exec h walk second outcome ∷ older) is in
    let one = all_at (λ x. Flushed older h x asked.what) (λ x. x == t) asked.harts (subst (FlushesDone older h) asks k.0.flushed) named in
    flushed_short h t va pte address level asked.what (allowed.moment read) newer older (Exec h walk second outcome) (subst (λ x. Flushed older h x asked.what) (eqb-true one.0 t one.1) one.2) c (behind read)
  where
    behind : (n : ℕ) → Since (renews t va (Leaf pte address level)) (allowed.moment n) (newer ++ Exec h walk second outcome ∷ older)
    behind zero = allowed.past
    behind (suc n) = since_then (renews t va (Leaf pte address level)) (allowed.in_order n) (behind n)

pub sections_are_apart : SectionsAreApart
sections_are_apart layout words records a newer older limits j who is inside none =
    let base = joined_law layout words records limits j in
    section_law layout base.0 newer older a who (subst (IsHistory layout base.0) is base.1) inside none

-- what an actor's own events alone change
module _ (B : Type 0) (a : ℕ) (g : List Event → B) (next : Event → B → B) (is : (e : Event) (run : List Event) → g (e ∷ run) ≡ next e (g run))
    (other : (e : Event) → actor_of e ≢ a → (b : B) → next e b ≡ b) where
  of_items : (l : Log) → g (events_of l) ≡ g (events_of (own_items a l))
  of_items [] = refl
  of_items (made s ∷ l) = of_items l ∙ either_way (a == s.actor)
    where
      either_way : (b : Bool) → g (events_of (own_items a l)) ≡ g (events_of (if b then made s ∷ own_items a l else own_items a l))
      either_way true = refl
      either_way false = refl
  of_items (did e ∷ l) = is e (events_of l) ∙ (ap (next e) (of_items l) ∙ by_test a (actor_of e)
      (λ b. next e (g (events_of (own_items a l))) ≡ g (events_of (if b then did e ∷ own_items a l else own_items a l)))
      (λ same. sym (is e (events_of (own_items a l)))) (λ ne. other e (λ k. ne (sym k)) (g (events_of (own_items a l)))))

own_other : (a : ℕ) (e : Event) → actor_of e ≢ a → (o : Own) → (if actor_of e == a then own_next e o else o) ≡ o
own_other a e ne o = ap (λ (b : Bool). if b then own_next e o else o) (ne_eqb (actor_of e) a ne)

pub harts_are_their_logs : HartsAreTheirLogs
harts_are_their_logs u steps records logs run limits read k r e lt =
    own_is_own u run r.actor (there r.actor lt)
    ∙ (ap (λ es. own_of r.actor es (own (hart (initial u) r.actor))) (sym read.events)
    ∙ (of_items Own r.actor (λ es. own_of r.actor es (own (hart (initial u) r.actor))) (λ x o. if actor_of x == r.actor then own_next x o else o) (λ x es. refl) (own_other r.actor) read.all
    ∙ ap (λ l. own_of r.actor (events_of l) (own (hart (initial u) r.actor))) (read.own k r e (no_loader r.actor lt))))
  where
    there : (h : ℕ) → h < u.layout.harts → h < length (initial u).harts
    there h lt = subst (λ n. h < n) (sym (harts_there u limits.some_hart)) lt

    no_loader : (h : ℕ) → h < u.layout.harts → h ≢ loader
    no_loader h lt z = let q = limits.harts in omega (arith, lt, z, q)

-- the script's results
result_next : Event → List ScriptResult → List ScriptResult
result_next (SnapEnd pages) rs = rs ++ Took pages ∷ []
result_next (Dump at bytes) rs = rs ++ Bytes at bytes ∷ []
result_next e rs = rs

result_is : (e : Event) (run : List Event) → script_results (e ∷ run) ≡ result_next e (script_results run)
unfolding result_next
result_is (SnapEnd pages) run = refl
result_is (Dump at bytes) run = refl
result_is e run = refl

result_other : (e : Event) → actor_of e ≢ monitor → (rs : List ScriptResult) → result_next e rs ≡ rs
unfolding result_next
result_other (SnapEnd pages) ne rs = absurd (ne refl)
result_other (Dump at bytes) ne rs = absurd (ne refl)
result_other e ne rs = refl

pub script_is_the_monitors : ScriptIsTheMonitors
script_is_the_monitors steps records logs run read k r e is =
    ap script_results (sym read.events)
    ∙ (of_items (List ScriptResult) monitor script_results result_next result_is result_other read.all
    ∙ ap (λ l. script_results (events_of l)) (subst (λ b. own_items b read.all ≡ logs b) is (read.own k r e (λ z. not_loader (sym is ∙ z)))))
  where
    not_loader : monitor ≢ loader
    not_loader z = omega (arith, z)
