-- From joined records to the run.
use Rattle.std.proofs.Common.{◌≡◌, ◌≢◌, ◌⊎◌, ℕ, zero, suc, ◌<◌, ◌≤◌, Bool, true, false, List, [], ◌∷◌, ◌++◌, Some, refl, sym, ap, subst, ◌∙◌, inl, inr, arith, length, map, eq-eqb, ne_eqb}
use Rattle.std.specs.Prelude.{◌==◌, ◌^◌, if◌then◌else◌, slice_index, ◌||◌}
use Rattle.std.proofs.lemmas.Bool.{cases_eq}
use mathlib.Core.Option.{some}
use lib.ListN.{get_elem?}
use Rattle.step_laws.specs.declared.words.Layout.{Layout}
use Rattle.step_laws.specs.declared.steps.Record.{Record}
use Rattle.step_laws.specs.declared.steps.Step.{Step}
use Rattle.step_laws.specs.declared.steps.WordOp.TheVariants.{Load, Store}
use Rattle.step_laws.specs.Layout.{IsInLimits}
use Rattle.step_laws.specs.Map.{Zero, Cons, Stop, Console, Hsm, name_of, number_of}
use Rattle.step_laws.specs.Words.{loader}
use Rattle.step_laws.specs.Steps.{own_steps, value_at, new_of, words_of}
use Rattle.step_laws.specs.Histories.{IsHistory, IsBegun as HasBegun}
use Rattle.step_laws.proofs.Histories.{initial_runs}
use Rattle.step_laws.specs.Joined.{is_listed, IsJoined}
use Rattle.step_laws.proofs.Named.{by_test}
use Rattle.step_laws.proofs.Woven.{woven, history_tail, own_other, loader_op, Begins, begins_rest}
use Rattle.step_laws.proofs.Along.{permits_loader, silent_own}
use Rattle.step_laws.proofs.Histories.{joined_law, trace_law, trace_begun, Listed, listed}
use Rattle.machine_model.specs.State.{Setup}
use Rattle.turn_pieces.specs.Shared.{IsShared}
use Rattle.step_laws.specs.Steps.{IsConsistent}
use Rattle.run_laws.proofs.Sees.{value_small}
use Rattle.step_laws.specs.Words.{console_places}
use Rattle.machine_model.specs.Run.{state_of}
use Rattle.run_laws.proofs.Placed.{Placed, placed, steps}
use Rattle.turn_pieces.specs.Shared.{mode_named}
use Rattle.run_laws.proofs.Begun.{IsLoaded}
use Rattle.run_laws.proofs.Pieces.{IsActing, IsIdle, IsTurns, none}
use Rattle.run_laws.specs.Ended.{IsFilled as Full, byte_at as byte}
use Rattle.run_laws.proofs.Composition.{Composed}
use Rattle.run_laws.proofs.Ended.{IsTurned, IsRead, JoinedComposition}
use Rattle.run_laws.specs.Ended.{IsEnded}
use Rattle.run_laws.proofs.Compose.{composition}

-- the loader's steps are loads of word 0
abbrev Rests : List Step → Type 0
Rests [] = Unit {0}
Rests (s ∷ h) = (s.actor ≡ loader → (name_of s.word ≡ Zero) × (s.op ≡ Load)) × Rests h

-- a history is the loader's stores, and then what all do
record Parted (hs : List Step) : Type 0 where
  h : List Step
  boot : List Step
  whole : hs ≡ h ++ boot
  alone : (a : ℕ) → a ≢ loader → own_steps a boot ≡ []
  rests : Rests h

parted : (layout : Layout) (runs : ℕ → Bool) (hs : List Step) → IsHistory layout runs hs → Parted hs
parted layout runs [] i = record { h = []; boot = []; whole = refl; alone = λ a ne. refl; rests = tt }
parted layout runs (s ∷ hs) i = elim (cases_eq s.actor loader) [ inl is ↦ loading is (parted layout runs hs (history_tail layout runs s hs i)) | inr ne ↦ more (λ is. absurd (ne is)) (parted layout runs hs (history_tail layout runs s hs i)) ]
  where
    more : (s.actor ≡ loader → (name_of s.word ≡ Zero) × (s.op ≡ Load)) → Parted hs → Parted (s ∷ hs)
    more f p = record { h = s ∷ p.h; boot = p.boot; whole = ap (λ l. s ∷ l) p.whole; alone = p.alone; rests = (f, p.rests) }

    loading : s.actor ≡ loader → Parted hs → Parted (s ∷ hs)
    loading is p = go (loader_op layout (own_steps s.actor hs) (name_of s.word) s.op s.arg
        (permits_loader layout s.actor (runs s.actor) (own_steps s.actor hs) (name_of s.word) s.op s.arg i.limits.harts is (woven layout runs (s ∷ hs) i).0.permitted))
      where
        go : (s.op ≡ Store) ⊎ ((name_of s.word ≡ Zero) × (s.op ≡ Load)) → Parted (s ∷ hs)
        go (inl o) = record { h = []; boot = s ∷ hs; whole = refl; alone = λ a ne. own_other s hs a (λ e. ne (e ∙ is)) ∙ i.led.0 is o a ne; rests = tt }
        go (inr o) = more (λ _. o) p

-- behind such a list the loader's record is that of its stores
begins_before : (layout : Layout) (runs : ℕ → Bool) (h boot : List Step) → Rests h → Begins layout runs (own_steps loader (h ++ boot)) → Begins layout runs (own_steps loader boot)
begins_before layout runs [] boot r b = b
begins_before layout runs (s ∷ h) boot r b = begins_before layout runs h boot r.1 (by_test loader s.actor
    (λ t. Begins layout runs (if t then s ∷ own_steps loader (h ++ boot) else own_steps loader (h ++ boot)) → Begins layout runs (own_steps loader (h ++ boot)))
    (λ is b. let o = r.0 (sym is) in begins_rest layout runs s (own_steps loader (h ++ boot)) o.0 o.1 b) (λ _ b. b) b)

value_before : (x : ℕ) (h boot : List Step) → Rests h → value_at x (own_steps loader (h ++ boot)) ≡ value_at x (own_steps loader boot)
value_before x [] boot r = refl
value_before x (s ∷ h) boot r = by_test loader s.actor (λ t. value_at x (if t then s ∷ own_steps loader (h ++ boot) else own_steps loader (h ++ boot)) ≡ value_at x (own_steps loader boot))
    (λ is. same_load s (own_steps loader (h ++ boot)) (r.0 (sym is)).1 ∙ value_before x h boot r.1) (λ _. value_before x h boot r.1)
  where
    same_load : (s : Step) (r : List Step) → s.op ≡ Load → value_at x (s ∷ r) ≡ value_at x r
    same_load s r o = ap (λ p. if x == s.word then new_of p (value_at x r) s.arg else value_at x r) o ∙ either_way (x == s.word)
      where
        either_way : (t : Bool) → (if t then value_at x r else value_at x r) ≡ value_at x r
        either_way true = refl
        either_way false = refl

own_before : (a : ℕ) (h boot : List Step) → own_steps a boot ≡ [] → own_steps a (h ++ boot) ≡ own_steps a h
own_before a [] boot e = e
own_before a (s ∷ h) boot e = by_test a s.actor (λ t. (if t then s ∷ own_steps a (h ++ boot) else own_steps a (h ++ boot)) ≡ (if t then s ∷ own_steps a h else own_steps a h))
    (λ _. ap (λ r. s ∷ r) (own_before a h boot e)) (λ _. own_before a h boot e)

-- the loader's loads, with no events
abbrev bare : List Step → List Placed
bare [] = []
bare (s ∷ h) = placed s [] ∷ bare h

bare_steps : (h : List Step) → steps (bare h) ≡ h
bare_steps [] = refl
bare_steps (s ∷ h) = ap (λ r. s ∷ r) (bare_steps h)

bare_idle : (h : List Step) → Rests h → IsIdle (bare (own_steps loader h))
bare_idle [] r = tt
bare_idle (s ∷ h) r = by_test loader s.actor (λ t. IsIdle (bare (if t then s ∷ own_steps loader h else own_steps loader h)))
    (λ is. let o = r.0 (sym is) in (o.0, o.1, refl, bare_idle h r.1)) (λ _. bare_idle h r.1)

byte_within : (xs : List ℕ) (i b : ℕ) → byte xs i ≡ Some b → i < length xs
byte_within [] i b e = absurd (cc (e))
byte_within (x ∷ xs) zero b e = omega arith
byte_within (x ∷ xs) (suc i) b e = let k = byte_within xs i b e in omega (arith, k)

-- a record that is there is listed
listed_there : (records : List Record) (k : ℕ) (r : Record) → get_elem? records k ≡ some r → is_listed r.actor (map (λ q. q.actor) records) ≡ true
listed_there [] k r e = absurd (cc (e))
listed_there (q ∷ rs) zero r e = ap (λ (t : Bool). t || is_listed r.actor (map (λ p. p.actor) rs)) (eq-eqb r.actor q.actor (ap (λ (x : Record). x.actor) (sym same)))
  where
    same : q ≡ r
    same = cc (e)
listed_there (q ∷ rs) (suc k) r e = or_right (r.actor == q.actor) (listed_there rs k r e)
  where
    or_right : (t : Bool) {b : Bool} → b ≡ true → (t || b) ≡ true
    or_right true e = refl
    or_right false e = e

module _ (u : Setup) (words : List ℕ) (records : List Record) (given : ℕ → List Placed) (limits : IsInLimits u.layout) (j : IsJoined u.layout words records)
    (turned : (k : ℕ) (r : Record) → get_elem? records k ≡ some r → r.actor ≢ loader → IsTurned u r (given r.actor)) (h boot : List Step) (whole : j.steps ≡ h ++ boot)
    (alone : (a : ℕ) → a ≢ loader → own_steps a boot ≡ []) (rests : Rests h) where
  own_whole : (a : ℕ) → a ≢ loader → own_steps a j.steps ≡ own_steps a h
  own_whole a ne = ap (own_steps a) whole ∙ own_before a h boot (alone a ne)

  -- the record of each
  abbrev listed_record : Bool → ℕ → List Placed
  listed_record true a = given a
  listed_record false a = []

  abbrev record_of : ℕ → List Placed
  record_of a = if a == loader then bare (own_steps loader h) else listed_record (is_listed a (map (λ (r : Record). r.actor) records)) a

  record_here : (a : ℕ) → a ≢ loader → record_of a ≡ listed_record (is_listed a (map (λ (r : Record). r.actor) records)) a
  record_here a ne = ap (λ (t : Bool). if t then bare (own_steps loader h) else listed_record (is_listed a (map (λ (r : Record). r.actor) records)) a) (ne_eqb a loader ne)

  abbrev Acting : ℕ → List Placed → Type 0
  Acting a p = (steps p ≡ own_steps a h) × IsActing u a p

  turning : (a : ℕ) → a ≢ loader → (t : Bool) → is_listed a (map (λ (r : Record). r.actor) records) ≡ t → Acting a (listed_record t a)
  turning a ne true e =
      let k : Listed records a = listed records a e in
      let t : IsTurned u k.of (given k.of.actor) = turned k.place k.of k.there (λ i. ne (sym k.actor ∙ i)) in (
        ap (λ b. steps (given b)) (sym k.actor) ∙ (t.are ∙ (sym (j.fits k.place k.of k.there).0 ∙ (ap (λ b. own_steps b j.steps) k.actor ∙ own_whole a ne))),
        inl (ne, subst (λ b. IsTurns u b (given b)) k.actor t.turns),
      )
  turning a ne false e = (sym (sym (own_whole a ne) ∙ j.silent a e), inl (ne, none))

  acting_at : (a : ℕ) → Acting a (record_of a)
  acting_at a = by_test a loader (λ t. Acting a (if t then bare (own_steps loader h) else listed_record (is_listed a (map (λ (r : Record). r.actor) records)) a))
      (λ is. subst (λ b. Acting b (bare (own_steps loader h))) (sym is) (bare_steps (own_steps loader h), inr (bare_idle h rests)))
      (λ ne. turning a ne (is_listed a (map (λ (r : Record). r.actor) records)) refl)

  given_here : (k : ℕ) (r : Record) → get_elem? records k ≡ some r → r.actor ≢ loader → record_of r.actor ≡ given r.actor
  given_here k r e ne = record_here r.actor ne ∙ ap (λ (t : Bool). listed_record t r.actor) (listed_there records k r e)

pub joined_composition : JoinedComposition
joined_composition u words records given limits j image absent turned is_booted = (c.run, ended, read)
  where
    base : (runs : ℕ → Bool) × IsHistory u.layout runs j.steps
    base = joined_law u.layout words records limits j

    runs : ℕ → Bool
    runs = initial_runs u.layout base.0 j.steps

    history : IsHistory u.layout runs j.steps
    history = trace_law u.layout base.0 j.steps (record {
      limits = limits;
      consistent = j.consistent;
      disciplined = base.1.disciplined;
      led = j.led;
      booted = λ a ne some. is_booted;
      ran = λ a lt some. (base.1.begun a (λ e. off a lt e) some).ran a lt;
    })
      where
        off : (a : ℕ) → a < u.layout.harts → a ≡ loader → ⊥
        off a lt e = let p = limits.harts in omega (arith, p, lt, e)

    begun : HasBegun u.layout runs j.steps
    begun = trace_begun u.layout base.0 j.steps is_booted

    p : Parted j.steps
    p = parted u.layout runs j.steps history

    boot_steps : (h boot : List Step) → IsConsistent u.layout (h ++ boot) → IsConsistent u.layout boot
    boot_steps [] boot k = k
    boot_steps (s ∷ h) boot k = boot_steps h boot k.3

    image_is : (x : ℕ) → IsShared (name_of x) → value_at x p.boot ≡ u.image x
    image_is x s = sym (ap (value_at x) (silent_own p.boot p.alone)) ∙ (sym (value_before x p.h p.boot p.rests) ∙ (ap (λ l. value_at x (own_steps loader l)) (sym p.whole) ∙ image x s))

    small : (x : ℕ) → IsShared (name_of x) ⊎ (u.image x ≡ 0) → u.image x < 2 ^ 64
    small x (inl s) = subst (λ n. n < 2 ^ 64) (image_is x s) (value_small u runs p.boot (boot_steps p.h p.boot (subst (IsConsistent u.layout) p.whole j.consistent)) x)
    small x (inr e) = omega (arith, e)

    loaded : IsLoaded u runs p.boot
    loaded = record {
      alone = p.alone;
      begun = let k = begins_before u.layout runs p.h p.boot p.rests (subst (λ l. Begins u.layout runs (own_steps loader l)) p.whole (begun.booted, begun.ran)) in record { booted = k.0; ran = k.1 };
      image = image_is;
      small = λ x. small x (absent x);
    }

    c : Composed u p.boot p.h (record_of u words records given limits j turned p.h p.boot p.whole p.alone p.rests)
    c = composition u p.boot p.h runs (record_of u words records given limits j turned p.h p.boot p.whole p.alone p.rests) loaded (subst (IsHistory u.layout runs) p.whole history)
        (λ a. (acting_at u words records given limits j turned p.h p.boot p.whole p.alone p.rests a).0) (λ a. (acting_at u words records given limits j turned p.h p.boot p.whole p.alone p.rests a).1)

    at : (x : ℕ) → x < words_of u.layout → slice_index words x ≡ value_at x (p.h ++ p.boot)
    at x lt = j.left x lt ∙ ap (value_at x) p.whole

    hsm_there : (k : ℕ) → k < u.layout.harts → number_of (Hsm k) < words_of u.layout
    hsm_there k lt = let q = limits.harts in omega (arith, q, lt)

    full_most : (n o : ℕ) → Full n o → o ≤ console_places
    full_most n o (inl k) = let x = k.0 in let y = k.1 in omega (arith, x, y)
    full_most n o (inr k) = let y = k.1 in omega (arith, y)

    place_there : (i b : ℕ) → byte (state_of u c.run).output i ≡ Some b → number_of (Console i) < words_of u.layout
    place_there i b e = let x = byte_within (state_of u c.run).output i b e in let y = full_most (value_at (number_of Cons) (p.h ++ p.boot)) (length (state_of u c.run).output) c.output_is in omega (arith, x, y)

    read : IsRead u j.steps records given c.run
    read = record {
      all = c.reads.all;
      boot = p.boot;
      order = p.whole ∙ ap (λ l. l ++ p.boot) (sym c.reads.order);
      own = λ k r e ne. c.reads.kept r.actor ∙ given_here u words records given limits j turned p.h p.boot p.whole p.alone p.rests k r e ne;
      events = c.reads.events;
      told = c.told;
      loaders = p.alone;
    }

    ended : IsEnded u words c.run
    ended = record {
      is_run = c.is_run;
      settled = c.settled;
      memory_is = λ x lt s. at x lt ∙ c.memory_is x s;
      modes_are = λ k lt. ap mode_named (at (number_of (Hsm k)) (hsm_there k lt)) ∙ c.modes_are k lt;
      reason_is = at (number_of Stop) (omega arith) ∙ c.reason_is;
      output_is = subst (λ n. Full n (length (state_of u c.run).output)) (sym (at (number_of Cons) (omega arith))) c.output_is;
      console_is = λ i b e. at (number_of (Console i)) (place_there i b e) ∙ c.console_is i b e;
    }
