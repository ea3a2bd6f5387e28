-- Loads that stand in a record, in order, are reads of the reference machine's memory at moments in order.
use Rattle.std.proofs.Common.{◌≡◌, ℕ, zero, suc, ◌≤◌, ◌<◌, ◌*◌, ◌%◌, ◌^◌, Bool, true, false, List, [], ◌∷◌, ◌++◌, refl, sym, ap, subst, ◌∙◌, arith}
use Rattle.std.specs.Prelude.{◌||◌, if◌then◌else◌, IsTrue, nat_lt}
use Rattle.std.proofs.lemmas.Bool.{ltb-true, ltb-false, lt-ltb, le-ltb}
use Rattle.rv64_priv.specs.declared.state.Kind.{Kind}
use Rattle.rv64_priv.specs.declared.state.Regime.{Regime}
use Rattle.rv64_priv.specs.Csr.{regime}
use Rattle.rv64_priv.specs.Pte.{is_bare, is_malformed, is_leaf, ppn}
use Rattle.rv64_priv.specs.Walk.{Levels, Walked, walk_of, is_ram, is_canonical, pte_address}
use Rattle.step_laws.specs.Words.{ram_word}
use Rattle.step_laws.specs.Map.{Ram, name_of}
use Rattle.step_laws.proofs.Named.{name_number}
use Rattle.machine_model.specs.Past.{Since, now, later}
use Rattle.machine_model.specs.Event.{Event}
use Rattle.machine_model.specs.State.{Setup, hart, memory}
use Rattle.machine_model.specs.Run.{state_of, memory_at, renews}
use Rattle.machine_model.specs.Walks.{levels_of}
use Rattle.rv64_priv.specs.Reads.{answering, Finds}
use Rattle.machine_model.specs.Lawful.{IsAllowed}
use Rattle.machine_model.proofs.Uniform.{Passing, since_more}
use Rattle.machine_model.proofs.Reading.{found_is_allowed}
use Rattle.walk_laws.specs.WalkLoads.{Found, found}
use Rattle.run_laws.proofs.Placed.{Spares}
use Rattle.walk_laws.specs.WalkLoads.{reads_from, reads_of}
use Rattle.turn_pieces.specs.Shared.{IsShared}

pub since_then : (stop : Event → Bool) (a b c : List Event) → Since stop a b → Since stop b c → Since stop a c
since_then stop a b c p now = p
since_then stop a b c p (later e k) = later e (since_then stop a b _ p k)

pub passing : (stop : Event → Bool) (es : List Event) → Spares stop es → Passing stop es
passing stop [] p = tt
passing stop (e ∷ es) p = (p.0, passing stop es p.1)

-- the reads at moments in order, the last first
abbrev pub Chain : Setup → (Event → Bool) → List Found → List Event → Type 0
Chain u stop [] run = Unit {0}
Chain u stop (x ∷ xs) run = (m : List Event) × Since stop m run × (memory u (state_of u m) x.word ≡ x.value) × Chain u stop xs m

pub chain_more : (u : Setup) (stop : Event → Bool) (xs : List Found) (es run : List Event) → Passing stop es → Chain u stop xs run → Chain u stop xs (es ++ run)
chain_more u stop [] es run p k = tt
chain_more u stop (x ∷ xs) es run p k = (k.0, since_more stop k.0 es run p k.1, k.2, k.3)

abbrev pub AreShared : List Found → Type 0
AreShared [] = Unit {0}
AreShared (x ∷ xs) = IsShared (name_of x.word) × AreShared xs

pub ram_shared : (pa : ℕ) → IsShared (name_of (ram_word pa))
ram_shared pa = subst IsShared (sym (name_number (Ram _) tt)) tt

shared_from : (pages va : ℕ) (finds : ℕ → ℕ) (levels table : ℕ) (before : List Found) → AreShared before → AreShared (reads_from pages va finds levels table before)
shared_from pages va finds zero table before s = s
shared_from pages va finds (suc level) table before s = go (is_ram pages (pte_address table va level)) (is_malformed (finds level) || is_leaf (finds level))
    (shared_from pages va finds level (ppn (finds level) * 4096) (found (ram_word (pte_address table va level)) (finds level) ∷ before) (ram_shared (pte_address table va level), s))
  where
    go : (b c : Bool) → AreShared (reads_from pages va finds level (ppn (finds level) * 4096) (found (ram_word (pte_address table va level)) (finds level) ∷ before))
        → AreShared (if b then (if c then found (ram_word (pte_address table va level)) (finds level) ∷ before
        else reads_from pages va finds level (ppn (finds level) * 4096) (found (ram_word (pte_address table va level)) (finds level) ∷ before)) else before)
    go false c k = s
    go true true k = (ram_shared (pte_address table va level), s)
    go true false k = k

pub shared_reads : (pages : ℕ) (r : Regime) (va : ℕ) (finds : ℕ → ℕ) → AreShared (reads_of pages r va finds)
unfolding reads_of
shared_reads pages r va finds = go (is_bare r) (is_canonical va)
  where
    go : (b c : Bool) → AreShared (if b then [] else (if c then reads_from pages va finds 3 (r.satp % 2 ^ 44 * 4096) [] else []))
    go true c = tt
    go false false = tt
    go false true = shared_from pages va finds 3 (r.satp % 2 ^ 44 * 4096) [] tt

-- the moments of a walk's reads, by level
record Moments (u : Setup) (pages va : ℕ) (finds : ℕ → ℕ) (stop : Event → Bool) (levels table : ℕ) (before : List Found) (run : List Event) : Type 0 where
  from : List Event
  held : Chain u stop before from
  moment : ℕ → List Event
  above : (l : ℕ) → levels ≤ l → moment l ≡ from
  in_order : (l : ℕ) → Since stop (moment (suc l)) (moment l)
  past : Since stop (moment 0) run
  are : Finds pages va (levels_of (λ l. memory_at u (moment l))) finds levels table

finds_same : (pages va : ℕ) (finds : ℕ → ℕ) (p q : Levels) (levels table : ℕ) → ((l pa : ℕ) → l < levels → p l pa ≡ q l pa) → Finds pages va p finds levels table → Finds pages va q finds levels table
finds_same pages va finds p q zero table e f = tt
finds_same pages va finds p q (suc level) table e f = λ t. let k = f t in (
  sym (e level (pte_address table va level) (omega arith)) ∙ k.0,
  λ a b. finds_same pages va finds p q level (ppn (finds level) * 4096) (λ l pa lt. e l pa (omega (arith, lt))) (k.1 a b),
)

no_true : {A : Type 0} (b : Bool) → b ≡ false → IsTrue b → A
no_true b e t = absurd (cc)

neither : {A : Type 0} (a b : Bool) → (a || b) ≡ true → a ≡ false → b ≡ false → A
neither true b e p q = absurd (cc)
neither false true e p q = absurd (cc)
neither false false e p q = absurd (cc)

-- a moment below the level, or one at or above it
choose : (level : ℕ) (low : ℕ → List Event) (high : List Event) → ℕ → List Event
choose level low high l = if nat_lt l level then low l else high

choose_low : (level : ℕ) (low : ℕ → List Event) (high : List Event) (l : ℕ) → l < level → choose level low high l ≡ low l
unfolding choose
choose_low level low high l lt = ap (λ (b : Bool). if b then low l else high) (lt-ltb l level lt)

choose_high : (level : ℕ) (low : ℕ → List Event) (high : List Event) (l : ℕ) → level ≤ l → choose level low high l ≡ high
unfolding choose
choose_high level low high l le = ap (λ (b : Bool). if b then low l else high) (le-ltb l level le)

choose_order : (stop : Event → Bool) (level : ℕ) (low : ℕ → List Event) (high mid : List Event) → Since stop high mid → ((l : ℕ) → level ≤ l → low l ≡ mid)
    → ((l : ℕ) → Since stop (low (suc l)) (low l)) → (l : ℕ) → Since stop (choose level low high (suc l)) (choose level low high l)
choose_order stop level low high mid first above order l = by_cases (nat_lt (suc l) level) (nat_lt l level) refl refl
  where
    by_cases : (b c : Bool) → nat_lt (suc l) level ≡ b → nat_lt l level ≡ c → Since stop (choose level low high (suc l)) (choose level low high l)
    by_cases true true e f = subst (λ m. Since stop m (choose level low high l)) (sym (choose_low level low high (suc l) (ltb-true (suc l) level e)))
        (subst (λ m. Since stop (low (suc l)) m) (sym (choose_low level low high l (ltb-true l level f))) (order l))
    by_cases true false e f = let p = ltb-true (suc l) level e in let q = ltb-false l level f in absurd (omega (arith, p, q))
    by_cases false true e f = let p = ltb-false (suc l) level e in
        subst (λ m. Since stop m (choose level low high l)) (sym (choose_high level low high (suc l) p))
        (subst (λ m. Since stop high m) (sym (choose_low level low high l (ltb-true l level f)))
        (since_then stop high mid (low l) first (subst (λ m. Since stop m (low l)) (above (suc l) p) (order l))))
    by_cases false false e f = subst (λ m. Since stop m (choose level low high l)) (sym (choose_high level low high (suc l) (ltb-false (suc l) level e)))
        (subst (λ m. Since stop high m) (sym (choose_high level low high l (ltb-false l level f))) now)

choose_past : (stop : Event → Bool) (level : ℕ) (low : ℕ → List Event) (high mid run : List Event) → Since stop high mid → ((l : ℕ) → level ≤ l → low l ≡ mid) → Since stop (low 0) run
    → Since stop (choose level low high 0) run
choose_past stop zero low high mid run first above past = subst (λ m. Since stop m run) (sym (choose_high zero low high 0 (omega arith)))
    (since_then stop high mid run first (subst (λ m. Since stop m run) (above 0 (omega arith)) past))
choose_past stop (suc level) low high mid run first above past = subst (λ m. Since stop m run) (sym (choose_low (suc level) low high 0 (omega arith))) past

moments_of : (u : Setup) (pages va : ℕ) (finds : ℕ → ℕ) (stop : Event → Bool) (levels table : ℕ) (before : List Found) (run : List Event)
    → Chain u stop (reads_from pages va finds levels table before) run → Moments u pages va finds stop levels table before run
moments_of u pages va finds stop zero table before run k =
    record { from = run; held = k; moment = λ l. run; above = λ l le. refl; in_order = λ l. now; past = now; are = tt }
moments_of u pages va finds stop (suc level) table before run k = go (is_ram pages (pte_address table va level)) (is_malformed (finds level) || is_leaf (finds level)) refl refl k
    (moments_of u pages va finds stop level (ppn (finds level) * 4096) (found (ram_word (pte_address table va level)) (finds level) ∷ before) run)
  where
    ended : (low : ℕ → List Event) (high mid : List Event) → Since stop high mid → ((l : ℕ) → level ≤ l → low l ≡ mid) → ((l : ℕ) → Since stop (low (suc l)) (low l)) → Since stop (low 0) run
        → memory u (state_of u high) (ram_word (pte_address table va level)) ≡ finds level → Chain u stop before high
        → (is_malformed (finds level) ≡ false → is_leaf (finds level) ≡ false → Finds pages va (levels_of (λ l. memory_at u (low l))) finds level (ppn (finds level) * 4096))
        → Moments u pages va finds stop (suc level) table before run
    ended low high mid first above order past is held more = record {
      from = high;
      held = held;
      moment = choose level low high;
      above = λ l le. choose_high level low high l (omega (arith, le));
      in_order = choose_order stop level low high mid first above order;
      past = choose_past stop level low high mid run first above past;
      are = λ t. (
        ap (λ m. memory_at u m (ram_word (pte_address table va level))) (choose_high level low high level (omega arith)) ∙ is,
        λ a b. finds_same pages va finds (levels_of (λ l. memory_at u (low l))) (levels_of (λ l. memory_at u (choose level low high l))) level (ppn (finds level) * 4096)
            (λ l pa lt. ap (λ m. memory_at u m (ram_word pa)) (sym (choose_low level low high l lt))) (more a b),
      );
    }

    go : (b c : Bool) → is_ram pages (pte_address table va level) ≡ b → (is_malformed (finds level) || is_leaf (finds level)) ≡ c
        → Chain u stop (if b then (if c then found (ram_word (pte_address table va level)) (finds level) ∷ before
        else reads_from pages va finds level (ppn (finds level) * 4096) (found (ram_word (pte_address table va level)) (finds level) ∷ before)) else before) run
        → (Chain u stop (reads_from pages va finds level (ppn (finds level) * 4096) (found (ram_word (pte_address table va level)) (finds level) ∷ before)) run
        → Moments u pages va finds stop level (ppn (finds level) * 4096) (found (ram_word (pte_address table va level)) (finds level) ∷ before) run)
        → Moments u pages va finds stop (suc level) table before run
    go false c e f k ih = record { from = run; held = k; moment = λ l. run; above = λ l le. refl; in_order = λ l. now; past = now; are = λ t. no_true _ e t }
    go true true e f k ih = ended (λ l. run) k.0 run k.1 (λ l le. refl) (λ l. now) now k.2 k.3 (λ a b. neither (is_malformed (finds level)) (is_leaf (finds level)) f a b)
    go true false e f k ih = let m = ih k in ended m.moment m.held.0 m.from m.held.1 m.above m.in_order m.past m.held.2 m.held.3 (λ a b. m.are)

-- so the walk is allowed
pub chain_allowed : (u : Setup) (run : List Event) (h : ℕ) (kind : Kind) (va : ℕ) (finds : ℕ → ℕ) (end : Walked)
    → walk_of u.layout.pages (regime (hart (state_of u run) h).arch) kind (answering finds) va ≡ end
    → Chain u (renews h va end) (reads_of u.layout.pages (regime (hart (state_of u run) h).arch) va finds) run → IsAllowed u run h kind va end
unfolding reads_of
chain_allowed u run h kind va finds end is k = go (is_bare (regime (hart (state_of u run) h).arch)) (is_canonical va) refl refl k
  where
    now_allowed : (is_bare (regime (hart (state_of u run) h).arch) ≡ false → IsTrue (is_canonical va) → ⊥) → IsAllowed u run h kind va end
    now_allowed f = found_is_allowed u run h kind va finds (λ l. run) end is (λ a b. absurd (f a b)) (λ l. now) now

    go : (b c : Bool) → is_bare (regime (hart (state_of u run) h).arch) ≡ b → is_canonical va ≡ c
        → Chain u (renews h va end) (if b then [] else (if c then reads_from u.layout.pages va finds 3 ((regime (hart (state_of u run) h).arch).satp % 2 ^ 44 * 4096) [] else [])) run
        → IsAllowed u run h kind va end
    go true c e f k = now_allowed (λ a b. cc)
    go false false e f k = now_allowed (λ a b. cc)
    go false true e f k = let m = moments_of u u.layout.pages va finds (renews h va end) 3 ((regime (hart (state_of u run) h).arch).satp % 2 ^ 44 * 4096) [] run k in
        found_is_allowed u run h kind va finds m.moment end is (λ a b. m.are) m.in_order m.past
