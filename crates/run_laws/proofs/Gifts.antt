-- START and OPAQUE are what the last accepted start gave: while it is made, and while it is pending.
use Rattle.std.proofs.Common.{◌≡◌, ◌≢◌, ◌⊎◌, ℕ, zero, suc, ◌<◌, ◌≤◌, Bool, List, [], ◌∷◌, ◌++◌, Option, Some, None, refl, sym, ap, subst, ◌∙◌, inl, inr, arith, eq-eqb, ne_eqb, length}
use Rattle.std.specs.Prelude.{◌==◌, if◌then◌else◌}
use Rattle.std.proofs.lemmas.Bool.{cases_eq}
use Rattle.step_laws.specs.declared.words.Layout.{Layout}
use Rattle.step_laws.specs.declared.steps.Step.{Step}
use Rattle.step_laws.specs.declared.steps.WordOp.{WordOp}
use Rattle.step_laws.specs.declared.steps.WordOp.TheVariants.{Load, Store, Add, Exchange}
use Rattle.step_laws.specs.Map.{Word, Live, Hsm, Start, Opaque, name_of, number_of, IsWord}
use Rattle.step_laws.specs.Words.{loader}
use Rattle.step_laws.specs.Steps.{own_steps, value_at, new_of, answer_of}
use Rattle.step_laws.specs.Harts.{Opening, closed, opened as taken, placed as given, handed, counted, opening, opening_next}
use Rattle.step_laws.specs.Discipline.{IsActor, IsPermitted, by_loader, by_actor, ActorMay, begin_start, set_start, set_opaque, add_live, end_start, take_start, stop}
use Rattle.step_laws.specs.Histories.{IsHistory}
use Rattle.run_laws.proofs.Stepping.{woven, stop_law}
use Rattle.step_laws.proofs.Named.{name_number, number_name}
use Rattle.machine_model.specs.Event.{Event, Starting, did_of}
use Rattle.machine_model.specs.State.{Setup, hart, initial}
use Rattle.machine_model.specs.Run.{state_of}
use Rattle.machine_model.proofs.Uniform.{run_length}
use Rattle.run_laws.proofs.Placed.{Placed, steps, run_of, mine}
use Rattle.turn_pieces.specs.Shared.{IsShared}
use Rattle.run_laws.proofs.Fits.{runs_first}
use Rattle.run_laws.proofs.Accounts.{AreQuiet, Accounts, calm, writes, writes_half, writes_rest, draws, fills, draws_none, draws_more, fills_more, fills_last, ends, takes, gives_start, gives_opaque, lets, begins_here, leaves_here}
use Rattle.turn_pieces.specs.Doing.{IsCalm, newest, last_start}
use Rattle.run_laws.proofs.Beginning.{IsBegun, history}
use Rattle.run_laws.proofs.Used.{IsOpening}
use Rattle.run_laws.proofs.Weave.{by_mine, behind}
use Rattle.run_laws.proofs.Pieces.{Told, IsIdleStep}
use Rattle.run_laws.proofs.States.{Gift, gift, gift_next, gift_after, harts_there}
use Rattle.run_laws.proofs.Shared.{Still, value_still, value_other}
use Rattle.run_laws.proofs.Agree.{history_tail, own_history}

abbrev pub NoStarts : List Event → Type 0
NoStarts [] = Unit {0}
NoStarts (e ∷ es) = ((did_of e).starts ≡ None) × NoStarts es

pub quiet_starts : (es : List Event) → AreQuiet es → NoStarts es
quiet_starts [] q = tt
quiet_starts (e ∷ es) q = (q.0.does.starts_is, quiet_starts es q.1)

pub last_none : (es run : List Event) → NoStarts es → last_start (es ++ run) ≡ last_start run
last_none [] run q = refl
last_none (e ∷ es) run q = ap (λ o. newest o (last_start (es ++ run))) q.0 ∙ last_none es run q.1

pub gifts_none : (u : Setup) (es run : List Event) (h : ℕ) → h < length (initial u).harts → NoStarts es → gift (hart (state_of u (es ++ run)) h) ≡ gift (hart (state_of u run) h)
gifts_none u [] run h lt q = refl
gifts_none u (e ∷ es) run h lt q =
    gift_after e (state_of u (es ++ run)) h (subst (λ n. h < n) (sym (run_length u (es ++ run))) lt)
    ∙ (ap (λ o. gift_next o h (gift (hart (state_of u (es ++ run)) h))) q.0 ∙ gifts_none u es run h lt q.1)

-- HSM, START and OPAQUE
abbrev pub IsGiving : Word → Type 0
IsGiving (Hsm t) = Unit {0}
IsGiving (Start t) = Unit {0}
IsGiving (Opaque t) = Unit {0}
IsGiving _ = ⊥

-- the ways of a step with regard to starts
pub data Gives (a : ℕ) (r : List Placed) (w : Word) (op : WordOp) (arg answer : ℕ) : List Event → Type 0 where
  keeps : {es : List Event} → (IsGiving w → Still op answer) → opening_next w op arg answer (opening (steps r)) ≡ opening (steps r) → NoStarts es → Gives a r w op arg answer es
  counts : {es : List Event} (t : ℕ) → (IsGiving w → ⊥) → opening (steps r) ≡ handed t → opening_next w op arg answer (opening (steps r)) ≡ counted t → NoStarts es → Gives a r w op arg answer es
  opens : {e : Event} {es : List Event} (t at opaque : ℕ) → w ≡ Hsm t → op ≡ Exchange 1 → arg ≡ 3 → answer ≡ 1 → (did_of e).starts ≡ Some (record { target = t; at = at; opaque = opaque })
      → NoStarts es → Gives a r w op arg answer (e ∷ es)
  first : {es : List Event} (t opaque : ℕ) → w ≡ Start t → op ≡ Store → last_start (run_of r) ≡ Some (record { target = t; at = arg; opaque = opaque }) → opening (steps r) ≡ taken t → NoStarts es
      → Gives a r w op arg answer es
  second : {es : List Event} (t at : ℕ) → w ≡ Opaque t → op ≡ Store → last_start (run_of r) ≡ Some (record { target = t; at = at; opaque = arg }) → opening (steps r) ≡ given t → NoStarts es
      → Gives a r w op arg answer es
  hands : {es : List Event} (t : ℕ) → w ≡ Hsm t → op ≡ Store → arg ≡ 2 → opening (steps r) ≡ counted t → NoStarts es → Gives a r w op arg answer es
  turns : {es : List Event} → w ≡ Hsm a → op ≡ Store → arg ≢ 2 → NoStarts es → Gives a r w op arg answer es

calm_giving : (w : Word) (op : WordOp) (answer : ℕ) → IsCalm w op answer → IsGiving w → Still op answer
calm_giving (Hsm t) Load answer c s = tt
calm_giving (Hsm t) (Exchange old) answer c s = c
calm_giving (Hsm t) op answer c s = absurd c
calm_giving (Start t) Load answer c s = tt
calm_giving (Start t) op answer c s = absurd c
calm_giving (Opaque t) Load answer c s = tt
calm_giving (Opaque t) op answer c s = absurd c
calm_giving w op answer c s = absurd s

shared_giving : (w : Word) → IsShared w → IsGiving w → ⊥
shared_giving (Hsm t) s k = s
shared_giving (Start t) s k = s
shared_giving (Opaque t) s k = s
shared_giving w s k = k

shared_opening : (w : Word) (op : WordOp) (arg answer : ℕ) (o : Opening) → IsShared w → opening_next w op arg answer o ≡ o
shared_opening (Hsm t) op arg answer o s = absurd s
shared_opening (Start t) op arg answer o s = absurd s
shared_opening (Opaque t) op arg answer o s = absurd s
shared_opening Live op arg answer o s = absurd s
shared_opening w op arg answer o s = refl

-- a calm step keeps what its actor opens, or counts the hart
abbrev Calm2 : (w : Word) (op : WordOp) (arg answer : ℕ) (o : Opening) → Type 0
Calm2 w op arg answer o = (opening_next w op arg answer o ≡ o) ⊎ ((t : ℕ) × (o ≡ handed t) × (opening_next w op arg answer o ≡ counted t) × (w ≡ Live))

taken_calm : (t answer : ℕ) (o : Opening) → 1 ≢ answer → opening_next (Hsm t) (Exchange 1) 3 answer o ≡ o
taken_calm t zero o ne = refl
taken_calm t (suc zero) o ne = absurd (ne refl)
taken_calm t (suc (suc n)) o ne = refl

calm_opening : (l : Layout) (a : ℕ) (runs : Bool) (r : List Step) (w : Word) (op : WordOp) (arg answer : ℕ) → ActorMay l a runs r w op arg → IsCalm w op answer → Calm2 w op arg answer (opening r)
calm_opening l a runs r w op arg answer (begin_start {h = t} hh x y z v) c = inl (taken_calm t answer (opening r) c)
calm_opening l a runs r w op arg answer (add_live {h = t} p) c = inr (t, p, ap (opening_next Live Add 1 answer) p, refl)
calm_opening l a runs r w op arg answer (set_start p q) c = absurd c
calm_opening l a runs r w op arg answer (set_opaque p) c = absurd c
calm_opening l a runs r w op arg answer (end_start p) c = absurd c
calm_opening l a runs r w op arg answer (take_start x y z) c = absurd c
calm_opening l a runs r w op arg answer (stop x y z) c = absurd c
calm_opening l a runs r w op arg answer m c = inl refl

may_first : (l : Layout) (a : ℕ) (runs : Bool) (r : List Step) (w : Word) (op : WordOp) (arg t : ℕ) → ActorMay l a runs r w op arg → w ≡ Start t → op ≡ Store → opening r ≡ taken t
may_first l a runs r w op arg t (set_start {h = x} p q) e f = p ∙ ap taken (cc (e))
may_first l a runs r w op arg t m e f = absurd (cc (e, f))

may_second : (l : Layout) (a : ℕ) (runs : Bool) (r : List Step) (w : Word) (op : WordOp) (arg t : ℕ) → ActorMay l a runs r w op arg → w ≡ Opaque t → op ≡ Store → opening r ≡ given t
may_second l a runs r w op arg t (set_opaque {h = x} p) e f = p ∙ ap given (cc (e))
may_second l a runs r w op arg t m e f = absurd (cc (e, f))

may_let : (l : Layout) (a : ℕ) (runs : Bool) (r : List Step) (w : Word) (op : WordOp) (arg t : ℕ) → ActorMay l a runs r w op arg → w ≡ Hsm t → op ≡ Store → arg ≡ 2 → opening r ≡ counted t
may_let l a runs r w op arg t (end_start {h = x} p) e f g = p ∙ ap counted (cc (e))
may_let l a runs r w op arg t m e f g = absurd (cc (e, f, g))

calm_gives : {a : ℕ} {r : List Placed} {w : Word} {op : WordOp} {arg answer : ℕ} {es : List Event} → IsCalm w op answer → AreQuiet es → Calm2 w op arg answer (opening (steps r)) → Gives a r w op arg answer es
calm_gives {w = w} {op = op} {answer = answer} {es = es} c q (inl k) = keeps (λ s. calm_giving w op answer c s) k (quiet_starts es q)
calm_gives {es = es} c q (inr k) = counts k.0 (λ s. subst IsGiving k.3 s) k.1 k.2 (quiet_starts es q)

pub gives_of : {u : Setup} {a : ℕ} {r : List Placed} {n : ℕ} {w : Word} {op : WordOp} {arg answer : ℕ} {es : List Event} → (runs : Bool) → ActorMay u.layout a runs (steps r) w op arg → Accounts u a r n w op arg answer es → Gives a r w op arg answer es
gives_of {u} {a} {r} {n} {w} {op} {arg} {answer} runs m (calm h c k q) = calm_gives c q (calm_opening u.layout a runs (steps r) w op arg answer m c)
gives_of {r = r} {w = w} {op = op} {arg = arg} {answer = answer} runs m (writes {es = es} h s o d b q) = keeps (λ k. absurd (shared_giving w s k)) (shared_opening w op arg answer (opening (steps r)) s) (d.starts_is, quiet_starts es q)
gives_of runs m (writes_half h k) = keeps (λ s. absurd s) refl tt
gives_of runs m (writes_rest {es = es} x v h ne d b q) = keeps (λ s. absurd s) refl (d.starts_is, quiet_starts es q)
gives_of runs m (draws {es = es} byte h p lt uu d b q) = keeps (λ s. absurd s) refl (d.starts_is, quiet_starts es q)
gives_of runs m (fills {es = es} byte h k g dd q) = keeps (λ s. absurd s) refl (quiet_starts es q)
gives_of runs m (draws_none {es = es} h le q) = keeps (λ s. absurd s) refl (quiet_starts es q)
gives_of runs m (draws_more {es = es} h k q) = keeps (λ s. absurd s) refl (quiet_starts es q)
gives_of runs m (fills_more {es = es} h k p le zz uu q) = keeps (λ s. absurd s) refl (quiet_starts es q)
gives_of runs m (fills_last {es = es} h k p le uu f z d b q) = keeps (λ s. absurd s) refl (d.starts_is, quiet_starts es q)
gives_of runs m (ends {es = es} bytes h d g f b q) = keeps (λ s. absurd s) refl (d.starts_is, quiet_starts es q)
gives_of runs m (takes {t = t} {es = es} at opaque h d b q) = opens t at opaque refl refl refl refl d.starts_is (quiet_starts es q)
gives_of {u} {a} {r} {n} {w} {op} {arg} {answer} runs m (gives_start {t = t} {es = es} opaque h g q) = first t opaque refl refl g (may_first u.layout a runs (steps r) w op arg t m refl refl) (quiet_starts es q)
gives_of {u} {a} {r} {n} {w} {op} {arg} {answer} runs m (gives_opaque {t = t} {es = es} at h g q) = second t at refl refl g (may_second u.layout a runs (steps r) w op arg t m refl refl) (quiet_starts es q)
gives_of {u} {a} {r} {n} {w} {op} {arg} {answer} runs m (lets {t = t} {es = es} h q) = hands t refl refl refl (may_let u.layout a runs (steps r) w op arg t m refl refl refl) (quiet_starts es q)
gives_of runs m (begins_here {es = es} h q) = turns refl refl (λ e. cc (e)) (refl, quiet_starts es q)
gives_of runs m (leaves_here {es = es} h d b q) = turns refl refl (λ e. cc (e)) (d.starts_is, quiet_starts es q)

-- what an actor has stored of the start that it makes
abbrev pub Stored : Opening → Type 0 → Type 0 → Type 0
Stored (given t) A B = A
Stored (handed t) A B = A × B
Stored (counted t) A B = A × B
Stored _ A B = Unit {0}

abbrev pub Makes : (k : ℕ) → List Placed → Gift → (sv ov : ℕ) → Type 0
Makes k l g sv ov = (last_start (run_of l) ≡ Some (record { target = k; at = g.at; opaque = g.opaque })) × Stored (opening (steps l)) (sv ≡ g.at) (ov ≡ g.opaque)

abbrev pub gift_at : Setup → List Placed → ℕ → Gift
gift_at u ts k = gift (hart (state_of u (run_of ts)) k)

abbrev pub value_of : List Step → List Placed → Word → ℕ
value_of boot ts w = value_at (number_of w) (history boot ts)

pub record Gifts (u : Setup) (boot : List Step) (ts : List Placed) : Type 0 where
  pub making : (a k : ℕ) → a ≢ loader → IsActor u.layout a → k < u.layout.harts → IsOpening k (opening (steps (mine a ts)))
      → Makes k (mine a ts) (gift_at u ts k) (value_of boot ts (Start k)) (value_of boot ts (Opaque k))
  pub pending : (k : ℕ) → k < u.layout.harts → value_of boot ts (Hsm k) ≡ 2
      → (value_of boot ts (Start k) ≡ (gift_at u ts k).at) × (value_of boot ts (Opaque k) ≡ (gift_at u ts k).opaque)

opening_same : (o p : Opening) (A B : Type 0) → p ≡ o → Stored o A B → Stored p A B
opening_same o p A B e s = subst (λ x. Stored x A B) (sym e) s

is_opening : (k t : ℕ) (o : Opening) → IsOpening k o → (IsOpening k o → o ≡ taken t) → t ≡ k
is_opening k t o i f = subst (IsOpening k) (f i) i

abbrev at_given : Option Starting → ℕ
at_given None = 0
at_given (Some g) = g.at

abbrev opaque_given : Option Starting → ℕ
opaque_given None = 0
opaque_given (Some g) = g.opaque

module _ (u : Setup) (boot : List Step) (runs : ℕ → Bool) (begun : IsBegun u boot) (ran : (k : ℕ) → k < u.layout.harts → runs k ≡ runs_first k) where
  module _ (t : Placed) (ts : List Placed) (h : IsHistory u.layout runs (history boot (t ∷ ts))) (d : Told u (t ∷ ts)) (ok : Gifts u boot ts) where
    abbrev c : ℕ
    c = t.step.actor

    abbrev r : List Placed
    r = mine t.step.actor ts

    tail : IsHistory u.layout runs (history boot ts)
    tail = history_tail u runs t.step (history boot ts) h

    an : t.step.answer ≡ answer_of t.step.op (value_at t.step.word (history boot ts))
    an = (woven u.layout runs (history boot (t ∷ ts)) h).0.answered

    small : (k : ℕ) → k < u.layout.harts → k ≤ 8
    small k lt = let p = begun.limits.harts in omega (arith, lt, p)

    there : (k : ℕ) → k < u.layout.harts → k < length (initial u).harts
    there k lt = subst (λ n. k < n) (sym (harts_there u begun.limits.some_hart)) lt

    -- a word that the step isn't on, or leaves
    value_keeps : (w : Word) → IsWord w → (name_of t.step.word ≡ w → Still t.step.op t.step.answer) → value_of boot (t ∷ ts) w ≡ value_of boot ts w
    value_keeps w is f = elim (cases_eq (number_of w) t.step.word) [
      | inl e ↦ value_still t.step.actor t.step.word t.step.op t.step.arg t.step.answer (number_of w) (history boot ts) an (f (ap name_of (sym e) ∙ name_number w is))
      | inr away ↦ value_other t.step.actor t.step.word t.step.op t.step.arg t.step.answer (number_of w) (history boot ts) away
    ]

    value_set : (w : Word) → name_of t.step.word ≡ w → value_of boot (t ∷ ts) w ≡ new_of t.step.op (value_of boot ts w) t.step.arg
    value_set w e = ap (λ (b : Bool). if b then new_of t.step.op (value_of boot ts w) t.step.arg else value_of boot ts w)
        (eq-eqb (number_of w) t.step.word (ap number_of (sym e) ∙ number_name t.step.word))

    gift_same : (k : ℕ) → k < u.layout.harts → NoStarts t.events → gift_at u (t ∷ ts) k ≡ gift_at u ts k
    gift_same k lt q = gifts_none u t.events (run_of ts) k (there k lt) q

    -- where a hart's words and gift stay
    keeps_making : (a k : ℕ) → a ≢ loader → IsActor u.layout a → k < u.layout.harts → value_of boot (t ∷ ts) (Start k) ≡ value_of boot ts (Start k) → value_of boot (t ∷ ts) (Opaque k) ≡ value_of boot ts (Opaque k)
        → gift_at u (t ∷ ts) k ≡ gift_at u ts k → a ≢ c → IsOpening k (opening (steps (mine a ts))) → Makes k (mine a ts) (gift_at u (t ∷ ts) k) (value_of boot (t ∷ ts) (Start k)) (value_of boot (t ∷ ts) (Opaque k))
    keeps_making a k nl m lt sv ov g away o =
        subst (λ x. Makes k (mine a ts) x (value_of boot (t ∷ ts) (Start k)) (value_of boot (t ∷ ts) (Opaque k))) (sym g)
        (subst (λ x. Makes k (mine a ts) (gift_at u ts k) x (value_of boot (t ∷ ts) (Opaque k))) (sym sv)
        (subst (λ x. Makes k (mine a ts) (gift_at u ts k) (value_of boot ts (Start k)) x) (sym ov) (ok.making a k nl m lt o)))

    -- the actor of the step, whose opening stays or goes on with nothing stored
    own_making : (k : ℕ) → c ≢ loader → IsActor u.layout c → k < u.layout.harts → NoStarts t.events → value_of boot (t ∷ ts) (Start k) ≡ value_of boot ts (Start k) → value_of boot (t ∷ ts) (Opaque k) ≡ value_of boot ts (Opaque k)
        → IsOpening k (opening (steps r)) → ((A B : Type 0) → Stored (opening (steps r)) A B → Stored (opening (steps (t ∷ r))) A B)
        → Makes k (t ∷ r) (gift_at u (t ∷ ts) k) (value_of boot (t ∷ ts) (Start k)) (value_of boot (t ∷ ts) (Opaque k))
    own_making k nl m lt q sv ov o f =
        subst (λ x. Makes k (t ∷ r) x (value_of boot (t ∷ ts) (Start k)) (value_of boot (t ∷ ts) (Opaque k))) (sym (gift_same k lt q))
        (subst (λ x. Makes k (t ∷ r) (gift_at u ts k) x (value_of boot (t ∷ ts) (Opaque k))) (sym sv)
        (subst (λ x. Makes k (t ∷ r) (gift_at u ts k) (value_of boot ts (Start k)) x) (sym ov)
        (let i = ok.making c k nl m lt o in
        (last_none t.events (run_of r) q ∙ i.0, f (value_of boot ts (Start k) ≡ (gift_at u ts k).at) (value_of boot ts (Opaque k) ≡ (gift_at u ts k).opaque) i.1))))

    pending_same : (k : ℕ) → k < u.layout.harts → value_of boot (t ∷ ts) (Hsm k) ≡ value_of boot ts (Hsm k) → value_of boot (t ∷ ts) (Start k) ≡ value_of boot ts (Start k) → value_of boot (t ∷ ts) (Opaque k) ≡ value_of boot ts (Opaque k)
        → gift_at u (t ∷ ts) k ≡ gift_at u ts k → value_of boot (t ∷ ts) (Hsm k) ≡ 2
        → (value_of boot (t ∷ ts) (Start k) ≡ (gift_at u (t ∷ ts) k).at) × (value_of boot (t ∷ ts) (Opaque k) ≡ (gift_at u (t ∷ ts) k).opaque)
    pending_same k lt hv sv ov g e = let i = ok.pending k lt (sym hv ∙ e) in (sv ∙ (i.0 ∙ ap (λ x. x.at) (sym g)), ov ∙ (i.1 ∙ ap (λ x. x.opaque) (sym g)))

    -- a step that leaves the words, and whose actor goes on with the same start
    still_step : (IsGiving (name_of t.step.word) → Still t.step.op t.step.answer) → NoStarts t.events
        → ((k : ℕ) → IsOpening k (opening (steps (t ∷ r))) → IsOpening k (opening (steps r)))
        → ((A B : Type 0) → Stored (opening (steps r)) A B → Stored (opening (steps (t ∷ r))) A B) → Gifts u boot (t ∷ ts)
    still_step f q g s = record {
      making = λ a k nl m lt. by_mine (λ b l. b ≢ loader → IsActor u.layout b → IsOpening k (opening (steps l)) → Makes k l (gift_at u (t ∷ ts) k) (value_of boot (t ∷ ts) (Start k)) (value_of boot (t ∷ ts) (Opaque k))) a t ts
          (λ nl m o. own_making k nl m lt q (sv k lt) (ov k lt) (g k o) s)
          (λ away nl m o. keeps_making a k nl m lt (sv k lt) (ov k lt) (gift_same k lt q) away o) nl m;
      pending = λ k lt. pending_same k lt (value_keeps (Hsm k) (small k lt) (λ e. f (subst IsGiving (sym e) tt))) (sv k lt) (ov k lt) (gift_same k lt q);
    }
      where
        sv : (k : ℕ) → k < u.layout.harts → value_of boot (t ∷ ts) (Start k) ≡ value_of boot ts (Start k)
        sv k lt = value_keeps (Start k) (small k lt) (λ e. f (subst IsGiving (sym e) tt))

        ov : (k : ℕ) → k < u.layout.harts → value_of boot (t ∷ ts) (Opaque k) ≡ value_of boot ts (Opaque k)
        ov k lt = value_keeps (Opaque k) (small k lt) (λ e. f (subst IsGiving (sym e) tt))

    -- what the law says of a start that is made
    is_three : (a k : ℕ) → a ≢ loader → IsActor u.layout a → IsOpening k (opening (steps (mine a ts))) → value_of boot ts (Hsm k) ≡ 3
    is_three a k nl m o = stop_law.opens u.layout runs (history boot ts) a k begun.limits.harts tail (behind u boot runs begun ran ts d.1) m (subst (λ l. IsOpening k (opening l)) (sym (own_history boot a ts (begun.alone a nl))) o)

    is_one : (a b k : ℕ) → a ≢ loader → b ≢ loader → IsActor u.layout a → IsActor u.layout b → IsOpening k (opening (steps (mine a ts))) → IsOpening k (opening (steps (mine b ts))) → a ≡ b
    is_one a b k na nb ma mb o p = stop_law.alone u.layout runs (history boot ts) a b k begun.limits.harts tail (behind u boot runs begun ran ts d.1) ma mb
        (subst (λ l. IsOpening k (opening l)) (sym (own_history boot a ts (begun.alone a na))) o) (subst (λ l. IsOpening k (opening l)) (sym (own_history boot b ts (begun.alone b nb))) p)

    module _ (nl : c ≢ loader) (actor : IsActor u.layout c) where
      sv : (k : ℕ) → k < u.layout.harts → (x : Word) → name_of t.step.word ≡ x → x ≢ Start k → value_of boot (t ∷ ts) (Start k) ≡ value_of boot ts (Start k)
      sv k lt x w ne = value_keeps (Start k) (small k lt) (λ e. absurd (ne (sym w ∙ e)))

      ov : (k : ℕ) → k < u.layout.harts → (x : Word) → name_of t.step.word ≡ x → x ≢ Opaque k → value_of boot (t ∷ ts) (Opaque k) ≡ value_of boot ts (Opaque k)
      ov k lt x w ne = value_keeps (Opaque k) (small k lt) (λ e. absurd (ne (sym w ∙ e)))

      hv : (k : ℕ) → k < u.layout.harts → (x : Word) → name_of t.step.word ≡ x → x ≢ Hsm k → value_of boot (t ∷ ts) (Hsm k) ≡ value_of boot ts (Hsm k)
      hv k lt x w ne = value_keeps (Hsm k) (small k lt) (λ e. absurd (ne (sym w ∙ e)))

      -- a hart is taken
      opens_step : (e : Event) (es : List Event) (g at opaque : ℕ) → t.events ≡ e ∷ es → name_of t.step.word ≡ Hsm g → t.step.op ≡ Exchange 1 → t.step.arg ≡ 3 → t.step.answer ≡ 1
          → (did_of e).starts ≡ Some (record { target = g; at = at; opaque = opaque }) → NoStarts es → Gifts u boot (t ∷ ts)
      opens_step e es g at opaque is w o ar one s q = record {
        making = λ a k na m lt. by_mine (λ b l. b ≢ loader → IsActor u.layout b → IsOpening k (opening (steps l)) → Makes k l (gift_at u (t ∷ ts) k) (value_of boot (t ∷ ts) (Start k)) (value_of boot (t ∷ ts) (Opaque k))) a t ts
            (λ _ _ i. here k lt i)
            (λ away na m i. keeps_making a k na m lt (sv k lt (Hsm g) w (λ z. cc (z))) (ov k lt (Hsm g) w (λ z. cc (z))) (other_gift k lt (λ z. not_three a k na m i z)) away i) na m;
        pending = λ k lt. elim (cases_eq k g) [
          | inl z ↦ (λ v. absurd (cc (sym (three_now k z) ∙ v)))
          | inr away ↦ pending_same k lt (hv k lt (Hsm g) w (λ z. away (hsm_inj g k z))) (sv k lt (Hsm g) w (λ z. cc (z))) (ov k lt (Hsm g) w (λ z. cc (z))) (other_gift k lt (λ z. away (sym z)))
        ];
      }
        where
          hsm_inj : (x y : ℕ) → Hsm x ≡ Hsm y → y ≡ x
          hsm_inj x y z = cc (z)

          old_one : (k : ℕ) → k ≡ g → value_of boot ts (Hsm k) ≡ 1
          old_one k z = ap (λ x. value_at x (history boot ts)) (ap (λ x. number_of (Hsm x)) z ∙ (ap number_of (sym w) ∙ number_name t.step.word))
              ∙ (sym (an ∙ ap (λ p. answer_of p (value_at t.step.word (history boot ts))) o) ∙ one)

          three_now : (k : ℕ) → k ≡ g → value_of boot (t ∷ ts) (Hsm k) ≡ 3
          three_now k z = value_set (Hsm k) (w ∙ ap Hsm (sym z)) ∙ (λ i. new_of (o i) (old_one k z i) (ar i))

          not_three : (a k : ℕ) → a ≢ loader → IsActor u.layout a → IsOpening k (opening (steps (mine a ts))) → g ≡ k → ⊥
          not_three a k na m i z = cc (sym (old_one k (sym z)) ∙ is_three a k na m i)

          now_gift : (k : ℕ) → k < u.layout.harts → gift_at u (t ∷ ts) k ≡ (if g == k then record { at = at; opaque = opaque } else gift_at u ts k)
          now_gift k lt = ap (λ l. gift (hart (state_of u (l ++ run_of ts)) k)) is
              ∙ (gift_after e (state_of u (es ++ run_of ts)) k (subst (λ n. k < n) (sym (run_length u (es ++ run_of ts))) (there k lt))
              ∙ (ap (λ x. gift_next x k (gift (hart (state_of u (es ++ run_of ts)) k))) s
              ∙ ap (λ x. if g == k then record { at = at; opaque = opaque } else x) (gifts_none u es (run_of ts) k (there k lt) q)))

          other_gift : (k : ℕ) → k < u.layout.harts → (g ≡ k → ⊥) → gift_at u (t ∷ ts) k ≡ gift_at u ts k
          other_gift k lt ne = now_gift k lt ∙ ap (λ (b : Bool). if b then record { at = at; opaque = opaque } else gift_at u ts k) (ne_eqb g k ne)

          now_opening : opening (steps (t ∷ r)) ≡ taken g
          now_opening = λ i. opening_next (w i) (o i) (ar i) (one i) (opening (steps r))

          here : (k : ℕ) → k < u.layout.harts → IsOpening k (opening (steps (t ∷ r))) → Makes k (t ∷ r) (gift_at u (t ∷ ts) k) (value_of boot (t ∷ ts) (Start k)) (value_of boot (t ∷ ts) (Opaque k))
          here k lt i =
              let z : g ≡ k = subst (IsOpening k) now_opening i in
              let gift_is : gift_at u (t ∷ ts) k ≡ record { at = at; opaque = opaque } = now_gift k lt ∙ ap (λ (b : Bool). if b then record { at = at; opaque = opaque } else gift_at u ts k) (eq-eqb g k z) in (
                ap (λ l. last_start (l ++ run_of r)) is ∙ (ap (λ x. newest x (last_start (es ++ run_of r))) s ∙ (ap (λ x. Some (record { target = x; at = at; opaque = opaque })) z ∙ ap (λ x. Some (record { target = k; at = x.at; opaque = x.opaque })) (sym gift_is))),
                opening_same (taken g) (opening (steps (t ∷ r))) (value_of boot (t ∷ ts) (Start k) ≡ (gift_at u (t ∷ ts) k).at) (value_of boot (t ∷ ts) (Opaque k) ≡ (gift_at u (t ∷ ts) k).opaque) now_opening tt,
              )

      start_inj : (x y : ℕ) → Start x ≡ Start y → y ≡ x
      start_inj x y z = cc (z)

      opaque_inj : (x y : ℕ) → Opaque x ≡ Opaque y → y ≡ x
      opaque_inj x y z = cc (z)

      same_at : (g k x y v : ℕ) (o : Option Starting) → o ≡ Some (record { target = k; at = x; opaque = y }) → (w : ℕ) → o ≡ Some (record { target = g; at = v; opaque = w }) → (v ≡ x) × (w ≡ y)
      same_at g k x y v o e w f = (sym (ap at_given f) ∙ ap at_given e, sym (ap opaque_given f) ∙ ap opaque_given e)

      -- START is stored
      first_step : (g opaque : ℕ) → name_of t.step.word ≡ Start g → t.step.op ≡ Store → last_start (run_of r) ≡ Some (record { target = g; at = t.step.arg; opaque = opaque }) → opening (steps r) ≡ taken g → NoStarts t.events
          → Gifts u boot (t ∷ ts)
      first_step g opaque w o last op3 q = record {
        making = λ a k na m lt. by_mine (λ b l. b ≢ loader → IsActor u.layout b → IsOpening k (opening (steps l)) → Makes k l (gift_at u (t ∷ ts) k) (value_of boot (t ∷ ts) (Start k)) (value_of boot (t ∷ ts) (Opaque k))) a t ts
            (λ _ _ i. here k lt i)
            (λ away na m i. keeps_making a k na m lt (sv k lt (Start g) w (λ z. away (is_one a c k na nl m actor i (mine_opens k (sym (start_inj g k z)))))) (ov k lt (Start g) w (λ z. cc (z))) (gift_same k lt q) away i) na m;
        pending = λ k lt. elim (cases_eq g k) [
          | inl z ↦ (λ v. absurd (cc (sym (is_three c k nl actor (mine_opens k z)) ∙ (sym (hv k lt (Start g) w (λ x. cc (x))) ∙ v))))
          | inr away ↦ pending_same k lt (hv k lt (Start g) w (λ z. cc (z))) (sv k lt (Start g) w (λ z. away (sym (start_inj g k z)))) (ov k lt (Start g) w (λ z. cc (z))) (gift_same k lt q)
        ];
      }
        where
          mine_opens : (k : ℕ) → g ≡ k → IsOpening k (opening (steps r))
          mine_opens k z = subst (IsOpening k) (sym op3) z

          now_opening : opening (steps (t ∷ r)) ≡ given g
          now_opening = λ i. opening_next (w i) (o i) t.step.arg t.step.answer (opening (steps r))

          here : (k : ℕ) → k < u.layout.harts → IsOpening k (opening (steps (t ∷ r))) → Makes k (t ∷ r) (gift_at u (t ∷ ts) k) (value_of boot (t ∷ ts) (Start k)) (value_of boot (t ∷ ts) (Opaque k))
          here k lt i =
              let z : g ≡ k = subst (IsOpening k) now_opening i in
              let made = ok.making c k nl actor lt (mine_opens k z) in
              let at_is = (same_at g k (gift_at u ts k).at (gift_at u ts k).opaque t.step.arg (last_start (run_of r)) made.0 opaque last).0 in (
                last_none t.events (run_of r) q ∙ (made.0 ∙ ap (λ x. Some (record { target = k; at = x.at; opaque = x.opaque })) (sym (gift_same k lt q))),
                opening_same (given g) (opening (steps (t ∷ r))) (value_of boot (t ∷ ts) (Start k) ≡ (gift_at u (t ∷ ts) k).at) (value_of boot (t ∷ ts) (Opaque k) ≡ (gift_at u (t ∷ ts) k).opaque) now_opening
                    (value_set (Start k) (w ∙ ap Start z) ∙ (ap (λ p. new_of p (value_of boot ts (Start k)) t.step.arg) o ∙ (at_is ∙ ap (λ x. x.at) (sym (gift_same k lt q))))),
              )

      -- OPAQUE is stored
      second_step : (g at : ℕ) → name_of t.step.word ≡ Opaque g → t.step.op ≡ Store → last_start (run_of r) ≡ Some (record { target = g; at = at; opaque = t.step.arg }) → opening (steps r) ≡ given g → NoStarts t.events
          → Gifts u boot (t ∷ ts)
      second_step g at w o last op3 q = record {
        making = λ a k na m lt. by_mine (λ b l. b ≢ loader → IsActor u.layout b → IsOpening k (opening (steps l)) → Makes k l (gift_at u (t ∷ ts) k) (value_of boot (t ∷ ts) (Start k)) (value_of boot (t ∷ ts) (Opaque k))) a t ts
            (λ _ _ i. here k lt i)
            (λ away na m i. keeps_making a k na m lt (sv k lt (Opaque g) w (λ z. cc (z))) (ov k lt (Opaque g) w (λ z. away (is_one a c k na nl m actor i (mine_opens k (sym (opaque_inj g k z)))))) (gift_same k lt q) away i) na m;
        pending = λ k lt. elim (cases_eq g k) [
          | inl z ↦ (λ v. absurd (cc (sym (is_three c k nl actor (mine_opens k z)) ∙ (sym (hv k lt (Opaque g) w (λ x. cc (x))) ∙ v))))
          | inr away ↦ pending_same k lt (hv k lt (Opaque g) w (λ z. cc (z))) (sv k lt (Opaque g) w (λ z. cc (z))) (ov k lt (Opaque g) w (λ z. away (sym (opaque_inj g k z)))) (gift_same k lt q)
        ];
      }
        where
          mine_opens : (k : ℕ) → g ≡ k → IsOpening k (opening (steps r))
          mine_opens k z = subst (IsOpening k) (sym op3) z

          now_opening : opening (steps (t ∷ r)) ≡ handed g
          now_opening = λ i. opening_next (w i) (o i) t.step.arg t.step.answer (opening (steps r))

          here : (k : ℕ) → k < u.layout.harts → IsOpening k (opening (steps (t ∷ r))) → Makes k (t ∷ r) (gift_at u (t ∷ ts) k) (value_of boot (t ∷ ts) (Start k)) (value_of boot (t ∷ ts) (Opaque k))
          here k lt i =
              let z : g ≡ k = subst (IsOpening k) now_opening i in
              let made = ok.making c k nl actor lt (mine_opens k z) in
              let opaque_is = (same_at g k (gift_at u ts k).at (gift_at u ts k).opaque at (last_start (run_of r)) made.0 t.step.arg last).1 in
              let start_is : value_of boot ts (Start k) ≡ (gift_at u ts k).at = subst (λ x. Stored x (value_of boot ts (Start k) ≡ (gift_at u ts k).at) (value_of boot ts (Opaque k) ≡ (gift_at u ts k).opaque)) op3 made.1 in (
                last_none t.events (run_of r) q ∙ (made.0 ∙ ap (λ x. Some (record { target = k; at = x.at; opaque = x.opaque })) (sym (gift_same k lt q))),
                opening_same (handed g) (opening (steps (t ∷ r))) (value_of boot (t ∷ ts) (Start k) ≡ (gift_at u (t ∷ ts) k).at) (value_of boot (t ∷ ts) (Opaque k) ≡ (gift_at u (t ∷ ts) k).opaque) now_opening (
                  sv k lt (Opaque g) w (λ x. cc (x)) ∙ (start_is ∙ ap (λ x. x.at) (sym (gift_same k lt q))),
                  value_set (Opaque k) (w ∙ ap Opaque z) ∙ (ap (λ p. new_of p (value_of boot ts (Opaque k)) t.step.arg) o ∙ (opaque_is ∙ ap (λ x. x.opaque) (sym (gift_same k lt q)))),
                ),
              )

      -- the start is let go
      hands_step : (g : ℕ) → name_of t.step.word ≡ Hsm g → t.step.op ≡ Store → t.step.arg ≡ 2 → opening (steps r) ≡ counted g → NoStarts t.events → Gifts u boot (t ∷ ts)
      hands_step g w o ar op3 q = record {
        making = λ a k na m lt. by_mine (λ b l. b ≢ loader → IsActor u.layout b → IsOpening k (opening (steps l)) → Makes k l (gift_at u (t ∷ ts) k) (value_of boot (t ∷ ts) (Start k)) (value_of boot (t ∷ ts) (Opaque k))) a t ts
            (λ _ _ i. absurd (subst (IsOpening k) now_opening i))
            (λ away na m i. keeps_making a k na m lt (sv k lt (Hsm g) w (λ z. cc (z))) (ov k lt (Hsm g) w (λ z. cc (z))) (gift_same k lt q) away i) na m;
        pending = λ k lt. elim (cases_eq g k) [
          | inl z ↦ (λ v. let made = ok.making c k nl actor lt (subst (IsOpening k) (sym op3) z) in
              let both : (value_of boot ts (Start k) ≡ (gift_at u ts k).at) × (value_of boot ts (Opaque k) ≡ (gift_at u ts k).opaque) = subst (λ x. Stored x (value_of boot ts (Start k) ≡ (gift_at u ts k).at) (value_of boot ts (Opaque k) ≡ (gift_at u ts k).opaque)) op3 made.1 in (
                sv k lt (Hsm g) w (λ x. cc (x)) ∙ (both.0 ∙ ap (λ x. x.at) (sym (gift_same k lt q))),
                ov k lt (Hsm g) w (λ x. cc (x)) ∙ (both.1 ∙ ap (λ x. x.opaque) (sym (gift_same k lt q))),
              ))
          | inr away ↦ pending_same k lt (hv k lt (Hsm g) w (λ z. away (cc (z)))) (sv k lt (Hsm g) w (λ z. cc (z))) (ov k lt (Hsm g) w (λ z. cc (z))) (gift_same k lt q)
        ];
      }
        where
          now_opening : opening (steps (t ∷ r)) ≡ closed
          now_opening = λ i. opening_next (w i) (o i) t.step.arg t.step.answer (opening (steps r))

      -- the own hart begins or stops
      turns_step : name_of t.step.word ≡ Hsm c → t.step.op ≡ Store → t.step.arg ≢ 2 → NoStarts t.events → Gifts u boot (t ∷ ts)
      turns_step w o ar q = record {
        making = λ a k na m lt. by_mine (λ b l. b ≢ loader → IsActor u.layout b → IsOpening k (opening (steps l)) → Makes k l (gift_at u (t ∷ ts) k) (value_of boot (t ∷ ts) (Start k)) (value_of boot (t ∷ ts) (Opaque k))) a t ts
            (λ _ _ i. absurd (subst (IsOpening k) now_opening i))
            (λ away na m i. keeps_making a k na m lt (sv k lt (Hsm c) w (λ z. cc (z))) (ov k lt (Hsm c) w (λ z. cc (z))) (gift_same k lt q) away i) na m;
        pending = λ k lt. elim (cases_eq c k) [
          | inl z ↦ (λ v. absurd (ar (sym (value_set (Hsm k) (w ∙ ap Hsm z) ∙ ap (λ p. new_of p (value_of boot ts (Hsm k)) t.step.arg) o) ∙ v)))
          | inr away ↦ pending_same k lt (hv k lt (Hsm c) w (λ z. away (cc (z)))) (sv k lt (Hsm c) w (λ z. cc (z))) (ov k lt (Hsm c) w (λ z. cc (z))) (gift_same k lt q)
        ];
      }
        where
          now_opening : opening (steps (t ∷ r)) ≡ closed
          now_opening = λ i. opening_next (w i) (o i) t.step.arg t.step.answer (opening (steps r))

      gives_step : (es : List Event) → t.events ≡ es → Gives c r (name_of t.step.word) t.step.op t.step.arg t.step.answer es → Gifts u boot (t ∷ ts)
      gives_step es is (keeps f e q) = still_step f (subst NoStarts (sym is) q) (λ k i. subst (IsOpening k) e i) (λ A B s. opening_same (opening (steps r)) (opening (steps (t ∷ r))) A B e s)
      gives_step es is (counts g f p e q) = still_step (λ s. absurd (f s)) (subst NoStarts (sym is) q) (λ k i. subst (IsOpening k) (sym p) (subst (IsOpening k) e i))
          (λ A B s. opening_same (counted g) (opening (steps (t ∷ r))) A B e (subst (λ x. Stored x A B) p s))
      gives_step es is (opens {e = e} {es = more} g at opaque w o ar one s q) = opens_step e more g at opaque is w o ar one s q
      gives_step es is (first g opaque w o last op3 q) = first_step g opaque w o last op3 (subst NoStarts (sym is) q)
      gives_step es is (second g at w o last op3 q) = second_step g at w o last op3 (subst NoStarts (sym is) q)
      gives_step es is (hands g w o ar op3 q) = hands_step g w o ar op3 (subst NoStarts (sym is) q)
      gives_step es is (turns w o ar q) = turns_step w o ar (subst NoStarts (sym is) q)

    idle_step : IsIdleStep t → Gifts u boot (t ∷ ts)
    idle_step i = still_step (λ s. absurd (subst IsGiving i.0 s)) (subst NoStarts (sym i.2) tt)
        (λ k p. subst (IsOpening k) now_opening p) (λ A B s. opening_same (opening (steps r)) (opening (steps (t ∷ r))) A B now_opening s)
      where
        now_opening : opening (steps (t ∷ r)) ≡ opening (steps r)
        now_opening = λ j. opening_next (i.0 j) t.step.op t.step.arg t.step.answer (opening (steps r))

  pub gifts_of : (ts : List Placed) → IsHistory u.layout runs (history boot ts) → Told u ts → ((k : ℕ) → k < u.layout.harts → value_at (number_of (Hsm k)) boot ≢ 2) → Gifts u boot ts
  gifts_of [] h d none = record { making = λ a k nl m lt o. absurd o; pending = λ k lt e. absurd (none k lt e) }
  gifts_of (t ∷ ts) h d none = go d.0.who (gifts_of ts (history_tail u runs t.step (history boot ts) h) d.1 none) (subst (λ l. IsPermitted u.layout t.step.actor (runs t.step.actor) l (name_of t.step.word) t.step.op t.step.arg) refl (woven u.layout runs (history boot (t ∷ ts)) h).0.permitted)
    where
      go : (t.step.actor ≢ loader) ⊎ IsIdleStep t → Gifts u boot ts → IsPermitted u.layout t.step.actor (runs t.step.actor) (own_steps t.step.actor (history boot ts)) (name_of t.step.word) t.step.op t.step.arg → Gifts u boot (t ∷ ts)
      go (inr i) ok p = idle_step t ts h d ok i
      go (inl ne) ok (by_loader e m) = absurd (ne e)
      go (inl ne) ok (by_actor k f m) = gives_step t ts h d ok ne k t.events refl
          (gives_of (runs t.step.actor) (subst (λ l. ActorMay u.layout t.step.actor (runs t.step.actor) l (name_of t.step.word) t.step.op t.step.arg) (own_history boot t.step.actor ts (begun.alone t.step.actor ne)) m) d.0.right.accounts)
