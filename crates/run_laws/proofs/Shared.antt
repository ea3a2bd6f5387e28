-- What a step does to the words that are memory, by a view of its kind with four cases.
use Rattle.std.proofs.Common.{◌≡◌, ◌≢◌, ◌⊎◌, ℕ, Bool, false, List, [], ◌∷◌, Some, None, refl, sym, ap, subst, ◌∙◌, inl, inr, ne_eqb, ⊎_elim}
use Rattle.std.specs.Prelude.{◌==◌, ◌||◌, if◌then◌else◌, is_some}
use prog.Atomic.{either}
use Rattle.step_laws.specs.declared.steps.Step.{Step}
use Rattle.step_laws.specs.declared.steps.WordOp.{WordOp}
use Rattle.step_laws.specs.declared.steps.WordOp.TheVariants.{Load, Store, Swap, Add, And, Or, Xor, Min, Max, Exchange}
use Rattle.step_laws.specs.Map.{Word, Ipi, Ram, name_of}
use Rattle.step_laws.specs.Steps.{value_at, new_of, answer_of}
use Rattle.step_laws.specs.Sections.{IsInSection}
use Rattle.step_laws.proofs.Named.{by_test}
use Rattle.machine_model.specs.Memory.{StoreEntry, write_of}
use Rattle.machine_model.specs.Event.{Event, did_of}
use Rattle.machine_model.specs.State.{Setup}
use Rattle.run_laws.proofs.Placed.{Placed, placed, steps, has_entry}
use Rattle.run_laws.proofs.Kept.{Half, whole, part, half, half_next}
use Rattle.turn_pieces.specs.Shared.{IsShared}
use Rattle.run_laws.proofs.Accounts.{AreQuiet, Accounts, calm, writes, writes_half, writes_rest, draws, fills, draws_none, draws_more, fills_more, fills_last, ends, takes, gives_start, gives_opaque, lets, begins_here, leaves_here}
use Rattle.turn_pieces.specs.Doing.{IsCalm}

abbrev pub mk : (c n : ℕ) → WordOp → (arg answer : ℕ) → Step
mk c n op arg answer = record { actor = c; word = n; op = op; arg = arg; answer = answer }

-- the operation leaves its word as it is
abbrev pub Still : WordOp → (answer : ℕ) → Type 0
Still Load answer = Unit {0}
Still (Exchange old) answer = old ≢ answer
Still _ answer = ⊥

calm_still : (w : Word) (op : WordOp) (answer : ℕ) → IsShared w → IsCalm w op answer → Still op answer
calm_still (Ram i) Load answer s c = tt
calm_still (Ram i) (Exchange old) answer s c = c
calm_still (Ram i) op answer s c = absurd c
calm_still Ipi Load answer s c = tt
calm_still Ipi (Exchange old) answer s c = c
calm_still Ipi op answer s c = absurd c
calm_still w op answer s c = absurd s

pub shared_or : (w : Word) → IsShared w ⊎ (IsShared w → ⊥)
shared_or (Ram i) = inl tt
shared_or Ipi = inl tt
shared_or w = inr (λ s. s)

abbrev pub NoEntry : List Event → Type 0
NoEntry [] = Unit {0}
NoEntry (e ∷ es) = ((did_of e).entry ≡ None) × NoEntry es

pub quiet_entry : (es : List Event) → AreQuiet es → NoEntry es
quiet_entry [] q = tt
quiet_entry (e ∷ es) q = (q.0.does.entry_is, quiet_entry es q.1)

pub has_none : (es : List Event) → NoEntry es → has_entry es ≡ false
has_none [] q = refl
has_none (e ∷ es) q = (λ i. is_some (q.0 i) || has_none es q.1 i)

-- the four ways of a step with regard to memory
pub data Way (u : Setup) (r : List Placed) (a n : ℕ) (w : Word) (op : WordOp) (arg answer : ℕ) : List Event → Type 0 where
  rests : {es : List Event} → half r ≡ whole → (IsShared w → Still op answer) → NoEntry es → Way u r a n w op arg answer es
  one : {e : Event} {es : List Event} → half r ≡ whole → IsShared w → (did_of e).entry ≡ Some (write_of n (new_of op answer arg) ∷ []) → NoEntry es → Way u r a n w op arg answer (e ∷ es)
  first : {es : List Event} (i : ℕ) → half r ≡ whole → w ≡ Ram i → op ≡ Store → es ≡ [] → IsInSection u.layout a (steps r) → Way u r a n w op arg answer es
  second : {e : Event} {es : List Event} (m v i : ℕ) → half r ≡ part m v → w ≡ Ram i → op ≡ Store
      → (did_of e).entry ≡ Some (write_of m v ∷ write_of n arg ∷ []) → NoEntry es → Way u r a n w op arg answer (e ∷ es)

pub way_of : {u : Setup} {a : ℕ} {r : List Placed} {n : ℕ} {w : Word} {op : WordOp} {arg answer : ℕ} {es : List Event} → Accounts u a r n w op arg answer es → Way u r a n w op arg answer es
way_of {w = w} {op = op} {answer = answer} {es = es} (calm h c x q) = rests h (λ s. calm_still w op answer s c) (quiet_entry es q)
way_of (writes {es = es} h s o d b q) = one h s d.entry_is (quiet_entry es q)
way_of (writes_half {i = i} h k) = first i h refl refl refl k
way_of (writes_rest {i = i} {es = es} m v h ne d b q) = second m v i h refl refl d.entry_is (quiet_entry es q)
way_of (draws {es = es} byte h p lt uu d b q) = rests h (λ s. absurd s) (d.entry_is, quiet_entry es q)
way_of (fills {es = es} byte h k g dd q) = rests h (λ s. absurd s) (quiet_entry es q)
way_of (draws_none {es = es} h le q) = rests h (λ s. absurd s) (quiet_entry es q)
way_of (draws_more {es = es} h k q) = rests h (λ s. absurd s) (quiet_entry es q)
way_of (fills_more {es = es} h k p le zz uu q) = rests h (λ s. absurd s) (quiet_entry es q)
way_of (fills_last {es = es} h k p le uu f z d b q) = rests h (λ s. absurd s) (d.entry_is, quiet_entry es q)
way_of (ends {es = es} bytes h d g f b q) = rests h (λ s. absurd s) (d.entry_is, quiet_entry es q)
way_of (takes {es = es} at opaque h d b q) = rests h (λ s. absurd s) (d.entry_is, quiet_entry es q)
way_of (gives_start {es = es} opaque h g q) = rests h (λ s. absurd s) (quiet_entry es q)
way_of (gives_opaque {es = es} at h g q) = rests h (λ s. absurd s) (quiet_entry es q)
way_of (lets {es = es} h q) = rests h (λ s. absurd s) (quiet_entry es q)
way_of (begins_here {es = es} h q) = rests h (λ s. absurd s) (refl, quiet_entry es q)
way_of (leaves_here {es = es} h d b q) = rests h (λ s. absurd s) (d.entry_is, quiet_entry es q)

-- so the half behind a step that rests stays
half_rests : (op : WordOp) (w : Word) (n arg answer : ℕ) (k : Half) → (IsShared w → Still op answer) → half_next op w n arg k ≡ k
half_rests Store (Ram i) n arg answer k f = absurd (f tt)
half_rests op w n arg answer k f = refl

pub half_after : (s : Step) (es : List Event) (r : List Placed) → NoEntry es → (IsShared (name_of s.word) → Still s.op s.answer) → half (placed s es ∷ r) ≡ half r
half_after s es r q f = (λ i. if has_none es q i then whole else half_next s.op (name_of s.word) s.word s.arg (half r))
    ∙ half_rests s.op (name_of s.word) s.word s.arg s.answer (half r) f

pub half_entry : (s : Step) (e : Event) (es : List Event) (r : List Placed) (n : StoreEntry) → (did_of e).entry ≡ Some n → half (placed s (e ∷ es) ∷ r) ≡ whole
half_entry s e es r n k = (λ i. if is_some (k i) || has_entry es then whole else half_next s.op (name_of s.word) s.word s.arg (half r))

-- values of words behind a step
kept_old : (old e arg : ℕ) → e ≢ old → either (old == e) arg old ≡ old
kept_old old e arg ne = ap (λ b. either b arg old) (ne_eqb old e (λ k. ne (sym k)))

still_new : (op : WordOp) (old arg answer : ℕ) → answer ≡ answer_of op old → Still op answer → new_of op old arg ≡ old
still_new Load old arg answer e s = refl
still_new (Exchange x) old arg answer e s = kept_old old x arg (λ k. s (k ∙ sym e))
still_new op old arg answer e s = absurd s

pub value_still : (c n : ℕ) (op : WordOp) (arg answer x : ℕ) (h : List Step) → answer ≡ answer_of op (value_at n h) → Still op answer
    → value_at x (mk c n op arg answer ∷ h) ≡ value_at x h
value_still c n op arg answer x h e s = by_test x n (λ b. (if b then new_of op (value_at x h) arg else value_at x h) ≡ value_at x h)
    (λ same. still_new op (value_at x h) arg answer (e ∙ ap (λ y. answer_of op (value_at y h)) (sym same)) s) (λ _. refl)

pub value_other : (c n : ℕ) (op : WordOp) (arg answer x : ℕ) (h : List Step) → x ≢ n → value_at x (mk c n op arg answer ∷ h) ≡ value_at x h
value_other c n op arg answer x h ne = ap (λ (b : Bool). if b then new_of op (value_at x h) arg else value_at x h) (ne_eqb x n ne)

-- a shared word is kept by a step that rests
pub value_rests : (c n : ℕ) (op : WordOp) (arg answer x : ℕ) (h : List Step) → answer ≡ answer_of op (value_at n h) → (IsShared (name_of n) → Still op answer) → IsShared (name_of x)
    → value_at x (mk c n op arg answer ∷ h) ≡ value_at x h
value_rests c n op arg answer x h e f sx = ⊎_elim
    (λ (yes : IsShared (name_of n)). value_still c n op arg answer x h e (f yes))
    (λ (no : IsShared (name_of n) → ⊥). value_other c n op arg answer x h (λ same. no (subst (λ y. IsShared (name_of y)) same sx)))
    (shared_or (name_of n))

-- what an operation leaves, by its answer
pub new_answer : (op : WordOp) (old arg answer : ℕ) → answer ≡ answer_of op old → new_of op old arg ≡ new_of op answer arg
new_answer Store old arg answer e = refl
new_answer Load old arg answer e = sym e
new_answer Swap old arg answer e = refl
new_answer Add old arg answer e = ap (λ x. new_of Add x arg) (sym e)
new_answer And old arg answer e = ap (λ x. new_of And x arg) (sym e)
new_answer Or old arg answer e = ap (λ x. new_of Or x arg) (sym e)
new_answer Xor old arg answer e = ap (λ x. new_of Xor x arg) (sym e)
new_answer Min old arg answer e = ap (λ x. new_of Min x arg) (sym e)
new_answer Max old arg answer e = ap (λ x. new_of Max x arg) (sym e)
new_answer (Exchange y) old arg answer e = ap (λ x. new_of (Exchange y) x arg) (sym e)
