-- What the reference machine is as a step is made, by what the actor's record says.
use Rattle.std.proofs.Common.{◌≡◌, ◌≢◌, ◌⊎◌, ℕ, ◌<◌, ◌^◌, Bool, true, List, [], ◌∷◌, ◌++◌, Option, Some, None, refl, sym, ap, subst, ◌∙◌, inl, inr, arith}
use Rattle.std.specs.Prelude.{◌==◌, ◌||◌, if◌then◌else◌, is_some}
use Rattle.std.proofs.lemmas.Nat.{or_lt, xor_lt, and_le_l}
use prog.Atomic.{either}
use Rattle.step_laws.specs.declared.words.Layout.{Layout}
use Rattle.step_laws.specs.declared.steps.Step.{Step}
use Rattle.step_laws.specs.declared.steps.WordOp.{WordOp}
use Rattle.step_laws.specs.declared.steps.WordOp.TheVariants.{Load, Store, Swap, Add, And, Or, Xor, Min, Max, Exchange}
use Rattle.step_laws.specs.Map.{Word, Pend, Run, Ipi, Ram, name_of}
use Rattle.step_laws.specs.Words.{loader}
use Rattle.step_laws.specs.Steps.{own_steps, value_at, new_of, IsConsistent}
use Rattle.step_laws.specs.Sections.{outside, phase, phase_next, is_claimant, is_claimant_next, pass, pass_next, IsInSection, MayTouch}
use Rattle.step_laws.specs.Discipline.{IsActor, IsDisciplined, IsPermitted, by_loader, by_actor, ActorMay, raise, ask, lower, claim, release, read_ram, write_ram, touch_ipi}
use Rattle.step_laws.specs.Histories.{IsHistory}
use Rattle.run_laws.proofs.Used.{IsGuarded}
use Rattle.run_laws.proofs.Stepping.{woven, section_law}
use Rattle.step_laws.proofs.Named.{by_test}
use Rattle.machine_model.specs.Memory.{StoreEntry, write_of}
use Rattle.machine_model.specs.Event.{Event, did_of}
use Rattle.machine_model.specs.State.{Setup, memory}
use Rattle.machine_model.specs.Run.{state_of}
use Rattle.run_laws.proofs.Placed.{Placed, placed, steps, run_of, mine, has_entry}
use Rattle.run_laws.proofs.Kept.{held_at}
use Rattle.turn_pieces.specs.Folds.{known_word_next}
use Rattle.turn_pieces.specs.Shared.{IsShared}
use Rattle.run_laws.proofs.Beginning.{IsBegun, history}
use Rattle.run_laws.proofs.Weave.{by_mine}
use Rattle.run_laws.proofs.Pieces.{Told}
use Rattle.run_laws.proofs.Shared.{Way, rests, one, first, second, way_of, NoEntry, has_none}
use Rattle.run_laws.proofs.Agree.{agrees_of, history_tail, own_history, mem, mem_quiet, mem_entry}
use Rattle.run_laws.proofs.Stands.{acts_of, answered_now}

-- words are below 2 ^ 64
new_small : (op : WordOp) (old arg : ℕ) → old < 2 ^ 64 → arg < 2 ^ 64 → new_of op old arg < 2 ^ 64
new_small Load old arg p q = p
new_small Store old arg p q = q
new_small Swap old arg p q = q
new_small Add old arg p q = omega arith
new_small And old arg p q = let k = and_le_l old arg in omega (arith, k, p)
new_small Or old arg p q = or_lt 64 old arg p q
new_small Xor old arg p q = xor_lt 64 old arg p q
new_small Min old arg p q = grind (arith, p, q)
new_small Max old arg p q = grind (arith, p, q)
new_small (Exchange e) old arg p q = by_test old e (λ b. either b arg old < 2 ^ 64) (λ _. q) (λ _. p)

pub value_small : (u : Setup) (runs : ℕ → Bool) (h : List Step) → IsConsistent u.layout h → (x : ℕ) → value_at x h < 2 ^ 64
value_small u runs [] c x = omega arith
value_small u runs (s ∷ h) c x = by_test x s.word (λ b. (if b then new_of s.op (value_at x h) s.arg else value_at x h) < 2 ^ 64)
    (λ _. new_small s.op (value_at x h) s.arg (value_small u runs h c.3 x) c.0.arg) (λ _. value_small u runs h c.3 x)

-- the own record: who claimed is outside
claimed_next : (u : Setup) (a : ℕ) (runs : Bool) (r : List Step) (w : Word) (op : WordOp) (arg answer : ℕ) → ActorMay u.layout a runs r w op arg
    → (is_claimant r ≡ true → phase r ≡ outside) → is_claimant_next w op arg answer (is_claimant r) ≡ true → phase_next w op arg answer (phase r) ≡ outside
claimed_next u a runs r w op arg answer (raise p) ih c = absurd (cc (p.1, c))
claimed_next u a runs r w op arg answer (ask p) ih c = absurd (cc (p, ih c))
claimed_next u a runs r w op arg answer lower ih c = refl
claimed_next u a runs r w op arg answer (claim p) ih c = p.0
claimed_next u a runs r w op arg answer (release k) ih c = absurd (cc)
claimed_next u a runs r w op arg answer m ih c = ih c

claimed : (u : Setup) (a : ℕ) (runs : Bool) (r : List Step) → a ≢ loader → IsDisciplined u.layout a runs r → is_claimant r ≡ true → phase r ≡ outside
claimed u a runs [] ne d = λ c. refl
claimed u a runs (s ∷ r) ne d = λ c. go d.0 (claimed u a runs r ne d.1) c
  where
    go : IsPermitted u.layout a runs r (name_of s.word) s.op s.arg → (is_claimant r ≡ true → phase r ≡ outside) → is_claimant_next (name_of s.word) s.op s.arg s.answer (is_claimant r) ≡ true
        → phase_next (name_of s.word) s.op s.arg s.answer (phase r) ≡ outside
    go (by_loader e m) ih c = absurd (ne e)
    go (by_actor k f m) ih c = claimed_next u a runs r (name_of s.word) s.op s.arg s.answer m ih c

touch_of : (u : Setup) (a : ℕ) (runs : Bool) (r : List Step) (w : Word) (op : WordOp) (arg : ℕ) → ActorMay u.layout a runs r w op arg → IsShared w → MayTouch u.layout a r
touch_of u a runs r w op arg (read_ram m) s = m
touch_of u a runs r w op arg (write_ram x m) s = m.0
touch_of u a runs r w op arg (touch_ipi m) s = m
touch_of u a runs r w op arg k s = absurd s

-- steps that move no section
abbrev pub Plain : Word → WordOp → Type 0
Plain (Run b) op = ⊥
Plain Pend Load = Unit {0}
Plain Pend op = ⊥
Plain w op = Unit {0}

plain_claims : (w : Word) (op : WordOp) (arg answer : ℕ) (b : Bool) → Plain w op → is_claimant_next w op arg answer b ≡ b
plain_claims (Run x) op arg answer b p = absurd p
plain_claims Pend Load arg answer b p = refl
plain_claims Pend op arg answer b p = absurd p
plain_claims w op arg answer b p = refl

plain_pass : (l : Layout) (a : ℕ) (w : Word) (op : WordOp) (arg answer n : ℕ) → Plain w op → pass_next l a w op arg answer n ≡ n
plain_pass l a (Run x) op arg answer n p = absurd p
plain_pass l a Pend Load arg answer n p = refl
plain_pass l a Pend op arg answer n p = absurd p
plain_pass l a w op arg answer n p = refl

pub plain_section : (u : Setup) (a : ℕ) (s : Step) (r : List Step) → Plain (name_of s.word) s.op → IsInSection u.layout a r → IsInSection u.layout a (s ∷ r)
plain_section u a s r p k = (
  plain_claims (name_of s.word) s.op s.arg s.answer (is_claimant r) p ∙ k.0,
  plain_pass u.layout a (name_of s.word) s.op s.arg s.answer (pass u.layout a r) p ∙ k.1,
)

shared_plain : (w : Word) (op : WordOp) → IsShared w → Plain w op
shared_plain (Ram i) op s = tt
shared_plain Ipi op s = tt
shared_plain w op s = absurd s

-- where a word is known after a step, it was before, or the step loaded it
abbrev Split : (x v n : ℕ) → Word → WordOp → (answer : ℕ) → Option ℕ → Type 0
Split x v n w op answer k = (Plain w op × (k ≡ Some v)) ⊎ ((op ≡ Load) × (x ≡ n) × (answer ≡ v) × Plain w op)

split_load : (x v n : ℕ) (w : Word) (answer : ℕ) (k : Option ℕ) → Plain w Load → (if x == n then Some answer else k) ≡ Some v → Split x v n w Load answer k
split_load x v n w answer k p = by_test x n (λ b. (if b then Some answer else k) ≡ Some v → Split x v n w Load answer k)
    (λ e h. inr (refl, e, cc, p)) (λ _ h. inl (p, h))

split : (x v n : ℕ) (w : Word) (op : WordOp) (answer : ℕ) (k : Option ℕ) → known_word_next x w op n answer k ≡ Some v → Split x v n w op answer k
split x v n Pend Load answer k h = inl (tt, h)
split x v n Pend op answer k h = absurd (cc)
split x v n (Run b) op answer k h = absurd (cc)
split x v n w Load answer k h = split_load x v n w answer k tt h
split x v n w op answer k h = inl (tt, h)

pub guarded : (w : Word) → IsShared w → IsGuarded w
guarded (Ram i) s = tt
guarded Ipi s = tt
guarded w s = absurd s

abbrev pub Held : Setup → List Placed → Type 0
Held u ts = (a : ℕ) → IsActor u.layout a → a ≢ loader → is_claimant (steps (mine a ts)) ≡ true → (x v : ℕ) → IsShared (name_of x) → held_at x (mine a ts) ≡ Some v
    → IsInSection u.layout a (steps (mine a ts)) × (mem u ts x ≡ v)

-- what a step did to memory, seen by another actor
data Moved (u : Setup) (t : Placed) (ts : List Placed) : Type 0 where
  kept : ((x : ℕ) → mem u (t ∷ ts) x ≡ mem u ts x) → Moved u t ts
  touched : IsShared (name_of t.step.word) → Moved u t ts

moved : (u : Setup) (t : Placed) (ts : List Placed) (es : List Event) → t.events ≡ es
    → Way u (mine t.step.actor ts) t.step.actor t.step.word (name_of t.step.word) t.step.op t.step.arg t.step.answer es → Moved u t ts
moved u t ts es is (rests hw f q) = kept (λ x. mem_quiet u t.events (run_of ts) x (subst NoEntry (sym is) q))
moved u t ts es is (one hw s k q) = touched s
moved u t ts es is (first j hw x o none k) = touched (subst IsShared (sym x) tt)
moved u t ts es is (second m v j hp x o k q) = touched (subst IsShared (sym x) tt)

-- where the step loads, no store of a crossing one is open
module _ (u : Setup) (boot : List Step) (runs : ℕ → Bool) (begun : IsBegun u boot) where
  -- the actor of a step, with some events of it that write nothing
  pub held_here : (t : Placed) (ts : List Placed) → IsHistory u.layout runs (history boot (t ∷ ts)) → Told u (t ∷ ts) → t.step.actor ≢ loader → Held u ts → (es : List Event) → NoEntry es
      → is_claimant (t.step ∷ steps (mine t.step.actor ts)) ≡ true → (x v : ℕ) → IsShared (name_of x) → held_at x (placed t.step es ∷ mine t.step.actor ts) ≡ Some v
      → IsInSection u.layout t.step.actor (t.step ∷ steps (mine t.step.actor ts)) × (mem u ts x ≡ v)
  held_here t ts h d ne ih es q c x v sx k = go (split x v t.step.word (name_of t.step.word) t.step.op t.step.answer (held_at x (mine t.step.actor ts))
      (sym (ap (λ (b : Bool). if b then None else known_word_next x (name_of t.step.word) t.step.op t.step.word t.step.answer (held_at x (mine t.step.actor ts))) (has_none es q)) ∙ k))
    where
      own_is : own_steps t.step.actor (history boot ts) ≡ steps (mine t.step.actor ts)
      own_is = own_history boot t.step.actor ts (begun.alone t.step.actor ne)

      permitted : IsPermitted u.layout t.step.actor (runs t.step.actor) (steps (mine t.step.actor ts)) (name_of t.step.word) t.step.op t.step.arg
      permitted = subst (λ r. IsPermitted u.layout t.step.actor (runs t.step.actor) r (name_of t.step.word) t.step.op t.step.arg) own_is (woven u.layout runs (history boot (t ∷ ts)) h).0.permitted

      actor_of : IsPermitted u.layout t.step.actor (runs t.step.actor) (steps (mine t.step.actor ts)) (name_of t.step.word) t.step.op t.step.arg → IsActor u.layout t.step.actor
      actor_of (by_loader e m) = absurd (ne e)
      actor_of (by_actor m f k) = m

      may : IsPermitted u.layout t.step.actor (runs t.step.actor) (steps (mine t.step.actor ts)) (name_of t.step.word) t.step.op t.step.arg → IsShared (name_of t.step.word) → MayTouch u.layout t.step.actor (steps (mine t.step.actor ts))
      may (by_loader e m) s = absurd (ne e)
      may (by_actor m f k) s = touch_of u t.step.actor (runs t.step.actor) (steps (mine t.step.actor ts)) (name_of t.step.word) t.step.op t.step.arg k s

      before : Plain (name_of t.step.word) t.step.op → is_claimant (steps (mine t.step.actor ts)) ≡ true
      before p = sym (plain_claims (name_of t.step.word) t.step.op t.step.arg t.step.answer (is_claimant (steps (mine t.step.actor ts))) p) ∙ c

      out : is_claimant (steps (mine t.step.actor ts)) ≡ true → phase (steps (mine t.step.actor ts)) ≡ outside
      out e = claimed u t.step.actor (runs t.step.actor) (steps (mine t.step.actor ts)) ne
          (subst (IsDisciplined u.layout t.step.actor (runs t.step.actor)) own_is ((history_tail u runs t.step (history boot ts) h).disciplined t.step.actor)) e

      in_section : Plain (name_of t.step.word) t.step.op → MayTouch u.layout t.step.actor (steps (mine t.step.actor ts)) → IsInSection u.layout t.step.actor (steps (mine t.step.actor ts))
      in_section p (inl i) = absurd (cc (i, out (before p)))
      in_section p (inr i) = i

      go : Split x v t.step.word (name_of t.step.word) t.step.op t.step.answer (held_at x (mine t.step.actor ts)) → IsInSection u.layout t.step.actor (t.step ∷ steps (mine t.step.actor ts)) × (mem u ts x ≡ v)
      go (inl j) = let i = ih t.step.actor (actor_of permitted) ne (before j.0) x v sx j.1 in (plain_section u t.step.actor t.step (steps (mine t.step.actor ts)) j.0 i.0, i.1)
      go (inr j) = let s : IsShared (name_of t.step.word) = subst (λ y. IsShared (name_of y)) j.1 sx in (
        plain_section u t.step.actor t.step (steps (mine t.step.actor ts)) j.3 (in_section j.3 (may permitted s)),
        ap (mem u ts) j.1 ∙ (answered_now u boot runs begun t ts h d s (λ e. cc (j.0, e)) ∙ j.2),
      )

  has_some : (es : List Event) (e : Event) (more : List Event) (n : StoreEntry) → es ≡ e ∷ more → (did_of e).entry ≡ Some n → has_entry es ≡ true
  has_some es e more n is j = ap has_entry is ∙ (λ i. is_some (j i) || has_entry more)

  held_mine : (t : Placed) (ts : List Placed) → IsHistory u.layout runs (history boot (t ∷ ts)) → Told u (t ∷ ts) → t.step.actor ≢ loader → Held u ts
      → (es : List Event) → t.events ≡ es → Way u (mine t.step.actor ts) t.step.actor t.step.word (name_of t.step.word) t.step.op t.step.arg t.step.answer es
      → is_claimant (t.step ∷ steps (mine t.step.actor ts)) ≡ true → (x v : ℕ) → IsShared (name_of x) → held_at x (t ∷ mine t.step.actor ts) ≡ Some v
      → IsInSection u.layout t.step.actor (t.step ∷ steps (mine t.step.actor ts)) × (mem u (t ∷ ts) x ≡ v)
  held_mine t ts h d ne ih es is w c x v sx k = go es is w
    where
      quiet : NoEntry t.events → IsInSection u.layout t.step.actor (t.step ∷ steps (mine t.step.actor ts)) × (mem u (t ∷ ts) x ≡ v)
      quiet q = let i = held_here t ts h d ne ih t.events q c x v sx k in (i.0, mem_quiet u t.events (run_of ts) x q ∙ i.1)

      never : has_entry t.events ≡ true → IsInSection u.layout t.step.actor (t.step ∷ steps (mine t.step.actor ts)) × (mem u (t ∷ ts) x ≡ v)
      never b = absurd (cc (ap (λ (b : Bool). if b then None else known_word_next x (name_of t.step.word) t.step.op t.step.word t.step.answer (held_at x (mine t.step.actor ts))) b, k))

      go : (es : List Event) → t.events ≡ es → Way u (mine t.step.actor ts) t.step.actor t.step.word (name_of t.step.word) t.step.op t.step.arg t.step.answer es
          → IsInSection u.layout t.step.actor (t.step ∷ steps (mine t.step.actor ts)) × (mem u (t ∷ ts) x ≡ v)
      go es is (rests hw f q) = quiet (subst NoEntry (sym is) q)
      go es is (one {e = e} {es = more} hw s j q) = never (has_some t.events e more _ is j)
      go es is (first j hw y o none l) = quiet (subst NoEntry (sym (is ∙ none)) tt)
      go es is (second {e = e} {es = more} m z j hp y o l q) = never (has_some t.events e more _ is l)

  pub held_of : (ts : List Placed) → IsHistory u.layout runs (history boot ts) → Told u ts → Held u ts
  held_of [] h d = λ a m ne c x v sx k. absurd (cc (c))
  held_of (t ∷ ts) h d = λ a m ne c x v sx k. by_mine
      (λ b r. IsActor u.layout b → b ≢ loader → is_claimant (steps r) ≡ true → held_at x r ≡ Some v → IsInSection u.layout b (steps r) × (mem u (t ∷ ts) x ≡ v)) a t ts
      (λ m ne c k. held_mine t ts h d ne (held_of ts (history_tail u runs t.step (history boot ts) h) d.1) t.events refl (way_of d.0.right.accounts) c x v sx k)
      (λ away m ne c k. other a away m ne x v (held_of ts (history_tail u runs t.step (history boot ts) h) d.1 a m ne c x v sx k))
      m ne c k
    where
      other : (a : ℕ) → a ≢ t.step.actor → IsActor u.layout a → a ≢ loader → (x v : ℕ) → IsInSection u.layout a (steps (mine a ts)) × (mem u ts x ≡ v) → IsInSection u.layout a (steps (mine a ts)) × (mem u (t ∷ ts) x ≡ v)
      other a away m ne x v i = go (moved u t ts t.events refl (way_of d.0.right.accounts))
        where
          go : Moved u t ts → IsInSection u.layout a (steps (mine a ts)) × (mem u (t ∷ ts) x ≡ v)
          go (kept f) = (i.0, f x ∙ i.1)
          go (touched s) = absurd (section_law u.layout runs (history boot ts) t.step a begun.limits.harts h m (acts_of u boot runs begun t ts h d.0 s)
              (subst (IsInSection u.layout a) (sym (own_history boot a ts (begun.alone a ne))) i.0) (λ e. away (sym e)) (guarded (name_of t.step.word) s))

  -- the reference machine's words are below 2 ^ 64
  small_entry : (x n v k : ℕ) → v < 2 ^ 64 → k < 2 ^ 64 → (if x == n then v else k) < 2 ^ 64
  small_entry x n v k p q = by_test x n (λ b. (if b then v else k) < 2 ^ 64) (λ _. p) (λ _. q)

  pub mem_small : (ts : List Placed) → IsHistory u.layout runs (history boot ts) → Told u ts → (x : ℕ) → mem u ts x < 2 ^ 64
  mem_small [] h d x = begun.small x
  mem_small (t ∷ ts) h d x = go t.events refl (way_of d.0.right.accounts) (mem_small ts (history_tail u runs t.step (history boot ts) h) d.1 x)
    where
      go : (es : List Event) → t.events ≡ es → Way u (mine t.step.actor ts) t.step.actor t.step.word (name_of t.step.word) t.step.op t.step.arg t.step.answer es
          → mem u ts x < 2 ^ 64 → mem u (t ∷ ts) x < 2 ^ 64
      go es is (rests hw f q) ih = subst (λ y. y < 2 ^ 64) (sym (mem_quiet u t.events (run_of ts) x (subst NoEntry (sym is) q))) ih
      go es is (first j hw y o none l) ih = subst (λ y. y < 2 ^ 64) (sym (mem_quiet u t.events (run_of ts) x (subst NoEntry (sym (is ∙ none)) tt))) ih
      go es is (one {e = e} {es = more} hw s j q) ih =
          subst (λ y. y < 2 ^ 64) (sym (ap (λ l. memory u (state_of u (l ++ run_of ts)) x) is ∙ mem_entry u e more (run_of ts) (write_of t.step.word (new_of t.step.op t.step.answer t.step.arg) ∷ []) x j q))
          (small_entry x t.step.word (new_of t.step.op t.step.answer t.step.arg) (memory u (state_of u (more ++ run_of ts)) x) (new_small t.step.op t.step.answer t.step.arg h.consistent.0.answer h.consistent.0.arg)
          (subst (λ y. y < 2 ^ 64) (sym (mem_quiet u more (run_of ts) x q)) ih))
      go es is (second {e = e} {es = more} m v j hp y o l q) ih =
          subst (λ y. y < 2 ^ 64) (sym (ap (λ l. memory u (state_of u (l ++ run_of ts)) x) is ∙ mem_entry u e more (run_of ts) (write_of m v ∷ write_of t.step.word t.step.arg ∷ []) x l q))
          (small_entry x t.step.word t.step.arg (if x == m then v else memory u (state_of u (more ++ run_of ts)) x) h.consistent.0.arg
          (small_entry x m v (memory u (state_of u (more ++ run_of ts)) x)
          (subst (λ y. y < 2 ^ 64) ((agrees_of u boot runs begun ts (history_tail u runs t.step (history boot ts) h) d.1).opened t.step.actor m v hp).value
          (value_small u runs (history boot ts) h.consistent.3 m))
          (subst (λ y. y < 2 ^ 64) (sym (mem_quiet u more (run_of ts) x q)) ih)))
