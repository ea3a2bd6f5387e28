-- A word that one actor turns on and off: it is on exactly from the one step to the other.
use Rattle.std.proofs.Common.{◌≡◌, ◌≢◌, ℕ, zero, suc, ◌+◌, Bool, true, List, ◌∷◌, refl, sym, ap, ◌∙◌, inl, inr, arith}
use Rattle.std.specs.Prelude.{◌==◌, ◌⊎◌, ◌↔◌, if◌then◌else◌}
use Rattle.std.proofs.lemmas.Bool.{cases_eq, ne_eqb}
use prog.Atomic.{either}
use Rattle.step_laws.specs.declared.words.Layout.{Layout}
use Rattle.step_laws.specs.declared.steps.Step.{Step}
use Rattle.step_laws.specs.declared.steps.WordOp.{WordOp}
use Rattle.step_laws.specs.declared.steps.WordOp.TheVariants.{Store, Exchange}
use Rattle.step_laws.specs.Map.{Word, Zero, Pend, Run, Lock, name_of, loader}
use Rattle.step_laws.specs.WordValues.{value_next}
use Rattle.step_laws.specs.Steps.{answer_of}
use Rattle.step_laws.specs.Past.{Since, here, past, Anything, Each}
use Rattle.step_laws.specs.Sections.{is_claimant}
use Rattle.step_laws.specs.Tables.{held_lock}
use Rattle.step_laws.specs.Discipline.{ActorMay, raise, lower, ask, claim, check, release, lock_own, lock_other, unlock}
use Rattle.step_laws.specs.SectionLaws.{IsRaise, IsLower, IsClaim, IsRelease, RunLaw, PendLaw}
use Rattle.step_laws.proofs.Invariants.{Sections}
use Rattle.step_laws.specs.TableLaws.{IsLocking, IsFreeing, LockLaw}
use Rattle.step_laws.proofs.Invariants.{Tables}
use Rattle.step_laws.proofs.Named.{by_test}
use Rattle.step_laws.proofs.Woven.{woven, move}
use Rattle.step_laws.proofs.Along.{facts_along}
use Rattle.step_laws.proofs.Apart.{sections_start, sections_step, actor_off}
use Rattle.step_laws.proofs.Slots.{tables_start, tables_step}

-- what a step does to such a word, where old says that it is on before the step and new that it is on after it
data Turns (On Off old new : Type 0) : Type 0 where
  turns_on : On → new → Turns On Off old new
  turns_off : Off → (On → ⊥) → (new → ⊥) → Turns On Off old new
  leaves : (On → ⊥) → (Off → ⊥) → (old → new) → (new → old) → Turns On Off old new

turned : (On Off : Step → Type 0) (s : Step) (h : List Step) (old new : Type 0) → Turns (On s) (Off s) old new → (old ↔ Since (λ x. Off x → ⊥) On Anything h) → (new ↔ Since (λ x. Off x → ⊥) On Anything (s ∷ h))
turned On Off s h old new (turns_on p q) e = (λ _. here p tt, λ _. q)
turned On Off s h old new (turns_off p q r) e = (λ x. absurd (r x), λ d. absurd (un d))
  where
    un : Since (λ x. Off x → ⊥) On Anything (s ∷ h) → ⊥
    un (here x a) = q x
    un (past n d) = n p
turned On Off s h old new (leaves p q f g) e = (λ x. past q (e.0 (g x)), back)
  where
    back : Since (λ x. Off x → ⊥) On Anything (s ∷ h) → new
    back (here x a) = absurd (p x)
    back (past n d) = f (e.1 d)

module _ (layout : Layout) (c : ℕ) (runs : Bool) (r : List Step) (a : ℕ) where
  run_turns : (w : Word) (op : WordOp) (arg n : ℕ) → ActorMay layout c runs r w op arg
      → Turns ((c ≡ a) × (w ≡ Run a) × (op ≡ Store) × (arg ≡ 1)) ((c ≡ a) × (w ≡ Run a) × (op ≡ Store) × (arg ≡ 0)) (n ≡ 1) (value_next (Run a) w op n arg ≡ 1)
  run_turns w op arg n (raise p) = by_test a c (λ t. Turns ((c ≡ a) × (Run c ≡ Run a) × (Store ≡ Store) × (arg ≡ 1)) ((c ≡ a) × (Run c ≡ Run a) × (Store ≡ Store) × (arg ≡ 0)) (n ≡ 1) ((if t then 1 else n) ≡ 1))
      (λ e. turns_on (sym e, ap (λ x. Run x) (sym e), refl, refl) refl) (λ ne. leaves (λ x. ne (sym x.0)) (λ x. ne (sym x.0)) (λ x. x) (λ x. x))
  run_turns w op arg n lower = by_test a c (λ t. Turns ((c ≡ a) × (Run c ≡ Run a) × (Store ≡ Store) × (arg ≡ 1)) ((c ≡ a) × (Run c ≡ Run a) × (Store ≡ Store) × (arg ≡ 0)) (n ≡ 1) ((if t then 0 else n) ≡ 1))
      (λ e. turns_off (sym e, ap (λ x. Run x) (sym e), refl, refl) (λ x. omega (arith, x.3)) (λ x. omega arith)) (λ ne. leaves (λ x. ne (sym x.0)) (λ x. ne (sym x.0)) (λ x. x) (λ x. x))
  run_turns w op arg n (check p q) = leaves (λ x. let e = x.2 in absurd (cc)) (λ x. let e = x.2 in absurd (cc)) (λ x. x) (λ x. x)
  run_turns w op arg n m = leaves (λ x. let e = x.1 in absurd (cc)) (λ x. let e = x.1 in absurd (cc)) (λ x. x) (λ x. x)

  pend_turns : (words : Word → ℕ) (w : Word) (op : WordOp) (arg answer : ℕ) → ActorMay layout c runs r w op arg → answer ≡ answer_of op (words w) → (is_claimant r ≡ true → words Pend ≡ c + 1)
      → Turns ((c ≡ a) × (w ≡ Pend) × (op ≡ Exchange 0) × (answer ≡ 0)) ((c ≡ a) × (w ≡ Pend) × (op ≡ Store)) (words Pend ≡ a + 1) (value_next Pend w op (words Pend) arg ≡ a + 1)
  pend_turns words w op arg answer (claim p) e own = go answer e (cases_eq c a)
    where
      go : (x : ℕ) → x ≡ words Pend → (c ≡ a) ⊎ (c ≢ a) → Turns ((c ≡ a) × (Pend ≡ Pend) × (Exchange 0 ≡ Exchange 0) × (x ≡ 0)) ((c ≡ a) × (Pend ≡ Pend) × (Exchange 0 ≡ Store)) (words Pend ≡ a + 1) (either (words Pend == 0) (c + 1) (words Pend) ≡ a + 1)
      go zero e (inl d) = turns_on (d, refl, refl, refl) (ap (λ n. either (n == 0) (c + 1) n) (sym e) ∙ omega (arith, d))
      go zero e (inr ne) = leaves (λ x. ne x.0) (λ x. ne x.0) (λ x. absurd (omega arith)) (λ x. absurd (ne (let f : either (words Pend == 0) (c + 1) (words Pend) ≡ c + 1 = ap (λ n. either (n == 0) (c + 1) n) (sym e) in omega (arith, f, x))))
      go (suc y) e d = leaves (λ x. omega (arith, x.3)) (λ x. let z = x.2 in absurd (cc)) (λ x. same ∙ x) (λ x. sym same ∙ x)
        where
          same : either (words Pend == 0) (c + 1) (words Pend) ≡ words Pend
          same = ap (λ t. either t (c + 1) (words Pend)) (ne_eqb (words Pend) 0 (λ z. omega arith))
  pend_turns words w op arg answer (release p) e own = go (cases_eq c a)
    where
      go : (c ≡ a) ⊎ (c ≢ a) → Turns ((c ≡ a) × (Pend ≡ Pend) × (Store ≡ Exchange 0) × (answer ≡ 0)) ((c ≡ a) × (Pend ≡ Pend) × (Store ≡ Store)) (words Pend ≡ a + 1) (0 ≡ a + 1)
      go (inl d) = turns_off (d, refl, refl) (λ x. let z = x.2 in absurd (cc)) (λ x. omega arith)
      go (inr ne) = leaves (λ x. ne x.0) (λ x. ne x.0) (λ x. absurd (ne (omega (arith, own p)))) (λ x. absurd (omega arith))
  pend_turns words w op arg answer (ask p) e own = leaves (λ x. let z = x.2 in absurd (cc)) (λ x. let z = x.2 in absurd (cc)) (λ x. x) (λ x. x)
  pend_turns words w op arg answer m e own = leaves (λ x. let z = x.1 in absurd (cc)) (λ x. let z = x.1 in absurd (cc)) (λ x. x) (λ x. x)

  lock_taken : (words : Word → ℕ) (x h answer : ℕ) → answer ≡ words (Lock x) → Turns ((c ≡ a) × (Lock x ≡ Lock h) × (Exchange 0 ≡ Exchange 0) × (answer ≡ 0)) ((c ≡ a) × (Lock x ≡ Lock h) × (Exchange 0 ≡ Store))
      (words (Lock h) ≡ a + 1) (value_next (Lock h) (Lock x) (Exchange 0) (words (Lock h)) (c + 1) ≡ a + 1)
  lock_taken words x h answer e = by_test h x (λ t. Turns ((c ≡ a) × (Lock x ≡ Lock h) × (Exchange 0 ≡ Exchange 0) × (answer ≡ 0)) ((c ≡ a) × (Lock x ≡ Lock h) × (Exchange 0 ≡ Store))
      (words (Lock h) ≡ a + 1) ((if t then either (words (Lock h) == 0) (c + 1) (words (Lock h)) else words (Lock h)) ≡ a + 1))
      (λ d. go answer (e ∙ ap (λ y. words (Lock y)) (sym d)) d (cases_eq c a))
      (λ ne. leaves (λ y. let z = y.1 in absurd (ne (cc))) (λ y. let z = y.2 in absurd (cc)) (λ y. y) (λ y. y))
    where
      go : (n : ℕ) → n ≡ words (Lock h) → h ≡ x → (c ≡ a) ⊎ (c ≢ a) → Turns ((c ≡ a) × (Lock x ≡ Lock h) × (Exchange 0 ≡ Exchange 0) × (n ≡ 0)) ((c ≡ a) × (Lock x ≡ Lock h) × (Exchange 0 ≡ Store))
          (words (Lock h) ≡ a + 1) (either (words (Lock h) == 0) (c + 1) (words (Lock h)) ≡ a + 1)
      go zero e i (inl d) = turns_on (d, ap (λ y. Lock y) (sym i), refl, refl) (ap (λ n. either (n == 0) (c + 1) n) (sym e) ∙ omega (arith, d))
      go zero e i (inr ne) = leaves (λ y. ne y.0) (λ y. ne y.0) (λ y. absurd (omega arith)) (λ y. absurd (ne (let f : either (words (Lock h) == 0) (c + 1) (words (Lock h)) ≡ c + 1 = ap (λ n. either (n == 0) (c + 1) n) (sym e) in omega (arith, f, y))))
      go (suc m) e i d = leaves (λ y. omega (arith, y.3)) (λ y. let z = y.2 in absurd (cc)) (λ y. same ∙ y) (λ y. sym same ∙ y)
        where
          same : either (words (Lock h) == 0) (c + 1) (words (Lock h)) ≡ words (Lock h)
          same = ap (λ t. either t (c + 1) (words (Lock h))) (ne_eqb (words (Lock h)) 0 (λ z. omega arith))

  lock_turns : (words : Word → ℕ) (h : ℕ) (w : Word) (op : WordOp) (arg answer : ℕ) → ActorMay layout c runs r w op arg → answer ≡ answer_of op (words w) → ((x : ℕ) → held_lock r ≡ suc x → words (Lock x) ≡ c + 1)
      → Turns ((c ≡ a) × (w ≡ Lock h) × (op ≡ Exchange 0) × (answer ≡ 0)) ((c ≡ a) × (w ≡ Lock h) × (op ≡ Store)) (words (Lock h) ≡ a + 1) (value_next (Lock h) w op (words (Lock h)) arg ≡ a + 1)
  lock_turns words h w op arg answer (lock_own free l) e own = lock_taken words c h answer e
  lock_turns words h w op arg answer (lock_other {h = x} free m l st) e own = lock_taken words x h answer e
  lock_turns words h w op arg answer (unlock {h = x} p d sw) e own = by_test h x (λ t. Turns ((c ≡ a) × (Lock x ≡ Lock h) × (Store ≡ Exchange 0) × (answer ≡ 0)) ((c ≡ a) × (Lock x ≡ Lock h) × (Store ≡ Store)) (words (Lock h) ≡ a + 1) ((if t then 0 else words (Lock h)) ≡ a + 1))
      (λ i. go i (cases_eq c a)) (λ ne. leaves (λ y. let z = y.2 in absurd (cc)) (λ y. let z = y.1 in absurd (ne (cc))) (λ y. y) (λ y. y))
    where
      go : h ≡ x → (c ≡ a) ⊎ (c ≢ a) → Turns ((c ≡ a) × (Lock x ≡ Lock h) × (Store ≡ Exchange 0) × (answer ≡ 0)) ((c ≡ a) × (Lock x ≡ Lock h) × (Store ≡ Store)) (words (Lock h) ≡ a + 1) (0 ≡ a + 1)
      go i (inl d) = turns_off (d, ap (λ y. Lock y) (sym i), refl) (λ y. let z = y.2 in absurd (cc)) (λ y. omega arith)
      go i (inr ne) = leaves (λ y. ne y.0) (λ y. ne y.0) (λ y. absurd (ne (let own_lock : words (Lock h) ≡ c + 1 = ap (λ v. words (Lock v)) i ∙ own x p in omega arith))) (λ y. absurd (omega arith))
  lock_turns words h w op arg answer m e own = leaves (λ x. let z = x.1 in absurd (cc)) (λ x. let z = x.1 in absurd (cc)) (λ x. x) (λ x. x)

silent_since : (N P : Step → Type 0) (a : ℕ) (hs : List Step) → a ≢ loader → ((s : Step) → P s → s.actor ≡ a) → Each (λ s. s.actor ≡ loader) hs → Since N P Anything hs → ⊥
silent_since N P a hs ne who all (here {x} {xs} p q) = ne (sym (who x p) ∙ all.0)
silent_since N P a hs ne who all (past {x} {xs} n d) = silent_since N P a xs ne who all.1 d

pub run_law : RunLaw
run_law layout runs hs a who i b = facts_along layout runs (λ h words own. (words (Run a) ≡ 1) ↔ Since (λ s. IsLower a s → ⊥) (IsRaise a) Anything h) i.limits
    (λ h words o l. (λ e. absurd (omega (arith, o.outs a)), λ d. absurd (silent_since (λ s. IsLower a s → ⊥) (IsRaise a) a h (actor_off layout a i.limits.harts who) (λ s p. p.0) l d)))
    (λ s h words own e f. turned (IsRaise a) (IsLower a) s h (words (Run a) ≡ 1) (words (Run a) ≡ 1) (leaves (λ x. clash s e.1.0 x.1) (λ x. clash s e.1.0 x.1) (λ x. x) (λ x. x)) f)
    (λ s h words own o f. turned (IsRaise a) (IsLower a) s h (words (Run a) ≡ 1) (move s words (Run a) ≡ 1)
    (run_turns layout s.actor (runs s.actor) (own s.actor) a (name_of s.word) s.op s.arg (words (Run a)) o.may) f)
    hs (woven layout runs hs i) b
  where
    clash : (s : Step) → name_of s.word ≡ Zero → name_of s.word ≡ Run a → ⊥
    clash s e f = cc

pub pend_law : PendLaw
pend_law layout runs hs a who i b = (facts_along layout runs (λ h words own. Sections words own × ((words Pend ≡ a + 1) ↔ Since (λ s. IsRelease a s → ⊥) (IsClaim a) Anything h)) i.limits
    (λ h words o l. (sections_start layout runs words o, (λ e. absurd (omega (arith, o.pend)), λ d. absurd (silent_since (λ s. IsRelease a s → ⊥) (IsClaim a) a h (actor_off layout a i.limits.harts who) (λ s p. p.0) l d))))
    (λ s h words own e f. (f.0, turned (IsClaim a) (IsRelease a) s h (words Pend ≡ a + 1) (words Pend ≡ a + 1) (leaves (λ x. clash s e.1.0 x.1) (λ x. clash s e.1.0 x.1) (λ x. x) (λ x. x)) f.1))
    (λ s h words own o f. (
      sections_step layout runs s words own o f.0,
      turned (IsClaim a) (IsRelease a) s h (words Pend ≡ a + 1) (move s words Pend ≡ a + 1)
          (pend_turns layout s.actor (runs s.actor) (own s.actor) a words (name_of s.word) s.op s.arg s.answer o.may o.answered (f.0.pend s.actor)) f.1,
    ))
    hs (woven layout runs hs i) b).1
  where
    clash : (s : Step) → name_of s.word ≡ Zero → name_of s.word ≡ Pend → ⊥
    clash s e f = cc

pub lock_law : LockLaw
lock_law layout runs hs a h who i b = (facts_along layout runs (λ hs words own. Tables layout words own × ((words (Lock h) ≡ a + 1) ↔ Since (λ s. IsFreeing a h s → ⊥) (IsLocking a h) Anything hs)) i.limits
    (λ hs words o l. (tables_start layout runs i.limits words o, (λ e. absurd (omega (arith, o.locks h)), λ d. absurd (silent_since (λ s. IsFreeing a h s → ⊥) (IsLocking a h) a hs (actor_off layout a i.limits.harts who) (λ s p. p.0) l d))))
    (λ s hs words own e f. (f.0, turned (IsLocking a h) (IsFreeing a h) s hs (words (Lock h) ≡ a + 1) (words (Lock h) ≡ a + 1) (leaves (λ x. clash s e.1.0 x.1) (λ x. clash s e.1.0 x.1) (λ x. x) (λ x. x)) f.1))
    (λ s hs words own o f. (
      tables_step layout runs i.limits s words own o f.0,
      turned (IsLocking a h) (IsFreeing a h) s hs (words (Lock h) ≡ a + 1) (move s words (Lock h) ≡ a + 1)
          (lock_turns layout s.actor (runs s.actor) (own s.actor) a words h (name_of s.word) s.op s.arg s.answer o.may o.answered (λ x. f.0.holds s.actor x)) f.1,
    ))
    hs (woven layout runs hs i) b).1
  where
    clash : (s : Step) → name_of s.word ≡ Zero → name_of s.word ≡ Lock h → ⊥
    clash s e f = cc
