-- Hart states, kind by kind.
use Rattle.std.proofs.Common.{◌≡◌, ◌≢◌, ℕ, zero, suc, ◌<◌, ◌≤◌, Bool, true, false, true≢false, List, ◌∷◌, refl, sym, ap, subst, ◌∙◌, inl, inr, arith}
use Rattle.std.specs.Prelude.{◌==◌, ◌⊎◌, if◌then◌else◌}
use Rattle.std.proofs.lemmas.Bool.{eqb-true, eq-eqb}
use prog.Atomic.{either}
use Rattle.step_laws.specs.declared.words.Layout.{Layout}
use Rattle.step_laws.specs.declared.steps.Step.{Step}
use Rattle.step_laws.specs.declared.steps.WordOp.{WordOp}
use Rattle.step_laws.specs.declared.steps.WordOp.TheVariants.{Store, Exchange}
use Rattle.step_laws.specs.Map.{Word, Hsm, Start, Opaque, name_of}
use Rattle.step_laws.specs.WordValues.{value_next}
use Rattle.step_laws.specs.Steps.{answer_of}
use Rattle.step_laws.specs.Past.{here, past}
use Rattle.step_laws.specs.Harts.{is_running, is_running_next, Opening, closed, opened, placed, handed, counted, counted_next, opening, opening_next, idle, called, with_start, with_both, call_of, taking, taking_next, is_owing, is_owing_next}
use Rattle.step_laws.specs.Discipline.{ActorMay, load_hsm, begin_start, set_start, set_opaque, add_live, end_start, load_start, load_opaque, take_start, stop, take_live}
use Rattle.step_laws.specs.HartLaws.{opens, open_bit, Spares, IsSparing, IsPlaced, IsGiven, IsInProgress, HsmMove, keeps, stops, begins, ends, takes}
use Rattle.step_laws.proofs.Named.{by_test}

opens_count : (o : Opening) (h : ℕ) → opens (counted_next o) h ≡ opens o h
opens_count closed h = refl
opens_count (opened x) h = refl
opens_count (placed x) h = refl
opens_count (handed x) h = refl
opens_count (counted x) h = refl

pub open_count : (o : Opening) → open_bit (counted_next o) ≡ open_bit o
open_count closed = refl
open_count (opened x) = refl
open_count (placed x) = refl
open_count (handed x) = refl
open_count (counted x) = refl

pub opens_bit : (o : Opening) (h : ℕ) → opens o h ≡ true → open_bit o ≡ 1
opens_bit closed h e = absurd (true≢false (sym e))
opens_bit (opened x) h e = refl
opens_bit (placed x) h e = refl
opens_bit (handed x) h e = refl
opens_bit (counted x) h e = refl

is_itself : (n : ℕ) → (n == n) ≡ true
is_itself n = eq-eqb n n refl

called_two : (n : ℕ) → call_of n ≢ idle → n ≡ 2
called_two zero k = absurd (k refl)
called_two (suc zero) k = absurd (k refl)
called_two (suc (suc zero)) k = refl
called_two (suc (suc (suc n))) k = absurd (k refl)

module _ (layout : Layout) (c : ℕ) (runs : Bool) (r : List Step) (words : Word → ℕ) where
  pub low_step : (h : ℕ) (w : Word) (op : WordOp) (arg n : ℕ) → ActorMay layout c runs r w op arg → n ≤ 3 → value_next (Hsm h) w op n arg ≤ 3
  low_step h w op arg n (begin_start {h = x} p q o ne l) old = by_test h x (λ t. (if t then either (n == 1) 3 n else n) ≤ 3)
      (λ _. by_test n 1 (λ t. either t 3 n ≤ 3) (λ _. omega arith) (λ _. old)) (λ _. old)
  low_step h w op arg n (end_start {h = x} o) old = by_test h x (λ t. (if t then 2 else n) ≤ 3) (λ _. omega arith) (λ _. old)
  low_step h w op arg n (take_start t p o) old = by_test h c (λ t. (if t then 0 else n) ≤ 3) (λ _. omega arith) (λ _. old)
  low_step h w op arg n (stop l p o) old = by_test h c (λ t. (if t then 1 else n) ≤ 3) (λ _. omega arith) (λ _. old)
  low_step h w op arg n m old = old

  pub run_here : (w : Word) (op : WordOp) (arg answer n : ℕ) → ActorMay layout c runs r w op arg → is_running c runs r ≡ (n == 0)
      → is_running_next c w op arg answer (is_running c runs r) ≡ (value_next (Hsm c) w op n arg == 0)
  run_here w op arg answer n (begin_start {h = x} p q o ne l) old = by_test c x (λ t. is_running c runs r ≡ ((if t then either (n == 1) 3 n else n) == 0)) (λ e. absurd (ne (sym e))) (λ _. old)
  run_here w op arg answer n (end_start {h = x} o) old = by_test x c (λ t. (if t then (2 == 0) else is_running c runs r) ≡ ((if c == x then 2 else n) == 0))
      (λ e. by_test c x (λ t. false ≡ ((if t then 2 else n) == 0)) (λ _. refl) (λ ne. absurd (ne (sym e))))
      (λ ne. by_test c x (λ t. is_running c runs r ≡ ((if t then 2 else n) == 0)) (λ e. absurd (ne (sym e))) (λ _. old))
  run_here w op arg answer n (take_start t p o) old = by_test c c (λ t. (if t then (0 == 0) else is_running c runs r) ≡ ((if t then 0 else n) == 0)) (λ _. refl) (λ ne. absurd (ne refl))
  run_here w op arg answer n (stop l p o) old = by_test c c (λ t. (if t then (1 == 0) else is_running c runs r) ≡ ((if t then 1 else n) == 0)) (λ _. refl) (λ ne. absurd (ne refl))
  run_here w op arg answer n m old = old

  opens_at : (x h : ℕ) (o : Opening) → opening r ≡ o → opens o h ≡ true → opens (opening r) h ≡ true
  opens_at x h o e k = ap (λ q. opens q h) e ∙ k

  pub run_else : (a : ℕ) (w : Word) (op : WordOp) (arg n : ℕ) (b : Bool) → a ≢ c → ActorMay layout c runs r w op arg → (opens (opening r) a ≡ true → n ≡ 3) → b ≡ (n == 0) → b ≡ (value_next (Hsm a) w op n arg == 0)
  run_else a w op arg n b off (begin_start {h = x} p q o ne l) three old = by_test a x (λ t. b ≡ ((if t then either (n == 1) 3 n else n) == 0))
      (λ _. by_test n 1 (λ t. b ≡ (either t 3 n == 0)) (λ e. old ∙ ap (λ m. m == 0) e) (λ _. old)) (λ _. old)
  run_else a w op arg n b off (end_start {h = x} o) three old = by_test a x (λ t. b ≡ ((if t then 2 else n) == 0))
      (λ e. old ∙ ap (λ m. m == 0) (three (opens_at x a (counted x) o (eq-eqb x a (sym e))))) (λ _. old)
  run_else a w op arg n b off (take_start t p o) three old = by_test a c (λ t. b ≡ ((if t then 0 else n) == 0)) (λ e. absurd (off e)) (λ _. old)
  run_else a w op arg n b off (stop l p o) three old = by_test a c (λ t. b ≡ ((if t then 1 else n) == 0)) (λ e. absurd (off e)) (λ _. old)
  run_else a w op arg n b off m three old = old

  -- a start that is open after the step was open before, or has begun
  pub opens_here : (h : ℕ) (w : Word) (op : WordOp) (arg answer : ℕ) → ActorMay layout c runs r w op arg → answer ≡ answer_of op (words w)
      → opens (opening_next w op arg answer (opening r)) h ≡ true
      → (opens (opening r) h ≡ true) ⊎ ((words (Hsm h) ≡ 1) × (w ≡ Hsm h) × (op ≡ Exchange 1) × (h < layout.harts))
  opens_here h w op arg answer (begin_start {h = x} p q o ne l) e k = go answer e k
    where
      go : (n : ℕ) → n ≡ words (Hsm x) → opens (opening_next (Hsm x) (Exchange 1) 3 n (opening r)) h ≡ true
          → (opens (opening r) h ≡ true) ⊎ ((words (Hsm h) ≡ 1) × (Hsm x ≡ Hsm h) × (Exchange 1 ≡ Exchange 1) × (h < layout.harts))
      go zero e k = inl k
      go (suc zero) e k = let d : x ≡ h = eqb-true x h k in inr (ap (λ y. words (Hsm y)) (sym d) ∙ sym e, ap (λ y. Hsm y) d, refl, subst (λ y. y < layout.harts) d l)
      go (suc (suc n)) e k = inl k
  opens_here h w op arg answer (set_start {h = x} o z) e k = inl (opens_at x h (opened x) o k)
  opens_here h w op arg answer (set_opaque {h = x} o) e k = inl (opens_at x h (placed x) o k)
  opens_here h w op arg answer (add_live {h = x} o) e k = inl (sym (opens_count (opening r) h) ∙ k)
  opens_here h w op arg answer (take_live o) e k = inl k
  opens_here h w op arg answer (end_start o) e k = absurd (true≢false (sym k))
  opens_here h w op arg answer (take_start t p o) e k = absurd (true≢false (sym k))
  opens_here h w op arg answer (stop l p o) e k = absurd (true≢false (sym k))
  opens_here h w op arg answer m e k = inl k

  -- 3 is there where a start is open
  pub open_here : (h : ℕ) (w : Word) (op : WordOp) (arg answer : ℕ) → ActorMay layout c runs r w op arg → answer ≡ answer_of op (words w) → (opens (opening r) h ≡ true → words (Hsm h) ≡ 3)
      → opens (opening_next w op arg answer (opening r)) h ≡ true → value_next (Hsm h) w op (words (Hsm h)) arg ≡ 3
  open_here h w op arg answer (begin_start {h = x} p q o ne l) e old k = go answer e k
    where
      go : (n : ℕ) → n ≡ words (Hsm x) → opens (opening_next (Hsm x) (Exchange 1) 3 n (opening r)) h ≡ true → value_next (Hsm h) (Hsm x) (Exchange 1) (words (Hsm h)) 3 ≡ 3
      go zero e k = absurd (true≢false (sym k ∙ ap (λ q. opens q h) o))
      go (suc zero) e k = let d : x ≡ h = eqb-true x h k in by_test h x (λ t. (if t then either (words (Hsm h) == 1) 3 (words (Hsm h)) else words (Hsm h)) ≡ 3)
          (λ i. ap (λ m. either (m == 1) 3 m) (ap (λ y. words (Hsm y)) i ∙ sym e)) (λ ne. absurd (ne (sym d)))
      go (suc (suc n)) e k = absurd (true≢false (sym k ∙ ap (λ q. opens q h) o))
  open_here h w op arg answer (set_start {h = x} o z) e old k = old (opens_at x h (opened x) o k)
  open_here h w op arg answer (set_opaque {h = x} o) e old k = old (opens_at x h (placed x) o k)
  open_here h w op arg answer (add_live {h = x} o) e old k = old (sym (opens_count (opening r) h) ∙ k)
  open_here h w op arg answer (take_live o) e old k = old k
  open_here h w op arg answer (end_start o) e old k = absurd (true≢false (sym k))
  open_here h w op arg answer (take_start t p o) e old k = absurd (true≢false (sym k))
  open_here h w op arg answer (stop l p o) e old k = absurd (true≢false (sym k))
  open_here h w op arg answer m e old k = old k

  zero_there : (h : ℕ) → is_running c runs r ≡ true → is_running c runs r ≡ (words (Hsm c) == 0) → h ≡ c → words (Hsm h) ≡ 0
  zero_there h p q e = ap (λ y. words (Hsm y)) e ∙ eqb-true (words (Hsm c)) 0 (sym q ∙ p)

  -- 3 stays while its start is another's
  pub three_else : (h : ℕ) (w : Word) (op : WordOp) (arg : ℕ) → ActorMay layout c runs r w op arg → (opens (opening r) h ≡ true → ⊥) → (taking c r ≢ idle → words (Hsm c) ≡ 2)
      → (c < layout.harts → is_running c runs r ≡ (words (Hsm c) == 0)) → words (Hsm h) ≡ 3 → value_next (Hsm h) w op (words (Hsm h)) arg ≡ 3
  three_else h w op arg (begin_start {h = x} p q o ne l) away call run old = by_test h x (λ t. (if t then either (words (Hsm h) == 1) 3 (words (Hsm h)) else words (Hsm h)) ≡ 3) (λ _. ap (λ m. either (m == 1) 3 m) old) (λ _. old)
  three_else h w op arg (end_start {h = x} o) away call run old = by_test h x (λ t. (if t then 2 else words (Hsm h)) ≡ 3) (λ e. absurd (away (opens_at x h (counted x) o (eq-eqb x h (sym e))))) (λ _. old)
  three_else h w op arg (take_start t p o) away call run old = by_test h c (λ t. (if t then 0 else words (Hsm h)) ≡ 3)
      (λ e. let two : words (Hsm c) ≡ 2 = call (λ i. with_idle (sym t ∙ i)) in let same_word : words (Hsm h) ≡ words (Hsm c) = ap (λ y. words (Hsm y)) e in absurd (omega arith)) (λ _. old)
    where
      with_idle : with_both ≡ idle → ⊥
      with_idle e = cc
  three_else h w op arg (stop l p o) away call run old = by_test h c (λ t. (if t then 1 else words (Hsm h)) ≡ 3) (λ e. let z : words (Hsm h) ≡ 0 = zero_there h p (run l) e in absurd (omega arith)) (λ _. old)
  three_else h w op arg m away call run old = old

  pub call_here : (w : Word) (op : WordOp) (arg answer : ℕ) → ActorMay layout c runs r w op arg → answer ≡ answer_of op (words w) → (taking c r ≢ idle → words (Hsm c) ≡ 2)
      → taking_next c w op arg answer (taking c r) ≢ idle → value_next (Hsm c) w op (words (Hsm c)) arg ≡ 2
  call_here w op arg answer (load_hsm {h = x}) e old k = by_test x c (λ t. (if t then call_of answer else taking c r) ≢ idle → words (Hsm c) ≡ 2)
      (λ d k. ap (λ y. words (Hsm y)) (sym d) ∙ sym e ∙ called_two answer k) (λ _. old) k
  call_here w op arg answer (begin_start {h = x} p q o ne l) e old k = by_test c x (λ t. (if t then either (words (Hsm c) == 1) 3 (words (Hsm c)) else words (Hsm c)) ≡ 2) (λ d. absurd (ne (sym d))) (λ _. old k)
  call_here w op arg answer (end_start {h = x} o) e old k = by_test x c (λ t. (if t then idle else taking c r) ≢ idle → (if c == x then 2 else words (Hsm c)) ≡ 2) (λ d k. absurd (k refl))
      (λ ne k. by_test c x (λ t. (if t then 2 else words (Hsm c)) ≡ 2) (λ _. refl) (λ _. old k)) k
  call_here w op arg answer (take_start t p o) e old k = absurd (by_test c c (λ t. (if t then idle else taking c r) ≢ idle → ⊥) (λ _ k. k refl) (λ ne. absurd (ne refl)) k)
  call_here w op arg answer (stop l p o) e old k = absurd (by_test c c (λ t. (if t then idle else taking c r) ≢ idle → ⊥) (λ _ k. k refl) (λ ne. absurd (ne refl)) k)
  call_here w op arg answer (load_start t) e old k = old (λ i. apart (sym t ∙ i))
    where
      apart : called ≡ idle → ⊥
      apart e = cc
  call_here w op arg answer (load_opaque t) e old k = old (λ i. apart (sym t ∙ i))
    where
      apart : with_start ≡ idle → ⊥
      apart e = cc
  call_here w op arg answer m e old k = old k

  pub call_else : (a : ℕ) (w : Word) (op : WordOp) (arg : ℕ) → a ≢ c → ActorMay layout c runs r w op arg → words (Hsm a) ≡ 2 → value_next (Hsm a) w op (words (Hsm a)) arg ≡ 2
  call_else a w op arg off (begin_start {h = x} p q o ne l) old = by_test a x (λ t. (if t then either (words (Hsm a) == 1) 3 (words (Hsm a)) else words (Hsm a)) ≡ 2) (λ _. ap (λ m. either (m == 1) 3 m) old) (λ _. old)
  call_else a w op arg off (end_start {h = x} o) old = by_test a x (λ t. (if t then 2 else words (Hsm a)) ≡ 2) (λ _. refl) (λ _. old)
  call_else a w op arg off (take_start t p o) old = by_test a c (λ t. (if t then 0 else words (Hsm a)) ≡ 2) (λ e. absurd (off e)) (λ _. old)
  call_else a w op arg off (stop l p o) old = by_test a c (λ t. (if t then 1 else words (Hsm a)) ≡ 2) (λ e. absurd (off e)) (λ _. old)
  call_else a w op arg off m old = old

  -- 3 comes by a start that begins
  pub three_before : (h : ℕ) (w : Word) (op : WordOp) (arg answer : ℕ) → ActorMay layout c runs r w op arg → answer ≡ answer_of op (words w) → value_next (Hsm h) w op (words (Hsm h)) arg ≡ 3
      → (words (Hsm h) ≡ 3) ⊎ (opens (opening_next w op arg answer (opening r)) h ≡ true)
  three_before h w op arg answer (begin_start {h = x} p q o ne l) e k = by_test h x (λ t. (if t then either (words (Hsm h) == 1) 3 (words (Hsm h)) else words (Hsm h)) ≡ 3 → (words (Hsm h) ≡ 3) ⊎ (opens (opening_next (Hsm x) (Exchange 1) 3 answer (opening r)) h ≡ true))
      (λ d. by_test (words (Hsm h)) 1 (λ t. either t 3 (words (Hsm h)) ≡ 3 → (words (Hsm h) ≡ 3) ⊎ (opens (opening_next (Hsm x) (Exchange 1) 3 answer (opening r)) h ≡ true))
      (λ one _. inr (ap (λ n. opens (opening_next (Hsm x) (Exchange 1) 3 n (opening r)) h) (e ∙ ap (λ y. words (Hsm y)) (sym d) ∙ one) ∙ eq-eqb x h (sym d))) (λ _ k. inl k)) (λ _ k. inl k) k
  three_before h w op arg answer (end_start {h = x} o) e k = by_test h x (λ t. (if t then 2 else words (Hsm h)) ≡ 3 → (words (Hsm h) ≡ 3) ⊎ (opens (opening_next (Hsm x) Store 2 answer (opening r)) h ≡ true)) (λ _ k. absurd (omega arith)) (λ _ k. inl k) k
  three_before h w op arg answer (take_start t p o) e k = by_test h c (λ t. (if t then 0 else words (Hsm h)) ≡ 3 → (words (Hsm h) ≡ 3) ⊎ (opens (opening_next (Hsm c) Store 0 answer (opening r)) h ≡ true)) (λ _ k. absurd (omega arith)) (λ _ k. inl k) k
  three_before h w op arg answer (stop l p o) e k = by_test h c (λ t. (if t then 1 else words (Hsm h)) ≡ 3 → (words (Hsm h) ≡ 3) ⊎ (opens (opening_next (Hsm c) Store 1 answer (opening r)) h ≡ true)) (λ _ k. absurd (omega arith)) (λ _ k. inl k) k
  three_before h w op arg answer m e k = inl k

  -- and its start stays open as long as it is 3
  pub opens_on : (h : ℕ) (w : Word) (op : WordOp) (arg answer : ℕ) → ActorMay layout c runs r w op arg → (open_bit (opening r) ≡ 1 → is_running c runs r ≡ true) → value_next (Hsm h) w op (words (Hsm h)) arg ≡ 3
      → opens (opening r) h ≡ true → opens (opening_next w op arg answer (opening r)) h ≡ true
  opens_on h w op arg answer (begin_start {h = x} p q o ne l) runs_on three k = absurd (true≢false (sym k ∙ ap (λ q. opens q h) o))
  opens_on h w op arg answer (set_start {h = x} o z) runs_on three k = sym (ap (λ q. opens q h) o) ∙ k
  opens_on h w op arg answer (set_opaque {h = x} o) runs_on three k = sym (ap (λ q. opens q h) o) ∙ k
  opens_on h w op arg answer (add_live o) runs_on three k = opens_count (opening r) h ∙ k
  opens_on h w op arg answer (take_live o) runs_on three k = k
  opens_on h w op arg answer (end_start {h = x} o) runs_on three k = by_test h x (λ t. (if t then 2 else words (Hsm h)) ≡ 3 → false ≡ true) (λ _ three. absurd (omega arith))
      (λ ne _. absurd (ne (sym (eqb-true x h (sym (ap (λ q. opens q h) o) ∙ k))))) three
  opens_on h w op arg answer (take_start t p o) runs_on three k = absurd (true≢false (sym (runs_on (opens_bit (opening r) h k)) ∙ p))
  opens_on h w op arg answer (stop l p o) runs_on three k = absurd (true≢false (sym k ∙ ap (λ q. opens q h) o))
  opens_on h w op arg answer m runs_on three k = k

  pub opener_here : (w : Word) (op : WordOp) (arg answer : ℕ) → ActorMay layout c runs r w op arg → (open_bit (opening r) ≡ 1 → (c < layout.harts) × (is_running c runs r ≡ true))
      → open_bit (opening_next w op arg answer (opening r)) ≡ 1 → (c < layout.harts) × (is_running_next c w op arg answer (is_running c runs r) ≡ true)
  opener_here w op arg answer (begin_start p q o ne l) old k = (p, q)
  opener_here w op arg answer (set_start o z) old k = old (ap open_bit o)
  opener_here w op arg answer (set_opaque o) old k = old (ap open_bit o)
  opener_here w op arg answer (add_live o) old k = old (ap open_bit o)
  opener_here w op arg answer (take_live o) old k = old k
  opener_here w op arg answer (end_start o) old k = absurd (omega arith)
  opener_here w op arg answer (take_start t p o) old k = absurd (omega arith)
  opener_here w op arg answer (stop l p o) old k = absurd (omega arith)
  opener_here w op arg answer m old k = old k

  pub owes_here : (w : Word) (op : WordOp) (arg answer : ℕ) → ActorMay layout c runs r w op arg → (is_owing c r ≡ true → (c < layout.harts) × (is_running c runs r ≡ false))
      → is_owing_next c w op arg answer (is_owing c r) ≡ true → (c < layout.harts) × (is_running_next c w op arg answer (is_running c runs r) ≡ false)
  owes_here w op arg answer (end_start {h = x} o) old k = by_test x c (λ t. (if t then (2 == 1) else is_owing c r) ≡ true → (c < layout.harts) × ((if t then (2 == 0) else is_running c runs r) ≡ false)) (λ _ k. absurd (true≢false (sym k))) (λ _. old) k
  owes_here w op arg answer (take_start t p o) old k = by_test c c (λ t. (if t then (0 == 1) else is_owing c r) ≡ true → (c < layout.harts) × ((if t then (0 == 0) else is_running c runs r) ≡ false)) (λ _ k. absurd (true≢false (sym k))) (λ ne. absurd (ne refl)) k
  owes_here w op arg answer (stop l p o) old k = (l, by_test c c (λ t. (if t then (1 == 0) else is_running c runs r) ≡ false) (λ _. refl) (λ ne. absurd (ne refl)))
  owes_here w op arg answer (add_live o) old k = absurd (true≢false (sym k))
  owes_here w op arg answer (take_live o) old k = absurd (true≢false (sym k))
  owes_here w op arg answer m old k = old k

  -- a step spares a hart that has no start of the actor's open and isn't stopped
  pub spares : (h : ℕ) (w : Word) (op : WordOp) (arg answer : ℕ) → ActorMay layout c runs r w op arg → answer ≡ answer_of op (words w) → (opens (opening r) h ≡ true → ⊥) → words (Hsm h) ≢ 1
      → Spares h w op answer × (value_next (Start h) w op (words (Start h)) arg ≡ words (Start h)) × (value_next (Opaque h) w op (words (Opaque h)) arg ≡ words (Opaque h))
  spares h w op arg answer (begin_start {h = x} p q o ne l) e away off = ((λ d f a. off (ap (λ v. words v) (sym d) ∙ sym e ∙ a), λ d. absurd (cc), λ d. absurd (cc)), refl, refl)
  spares h w op arg answer (set_start {h = x} o z) e away off = (
    (λ d. absurd (cc), λ d _. away (opens_at x h (opened x) o (eq-eqb x h (cc))), λ d. absurd (cc)),
    by_test h x (λ t. (if t then arg else words (Start h)) ≡ words (Start h)) (λ d. absurd (away (opens_at x h (opened x) o (eq-eqb x h (sym d))))) (λ _. refl),
    refl,
  )
  spares h w op arg answer (set_opaque {h = x} o) e away off = (
    (λ d. absurd (cc), λ d. absurd (cc), λ d _. away (opens_at x h (placed x) o (eq-eqb x h (cc)))),
    refl,
    by_test h x (λ t. (if t then arg else words (Opaque h)) ≡ words (Opaque h)) (λ d. absurd (away (opens_at x h (placed x) o (eq-eqb x h (sym d))))) (λ _. refl),
  )
  spares h w op arg answer (end_start o) e away off = ((λ d f. absurd (cc), λ d. absurd (cc), λ d. absurd (cc)), refl, refl)
  spares h w op arg answer (take_start t p o) e away off = ((λ d f. absurd (cc), λ d. absurd (cc), λ d. absurd (cc)), refl, refl)
  spares h w op arg answer (stop l p o) e away off = ((λ d f. absurd (cc), λ d. absurd (cc), λ d. absurd (cc)), refl, refl)
  spares h w op arg answer load_hsm e away off = ((λ d f. absurd (cc), λ d. absurd (cc), λ d. absurd (cc)), refl, refl)
  spares h w op arg answer (load_start t) e away off = ((λ d f. absurd (cc), λ d f. absurd (cc), λ d. absurd (cc)), refl, refl)
  spares h w op arg answer (load_opaque t) e away off = ((λ d f. absurd (cc), λ d. absurd (cc), λ d f. absurd (cc)), refl, refl)
  spares h w op arg answer m e away off = ((λ d. absurd (cc), λ d. absurd (cc), λ d. absurd (cc)), refl, refl)

  -- how the step moves HSM of h
  pub moves : (h : ℕ) (w : Word) (op : WordOp) (arg : ℕ) → ActorMay layout c runs r w op arg → (opens (opening r) h ≡ true → words (Hsm h) ≡ 3) → (taking c r ≢ idle → words (Hsm c) ≡ 2)
      → (c < layout.harts → is_running c runs r ≡ (words (Hsm c) == 0)) → (open_bit (opening r) ≡ 1 → (c < layout.harts) × (is_running c runs r ≡ true)) → HsmMove h c (words (Hsm h)) (value_next (Hsm h) w op (words (Hsm h)) arg)
  moves h w op arg (begin_start {h = x} p q o ne l) three call run opener = by_test h x (λ t. HsmMove h c (words (Hsm h)) (if t then either (words (Hsm h) == 1) 3 (words (Hsm h)) else words (Hsm h)))
      (λ d. by_test (words (Hsm h)) 1 (λ t. HsmMove h c (words (Hsm h)) (either t 3 (words (Hsm h)))) (λ e. subst (λ n. HsmMove h c n 3) (sym e) (begins (λ i. ne (sym d ∙ sym i)))) (λ _. keeps)) (λ _. keeps)
  moves h w op arg (end_start {h = x} o) three call run opener = by_test h x (λ t. HsmMove h c (words (Hsm h)) (if t then 2 else words (Hsm h)))
      (λ d. let t : words (Hsm h) ≡ 3 = three (opens_at x h (counted x) o (eq-eqb x h (sym d))) in subst (λ n. HsmMove h c n 2) (sym t)
      (ends (λ i. let u = opener (ap open_bit o) in let z : words (Hsm h) ≡ 0 = zero_there h u.1 (run u.0) (sym i) in absurd (omega arith)))) (λ _. keeps)
  moves h w op arg (take_start t p o) three call run opener = by_test h c (λ t. HsmMove h c (words (Hsm h)) (if t then 0 else words (Hsm h)))
      (λ d. subst (λ n. HsmMove h c n 0) (sym (ap (λ y. words (Hsm y)) d ∙ call (λ i. apart (sym t ∙ i)))) (takes (sym d))) (λ _. keeps)
    where
      apart : with_both ≡ idle → ⊥
      apart e = cc
  moves h w op arg (stop l p o) three call run opener = by_test h c (λ t. HsmMove h c (words (Hsm h)) (if t then 1 else words (Hsm h)))
      (λ d. subst (λ n. HsmMove h c n 1) (sym (zero_there h p (run l) d)) (stops (sym d))) (λ _. keeps)
  moves h w op arg m three call run opener = keeps

  -- 2 comes from the end of the actor's start
  pub two_before : (h : ℕ) (w : Word) (op : WordOp) (arg : ℕ) → ActorMay layout c runs r w op arg → value_next (Hsm h) w op (words (Hsm h)) arg ≡ 2
      → (words (Hsm h) ≡ 2) ⊎ ((opening r ≡ counted h) × (w ≡ Hsm h) × (op ≡ Store))
  two_before h w op arg (begin_start {h = x} p q o ne l) k = by_test h x (λ t. (if t then either (words (Hsm h) == 1) 3 (words (Hsm h)) else words (Hsm h)) ≡ 2 → (words (Hsm h) ≡ 2) ⊎ ((opening r ≡ counted h) × (Hsm x ≡ Hsm h) × (Exchange 1 ≡ Store)))
      (λ d. by_test (words (Hsm h)) 1 (λ t. either t 3 (words (Hsm h)) ≡ 2 → (words (Hsm h) ≡ 2) ⊎ ((opening r ≡ counted h) × (Hsm x ≡ Hsm h) × (Exchange 1 ≡ Store))) (λ _ k. absurd (omega arith)) (λ _ k. inl k)) (λ _ k. inl k) k
  two_before h w op arg (end_start {h = x} o) k = by_test h x (λ t. (if t then 2 else words (Hsm h)) ≡ 2 → (words (Hsm h) ≡ 2) ⊎ ((opening r ≡ counted h) × (Hsm x ≡ Hsm h) × (Store ≡ Store)))
      (λ d _. inr (o ∙ ap (λ y. counted y) (sym d), ap (λ y. Hsm y) (sym d), refl)) (λ _ k. inl k) k
  two_before h w op arg (take_start t p o) k = by_test h c (λ t. (if t then 0 else words (Hsm h)) ≡ 2 → (words (Hsm h) ≡ 2) ⊎ ((opening r ≡ counted h) × (Hsm c ≡ Hsm h) × (Store ≡ Store))) (λ _ k. absurd (omega arith)) (λ _ k. inl k) k
  two_before h w op arg (stop l p o) k = by_test h c (λ t. (if t then 1 else words (Hsm h)) ≡ 2 → (words (Hsm h) ≡ 2) ⊎ ((opening r ≡ counted h) × (Hsm c ≡ Hsm h) × (Store ≡ Store))) (λ _ k. absurd (omega arith)) (λ _ k. inl k) k
  two_before h w op arg m k = inl k

  -- no start is open and HSM isn't 2: nothing but an own stop moves it, so 1 stays
  pub one_stays : (h : ℕ) (w : Word) (op : WordOp) (arg : ℕ) → ActorMay layout c runs r w op arg → (opens (opening r) h ≡ true → words (Hsm h) ≡ 3) → (taking c r ≢ idle → words (Hsm c) ≡ 2)
      → (c < layout.harts → is_running c runs r ≡ (words (Hsm c) == 0)) → (c < layout.harts → words (Hsm c) ≡ 1) → words (Hsm h) ≡ 1 → value_next (Hsm h) w op (words (Hsm h)) arg ≡ 1
  one_stays h w op arg (begin_start {h = x} p q o ne l) three call run all old = let z : words (Hsm c) ≡ 0 = zero_there c q (run p) refl in absurd (omega (arith, all p))
  one_stays h w op arg (end_start {h = x} o) three call run all old = by_test h x (λ t. (if t then 2 else words (Hsm h)) ≡ 1)
      (λ d. absurd (omega (arith, three (opens_at x h (counted x) o (eq-eqb x h (sym d)))))) (λ _. old)
  one_stays h w op arg (take_start t p o) three call run all old = by_test h c (λ t. (if t then 0 else words (Hsm h)) ≡ 1)
      (λ d. let two : words (Hsm c) ≡ 2 = call (λ i. apart (sym t ∙ i)) in let e : words (Hsm h) ≡ words (Hsm c) = ap (λ y. words (Hsm y)) d in absurd (omega arith)) (λ _. old)
    where
      apart : with_both ≡ idle → ⊥
      apart e = cc
  one_stays h w op arg (stop l p o) three call run all old = by_test h c (λ t. (if t then 1 else words (Hsm h)) ≡ 1) (λ _. refl) (λ _. old)
  one_stays h w op arg m three call run all old = old

-- a start in progress after a step that spares its hart
pub progress_on : (a : ℕ) (o : Opening) (words other : Word → ℕ) (s : Step) (hs : List Step)
    → ((h : ℕ) → opens o h ≡ true → IsSparing h s × (other (Start h) ≡ words (Start h)) × (other (Opaque h) ≡ words (Opaque h))) → IsInProgress a o words hs → IsInProgress a o other (s ∷ hs)
progress_on a closed words other s hs f p = tt
progress_on a (opened h) words other s hs f p = let d = f h (is_itself h) in past d.0 p
progress_on a (placed h) words other s hs f p = let d = f h (is_itself h) in subst (λ u. IsPlaced a h u (s ∷ hs)) (sym d.1) (past d.0 p)
progress_on a (handed h) words other s hs f p = let d = f h (is_itself h) in subst (λ u. IsGiven a h u (other (Opaque h)) (s ∷ hs)) (sym d.1) (subst (λ v. IsGiven a h (words (Start h)) v (s ∷ hs)) (sym d.2) (past d.0 p))
progress_on a (counted h) words other s hs f p = let d = f h (is_itself h) in subst (λ u. IsGiven a h u (other (Opaque h)) (s ∷ hs)) (sym d.1) (subst (λ v. IsGiven a h (words (Start h)) v (s ∷ hs)) (sym d.2) (past d.0 p))

pub progress_count : (a : ℕ) (o : Opening) (words : Word → ℕ) (hs : List Step) → IsInProgress a o words hs → IsInProgress a (counted_next o) words hs
progress_count a closed words hs p = p
progress_count a (opened h) words hs p = p
progress_count a (placed h) words hs p = p
progress_count a (handed h) words hs p = p
progress_count a (counted h) words hs p = p

pub sparing : (h : ℕ) (s : Step) (w : Word) (op : WordOp) (answer : ℕ) → name_of s.word ≡ w → s.op ≡ op → s.answer ≡ answer → Spares h w op answer → IsSparing h s
sparing h s w op answer e f g p = subst (λ v. Spares h v s.op s.answer) (sym e) (subst (λ o. Spares h w o s.answer) (sym f) (subst (λ a. Spares h w op a) (sym g) p))

module _ (layout : Layout) (c : ℕ) (runs : Bool) (r : List Step) (words : Word → ℕ) (s : Step) (hs : List Step) (is : s.actor ≡ c) where
  pub progress_here : (w : Word) (op : WordOp) (arg answer : ℕ) → name_of s.word ≡ w → s.op ≡ op → s.arg ≡ arg → s.answer ≡ answer → ActorMay layout c runs r w op arg
      → IsInProgress c (opening r) words hs → IsInProgress c (opening_next w op arg answer (opening r)) (λ v. value_next v w op (words v) arg) (s ∷ hs)
  progress_here w op arg answer e f g a (begin_start {h = x} p q o ne l) old = go answer a
    where
      go : (n : ℕ) → s.answer ≡ n → IsInProgress c (opening_next (Hsm x) (Exchange 1) 3 n (opening r)) (λ v. value_next v (Hsm x) (Exchange 1) (words v) 3) (s ∷ hs)
      go zero a = subst (λ o. IsInProgress c o (λ v. value_next v (Hsm x) (Exchange 1) (words v) 3) (s ∷ hs)) (sym o) tt
      go (suc zero) a = here (is, e, f, a) tt
      go (suc (suc n)) a = subst (λ o. IsInProgress c o (λ v. value_next v (Hsm x) (Exchange 1) (words v) 3) (s ∷ hs)) (sym o) tt
  progress_here w op arg answer e f g a (set_start {h = x} o z) old = here (is, e, f, g ∙ by_test x x (λ t. arg ≡ (if t then arg else words (Start x))) (λ _. refl) (λ ne. absurd (ne refl))) (subst (λ o. IsInProgress c o words hs) o old)
  progress_here w op arg answer e f g a (set_opaque {h = x} o) old = here (is, e, f, g ∙ by_test x x (λ t. arg ≡ (if t then arg else words (Opaque x))) (λ _. refl) (λ ne. absurd (ne refl))) (subst (λ o. IsInProgress c o words hs) o old)
  progress_here w op arg answer e f g a (add_live o) old = progress_count c (opening r) (λ v. value_next v w op (words v) arg) (s ∷ hs)
      (progress_on c (opening r) words (λ v. value_next v w op (words v) arg) s hs (λ h _. (sparing h s w op answer e f a (λ d. absurd (cc), λ d. absurd (cc), λ d. absurd (cc)), refl, refl)) old)
  progress_here w op arg answer e f g a (take_live o) old = (progress_on c (opening r) words (λ v. value_next v w op (words v) arg) s hs (λ h _. (sparing h s w op answer e f a (λ d. absurd (cc), λ d. absurd (cc), λ d. absurd (cc)), refl, refl)) old)
  progress_here w op arg answer e f g a (end_start o) old = tt
  progress_here w op arg answer e f g a (take_start t p o) old = tt
  progress_here w op arg answer e f g a (stop l p o) old = tt
  progress_here w op arg answer e f g a load_hsm old = progress_on c (opening r) words (λ v. value_next v w op (words v) arg) s hs
      (λ h _. (sparing h s w op answer e f a (λ d k. absurd (cc), λ d. absurd (cc), λ d. absurd (cc)), refl, refl)) old
  progress_here w op arg answer e f g a (load_start t) old = progress_on c (opening r) words (λ v. value_next v w op (words v) arg) s hs
      (λ h _. (sparing h s w op answer e f a (λ d. absurd (cc), λ d k. absurd (cc), λ d. absurd (cc)), refl, refl)) old
  progress_here w op arg answer e f g a (load_opaque t) old = progress_on c (opening r) words (λ v. value_next v w op (words v) arg) s hs
      (λ h _. (sparing h s w op answer e f a (λ d. absurd (cc), λ d. absurd (cc), λ d k. absurd (cc)), refl, refl)) old
  progress_here w op arg answer e f g a m old = progress_on c (opening r) words (λ v. value_next v w op (words v) arg) s hs
      (λ h _. (sparing h s w op answer e f a (λ d. absurd (cc), λ d. absurd (cc), λ d. absurd (cc)), refl, refl)) old
