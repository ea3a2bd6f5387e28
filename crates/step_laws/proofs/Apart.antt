-- Sections, by induction along the history.
use Rattle.std.proofs.Common.{◌≡◌, ◌≢◌, ℕ, zero, suc, ◌+◌, ◌<◌, ◌≤◌, Bool, true, true≢false, List, [], ◌∷◌, ◌++◌, refl, sym, ap, subst, ◌∙◌, arith, ⊎_elim}
use Rattle.std.specs.Prelude.{◌==◌, nat_lt, if◌then◌else◌}
use Rattle.std.proofs.lemmas.Bool.{cases_eq}
use prog.Atomic.{either}
use Rattle.step_laws.specs.Words.{most_harts}
use Rattle.step_laws.specs.declared.words.Layout.{Layout}
use Rattle.step_laws.specs.declared.steps.Step.{Step}
use Rattle.step_laws.specs.declared.steps.WordOp.{WordOp}
use Rattle.step_laws.specs.declared.steps.WordOp.TheVariants.{Load, Store, Exchange}
use Rattle.step_laws.specs.Layout.{IsInLimits}
use Rattle.step_laws.specs.Map.{Word, Zero, Pend, Run, name_of, loader, monitor, actors}
use Rattle.step_laws.specs.WordValues.{word_value, value_next}
use Rattle.step_laws.specs.Steps.{own_steps, answer_of}
use Rattle.step_laws.specs.Past.{Each}
use Rattle.step_laws.specs.Sections.{raised, inside, phase, phase_next, is_claimant, is_claimant_next, pass, pass_next, pass_by, actor_from, other_from, IsInSection, MayTouch}
use Rattle.step_laws.proofs.Invariants.{is_cleared, is_cleared_next}
use Rattle.step_laws.specs.Discipline.{IsActor, ActorMay, raise, ask, lower, claim, check, release, read_ram, write_ram, touch_ipi, draw, print, load_cons, load_console}
use Rattle.step_laws.specs.Histories.{IsBegun}
use Rattle.step_laws.specs.SectionLaws.{run_value, SectionFacts, IsTouched, IsRelease, SectionLaw}
use Rattle.step_laws.proofs.Invariants.{Sections}
use Rattle.step_laws.proofs.Named.{by_test, by_lt}
use Rattle.step_laws.proofs.Woven.{Woven, woven, acts, acts_of, put, by_put, by_two, move, IsAct, IsStart, loader_op}
use Rattle.step_laws.proofs.Along.{facts_along, act_of, permits_loader}

module _ (layout : Layout) (c : ℕ) (runs : Bool) (r : List Step) where
  run_here : (w : Word) (op : WordOp) (arg answer n : ℕ) → ActorMay layout c runs r w op arg → n ≡ run_value (phase r) → value_next (Run c) w op n arg ≡ run_value (phase_next w op arg answer (phase r))
  run_here w op arg answer n (raise p) inv = by_test c c (λ t. (if t then 1 else n) ≡ 1) (λ _. refl) (λ ne. absurd (ne refl))
  run_here w op arg answer n lower inv = by_test c c (λ t. (if t then 0 else n) ≡ 0) (λ _. refl) (λ ne. absurd (ne refl))
  run_here w op arg answer n (ask p) inv = subst (λ q. n ≡ run_value (phase_next Pend Load arg answer q)) (sym p) (asked answer (inv ∙ ap run_value p))
    where
      asked : (x : ℕ) → n ≡ 1 → n ≡ run_value (phase_next Pend Load arg x raised)
      asked zero e = e
      asked (suc x) e = e
  run_here w op arg answer n m inv = inv

  run_else : (b : ℕ) (w : Word) (op : WordOp) (arg n : ℕ) → b ≢ c → ActorMay layout c runs r w op arg → value_next (Run b) w op n arg ≡ n
  run_else b w op arg n ne (raise p) = by_test b c (λ t. (if t then 1 else n) ≡ n) (λ e. absurd (ne e)) (λ _. refl)
  run_else b w op arg n ne lower = by_test b c (λ t. (if t then 0 else n) ≡ n) (λ e. absurd (ne e)) (λ _. refl)
  run_else b w op arg n ne m = refl

  pend_here : (words : Word → ℕ) (w : Word) (op : WordOp) (arg answer : ℕ) → ActorMay layout c runs r w op arg → answer ≡ answer_of op (words w)
      → (is_claimant r ≡ true → words Pend ≡ c + 1) → is_claimant_next w op arg answer (is_claimant r) ≡ true → value_next Pend w op (words Pend) arg ≡ c + 1
  pend_here words w op arg answer (claim p) e inv k = go answer e k
    where
      go : (x : ℕ) → x ≡ words Pend → is_claimant_next Pend (Exchange 0) (c + 1) x (is_claimant r) ≡ true → either (words Pend == 0) (c + 1) (words Pend) ≡ c + 1
      go zero e k = ap (λ n. either (n == 0) (c + 1) n) (sym e)
      go (suc x) e k = absurd (true≢false (sym k ∙ p.1))
  pend_here words w op arg answer (release p) e inv k = absurd (true≢false (sym k))
  pend_here words w op arg answer m e inv k = inv k

  pend_else : (b : ℕ) (words : Word → ℕ) (w : Word) (op : WordOp) (arg : ℕ) → b ≢ c → ActorMay layout c runs r w op arg
      → (is_claimant r ≡ true → words Pend ≡ c + 1) → words Pend ≡ b + 1 → value_next Pend w op (words Pend) arg ≡ b + 1
  pend_else b words w op arg ne (claim p) inv e = by_test (words Pend) 0 (λ t. either t (c + 1) (words Pend) ≡ b + 1) (λ z. absurd (omega arith)) (λ _. e)
  pend_else b words w op arg ne (release p) inv e = absurd (ne (omega (arith, inv p)))
  pend_else b words w op arg ne m inv e = e

  named_here : (words : Word → ℕ) (w : Word) (op : WordOp) (arg answer : ℕ) → ActorMay layout c runs r w op arg → answer ≡ answer_of op (words w)
      → (words Pend ≡ c + 1 → is_claimant r ≡ true) → value_next Pend w op (words Pend) arg ≡ c + 1 → is_claimant_next w op arg answer (is_claimant r) ≡ true
  named_here words w op arg answer (claim p) e inv k = go answer e
    where
      go : (x : ℕ) → x ≡ words Pend → is_claimant_next Pend (Exchange 0) (c + 1) x (is_claimant r) ≡ true
      go zero e = refl
      go (suc x) e = inv (by_test (words Pend) 0 (λ t. either t (c + 1) (words Pend) ≡ c + 1 → words Pend ≡ c + 1) (λ z _. absurd (omega arith)) (λ _ f. f) k)
  named_here words w op arg answer (release p) e inv k = absurd (omega arith)
  named_here words w op arg answer m e inv k = inv k

  named_else : (b : ℕ) (words : Word → ℕ) (w : Word) (op : WordOp) (arg : ℕ) → b ≢ c → ActorMay layout c runs r w op arg → value_next Pend w op (words Pend) arg ≡ b + 1 → words Pend ≡ b + 1
  named_else b words w op arg ne (claim p) k = by_test (words Pend) 0 (λ t. either t (c + 1) (words Pend) ≡ b + 1 → words Pend ≡ b + 1) (λ z e. absurd (ne (omega arith))) (λ _ f. f) k
  named_else b words w op arg ne (release p) k = absurd (omega arith)
  named_else b words w op arg ne m k = k

  -- whom the actor finds outside isn't inside
  clear_first : (b : ℕ) (q : List Step) (words : Word → ℕ) (w : Word) (op : WordOp) (arg answer : ℕ) → ActorMay layout c runs r w op arg → answer ≡ answer_of op (words w)
      → words (Run b) ≡ run_value (phase q) → (is_claimant r ≡ true → is_cleared b r ≡ true → phase q ≢ inside)
      → is_claimant_next w op arg answer (is_claimant r) ≡ true → is_cleared_next b w op arg answer (is_cleared b r) ≡ true → phase q ≢ inside
  clear_first b q words w op arg answer (claim p) e run old = go answer
    where
      go : (x : ℕ) → is_claimant_next Pend (Exchange 0) (c + 1) x (is_claimant r) ≡ true → is_cleared_next b Pend (Exchange 0) (c + 1) x (is_cleared b r) ≡ true → phase q ≢ inside
      go zero k l = absurd (true≢false (sym l))
      go (suc x) k l = absurd (true≢false (sym k ∙ p.1))
  clear_first b q words w op arg answer (release p) e run old = λ k l. absurd (true≢false (sym k))
  clear_first b q words w op arg answer (check {b = x} p d) e run old = go answer e
    where
      go : (y : ℕ) → y ≡ words (Run x) → is_claimant r ≡ true → is_cleared_next b (Run x) Load arg y (is_cleared b r) ≡ true → phase q ≢ inside
      go zero e k l i = by_test b x (λ t. (if t then true else is_cleared b r) ≡ true → ⊥)
          (λ same _. let f : run_value (phase q) ≡ 1 = ap run_value i in let u : words (Run b) ≡ words (Run x) = ap (λ y. words (Run y)) same in absurd (omega arith))
          (λ _ z. old k z i) l
      go (suc y) e k l i = old k l i
  clear_first b q words w op arg answer m e run old = old

  -- nor does an actor that a claimant found outside come inside
  clear_second : (a : ℕ) (words : Word → ℕ) (w : Word) (op : WordOp) (arg answer : ℕ) → ActorMay layout c runs r w op arg → answer ≡ answer_of op (words w)
      → words Pend ≡ a + 1 → phase r ≢ inside → phase_next w op arg answer (phase r) ≢ inside
  clear_second a words w op arg answer (raise p) e pend old = λ k. cc
  clear_second a words w op arg answer (ask p) e pend old = go answer e
    where
      go : (x : ℕ) → x ≡ words Pend → phase_next Pend Load arg x (phase r) ≢ inside
      go zero e k = absurd (omega arith)
      go (suc x) e k = cc
  clear_second a words w op arg answer lower e pend old = λ k. cc
  clear_second a words w op arg answer m e pend old = old

module _ (layout : Layout) (runs : ℕ → Bool) where
  pub sections_start : (words : Word → ℕ) → IsStart layout runs words → Sections words (λ _. [])
  sections_start words o = record {
    run = o.outs;
    pend = λ b k. absurd (true≢false (sym k));
    named = λ b k. absurd (omega (arith, o.pend));
    clear = λ a b ne k. absurd (true≢false (sym k));
  }

  pub sections_step : (s : Step) (words : Word → ℕ) (own : ℕ → List Step) → IsAct layout runs words own s → Sections words own → Sections (move s words) (put s own)
  sections_step s words own o f = let c : ℕ = s.actor in record {
    run = λ b. by_put (λ a q. move s words (Run a) ≡ run_value (phase q)) b s own
        (run_here layout c (runs c) (own c) (name_of s.word) s.op s.arg s.answer (words (Run c)) o.may (f.run c))
        (λ ne. run_else layout c (runs c) (own c) b (name_of s.word) s.op s.arg (words (Run b)) ne o.may ∙ f.run b);
    pend = λ b. by_put (λ a q. is_claimant q ≡ true → move s words Pend ≡ a + 1) b s own
        (pend_here layout c (runs c) (own c) words (name_of s.word) s.op s.arg s.answer o.may o.answered (f.pend c))
        (λ ne k. pend_else layout c (runs c) (own c) b words (name_of s.word) s.op s.arg ne o.may (f.pend c) (f.pend b k));
    named = λ b. by_put (λ a q. move s words Pend ≡ a + 1 → is_claimant q ≡ true) b s own
        (named_here layout c (runs c) (own c) words (name_of s.word) s.op s.arg s.answer o.may o.answered (f.named c))
        (λ ne k. f.named b (named_else layout c (runs c) (own c) b words (name_of s.word) s.op s.arg ne o.may k));
    clear = λ a b ne. by_two (λ a r b q. is_claimant r ≡ true → is_cleared b r ≡ true → phase q ≢ inside) a b s own ne
        (λ away. clear_first layout c (runs c) (own c) b (own b) words (name_of s.word) s.op s.arg s.answer o.may o.answered (f.run b) (f.clear c b away))
        (λ away k l. clear_second layout c (runs c) (own c) a words (name_of s.word) s.op s.arg s.answer o.may o.answered (f.pend a k) (f.clear a c away k l))
        (λ _ _. f.clear a b ne);
  }

  pub sections : IsInLimits layout → (h : List Step) → Woven layout runs h → IsBegun layout runs h → Sections (λ w. word_value w h) (acts h)
  sections limits = facts_along layout runs (λ h words own. Sections words own) limits (λ h words o _. sections_start words o) (λ s h words own _ f. f) (λ s h. sections_step s)

-- the first other actor from a number on is no later than each other actor from there on
least_actor : (layout : Layout) (b n : ℕ) → layout.harts ≤ most_harts → IsActor layout b → n ≤ b → actor_from layout n ≤ b
least_actor layout b n p who le = by_lt n layout.harts (λ t. (if t then n else if nat_lt monitor n then actors else monitor) ≤ b) (λ _. le)
    (λ x. by_lt monitor n (λ t. (if t then actors else monitor) ≤ b) (λ y. ⊎_elim (λ (z : b < layout.harts). absurd (omega arith)) (λ (z : b ≡ monitor). absurd (omega arith)) who)
    (λ y. ⊎_elim (λ (z : b < layout.harts). absurd (omega arith)) (λ (z : b ≡ monitor). omega arith) who))

least_other : (layout : Layout) (a b n : ℕ) → layout.harts ≤ most_harts → IsActor layout b → b ≢ a → n ≤ b → other_from layout a n ≤ b
least_other layout a b n p who ne le = by_test (actor_from layout n) a (λ t. (if t then actor_from layout (actor_from layout n + 1) else actor_from layout n) ≤ b)
    (λ e. least_actor layout b (actor_from layout n + 1) p who (omega (arith, least_actor layout b n p who le))) (λ _. least_actor layout b n p who le)

module _ (layout : Layout) (a b : ℕ) (few : layout.harts ≤ most_harts) (who : IsActor layout b) (ne : b ≢ a) where
  before_first : b < other_from layout a 0 → ⊥
  before_first p = omega (arith, least_other layout a b 0 few who ne (omega arith))

  pass_back : (x p : ℕ) → b ≢ x → b < pass_by layout a x p → b < p
  pass_back x p off = by_test x p (λ t. b < (if t then other_from layout a (x + 1) else if x == other_from layout a 0 then other_from layout a (x + 1) else other_from layout a 0) → b < p)
      (λ e l. by_lt b x (λ _. b < p) (λ y. omega arith) (λ y. absurd (after y l)))
      (λ _. by_test x (other_from layout a 0) (λ t. b < (if t then other_from layout a (x + 1) else other_from layout a 0) → b < p)
      (λ e l. by_lt b x (λ _. b < p) (λ y. absurd (before_first (omega arith))) (λ y. absurd (after y l)))
      (λ _ l. absurd (before_first l)))
    where
      after : x ≤ b → b < other_from layout a (x + 1) → ⊥
      after y l = let z : x + 1 ≤ b = omega arith in omega (arith, least_other layout a b (x + 1) few who ne z)

  pass_step : (w : Word) (op : WordOp) (arg answer p : ℕ) (k : Bool) → (b < p → k ≡ true) → b < pass_next layout a w op arg answer p → is_cleared_next b w op arg answer k ≡ true
  pass_step (Run x) Load arg zero p k old l = by_test b x (λ t. (if t then true else k) ≡ true) (λ _. refl)
      (λ off. old (by_test p actors (λ t. b < (if t then p else pass_by layout a x p) → b < p) (λ _ y. y) (λ _. pass_back x p off) l))
  pass_step (Run x) Load arg (suc n) p k old l = old (by_test p actors (λ t. b < (if t then p else other_from layout a 0) → b < p) (λ _ y. y) (λ _ y. absurd (before_first y)) l)
  pass_step Pend (Exchange e) arg zero p k old l = absurd (before_first l)
  pass_step w op arg answer p k old l = old l

  passed : (r : List Step) → b < pass layout a r → is_cleared b r ≡ true
  passed [] l = absurd (before_first l)
  passed (s ∷ r) l = pass_step (name_of s.word) s.op s.arg s.answer (pass layout a r) (is_cleared b r) (passed r) l

-- who is in section has seen every other actor outside
pub seen_out : (layout : Layout) (a b : ℕ) (r : List Step) → layout.harts ≤ most_harts → IsActor layout b → b ≢ a → IsInSection layout a r → is_cleared b r ≡ true
seen_out layout a b r few who ne k = passed layout a b few who ne r (⊎_elim (λ (z : b < layout.harts). omega (arith, k.1)) (λ (z : b ≡ monitor). omega (arith, k.1)) who)

pub actor_off : (layout : Layout) (a : ℕ) → layout.harts ≤ most_harts → IsActor layout a → a ≢ loader
actor_off layout a few who is = ⊎_elim (λ (z : a < layout.harts). omega arith) (λ (z : a ≡ monitor). omega arith) who

-- who may touch RAM is not another's company in section
alone : (layout : Layout) (words : Word → ℕ) (own : ℕ → List Step) (a b : ℕ) → layout.harts ≤ most_harts → Sections words own → IsActor layout b → b ≢ a → IsInSection layout a (own a) → MayTouch layout b (own b) → ⊥
alone layout words own a b few f who ne k m = ⊎_elim (λ (p : phase (own b) ≡ inside). f.clear a b (λ e. ne (sym e)) k.0 (seen_out layout a b (own a) few who ne k) p)
    (λ (q : IsInSection layout b (own b)). ne (omega (arith, f.pend a k.0, f.pend b q.0))) m

touches : {layout : Layout} {a : ℕ} {runs : Bool} {r : List Step} {w : Word} {op : WordOp} {arg : ℕ} → ActorMay layout a runs r w op arg → IsTouched w → MayTouch layout a r
touches (read_ram m) k = m
touches (write_ram x m) k = m.0
touches (touch_ipi m) k = m
touches (draw m) k = m
touches (print m x y) k = m
touches (load_cons m) k = m
touches (load_console m) k = m
touches p k = absurd k

-- in section stays in section but for the release
stays : (layout : Layout) (a : ℕ) (runs : Bool) (r : List Step) (w : Word) (op : WordOp) (arg answer : ℕ) → ActorMay layout a runs r w op arg → (w ≡ Pend → op ≡ Store → ⊥)
    → is_claimant r ≡ true → pass layout a r ≡ actors → (is_claimant_next w op arg answer (is_claimant r) ≡ true) × (pass_next layout a w op arg answer (pass layout a r) ≡ actors)
stays layout a runs r w op arg answer (claim p) not_it k l = absurd (true≢false (sym k ∙ p.1))
stays layout a runs r w op arg answer (release p) not_it k l = absurd (not_it refl refl)
stays layout a runs r w op arg answer (check {b = x} p d) not_it k l = (k, go answer)
  where
    go : (n : ℕ) → pass_next layout a (Run x) Load arg n (pass layout a r) ≡ actors
    go zero = ap (λ p. if p == actors then p else pass_by layout a x p) l
    go (suc n) = ap (λ p. if p == actors then p else other_from layout a 0) l
stays layout a runs r w op arg answer m not_it k l = (k, l)

module _ (layout : Layout) (runs : ℕ → Bool) (a : ℕ) (limits : IsInLimits layout) (who : IsActor layout a) where
  apart_step : (s : Step) (h : List Step) → Woven layout runs (s ∷ h) → IsInSection layout a (own_steps a h) → (IsRelease a s → ⊥)
      → IsInSection layout a (own_steps a (s ∷ h)) × (s.actor ≢ a → IsTouched (name_of s.word) → ⊥)
  apart_step s h o k not_it = (by_test a s.actor (λ t. IsInSection layout a (if t then s ∷ own_steps a h else own_steps a h)) mine (λ _. k), λ ne on. ⊎_elim (λ (e : s.actor ≡ loader). loading e on) (λ (out : s.actor ≢ loader). other ne out on) (cases_eq s.actor loader))
    where
      mine : a ≡ s.actor → IsInSection layout a (s ∷ own_steps a h)
      mine e = let act : IsAct layout runs (λ w. word_value w h) (acts h) s = act_of layout runs s h limits.harts (λ is. off (e ∙ is)) o.0 in
          stays layout a (runs a) (own_steps a h) (name_of s.word) s.op s.arg s.answer
          (subst (λ b. ActorMay layout b (runs b) (own_steps b h) (name_of s.word) s.op s.arg) (sym e)
          (subst (λ r. ActorMay layout s.actor (runs s.actor) r (name_of s.word) s.op s.arg) (acts_of h s.actor (λ is. off (e ∙ is))) act.may))
          (λ x y. not_it (sym e, x, y)) k.0 k.1
        where
          off : a ≢ loader
          off is = ⊎_elim (λ (z : a < layout.harts). omega (arith, limits.harts)) (λ (z : a ≡ monitor). omega arith) who

      loading : s.actor ≡ loader → IsTouched (name_of s.word) → ⊥
      loading e on = ⊎_elim
          (λ (x : s.op ≡ Store). true≢false (sym k.0 ∙ ap is_claimant (o.0.led e x a (actor_off layout a limits.harts who))))
          (λ (x : (name_of s.word ≡ Zero) × (s.op ≡ Load)). subst IsTouched x.0 on)
          (loader_op layout (own_steps s.actor h) (name_of s.word) s.op s.arg (permits_loader layout s.actor (runs s.actor) (own_steps s.actor h) (name_of s.word) s.op s.arg limits.harts e o.0.permitted))

      other : s.actor ≢ a → s.actor ≢ loader → IsTouched (name_of s.word) → ⊥
      other ne out on = let act : IsAct layout runs (λ w. word_value w h) (acts h) s = act_of layout runs s h limits.harts out o.0 in
          let f : Sections (λ w. word_value w h) (acts h) = sections layout runs limits h o.1 (o.0.begun out) in
          let off : a ≢ loader = (λ is. ⊎_elim (λ (z : a < layout.harts). omega (arith, limits.harts)) (λ (z : a ≡ monitor). omega arith) who) in
          alone layout (λ w. word_value w h) (acts h) a s.actor limits.harts f act.actor ne (subst (IsInSection layout a) (sym (acts_of h a off)) k) (touches act.may on)

  apart : (later before : List Step) → Woven layout runs (later ++ before) → IsInSection layout a (own_steps a before) → Each (λ s. IsRelease a s → ⊥) later
      → IsInSection layout a (own_steps a (later ++ before)) × Each (λ s. s.actor ≢ a → IsTouched (name_of s.word) → ⊥) later
  apart [] before o k not_it = (k, tt)
  apart (s ∷ later) before o k not_it = let rest = apart later before o.1 k not_it.1 in let now = apart_step s (later ++ before) o rest.0 not_it.0 in (now.0, (now.1, rest.1))

pub section_law : SectionLaw
section_law layout runs later before a who i k not_it = (apart layout runs a i.limits who later before (woven layout runs (later ++ before) i) k not_it).1

pub section_facts : SectionFacts
section_facts layout runs h i b = let f : Sections (λ w. word_value w h) (acts h) = sections layout runs i.limits h (woven layout runs h i) b in
    let at : (a : ℕ) → IsActor layout a → acts h a ≡ own_steps a h = (λ a who. acts_of h a (actor_off layout a i.limits.harts who)) in (
      λ a who. f.run a ∙ ap (λ r. run_value (phase r)) (at a who),
      λ a who. (λ k. f.pend a (ap is_claimant (at a who) ∙ k), λ e. sym (ap is_claimant (at a who)) ∙ f.named a e),
      λ a c who him ne k m. alone layout (λ w. word_value w h) (acts h) a c i.limits.harts f him (λ e. ne (sym e)) (subst (IsInSection layout a) (sym (at a who)) k) (subst (MayTouch layout c) (sym (at c him)) m),
    )
