-- Places of requests, by induction along the history.
use Rattle.std.proofs.Common.{◌≡◌, ◌≢◌, ℕ, suc, ◌+◌, ◌<◌, ◌≤◌, Bool, true, false, true≢false, List, [], ◌∷◌, ◌++◌, length, refl, sym, ap, subst, ◌∙◌, arith, ⊎_elim}
use Rattle.std.specs.Prelude.{◌==◌, ◌&&◌, Option, Some, None, if◌then◌else◌}
use Rattle.std.proofs.lemmas.Bool.{cases_eq, cases_Bool}
use Rattle.step_laws.specs.declared.words.Layout.{Layout}
use Rattle.step_laws.specs.declared.steps.Step.{Step}
use Rattle.step_laws.specs.declared.steps.WordOp.{WordOp}
use Rattle.step_laws.specs.declared.steps.WordOp.TheVariants.{Load, Store}
use Rattle.step_laws.specs.Layout.{IsInLimits}
use Rattle.step_laws.specs.Map.{Word, Place, name_of, same}
use Rattle.step_laws.specs.WordValues.{word_value, value_next}
use Rattle.step_laws.specs.Fields.{IsRequestWord, IsWordOf}
use Rattle.step_laws.specs.declared.request.Request.{Request}
use Rattle.step_laws.specs.declared.request.Request.TheVariants.{FlushAll, FlushPages, Drain}
use Rattle.step_laws.specs.Steps.{own_steps, answer_of, new_of}
use Rattle.step_laws.specs.Places.{last_load, last_load_next, load_answer, posts, posts_next, acked_requests, acked_requests_next, answer_or_zero, ring_place, post_place, ack_place}
use Rattle.step_laws.specs.Discipline.{ActorMay, IsServed, poll, post, fetch, ack}
use Rattle.step_laws.specs.Histories.{IsBegun}
use Rattle.step_laws.specs.RequestLaws.{nth_oldest, IsRing, RingFacts}
use Rattle.step_laws.proofs.Invariants.{Places}
use Rattle.step_laws.proofs.Named.{by_test, same_true, same_refl}
use Rattle.step_laws.proofs.Woven.{Woven, woven, moved_same, acts, acts_of, put, by_put, by_two, move, IsAct, IsStart}
use Rattle.step_laws.proofs.Along.{facts_along, by_same}
use Rattle.step_laws.proofs.Apart.{actor_off}

-- a request word isn't 0
pub asking : (n : ℕ) → IsRequestWord n → n ≢ 0
asking n q z = go q.0 q.2
  where
    go : (request : Request) → IsWordOf request n → ⊥
    go FlushAll w = omega (arith, w.0)
    go (FlushPages page count) w = omega (arith, w.0)
    go Drain w = omega (arith, w.0)

pub moved_away : (v w : Word) (op : WordOp) (n arg : ℕ) → same v w ≡ false → value_next v w op n arg ≡ n
moved_away v w op n arg e = moved_same v w op n arg ∙ ap (λ (t : Bool). if t then new_of op n arg else n) e

pub moved_here : (v : Word) (op : WordOp) (n arg : ℕ) → value_next v v op n arg ≡ new_of op n arg
moved_here v op n arg = moved_same v v op n arg ∙ ap (λ (t : Bool). if t then new_of op n arg else n) (same_refl v)

-- what a step of c does to a place of the pair t, s: nothing, a load, a post by the source, or an ack by the target
pub data AtPlace (t s k c : ℕ) (r : List Step) : Word → WordOp → ℕ → Type 0 where
  away : {w : Word} {op : WordOp} {arg : ℕ} → same (Place t s k) w ≡ false → AtPlace t s k c r w op arg
  loads : {arg : ℕ} → AtPlace t s k c r (Place t s k) Load arg
  posts_it : {arg : ℕ} → c ≡ s → arg ≢ 0 → k ≡ post_place t s r → last_load (Place t s k) r ≡ Some 0 → AtPlace t s k c r (Place t s k) Store arg
  acks_it : {q : ℕ} → c ≡ t → q ≢ 0 → k ≡ ack_place t s r → last_load (Place t s k) r ≡ Some q → IsServed t (Place t s k) q r → AtPlace t s k c r (Place t s k) Store 0

place_parts : {t s k u v l : ℕ} → Place t s k ≡ Place u v l → (t ≡ u) × (s ≡ v) × (k ≡ l)
place_parts e = (cc, cc, cc)

pub at_place : (layout : Layout) (t s k c : ℕ) (runs : Bool) (r : List Step) (w : Word) (op : WordOp) (arg : ℕ) → t ≢ s → ActorMay layout c runs r w op arg → AtPlace t s k c r w op arg
at_place layout t s k c runs r w op arg ne (poll {t = u} {k = l} p) = ⊎_elim
    (λ (e : same (Place t s k) (Place u c l) ≡ true). let d = same_true (Place t s k) (Place u c l) e in subst (λ w. AtPlace t s k c r w Load arg) d loads)
    (λ (e : same (Place t s k) (Place u c l) ≡ false). away e) (cases_Bool (same (Place t s k) (Place u c l)))
at_place layout t s k c runs r w op arg ne (fetch {s = v} {k = l} p q e f) = ⊎_elim
    (λ (e : same (Place t s k) (Place c v l) ≡ true). let d = same_true (Place t s k) (Place c v l) e in subst (λ w. AtPlace t s k c r w Load arg) d loads)
    (λ (e : same (Place t s k) (Place c v l) ≡ false). away e) (cases_Bool (same (Place t s k) (Place c v l)))
at_place layout t s k c runs r w op arg ne (post {t = u} {k = l} p few at q free) = ⊎_elim
    (λ (e : same (Place t s k) (Place u c l) ≡ true). let d = same_true (Place t s k) (Place u c l) e in let x = place_parts d in
    subst (λ w. AtPlace t s k c r w Store arg) d (posts_it (sym x.1) (asking arg q) (x.2 ∙ at ∙ (λ i. post_place (sym x.0 i) (sym x.1 i) r)) (ap (λ v. last_load v r) d ∙ free)))
    (λ (e : same (Place t s k) (Place u c l) ≡ false). away e) (cases_Bool (same (Place t s k) (Place u c l)))
at_place layout t s k c runs r w op arg ne (ack {s = v} {q} {k = l} p few at calm is asked done) = ⊎_elim
    (λ (e : same (Place t s k) (Place c v l) ≡ true). let d = same_true (Place t s k) (Place c v l) e in let x = place_parts d in
    subst (λ w. AtPlace t s k c r w Store 0) d (acks_it (sym x.0) (asking q is) (x.2 ∙ at ∙ (λ i. ack_place (sym x.0 i) (sym x.1 i) r)) (ap (λ v. last_load v r) d ∙ asked) (subst (λ a. IsServed a (Place t s k) q r) (sym x.0) (subst (λ w. IsServed c w q r) (sym d) done))))
    (λ (e : same (Place t s k) (Place c v l) ≡ false). away e) (cases_Bool (same (Place t s k) (Place c v l)))
at_place layout t s k c runs r w op arg ne m = away refl

pub some_inj : {x y : ℕ} → Some x ≡ Some y → x ≡ y
some_inj e = cc

pub none_some : {A : Type 0} (x : ℕ) (o : Option ℕ) → o ≡ None → o ≡ Some x → A
none_some x o e f = absurd (cc)

pub loaded_away : (v w : Word) (op : WordOp) (arg answer : ℕ) (o : Option ℕ) → same v w ≡ false → last_load_next v w op arg answer o ≡ o
loaded_away v w op arg answer o e = ap (λ (t : Bool). if t then load_answer op answer else o) e

pub loaded_here : (v : Word) (op : WordOp) (arg answer : ℕ) (o : Option ℕ) → last_load_next v v op arg answer o ≡ load_answer op answer
loaded_here v op arg answer o = ap (λ (t : Bool). if t then load_answer op answer else o) (same_refl v)

module _ (t s k c : ℕ) (r : List Step) (ne : t ≢ s) (words : Word → ℕ) where
  asks_mine : (q : ℕ) (w : Word) (op : WordOp) (arg answer : ℕ) → c ≡ t → AtPlace t s k c r w op arg → answer ≡ answer_of op (words w)
      → (last_load (Place t s k) r ≡ Some q → words (Place t s k) ≡ q)
      → last_load_next (Place t s k) w op arg answer (last_load (Place t s k) r) ≡ Some q → value_next (Place t s k) w op (words (Place t s k)) arg ≡ q
  asks_mine q w op arg answer is (away e) f old l = moved_away (Place t s k) w op (words (Place t s k)) arg e ∙ old (sym (loaded_away (Place t s k) w op arg answer (last_load (Place t s k) r) e) ∙ l)
  asks_mine q w op arg answer is loads f old l = sym f ∙ some_inj (sym (loaded_here (Place t s k) Load arg answer (last_load (Place t s k) r)) ∙ l)
  asks_mine q w op arg answer is (posts_it e x at free) f old l = absurd (ne (sym is ∙ e))
  asks_mine q w op arg answer is (acks_it e x at l' d) f old l = none_some q (last_load_next (Place t s k) (Place t s k) Store arg answer (last_load (Place t s k) r)) (loaded_here (Place t s k) Store arg answer (last_load (Place t s k) r)) l

  asks_other : (q : ℕ) (w : Word) (op : WordOp) (arg : ℕ) → q ≢ 0 → t ≢ c → AtPlace t s k c r w op arg
      → (c ≡ s → last_load (Place t s k) r ≡ Some 0 → words (Place t s k) ≡ 0) → words (Place t s k) ≡ q → value_next (Place t s k) w op (words (Place t s k)) arg ≡ q
  asks_other q w op arg nz off (away e) frees old = moved_away (Place t s k) w op (words (Place t s k)) arg e ∙ old
  asks_other q w op arg nz off loads frees old = old
  asks_other q w op arg nz off (posts_it e x at free) frees old = absurd (nz (sym old ∙ frees e free))
  asks_other q w op arg nz off (acks_it e x at l d) frees old = absurd (off (sym e))

  frees_mine : (w : Word) (op : WordOp) (arg answer : ℕ) → c ≡ s → AtPlace t s k c r w op arg → answer ≡ answer_of op (words w)
      → (last_load (Place t s k) r ≡ Some 0 → words (Place t s k) ≡ 0)
      → last_load_next (Place t s k) w op arg answer (last_load (Place t s k) r) ≡ Some 0 → value_next (Place t s k) w op (words (Place t s k)) arg ≡ 0
  frees_mine w op arg answer is (away e) f old l = moved_away (Place t s k) w op (words (Place t s k)) arg e ∙ old (sym (loaded_away (Place t s k) w op arg answer (last_load (Place t s k) r) e) ∙ l)
  frees_mine w op arg answer is loads f old l = sym f ∙ some_inj (sym (loaded_here (Place t s k) Load arg answer (last_load (Place t s k) r)) ∙ l)
  frees_mine w op arg answer is (posts_it e x at free) f old l = none_some 0 (last_load_next (Place t s k) (Place t s k) Store arg answer (last_load (Place t s k) r)) (loaded_here (Place t s k) Store arg answer (last_load (Place t s k) r)) l
  frees_mine w op arg answer is (acks_it e x at l' d) f old l = absurd (ne (sym e ∙ is))

  frees_other : (w : Word) (op : WordOp) (arg : ℕ) → s ≢ c → AtPlace t s k c r w op arg → words (Place t s k) ≡ 0 → value_next (Place t s k) w op (words (Place t s k)) arg ≡ 0
  frees_other w op arg off (away e) old = moved_away (Place t s k) w op (words (Place t s k)) arg e ∙ old
  frees_other w op arg off loads old = old
  frees_other w op arg off (posts_it e x at free) old = absurd (off (sym e))
  frees_other w op arg off (acks_it e x at l d) old = moved_here (Place t s k) Store (words (Place t s k)) 0

-- what a step of c does to all places of the pair
data AtPair (t s c : ℕ) (r : List Step) : Word → WordOp → ℕ → Type 0 where
  off_it : {w : Word} {op : WordOp} {arg : ℕ} → ((k n : ℕ) → value_next (Place t s k) w op n arg ≡ n)
      → ((answer : ℕ) (xs : List ℕ) → posts_next t s w op arg answer xs ≡ xs) → ((q : List Step) (xs : List ℕ) → acked_requests_next t s w op q xs ≡ xs) → AtPair t s c r w op arg
  posts_at : {k arg : ℕ} → c ≡ s → arg ≢ 0 → k ≡ post_place t s r → last_load (Place t s k) r ≡ Some 0 → AtPair t s c r (Place t s k) Store arg
  acks_at : {k q : ℕ} → c ≡ t → q ≢ 0 → k ≡ ack_place t s r → last_load (Place t s k) r ≡ Some q → AtPair t s c r (Place t s k) Store 0

and_three : (x y z : Bool) → (x && y) ≡ false → (x && (y && z)) ≡ false
and_three true true z e = absurd (true≢false e)
and_three true false z e = refl
and_three false y z e = refl

both_parts : (x y : Bool) → (x && y) ≡ true → (x ≡ true) × (y ≡ true)
both_parts true true e = (refl, refl)
both_parts true false e = absurd (true≢false (sym e))
both_parts false y e = absurd (true≢false (sym e))

off_pair : (t s u v l c arg : ℕ) (r : List Step) → ((t == u) && (s == v)) ≡ false → AtPair t s c r (Place u v l) Store arg
off_pair t s u v l c arg r e = off_it (λ k n. ap (λ (b : Bool). if b then arg else n) (and_three (t == u) (s == v) (k == l) e))
    (λ answer xs. ap (λ (b : Bool). if b then arg ∷ xs else xs) e) (λ q xs. ap (λ (b : Bool). if b then answer_or_zero (last_load (Place u v l) q) ∷ xs else xs) e)

at_pair : (layout : Layout) (t s c : ℕ) (runs : Bool) (r : List Step) (w : Word) (op : WordOp) (arg : ℕ) → t ≢ s → ActorMay layout c runs r w op arg → AtPair t s c r w op arg
at_pair layout t s c runs r w op arg ne (post {t = u} {k = l} p few at q free) = by_test t u (λ b. (b && (s == c)) ≡ ((t == u) && (s == c)) → AtPair t s c r (Place u c l) Store arg)
    (λ e. by_test s c (λ b. b ≡ ((t == u) && (s == c)) → AtPair t s c r (Place u c l) Store arg)
    (λ f _. subst (λ x. AtPair t s c r (Place x c l) Store arg) e (subst (λ x. AtPair t s c r (Place t x l) Store arg) f
    (posts_at (sym f) (asking arg q) (at ∙ (λ i. post_place (sym e i) (sym f i) r)) ((λ i. last_load (Place (e i) (f i) l) r) ∙ free))))
    (λ _ g. off_pair t s u c l c arg r (sym g)))
    (λ _ g. off_pair t s u c l c arg r (sym g)) refl
at_pair layout t s c runs r w op arg ne (ack {s = v} {q} {k = l} p few at calm is asked done) = by_test t c (λ b. (b && (s == v)) ≡ ((t == c) && (s == v)) → AtPair t s c r (Place c v l) Store 0)
    (λ e. by_test s v (λ b. b ≡ ((t == c) && (s == v)) → AtPair t s c r (Place c v l) Store 0)
    (λ f _. subst (λ x. AtPair t s c r (Place x v l) Store 0) e (subst (λ x. AtPair t s c r (Place t x l) Store 0) f
    (acks_at (sym e) (asking q is) (at ∙ (λ i. ack_place (sym e i) (sym f i) r)) ((λ i. last_load (Place (e i) (f i) l) r) ∙ asked))))
    (λ _ g. off_pair t s c v l c 0 r (sym g)))
    (λ _ g. off_pair t s c v l c 0 r (sym g)) refl
at_pair layout t s c runs r w op arg ne m = off_it (λ k n. refl) (λ answer xs. refl) (λ q xs. refl)

own_pair : (t s : ℕ) → ((t == t) && (s == s)) ≡ true
own_pair t s = by_test t t (λ b. (b && (s == s)) ≡ true) (λ _. by_test s s (λ b. b ≡ true) (λ _. refl) (λ n. absurd (n refl))) (λ n. absurd (n refl))

-- a place of the pair after a store in a place of the pair
store_at : (t s j k n arg : ℕ) → j ≡ k → value_next (Place t s j) (Place t s k) Store n arg ≡ arg
store_at t s j k n arg e = ap (λ x. value_next (Place t s x) (Place t s k) Store n arg) e ∙ moved_here (Place t s k) Store n arg

store_off : (t s j k n arg : ℕ) → j ≢ k → value_next (Place t s j) (Place t s k) Store n arg ≡ n
store_off t s j k n arg ne = by_same (Place t s j) (Place t s k) (λ b. (if b then arg else n) ≡ n) (λ e. absurd (ne (place_parts e).2)) refl

numbered_head : (x : ℕ) (xs : List ℕ) (n : ℕ) → n ≡ length xs → nth_oldest (x ∷ xs) n ≡ x
numbered_head x xs n e = by_test n (length xs) (λ b. (if b then x else nth_oldest xs n) ≡ x) (λ _. refl) (λ ne. absurd (ne e))

numbered_tail : (x : ℕ) (xs : List ℕ) (n : ℕ) → n < length xs → nth_oldest (x ∷ xs) n ≡ nth_oldest xs n
numbered_tail x xs n l = by_test n (length xs) (λ b. (if b then x else nth_oldest xs n) ≡ nth_oldest xs n) (λ e. absurd (omega arith)) (λ _. refl)

module _ (words : Word → ℕ) (t s : ℕ) (P A : List ℕ) (f : IsRing words t s P A) where
  ring_post : (k arg : ℕ) → k ≡ ring_place (length P) → arg ≢ 0 → words (Place t s k) ≡ 0 → IsRing (λ v. value_next v (Place t s k) Store (words v) arg) t s (arg ∷ P) A
  ring_post k arg at nz zero_there = record {
    low = omega (arith, f.low);
    high = omega (arith, room);
    order = λ n l. f.order n l ∙ sym (numbered_tail arg P n (omega (arith, f.low)));
    asked = λ n l. ⊎_elim (λ (e : n ≡ length P). subst (λ x. x ≢ 0) (sym (numbered_head arg P n e)) nz)
        (λ (ne : n ≢ length P). let b : n < length P = omega arith in subst (λ x. x ≢ 0) (sym (numbered_tail arg P n b)) (f.asked n b)) (cases_eq n (length P));
    waits = λ n l b. ⊎_elim (λ (e : n ≡ length P). store_at t s (ring_place n) k (words (Place t s (ring_place n))) arg (ap ring_place e ∙ sym at) ∙ sym (numbered_head arg P n e))
        (λ (ne : n ≢ length P). let c : n < length P = omega arith in store_off t s (ring_place n) k (words (Place t s (ring_place n))) arg (λ e. omega (arith, room)) ∙ f.waits n l c ∙ sym (numbered_tail arg P n c)) (cases_eq n (length P));
    free = λ n l b. store_off t s (ring_place n) k (words (Place t s (ring_place n))) arg (λ e. omega (arith, f.low)) ∙ f.free n (omega arith) b;
  }
    where
      room : length P < length A + 8
      room = ⊎_elim (λ (e : length P ≡ length A + 8).
          let b : length A < length P = omega arith in
          let same_place : ring_place (length A) ≡ k = omega arith in
          absurd (f.asked (length A) b (sym (f.waits (length A) (omega arith) b) ∙ ap (λ x. words (Place t s x)) same_place ∙ zero_there)))
          (λ (ne : length P ≢ length A + 8). omega (arith, f.high)) (cases_eq (length P) (length A + 8))

  ring_ack : (k q : ℕ) → k ≡ ring_place (length A) → q ≢ 0 → words (Place t s k) ≡ q → IsRing (λ v. value_next v (Place t s k) Store (words v) 0) t s P (q ∷ A)
  ring_ack k q at nz there = record {
    low = omega (arith, some);
    high = omega (arith, f.high);
    order = λ n l. ⊎_elim (λ (e : n ≡ length A). numbered_head q A n e ∙ head ∙ ap (nth_oldest P) (sym e))
        (λ (ne : n ≢ length A). let b : n < length A = omega arith in numbered_tail q A n b ∙ f.order n b) (cases_eq n (length A));
    asked = f.asked;
    waits = λ n l b. store_off t s (ring_place n) k (words (Place t s (ring_place n))) 0 (λ e. omega (arith, f.high)) ∙ f.waits n (omega arith) b;
    free = λ n l b. ⊎_elim (λ (e : n ≡ length A + 8). let same_place : ring_place n ≡ k = omega arith in store_at t s (ring_place n) k (words (Place t s (ring_place n))) 0 same_place)
        (λ (ne : n ≢ length A + 8). store_off t s (ring_place n) k (words (Place t s (ring_place n))) 0 (λ e. omega (arith, some)) ∙ f.free n l (omega arith)) (cases_eq n (length A + 8));
  }
    where
      some : length A < length P
      some = ⊎_elim (λ (e : length A ≡ length P). absurd (nz (sym there ∙ ap (λ x. words (Place t s x)) at ∙ f.free (length A) (omega arith) (omega arith))))
          (λ (ne : length A ≢ length P). omega (arith, f.low)) (cases_eq (length A) (length P))

      head : q ≡ nth_oldest P (length A)
      head = sym there ∙ ap (λ x. words (Place t s x)) at ∙ f.waits (length A) (omega arith) some

  ring_off : (other : Word → ℕ) → ((k : ℕ) → other (Place t s k) ≡ words (Place t s k)) → IsRing other t s P A
  ring_off other e = record {
    low = f.low;
    high = f.high;
    order = f.order;
    asked = f.asked;
    waits = λ n l b. e (ring_place n) ∙ f.waits n l b;
    free = λ n l b. e (ring_place n) ∙ f.free n l b;
  }

module _ (t s c : ℕ) (r : List Step) (ne : t ≢ s) (words : Word → ℕ) where
  -- the target's step
  pair_first : (w : Word) (op : WordOp) (arg : ℕ) (P : List ℕ) → c ≡ t → AtPair t s c r w op arg
      → ((k q : ℕ) → q ≢ 0 → last_load (Place t s k) r ≡ Some q → words (Place t s k) ≡ q)
      → IsRing words t s P (acked_requests t s r) → IsRing (λ v. value_next v w op (words v) arg) t s P (acked_requests_next t s w op r (acked_requests t s r))
  pair_first w op arg P is (off_it m p a) asks f = subst (IsRing (λ v. value_next v w op (words v) arg) t s P) (sym (a r (acked_requests t s r)))
      (ring_off words t s P (acked_requests t s r) f (λ v. value_next v w op (words v) arg) (λ k. m k (words (Place t s k))))
  pair_first w op arg P is (posts_at e x at free) asks f = absurd (ne (sym is ∙ e))
  pair_first w op arg P is (acks_at {k} {q} e nz at l) asks f = subst (IsRing (λ v. value_next v (Place t s k) Store (words v) 0) t s P)
      (sym (ap (λ (b : Bool). if b then answer_or_zero (last_load (Place t s k) r) ∷ acked_requests t s r else acked_requests t s r) (own_pair t s) ∙ ap (λ o. answer_or_zero o ∷ acked_requests t s r) l))
      (ring_ack words t s P (acked_requests t s r) f k q at nz (asks k q nz l))

  -- the source's step
  pair_second : (w : Word) (op : WordOp) (arg answer : ℕ) (A : List ℕ) → c ≡ s → AtPair t s c r w op arg
      → ((k : ℕ) → last_load (Place t s k) r ≡ Some 0 → words (Place t s k) ≡ 0)
      → IsRing words t s (posts t s r) A → IsRing (λ v. value_next v w op (words v) arg) t s (posts_next t s w op arg answer (posts t s r)) A
  pair_second w op arg answer A is (off_it m p a) frees f = subst (λ P. IsRing (λ v. value_next v w op (words v) arg) t s P A) (sym (p answer (posts t s r)))
      (ring_off words t s (posts t s r) A f (λ v. value_next v w op (words v) arg) (λ k. m k (words (Place t s k))))
  pair_second w op arg answer A is (posts_at {k} e nz at free) frees f = subst (λ P. IsRing (λ v. value_next v (Place t s k) Store (words v) arg) t s P A)
      (sym (ap (λ (b : Bool). if b then arg ∷ posts t s r else posts t s r) (own_pair t s))) (ring_post words t s (posts t s r) A f k arg at nz (frees k free))
  pair_second w op arg answer A is (acks_at e nz at l) frees f = absurd (ne (sym e ∙ is))

  -- another's step
  pair_else : (w : Word) (op : WordOp) (arg : ℕ) (P A : List ℕ) → t ≢ c → s ≢ c → AtPair t s c r w op arg → IsRing words t s P A → IsRing (λ v. value_next v w op (words v) arg) t s P A
  pair_else w op arg P A x y (off_it m p a) f = ring_off words t s P A f (λ v. value_next v w op (words v) arg) (λ k. m k (words (Place t s k)))
  pair_else w op arg P A x y (posts_at e nz at free) f = absurd (y (sym e))
  pair_else w op arg P A x y (acks_at e nz at l) f = absurd (x (sym e))

module _ (layout : Layout) (runs : ℕ → Bool) where
  places_start : (words : Word → ℕ) → IsStart layout runs words → Places words (λ _. [])
  places_start words o = record {
    asks = λ t s k q ne nz e. none_some q None refl e;
    frees = λ t s k ne e. o.places t s k;
    rings = λ t s ne. record {
      low = omega arith;
      high = omega arith;
      order = λ n l. absurd (omega arith);
      asked = λ n l. absurd (omega arith);
      waits = λ n l b. absurd (omega arith);
      free = λ n l b. o.places t s (ring_place n);
    };
  }

  places_step : (x : Step) (words : Word → ℕ) (own : ℕ → List Step) → IsAct layout runs words own x → Places words own → Places (move x words) (put x own)
  places_step x words own o f = let c : ℕ = x.actor in let r : List Step = own x.actor in let w : Word = name_of x.word in record {
    asks = λ t s k q ne nz. by_put (λ a q'. a ≡ t → last_load (Place t s k) q' ≡ Some q → move x words (Place t s k) ≡ q) t x own
        (λ is. asks_mine t s k c r ne words q w x.op x.arg x.answer is (at_place layout t s k c (runs c) r w x.op x.arg ne o.may) o.answered
        (λ l. f.asks t s k q ne nz (subst (λ a. last_load (Place t s k) (own a) ≡ Some q) is l)))
        (λ off _ l. asks_other t s k c r ne words q w x.op x.arg nz off (at_place layout t s k c (runs c) r w x.op x.arg ne o.may)
        (λ is l'. f.frees t s k ne (subst (λ a. last_load (Place t s k) (own a) ≡ Some 0) is l')) (f.asks t s k q ne nz l))
        refl;
    frees = λ t s k ne. by_put (λ a q'. a ≡ s → last_load (Place t s k) q' ≡ Some 0 → move x words (Place t s k) ≡ 0) s x own
        (λ is. frees_mine t s k c r ne words w x.op x.arg x.answer is (at_place layout t s k c (runs c) r w x.op x.arg ne o.may) o.answered
        (λ l. f.frees t s k ne (subst (λ a. last_load (Place t s k) (own a) ≡ Some 0) is l)))
        (λ off _ l. frees_other t s k c r ne words w x.op x.arg off (at_place layout t s k c (runs c) r w x.op x.arg ne o.may) (f.frees t s k ne l))
        refl;
    rings = λ t s ne. by_two (λ a q b p. IsRing (move x words) a b (posts a b p) (acked_requests a b q)) t s x own ne
        (λ off. pair_first c s c r off words w x.op x.arg (posts c s (own s)) refl (at_pair layout c s c (runs c) r w x.op x.arg off o.may) (λ k q nz l. f.asks c s k q off nz l) (f.rings c s off))
        (λ off. pair_second t c c r off words w x.op x.arg x.answer (acked_requests t c (own t)) refl (at_pair layout t c c (runs c) r w x.op x.arg off o.may) (λ k l. f.frees t c k off l) (f.rings t c off))
        (λ a b. pair_else t s c r ne words w x.op x.arg (posts t s (own s)) (acked_requests t s (own t)) a b (at_pair layout t s c (runs c) r w x.op x.arg ne o.may) (f.rings t s ne));
  }

  pub places : IsInLimits layout → (h : List Step) → Woven layout runs h → IsBegun layout runs h → Places (λ w. word_value w h) (acts h)
  places limits = facts_along layout runs (λ h words own. Places words own) limits (λ h words o _. places_start words o) (λ s h words own _ f. f) (λ s h. places_step s)

-- what was acked is the beginning of what was posted
head_equal : (x y : ℕ) (xs ys : List ℕ) → length xs ≡ length ys → ((n : ℕ) → n < suc (length xs) → nth_oldest (x ∷ xs) n ≡ nth_oldest (y ∷ ys) n) → x ≡ y
head_equal x y xs ys e f = sym (numbered_head x xs (length xs) refl) ∙ f (length xs) (omega arith) ∙ numbered_head y ys (length xs) e

equal_lists : (xs ys : List ℕ) → length xs ≡ length ys → ((n : ℕ) → n < length xs → nth_oldest xs n ≡ nth_oldest ys n) → xs ≡ ys
equal_lists [] [] e f = refl
equal_lists [] (y ∷ ys) e f = absurd (omega arith)
equal_lists (x ∷ xs) [] e f = absurd (omega arith)
equal_lists (x ∷ xs) (y ∷ ys) e f = let d : length xs ≡ length ys = omega arith in
    let rest : xs ≡ ys = equal_lists xs ys d (λ n l. sym (numbered_tail x xs n l) ∙ f n (omega arith) ∙ numbered_tail y ys n (omega arith)) in
    let head : x ≡ y = head_equal x y xs ys d f in λ i. head i ∷ rest i

prefix_of : (acked posted : List ℕ) → length acked ≤ length posted → ((n : ℕ) → n < length acked → nth_oldest acked n ≡ nth_oldest posted n)
    → (waiting : List ℕ) × (posted ≡ waiting ++ acked) × (length waiting + length acked ≡ length posted)
prefix_of [] [] l f = ([], refl, refl)
prefix_of (x ∷ xs) [] l f = absurd (omega arith)
prefix_of acked (y ∷ ys) l f = ⊎_elim
    (λ (e : length acked ≡ suc (length ys)). ([], sym (equal_lists acked (y ∷ ys) e f), omega (arith, e)))
    (λ (ne : length acked ≢ suc (length ys)). let b : length acked ≤ length ys = omega arith in
    let rest = prefix_of acked ys b (λ n k. f n k ∙ numbered_tail y ys n (omega arith)) in (y ∷ rest.0, ap (λ zs. y ∷ zs) rest.1, omega (arith, rest.2)))
    (cases_eq (length acked) (suc (length ys)))

pub ring_facts : RingFacts
ring_facts layout runs h t s i b x y ne =
    let f : IsRing (λ w. word_value w h) t s (posts t s (acts h s)) (acked_requests t s (acts h t)) = (places layout runs i.limits h (woven layout runs h i) b).rings t s ne in
    let g : IsRing (λ w. word_value w h) t s (posts t s (own_steps s h)) (acked_requests t s (own_steps t h)) = subst (λ p. IsRing (λ w. word_value w h) t s (posts t s p) (acked_requests t s (own_steps t h))) (acts_of h s (actor_off layout s i.limits.harts y))
    (subst (λ p. IsRing (λ w. word_value w h) t s (posts t s (acts h s)) (acked_requests t s p)) (acts_of h t (actor_off layout t i.limits.harts x)) f) in
    let p = prefix_of (acked_requests t s (own_steps t h)) (posts t s (own_steps s h)) g.low g.order in
    (g, (p.0, p.1, omega (arith, p.2, g.high)))
