-- The law of precision, by induction along the history.
use Rattle.std.proofs.Common.{◌≡◌, ◌≢◌, ℕ, zero, suc, ◌/◌, ◌%◌, ◌^◌, ◌<◌, ◌≤◌, Bool, true, false, true≢false, List, [], ◌∷◌, refl, sym, ap, subst, ◌∙◌, inl, inr, arith, ⊎_elim}
use Rattle.std.specs.Prelude.{◌==◌, ◌⊎◌, ◌&&◌, bit_or, if◌then◌else◌}
use Rattle.std.proofs.lemmas.Bool.{cases_Bool, ne_eqb, eqb-true, and_parts}
use Rattle.std.proofs.lemmas.Nat.{shr_le}
use Rattle.step_laws.specs.Words.{most_harts}
use Rattle.step_laws.specs.declared.words.Layout.{Layout}
use Rattle.step_laws.specs.declared.steps.Step.{Step}
use Rattle.step_laws.specs.declared.steps.WordOp.{WordOp}
use Rattle.step_laws.specs.declared.steps.WordOp.TheVariants.{Load, Store, Swap, Or}
use Rattle.step_laws.specs.Layout.{IsInLimits}
use Rattle.step_laws.specs.Map.{Word, Stop, Lock, Place, Dirty, name_of, monitor, loader}
use Rattle.step_laws.specs.WordValues.{word_value, value_next}
use Rattle.step_laws.specs.Steps.{own_steps, answer_of}
use Rattle.step_laws.specs.Fields.{request_kind}
use Rattle.step_laws.specs.Output.{has_touched, has_touched_next}
use Rattle.step_laws.specs.Marks.{Stage, swapping, passing, draining, awaiting, is_set, stage, stage_next, is_taken, is_taken_next, last_place, last_place_next, dirty_words}
use Rattle.step_laws.specs.Discipline.{ActorMay, read_ram, write_ram, load_stop, unlock, mark, take, poll, post, fetch, ack}
use Rattle.step_laws.specs.Histories.{IsBegun}
use Rattle.step_laws.specs.SnapshotLaws.{IsUnacked}
use Rattle.step_laws.specs.PrecisionLaws.{IsTakeAt, IsTurn, MarkTrace, marked, took, ended, passed, PrecisionLaw}
use Rattle.step_laws.proofs.Invariants.{IsTraced, HasUnacked, Traces}
use Rattle.step_laws.proofs.Named.{by_test}
use Rattle.step_laws.proofs.Woven.{Woven, woven, acts, acts_of, put, by_put, own_here, move, IsAct, IsStart}
use Rattle.step_laws.proofs.Along.{facts_along, by_same}
use Rattle.step_laws.proofs.Rings.{asking, moved_here, moved_away}
use Rattle.step_laws.proofs.Slots.{by_bool}
use Rattle.step_laws.proofs.Marked.{swap_unacked, unlock_unacked, post_unacked, poll_unacked, place_parts, set_or}

module _ (layout : Layout) (few : layout.harts ≤ most_harts) (c : ℕ) (runs : Bool) (r : List Step) where
  -- what has touched goes on so until the next turn
  touches_on : (w : Word) (op : WordOp) (arg answer : ℕ) (b : Bool) → ActorMay layout c runs r w op arg → ((w ≡ Stop) × (op ≡ Load)) ⊎ (b ≡ true → has_touched_next w op arg answer b ≡ true)
  touches_on w op arg answer b load_stop = inl (refl, refl)
  touches_on w op arg answer b (mark x y a d) = inr (λ _. refl)
  touches_on w op arg answer b (take z at) = inr (λ _. refl)
  touches_on w op arg answer b (read_ram x) = inr (λ _. refl)
  touches_on w op arg answer b (write_ram x y) = inr (λ _. refl)
  touches_on w op arg answer b m = inr (λ e. held_on e)
    where
      held_on : {P : Type 0} → P → P
      held_on e = e

  unacked_here : (words : Word → ℕ) (h : ℕ) (w : Word) (op : WordOp) (arg answer : ℕ) → c ≡ monitor → h < layout.harts → ActorMay layout c runs r w op arg → answer ≡ answer_of op (words w)
      → IsUnacked (words (Place h monitor (last_place h r))) h (stage layout r)
      → IsUnacked (value_next (Place h monitor (last_place_next h w op arg answer (last_place h r))) w op (words (Place h monitor (last_place_next h w op arg answer (last_place h r)))) arg) h (stage_next layout (λ t. last_place t r) w op arg answer (stage layout r))
  unacked_here words h w op arg answer z l (take {i} z' at) e old = let v : ℕ = words (Place h monitor (last_place h r)) in
      subst (λ g. IsUnacked v h (stage_next layout (λ t. last_place t r) (Dirty i) Swap 0 answer g)) (sym at) (swap_unacked layout (λ t. last_place t r) h l v i 0 answer)
  unacked_here words h w op arg answer z l (unlock {h = x} q d sw) e old = unlock_unacked layout (λ t. last_place t r) h l (words (Place h monitor (last_place h r))) x 0 answer (stage layout r) old
  unacked_here words h w op arg answer z l (post {t} {q} {k} x y a b d) e old =
      post_unacked layout (λ t. last_place t r) h l (words (Place h monitor (last_place h r))) (value_next (Place h monitor (if h == t then k else last_place h r)) (Place t c k) Store (words (Place h monitor (if h == t then k else last_place h r))) q) t c k q answer (stage layout r) on out old
    where
      on : t ≡ h → value_next (Place h monitor (if h == t then k else last_place h r)) (Place t c k) Store (words (Place h monitor (if h == t then k else last_place h r))) q ≢ 0
      on e f = asking q b (sym (by_test h t (λ b. value_next (Place h monitor (if b then k else last_place h r)) (Place t c k) Store (words (Place h monitor (if b then k else last_place h r))) q ≡ q)
          (λ g. ap (λ v. value_next v (Place t c k) Store (words (Place h monitor k)) q) (λ i. Place (g i) (sym z i) k) ∙ moved_here (Place t c k) Store (words (Place h monitor k)) q) (λ ne. absurd (ne (sym e)))) ∙ f)

      out : t ≢ h → value_next (Place h monitor (if h == t then k else last_place h r)) (Place t c k) Store (words (Place h monitor (if h == t then k else last_place h r))) q ≡ words (Place h monitor (last_place h r))
      out ne = by_test h t (λ b. value_next (Place h monitor (if b then k else last_place h r)) (Place t c k) Store (words (Place h monitor (if b then k else last_place h r))) q ≡ words (Place h monitor (last_place h r)))
          (λ g. absurd (ne (sym g))) (λ g. moved_away (Place h monitor (last_place h r)) (Place t c k) Store (words (Place h monitor (last_place h r))) q (ap (λ b. b && ((monitor == c) && (last_place h r == k))) (ne_eqb h t g)))
  unacked_here words h w op arg answer z l (ack x y a b d u v) e old = absurd (let q = y in omega (arith, q, z))
  unacked_here words h w op arg answer z l (poll {t} {k} x) e old = poll_unacked layout (λ t. last_place t r) h l (words (Place h monitor (last_place h r))) t c k arg answer (stage layout r) (λ d f. e ∙ (λ i. words (Place (d i) (z i) (f i)))) old
  unacked_here words h w op arg answer z l (fetch x y a b) e old = absurd (let q = y in omega (arith, q, z))
  unacked_here words h w op arg answer z l m e old = old

  -- another's step: only an ack by h, which hasn't touched, empties the place
  unacked_else : (h lp v : ℕ) (g : Stage) (w : Word) (op : WordOp) (arg : ℕ) → c ≢ monitor → ActorMay layout c runs r w op arg → (c ≡ h → has_touched r ≡ true) → IsUnacked v h g → IsUnacked (value_next (Place h monitor lp) w op v arg) h g
  unacked_else h lp v g w op arg ne (post {t} {q} {k} x y a f d) off old = by_same (Place h monitor lp) (Place t c k) (λ t. IsUnacked (if t then q else v) h g) (λ e. absurd (ne (sym (place_parts e).1))) old
  unacked_else h lp v g w op arg ne (ack {s} {q} {k} x y a f d u z) off old = by_same (Place h monitor lp) (Place c s k) (λ t. IsUnacked (if t then 0 else v) h g)
      (λ e. absurd (true≢false (sym (off (sym (place_parts e).0)) ∙ f))) old
  unacked_else h lp v g w op arg ne (take z at) off old = absurd (ne z)
  unacked_else h lp v g w op arg ne m off old = old

  same_dirty : {i j : ℕ} → Dirty i ≡ Dirty j → i ≡ j
  same_dirty e = cc

  -- a bit that is set after a step was set before, or the step marks it; a set bit isn't taken
  set_from : (n p : ℕ) (w : Word) (op : WordOp) (arg : ℕ) → ActorMay layout c runs r w op arg → is_set (value_next (Dirty (p / 64)) w op n arg) p ≡ true
      → ((is_set n p ≡ true) × (w ≡ Dirty (p / 64) → op ≡ Swap → ⊥)) ⊎ ((c < layout.harts) × (w ≡ Dirty (p / 64)) × (op ≡ Or) × (is_set arg p ≡ true))
  set_from n p w op arg (take {i} z at) e = by_test (p / 64) i (λ t. is_set (if t then 0 else n) p ≡ true → ((is_set n p ≡ true) × (Dirty i ≡ Dirty (p / 64) → Swap ≡ Swap → ⊥)) ⊎ ((c < layout.harts) × (Dirty i ≡ Dirty (p / 64)) × (Swap ≡ Or) × (is_set 0 p ≡ true)))
      (λ _ k. absurd (unset p k)) (λ ne k. inl (k, λ d _. ne (sym (same_dirty d)))) e
    where
      unset : (p : ℕ) → is_set 0 p ≡ true → ⊥
      unset p k = zeros (p % 64) k
        where
          zeros : (b : ℕ) → (0 / 2 ^ b % 2 == 1) ≡ true → ⊥
          zeros b k = let x : 0 / 2 ^ b % 2 ≡ 1 = eqb-true (0 / 2 ^ b % 2) 1 k in let y : 0 / 2 ^ b ≤ 0 = shr_le 0 b in omega (arith, x, y)
  set_from n p w op arg (mark {i} x y a d) e = by_test (p / 64) i (λ t. is_set (if t then bit_or n arg else n) p ≡ true → ((is_set n p ≡ true) × (Dirty i ≡ Dirty (p / 64) → Or ≡ Swap → ⊥)) ⊎ ((c < layout.harts) × (Dirty i ≡ Dirty (p / 64)) × (Or ≡ Or) × (is_set arg p ≡ true)))
      (λ f k. ⊎_elim (λ (g : is_set arg p ≡ true). inr (x, ap (λ y. Dirty y) (sym f), refl, g)) (λ (g : is_set arg p ≡ false). inl (set_or n arg p k g, λ _ h. absurd (cc))) (cases_Bool (is_set arg p)))
      (λ _ k. inl (k, λ _ h. absurd (cc))) e
  set_from n p w op arg m e = inl (e, λ d o. absurd (cc))

  -- what a take leaves taken
  take_from : (p : ℕ) (w : Word) (op : WordOp) (arg answer : ℕ) → ActorMay layout c runs r w op arg → ((i : ℕ) → stage layout r ≡ swapping (suc i) → is_taken p r ≡ true → p / 64 < suc i) → is_taken_next p w op arg answer (is_taken p r) ≡ true
      → ((is_taken p r ≡ true) × (w ≡ Dirty (p / 64) → op ≡ Swap → ⊥)) ⊎ ((w ≡ Dirty (p / 64)) × (op ≡ Swap) × (is_set answer p ≡ true) × ((i : ℕ) → stage layout r ≡ swapping i → i ≡ p / 64))
  take_from p w op arg answer (take {i} z at) order e = ⊎_elim
      (λ (f : ((i == p / 64) && is_set answer p) ≡ true). let q = and_parts (i == p / 64) (is_set answer p) f in inr (ap (λ y. Dirty y) (eqb-true i (p / 64) q.0), refl, q.1, λ j k. same_stage (sym k ∙ at) ∙ eqb-true i (p / 64) q.0))
      (λ (f : ((i == p / 64) && is_set answer p) ≡ false). later i at (sym (ap (λ (t : Bool). if t then true else if i == 0 then false else is_taken p r) f) ∙ e))
      (cases_Bool ((i == p / 64) && is_set answer p))
    where
      same_stage : {x y : ℕ} → swapping x ≡ swapping y → x ≡ y
      same_stage e = cc

      later : (j : ℕ) → stage layout r ≡ swapping j → (if j == 0 then false else is_taken p r) ≡ true → ((is_taken p r ≡ true) × (Dirty j ≡ Dirty (p / 64) → Swap ≡ Swap → ⊥)) ⊎ ((Dirty j ≡ Dirty (p / 64)) × (Swap ≡ Swap) × (is_set answer p ≡ true) × ((i : ℕ) → stage layout r ≡ swapping i → i ≡ p / 64))
      later zero a k = absurd (true≢false (sym k))
      later (suc j) a k' = let k : is_taken p r ≡ true = ap (λ (t : Bool). if t then false else is_taken p r) (sym (ne_eqb (suc j) 0 (λ z. omega arith))) ∙ k' in inl (k, λ d _. let x : p / 64 < suc j = order j a k in let y : suc j ≡ p / 64 = same_dirty d in omega (arith, x, y))
  take_from p w op arg answer (mark x y a d) order e = inl (e, λ d o. absurd (cc))
  take_from p w op arg answer m order e = inl (e, λ d o. absurd (cc))

  take_unacked : (v h : ℕ) (i : ℕ) (w : Word) (op : WordOp) (arg answer : ℕ) → h < layout.harts → ActorMay layout c runs r w op arg → w ≡ Dirty i → op ≡ Swap → IsUnacked v h (stage_next layout (λ t. last_place t r) w op arg answer (stage layout r))
  take_unacked v h i w op arg answer l (take {i = j} z at) d e = subst (λ g. IsUnacked v h (stage_next layout (λ t. last_place t r) (Dirty j) Swap 0 answer g)) (sym at) (swap_unacked layout (λ t. last_place t r) h l v j 0 answer)
  take_unacked v h i w op arg answer l (mark x y a b) d e = absurd (cc)
  take_unacked v h i w op arg answer l m d e = absurd (cc)

  apart_passing : {A : Type 0} {k i : ℕ} → passing k ≡ swapping i → A
  apart_passing e = absurd (cc)

  apart_draining : {A : Type 0} {k i : ℕ} → draining k ≡ swapping i → A
  apart_draining e = absurd (cc)

  apart_awaiting : {A : Type 0} {k i : ℕ} → awaiting k ≡ swapping i → A
  apart_awaiting e = absurd (cc)

  apart_zero : {A : Type 0} {i : ℕ} → swapping 0 ≡ swapping (suc i) → A
  apart_zero e = absurd (cc)

  same_next : {i j : ℕ} → swapping (suc j) ≡ swapping (suc i) → j ≡ i
  same_next e = cc

  unlock_back : (place : ℕ → ℕ) (x arg answer i : ℕ) (g : Stage) → stage_next layout place (Lock x) Store arg answer g ≡ swapping (suc i) → g ≡ swapping (suc i)
  unlock_back place x arg answer i (swapping k) e = e
  unlock_back place x arg answer i (passing k) e = by_bool (x == k) (λ t. (if t then (if suc k == layout.harts then draining 0 else passing (suc k)) else passing k) ≡ swapping (suc i) → passing k ≡ swapping (suc i))
      (by_bool (suc k == layout.harts) (λ t. (if t then draining 0 else passing (suc k)) ≡ swapping (suc i) → passing k ≡ swapping (suc i)) apart_draining apart_passing) (λ e. e) e
  unlock_back place x arg answer i (draining k) e = e
  unlock_back place x arg answer i (awaiting k) e = e

  post_back : (place : ℕ → ℕ) (t s n arg answer i : ℕ) (g : Stage) → stage_next layout place (Place t s n) Store arg answer g ≡ swapping (suc i) → g ≡ swapping (suc i)
  post_back place t s n arg answer i (swapping k) e = e
  post_back place t s n arg answer i (passing k) e = e
  post_back place t s n arg answer i (draining k) e = by_bool ((t == k) && (request_kind arg == 3)) (λ t. (if t then (if suc k == layout.harts then awaiting 0 else draining (suc k)) else draining k) ≡ swapping (suc i) → draining k ≡ swapping (suc i))
      (by_bool (suc k == layout.harts) (λ t. (if t then awaiting 0 else draining (suc k)) ≡ swapping (suc i) → draining k ≡ swapping (suc i)) apart_awaiting apart_draining) (λ e. e) e
  post_back place t s n arg answer i (awaiting k) e = e

  poll_back : (place : ℕ → ℕ) (t s n arg answer i : ℕ) (g : Stage) → stage_next layout place (Place t s n) Load arg answer g ≡ swapping (suc i) → g ≡ swapping (suc i)
  poll_back place t s n arg zero i (swapping k) e = e
  poll_back place t s n arg zero i (passing k) e = e
  poll_back place t s n arg zero i (draining k) e = e
  poll_back place t s n arg zero i (awaiting k) e = by_bool ((t == k) && (n == place k)) (λ t. (if t then (if suc k == layout.harts then swapping 0 else awaiting (suc k)) else awaiting k) ≡ swapping (suc i) → awaiting k ≡ swapping (suc i))
      (by_bool (suc k == layout.harts) (λ t. (if t then swapping 0 else awaiting (suc k)) ≡ swapping (suc i) → awaiting k ≡ swapping (suc i)) apart_zero apart_awaiting) (λ e. e) e
  poll_back place t s n arg (suc m) i g e = e

  swap_back : (place : ℕ → ℕ) (j arg answer i : ℕ) → stage_next layout place (Dirty j) Swap arg answer (swapping j) ≡ swapping (suc i) → j ≡ i
  swap_back place j arg answer i = by_test j j (λ t. (if t then (if suc j == dirty_words layout then passing 0 else swapping (suc j)) else swapping j) ≡ swapping (suc i) → j ≡ i)
      (λ _. by_bool (suc j == dirty_words layout) (λ t. (if t then passing 0 else swapping (suc j)) ≡ swapping (suc i) → j ≡ i) apart_passing same_next) (λ ne. absurd (ne refl))

  order_here : (p i : ℕ) (w : Word) (op : WordOp) (arg answer : ℕ) → ActorMay layout c runs r w op arg → ((i : ℕ) → stage layout r ≡ swapping (suc i) → is_taken p r ≡ true → p / 64 < suc i)
      → stage_next layout (λ t. last_place t r) w op arg answer (stage layout r) ≡ swapping (suc i) → is_taken_next p w op arg answer (is_taken p r) ≡ true → p / 64 < suc i
  order_here p i w op arg answer (take {i = j} z at) order e k = let is : j ≡ i = swap_back (λ t. last_place t r) j 0 answer i (ap (λ g. stage_next layout (λ t. last_place t r) (Dirty j) Swap 0 answer g) (sym at) ∙ e) in
      ⊎_elim (λ (f : ((j == p / 64) && is_set answer p) ≡ true). let q : j ≡ p / 64 = eqb-true j (p / 64) (and_parts (j == p / 64) (is_set answer p) f).0 in omega (arith, q, is))
      (λ (f : ((j == p / 64) && is_set answer p) ≡ false). later j at is (sym (ap (λ (t : Bool). if t then true else if j == 0 then false else is_taken p r) f) ∙ k))
      (cases_Bool ((j == p / 64) && is_set answer p))
    where
      later : (j : ℕ) → stage layout r ≡ swapping j → j ≡ i → (if j == 0 then false else is_taken p r) ≡ true → p / 64 < suc i
      later zero a is k = absurd (true≢false (sym k))
      later (suc j) a is k' = let k : is_taken p r ≡ true = ap (λ (t : Bool). if t then false else is_taken p r) (sym (ne_eqb (suc j) 0 (λ z. omega arith))) ∙ k' in let x : p / 64 < suc j = order j a k in omega (arith, x, is)
  order_here p i w op arg answer (unlock {h = x} q d sw) order e k = order i (unlock_back (λ t. last_place t r) x 0 answer i (stage layout r) e) k
  order_here p i w op arg answer (post {t} {q} {k = n} x y a b d) order e k = order i (post_back (λ t. last_place t r) t c n q answer i (stage layout r) e) k
  order_here p i w op arg answer (ack {s} {q} {k = n} x y a b d z v) order e k = order i (post_back (λ t. last_place t r) c s n 0 answer i (stage layout r) e) k
  order_here p i w op arg answer (poll {t} {k = n} x) order e k = order i (poll_back (λ t. last_place t r) t c n arg answer i (stage layout r) e) k
  order_here p i w op arg answer (fetch {s} {k = n} x y a b) order e k = order i (poll_back (λ t. last_place t r) c s n arg answer i (stage layout r) e) k
  order_here p i w op arg answer m order e k = order i e k

module _ (layout : Layout) (runs : ℕ → Bool) (limits : IsInLimits layout) where
  unset_zero : (n p : ℕ) → n ≡ 0 → is_set n p ≡ true → ⊥
  unset_zero n p z k = let x : n / 2 ^ (p % 64) % 2 ≡ 1 = eqb-true (n / 2 ^ (p % 64) % 2) 1 k in let y : n / 2 ^ (p % 64) ≤ n = shr_le n (p % 64) in omega (arith, x, y, z)

  traces_start : (h : List Step) (words : Word → ℕ) → IsStart layout runs words → Traces layout h words (λ _. [])
  traces_start h words o = record {
    sets = λ p k. absurd (unset_zero (words (Dirty (p / 64))) p (o.dirty (p / 64)) k);
    takes = λ p k. absurd (true≢false (sym k));
    ordered = λ p i e k. absurd (true≢false (sym k));
  }

  traces_quiet : (s : Step) (h : List Step) (words : Word → ℕ) (own : ℕ → List Step) → s.actor ≡ loader → Traces layout h words own → Traces layout (s ∷ h) words own
  traces_quiet s h words own z f = record {
    sets = λ p k. let x = f.sets p k in (x.0, x.1, x.2, passed (λ y. omega (arith, y.0, z)) x.3, x.4);
    takes = λ p k. let x = f.takes p k in (x.0, x.1, x.2, passed (λ y. omega (arith, y.0, z)) x.3, x.4);
    ordered = f.ordered;
  }

  module _ (s : Step) (h : List Step) (words : Word → ℕ) (own : ℕ → List Step) (o : IsAct layout runs words own s) (f : Traces layout h words own) where
    touched_or : (a : ℕ) → has_touched (own a) ≡ true → IsTurn a s ⊎ (has_touched (put s own a) ≡ true)
    touched_or a = by_put (λ a q. has_touched (own a) ≡ true → IsTurn a s ⊎ (has_touched q ≡ true)) a s own
        (λ t. ⊎_elim (λ (x : (name_of s.word ≡ Stop) × (s.op ≡ Load)). inl (refl, x.0, x.1))
        (λ (g : has_touched (own s.actor) ≡ true → has_touched_next (name_of s.word) s.op s.arg s.answer (has_touched (own s.actor)) ≡ true). inr (g t))
        (touches_on layout limits.harts s.actor (runs s.actor) (own s.actor) (name_of s.word) s.op s.arg s.answer (has_touched (own s.actor)) o.may))
        (λ _ t. inr t)

    carry : (p a : ℕ) (t e : Bool) (More After : ℕ → Type 0) → a < layout.harts → (IsTakeAt p s → ⊥) → (has_touched (own a) ≡ true → More a → After a)
        → MarkTrace a p t e h → (e ≡ false → (has_touched (own a) ≡ true) × More a) → IsTraced layout (put s own) p t After (s ∷ h)
    carry p a t true More After l keep more d q = (a, true, l, passed keep d, λ x. absurd (true≢false x))
    carry p a t false More After l keep more d q = let k = q refl in ⊎_elim
        (λ (x : IsTurn a s). (a, true, l, ended x d, λ x. absurd (true≢false x)))
        (λ (x : has_touched (put s own a) ≡ true). (a, false, l, passed keep d, λ _. (x, more k.0 k.1)))
        (touched_or a k.0)

    step_sets : (p : ℕ) → is_set (move s words (Dirty (p / 64))) p ≡ true → IsTraced layout (put s own) p false (λ a. Unit {0}) (s ∷ h)
    step_sets p k = ⊎_elim
        (λ (x : (is_set (words (Dirty (p / 64))) p ≡ true) × (name_of s.word ≡ Dirty (p / 64) → s.op ≡ Swap → ⊥)). let y = f.sets p x.0 in carry p y.0 false y.1 (λ a. Unit {0}) (λ a. Unit {0}) y.2 (λ z. x.1 z.1 z.2) (λ _ _. tt) y.3 y.4)
        (λ (x : (s.actor < layout.harts) × (name_of s.word ≡ Dirty (p / 64)) × (s.op ≡ Or) × (is_set s.arg p ≡ true)). (
          s.actor,
          false,
          x.0,
          marked (refl, x.1, x.2, x.3),
          λ _. (by_put (λ b q. b ≡ s.actor → has_touched q ≡ true) s.actor s own (λ _. ap (λ v. has_touched_next v s.op s.arg s.answer (has_touched (own s.actor))) x.1) (λ ne _. absurd (ne refl)) refl, tt),
        ))
        (set_from layout limits.harts s.actor (runs s.actor) (own s.actor) (words (Dirty (p / 64))) p (name_of s.word) s.op s.arg o.may k)

    step_takes : (p : ℕ) → is_taken p (put s own monitor) ≡ true → IsTraced layout (put s own) p true (HasUnacked layout (move s words) (put s own monitor)) (s ∷ h)
    step_takes p k = by_put (λ b m. b ≡ monitor → is_taken p m ≡ true → IsTraced layout (put s own) p true (HasUnacked layout (move s words) m) (s ∷ h)) monitor s own mine other refl k
      where
        mine : s.actor ≡ monitor → is_taken p (s ∷ own s.actor) ≡ true → IsTraced layout (put s own) p true (HasUnacked layout (move s words) (s ∷ own s.actor)) (s ∷ h)
        mine z k = ⊎_elim
            (λ (x : (is_taken p (own s.actor) ≡ true) × (name_of s.word ≡ Dirty (p / 64) → s.op ≡ Swap → ⊥)). let y = f.takes p (subst (λ b. is_taken p (own b) ≡ true) z x.0) in
            carry p y.0 true y.1 (HasUnacked layout words (own monitor)) (HasUnacked layout (move s words) (s ∷ own s.actor)) y.2 (λ z. x.1 z.1 z.2)
            (λ _ u. unacked_here layout limits.harts s.actor (runs s.actor) (own s.actor) words y.0 (name_of s.word) s.op s.arg s.answer z y.2 o.may o.answered (subst (λ b. HasUnacked layout words (own b) y.0) (sym z) u)) y.3 y.4)
            (λ (x : (name_of s.word ≡ Dirty (p / 64)) × (s.op ≡ Swap) × (is_set s.answer p ≡ true) × ((i : ℕ) → stage layout (own s.actor) ≡ swapping i → i ≡ p / 64)).
            let is : s.answer ≡ words (Dirty (p / 64)) = o.answered ∙ (λ i. answer_of (x.1 i) (words (x.0 i))) in let y = f.sets p (ap (λ n. is_set n p) (sym is) ∙ x.2) in (
              y.0,
              y.1,
              y.2,
              took ((z, x.0, x.1), x.2) y.3,
              λ e. (
                by_put (λ b q. b ≢ s.actor → has_touched (own b) ≡ true → has_touched q ≡ true) y.0 s own (λ no'. absurd (no' refl)) (λ _ _ t. t) (λ d. let l = y.2 in let w = limits.harts in omega (arith, d, z, l, w)) (y.4 e).0,
                take_unacked layout limits.harts s.actor (runs s.actor) (own s.actor) (move s words (Place y.0 monitor (last_place y.0 (s ∷ own s.actor)))) y.0 (p / 64) (name_of s.word) s.op s.arg s.answer y.2 o.may x.0 x.1,
              ),
            ))
            (take_from layout limits.harts s.actor (runs s.actor) (own s.actor) p (name_of s.word) s.op s.arg s.answer o.may (λ i e k. f.ordered p i (subst (λ b. stage layout (own b) ≡ swapping (suc i)) z e) (subst (λ b. is_taken p (own b) ≡ true) z k)) k)

        other : monitor ≢ s.actor → monitor ≡ monitor → is_taken p (own monitor) ≡ true → IsTraced layout (put s own) p true (HasUnacked layout (move s words) (own monitor)) (s ∷ h)
        other off _ k = let y = f.takes p k in carry p y.0 true y.1 (HasUnacked layout words (own monitor)) (HasUnacked layout (move s words) (own monitor)) y.2 (λ z. off (sym z.0))
            (λ t u. unacked_else layout limits.harts s.actor (runs s.actor) (own s.actor) y.0 (last_place y.0 (own monitor)) (words (Place y.0 monitor (last_place y.0 (own monitor)))) (stage layout (own monitor)) (name_of s.word) s.op s.arg (λ e. off (sym e)) o.may
            (λ d. subst (λ b. has_touched (own b) ≡ true) (sym d) t) u) y.3 y.4

    step_ordered : (p i : ℕ) → stage layout (put s own monitor) ≡ swapping (suc i) → is_taken p (put s own monitor) ≡ true → p / 64 < suc i
    step_ordered p i e k = by_put (λ b m. b ≡ monitor → stage layout m ≡ swapping (suc i) → is_taken p m ≡ true → p / 64 < suc i) monitor s own
        (λ z e k. order_here layout limits.harts s.actor (runs s.actor) (own s.actor) p i (name_of s.word) s.op s.arg s.answer o.may
        (λ i e k. f.ordered p i (subst (λ b. stage layout (own b) ≡ swapping (suc i)) z e) (subst (λ b. is_taken p (own b) ≡ true) z k)) e k)
        (λ _ _ e k. f.ordered p i e k) refl e k

    traces_step : Traces layout (s ∷ h) (move s words) (put s own)
    traces_step = record { sets = step_sets; takes = step_takes; ordered = step_ordered }

  traces : (h : List Step) → Woven layout runs h → IsBegun layout runs h → Traces layout h (λ w. word_value w h) (acts h)
  traces = facts_along layout runs (Traces layout) limits (λ h words o _. traces_start h words o) (λ s h words own e f. traces_quiet s h words own e.0 f) (λ s h words own o f. traces_step s h words own o f)

load_takes : (p : ℕ) (w : Word) (op : WordOp) (arg answer : ℕ) (b : Bool) → op ≡ Load → is_taken_next p w op arg answer b ≡ b
load_takes p w op arg answer b e = ap (λ o. is_taken_next p w o arg answer b) e ∙ still w
  where
    still : (w : Word) → is_taken_next p w Load arg answer b ≡ b
    still (Dirty i) = refl
    still w = refl

pub precision_law : PrecisionLaw
precision_law layout runs h x p i e k =
    let ne : x.actor ≢ loader = (λ z. let y = e.0 in omega (arith, y, z)) in
    let v : Woven layout runs (x ∷ h) = woven layout runs (x ∷ h) i in
    let b : IsBegun layout runs (x ∷ h) = i.begun x.actor ne (λ z. filled (own_here x h x.actor refl) z) in
    let f = traces layout runs i.limits (x ∷ h) v b in
    let at : acts (x ∷ h) monitor ≡ x ∷ own_steps monitor h = acts_of (x ∷ h) monitor (λ z. omega arith) ∙ own_here x h monitor (sym e.0) in
    let y = f.takes p (ap (is_taken p) at ∙ load_takes p (name_of x.word) x.op x.arg x.answer (is_taken p (own_steps monitor h)) e.1 ∙ k) in (
      y.0,
      y.2,
      ⊎_elim (λ (t : y.1 ≡ true). subst (λ e. MarkTrace y.0 p true e (x ∷ h)) t y.3)
          (λ (t : y.1 ≡ false). absurd (subst (λ g. IsUnacked (word_value (Place y.0 monitor (last_place y.0 (acts (x ∷ h) monitor))) (x ∷ h)) y.0 g) (ap (stage layout) at ∙ e.4) (y.4 t).1)) (cases_Bool y.1),
    )
  where
    filled : {xs ys : List Step} → ys ≡ x ∷ xs → ys ≡ [] → ⊥
    filled e f = cc
