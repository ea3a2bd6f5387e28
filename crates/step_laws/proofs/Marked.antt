-- Dirty marks and snapshots, by induction along the history.
use Rattle.std.proofs.Common.{◌≡◌, ◌≢◌, ℕ, zero, suc, ◌+◌, ◌/◌, ◌%◌, ◌^◌, ◌<◌, ◌≤◌, Bool, true, false, true≢false, List, [], refl, sym, ap, subst, ◌∙◌, inl, inr, arith, ⊎_elim}
use Rattle.std.specs.Prelude.{◌==◌, ◌⊎◌, ◌&&◌, nat_lt, bit_and, bit_or, Some, None, if◌then◌else◌}
use Rattle.std.proofs.lemmas.Bool.{cases_eq, cases_Bool, eq-eqb, ne_eqb, eqb-true, and_parts, and_from, ltb-true, ltb-false}
use Rattle.std.proofs.lemmas.Nat.{or_shr, or_mod}
use Rattle.step_laws.specs.Words.{most_harts}
use Rattle.step_laws.specs.declared.words.Layout.{Layout}
use Rattle.step_laws.specs.declared.map.TlbField.TheVariants.{Read, Write, Code, Page}
use Rattle.step_laws.specs.declared.steps.Step.{Step}
use Rattle.step_laws.specs.declared.steps.WordOp.{WordOp}
use Rattle.step_laws.specs.declared.steps.WordOp.TheVariants.{Load, Store, Swap}
use Rattle.step_laws.specs.Layout.{IsInLimits}
use Rattle.step_laws.specs.Map.{Word, Ipi, Lock, Size, Place, Dirty, Tlb, Ram, name_of, same, monitor}
use Rattle.step_laws.specs.WordValues.{word_value, value_next}
use Rattle.step_laws.specs.Steps.{answer_of}
use Rattle.step_laws.specs.Fields.{invalid_bit, request_kind}
use Rattle.step_laws.specs.Tables.{held_lock, held_lock_next, table_word, table_next, size_of, is_clear_due, is_compare, is_victim, is_first_slot, boot_entry}
use Rattle.step_laws.specs.Loader.{is_stored, is_stored_next}
use Rattle.step_laws.specs.Marks.{Stage, swapping, passing, draining, awaiting, is_set, is_mark, is_page, is_clear, stage, stage_next, is_taken, is_taken_next, last_place, last_place_next, is_known_dirty, is_known_dirty_next, is_armed, is_armed_next, seen_size, seen_size_next, is_ored, is_ored_next, dirty_words, IsSwept}
use Rattle.step_laws.specs.Discipline.{ActorMay, lock_own, lock_other, unlock, load_slot, load_size, load_other_size, put_compare, put_page, put_size, clear_clean, set_clean, write_ram, touch_ipi, mark, take, poll, post, fetch, ack, load_stop}
use Rattle.step_laws.specs.TableLaws.{IsFresh}
use Rattle.step_laws.proofs.Invariants.{Tables}
use Rattle.step_laws.specs.Histories.{IsBegun}
use Rattle.step_laws.specs.SnapshotLaws.{IsUnpassed, IsUnacked, IsOn, IsFine, IsSafe}
use Rattle.step_laws.proofs.Invariants.{Marks}
use Rattle.step_laws.proofs.Named.{by_test}
use Rattle.step_laws.proofs.Woven.{Woven, acts, put, by_put, by_two, move, IsAct, IsStart}
use Rattle.step_laws.proofs.Along.{facts_along, by_same}
use Rattle.step_laws.proofs.Rings.{asking, moved_here, moved_away}
use Rattle.step_laws.proofs.Slots.{by_bool, tlb_parts, tables_start, tables_step}

-- bits
or_left_one : (a b : ℕ) → a % 2 ≡ 1 → bit_or a b % 2 ≡ 1
or_left_one a b e = let d : bit_or a b % 2 ≡ bit_or (a % 2) (b % 2) = or_mod a b 1 in d ∙ ap (λ x. bit_or x (b % 2)) e ∙ low (b % 2) (omega arith)
  where
    low : (n : ℕ) → n < 2 → bit_or 1 n ≡ 1
    low zero l = refl
    low (suc zero) l = refl
    low (suc (suc n)) l = absurd (omega arith)

or_right_one : (a b : ℕ) → b % 2 ≡ 1 → bit_or a b % 2 ≡ 1
or_right_one a b e = let d : bit_or a b % 2 ≡ bit_or (a % 2) (b % 2) = or_mod a b 1 in d ∙ ap (λ x. bit_or (a % 2) x) e ∙ low (a % 2) (omega arith)
  where
    low : (n : ℕ) → n < 2 → bit_or n 1 ≡ 1
    low zero l = refl
    low (suc zero) l = refl
    low (suc (suc n)) l = absurd (omega arith)

pub set_stays : (n arg p : ℕ) → is_set n p ≡ true → is_set (bit_or n arg) p ≡ true
set_stays n arg p e = eq-eqb (bit_or n arg / 2 ^ (p % 64) % 2) 1 (ap (λ x. x % 2) (or_shr n arg (p % 64)) ∙ or_left_one (n / 2 ^ (p % 64)) (arg / 2 ^ (p % 64)) (eqb-true (n / 2 ^ (p % 64) % 2) 1 e))

pub set_by : (n arg p : ℕ) → is_set arg p ≡ true → is_set (bit_or n arg) p ≡ true
set_by n arg p e = eq-eqb (bit_or n arg / 2 ^ (p % 64) % 2) 1 (ap (λ x. x % 2) (or_shr n arg (p % 64)) ∙ or_right_one (n / 2 ^ (p % 64)) (arg / 2 ^ (p % 64)) (eqb-true (arg / 2 ^ (p % 64) % 2) 1 e))

pub set_or : (n arg p : ℕ) → is_set (bit_or n arg) p ≡ true → is_set arg p ≡ false → is_set n p ≡ true
set_or n arg p e f = eq-eqb (n / 2 ^ (p % 64) % 2) 1 (low (n / 2 ^ (p % 64) % 2) (arg / 2 ^ (p % 64) % 2) (bits n) (bits arg)
    (sym (or_mod (n / 2 ^ (p % 64)) (arg / 2 ^ (p % 64)) 1) ∙ ap (λ x. x % 2) (sym (or_shr n arg (p % 64))) ∙ eqb-true (bit_or n arg / 2 ^ (p % 64) % 2) 1 e) f)
  where
    bits : (m : ℕ) → m / 2 ^ (p % 64) % 2 < 2
    bits m = omega arith

    low : (x y : ℕ) → x < 2 → y < 2 → bit_or x y ≡ 1 → (y == 1) ≡ false → x ≡ 1
    low zero zero a b e f = absurd (omega (arith, e))
    low zero (suc zero) a b e f = absurd (true≢false f)
    low (suc zero) y a b e f = refl
    low x (suc (suc y)) a b e f = absurd (omega arith)
    low (suc (suc x)) y a b e f = absurd (omega arith)

-- a mark leaves set bits set
pub mark_keeps : (n arg p i : ℕ) (b : Bool) (More : Type 0) → IsOn n p b More → IsOn (if p / 64 == i then bit_or n arg else n) p b More
mark_keeps n arg p i b More (inl e) = inl (by_bool (p / 64 == i) (λ t. is_set (if t then bit_or n arg else n) p ≡ true) (set_stays n arg p e) e)
mark_keeps n arg p i b More (inr e) = inr e

-- a take moves them to the snapshot
pub take_keeps : (n p i answer : ℕ) (b : Bool) (Old More : Type 0) → (p / 64 ≡ i → answer ≡ n) → (Old → i ≢ 0) → More → IsOn n p b Old
    → IsOn (if p / 64 == i then 0 else n) p (if (i == p / 64) && is_set answer p then true else if i == 0 then false else b) More
take_keeps n p i answer b Old More answer_or_zero far more old = by_test (p / 64) i
    (λ t. IsOn (if t then 0 else n) p (if (i == p / 64) && is_set answer p then true else if i == 0 then false else b) More)
    (λ e. inr (mine e old, more)) (λ ne. other ne old)
  where
    mine : p / 64 ≡ i → IsOn n p b Old → (if (i == p / 64) && is_set answer p then true else if i == 0 then false else b) ≡ true
    mine e (inl s) = ap (λ (t : Bool). if t then true else if i == 0 then false else b) (and_from (i == p / 64) (is_set answer p) (eq-eqb i (p / 64) (sym e)) (ap (λ x. is_set x p) (answer_or_zero e) ∙ s))
    mine e (inr o) = by_bool ((i == p / 64) && is_set answer p) (λ t. (if t then true else if i == 0 then false else b) ≡ true) refl (ap (λ (t : Bool). if t then false else b) (ne_eqb i 0 (far o.1)) ∙ o.0)

    other : p / 64 ≢ i → IsOn n p b Old → IsOn n p (if (i == p / 64) && is_set answer p then true else if i == 0 then false else b) More
    other ne (inl s) = inl s
    other ne (inr o) = inr (by_bool ((i == p / 64) && is_set answer p) (λ t. (if t then true else if i == 0 then false else b) ≡ true) refl (ap (λ (t : Bool). if t then false else b) (ne_eqb i 0 (far o.1)) ∙ o.0), more)

pub on_map : {A B : Type 0} (n p : ℕ) (b : Bool) → (A → B) → IsOn n p b A → IsOn n p b B
on_map n p b f (inl e) = inl e
on_map n p b f (inr e) = inr (e.0, f e.1)

-- the stage after each kind of step
module _ (layout : Layout) (place : ℕ → ℕ) (h : ℕ) (l : h < layout.harts) where
  swap_unpassed : (i arg answer : ℕ) → IsUnpassed h (stage_next layout place (Dirty i) Swap arg answer (swapping i))
  swap_unpassed i arg answer = by_test i i (λ t. IsUnpassed h (if t then (if suc i == dirty_words layout then passing 0 else swapping (suc i)) else swapping i))
      (λ _. by_bool (suc i == dirty_words layout) (λ t. IsUnpassed h (if t then passing 0 else swapping (suc i))) (omega arith) tt) (λ ne. absurd (ne refl))

  below_next : (k x : ℕ) → k ≤ h → x ≢ h → x ≡ k → suc k ≤ h
  below_next k x le ne e = ⊎_elim (λ (a : nat_lt k h ≡ true). omega (arith, ltb-true k h a)) (λ (a : nat_lt k h ≡ false). absurd (ne (omega (arith, ltb-false k h a)))) (cases_Bool (nat_lt k h))

  unlock_unpassed : (x arg answer : ℕ) (g : Stage) → x ≢ h → IsUnpassed h g → IsUnpassed h (stage_next layout place (Lock x) Store arg answer g)
  unlock_unpassed x arg answer (swapping k) ne u = u
  unlock_unpassed x arg answer (passing k) ne u = by_test x k (λ t. IsUnpassed h (if t then (if suc k == layout.harts then draining 0 else passing (suc k)) else passing k))
      (λ e. by_test (suc k) layout.harts (λ t. IsUnpassed h (if t then draining 0 else passing (suc k))) (λ f. let z : suc k ≤ h = below_next k x u ne e in absurd (omega arith)) (λ _. below_next k x u ne e)) (λ _. u)
  unlock_unpassed x arg answer (draining k) ne u = u
  unlock_unpassed x arg answer (awaiting k) ne u = u

  place_unpassed : (t s n arg answer : ℕ) (g : Stage) → IsUnpassed h g → IsUnpassed h (stage_next layout place (Place t s n) Store arg answer g)
  place_unpassed t s n arg answer (swapping k) u = u
  place_unpassed t s n arg answer (passing k) u = u
  place_unpassed t s n arg answer (draining k) u = absurd u
  place_unpassed t s n arg answer (awaiting k) u = u

  poll_unpassed : (t s n arg answer : ℕ) (g : Stage) → IsUnpassed h g → IsUnpassed h (stage_next layout place (Place t s n) Load arg answer g)
  poll_unpassed t s n arg zero (swapping k) u = u
  poll_unpassed t s n arg zero (passing k) u = u
  poll_unpassed t s n arg zero (draining k) u = u
  poll_unpassed t s n arg zero (awaiting k) u = absurd u
  poll_unpassed t s n arg (suc m) g u = u

  pub unpassed_unacked : (n : ℕ) (g : Stage) → IsUnpassed h g → IsUnacked n h g
  unpassed_unacked n (swapping zero) u = u
  unpassed_unacked n (swapping (suc k)) u = tt
  unpassed_unacked n (passing k) u = tt
  unpassed_unacked n (draining k) u = absurd u
  unpassed_unacked n (awaiting k) u = absurd u

  pub swap_unacked : (n i arg answer : ℕ) → IsUnacked n h (stage_next layout place (Dirty i) Swap arg answer (swapping i))
  swap_unacked n i arg answer = unpassed_unacked n (stage_next layout place (Dirty i) Swap arg answer (swapping i)) (swap_unpassed i arg answer)

  pub unlock_unacked : (n x arg answer : ℕ) (g : Stage) → IsUnacked n h g → IsUnacked n h (stage_next layout place (Lock x) Store arg answer g)
  unlock_unacked n x arg answer (swapping k) u = u
  unlock_unacked n x arg answer (passing k) u = by_bool (x == k) (λ t. IsUnacked n h (if t then (if suc k == layout.harts then draining 0 else passing (suc k)) else passing k))
      (by_bool (suc k == layout.harts) (λ t. IsUnacked n h (if t then draining 0 else passing (suc k))) (inl (omega arith)) tt) tt
  unlock_unacked n x arg answer (draining k) u = u
  unlock_unacked n x arg answer (awaiting k) u = u

  -- a post at t, from n to m in the place of the last post at h
  pub post_unacked : (n m t s k arg answer : ℕ) (g : Stage) → (t ≡ h → m ≢ 0) → (t ≢ h → m ≡ n) → IsUnacked n h g → IsUnacked m h (stage_next layout place (Place t s k) Store arg answer g)
  post_unacked n m t s k arg answer (swapping zero) on off u = u
  post_unacked n m t s k arg answer (swapping (suc i)) on off u = tt
  post_unacked n m t s k arg answer (passing i) on off u = tt
  post_unacked n m t s k arg answer (awaiting i) on off u = (u.0, filled (cases_eq t h))
    where
      filled : (t ≡ h) ⊎ (t ≢ h) → m ≢ 0
      filled (inl e) = on e
      filled (inr ne) = λ z. u.1 (sym (off ne) ∙ z)
  post_unacked n m t s k arg answer (draining i) on off u = ⊎_elim here away (cases_eq t h)
    where
      here : t ≡ h → IsUnacked m h (stage_next layout place (Place t s k) Store arg answer (draining i))
      here e = by_bool ((t == i) && (request_kind arg == 3)) (λ b. IsUnacked m h (if b then (if suc i == layout.harts then awaiting 0 else draining (suc i)) else draining i))
          (by_bool (suc i == layout.harts) (λ b. IsUnacked m h (if b then awaiting 0 else draining (suc i))) (omega arith, on e) (inr (on e))) (inr (on e))

      kept : t ≢ h → (i ≤ h) ⊎ (n ≢ 0) → (i ≤ h) ⊎ (m ≢ 0)
      kept ne (inl le) = inl le
      kept ne (inr nz) = inr (λ z. nz (sym (off ne) ∙ z))

      moved_on : t ≢ h → t ≡ i → (i ≤ h) ⊎ (n ≢ 0) → IsUnacked m h (if suc i == layout.harts then awaiting 0 else draining (suc i))
      moved_on ne e (inl le) = by_test (suc i) layout.harts (λ b. IsUnacked m h (if b then awaiting 0 else draining (suc i))) (λ f. let x : suc i ≤ h = below_next i t le ne e in absurd (omega arith)) (λ _. inl (below_next i t le ne e))
      moved_on ne e (inr nz) = by_bool (suc i == layout.harts) (λ b. IsUnacked m h (if b then awaiting 0 else draining (suc i))) (omega arith, λ z. nz (sym (off ne) ∙ z)) (inr (λ z. nz (sym (off ne) ∙ z)))

      away : t ≢ h → IsUnacked m h (stage_next layout place (Place t s k) Store arg answer (draining i))
      away ne = ⊎_elim
          (λ (b : ((t == i) && (request_kind arg == 3)) ≡ true). subst (λ b. IsUnacked m h (if b then (if suc i == layout.harts then awaiting 0 else draining (suc i)) else draining i)) (sym b) (moved_on ne (eqb-true t i (and_parts (t == i) (request_kind arg == 3) b).0) u))
          (λ (b : ((t == i) && (request_kind arg == 3)) ≡ false). subst (λ b. IsUnacked m h (if b then (if suc i == layout.harts then awaiting 0 else draining (suc i)) else draining i)) (sym b) (kept ne u))
          (cases_Bool ((t == i) && (request_kind arg == 3)))

  pub poll_unacked : (n t s k arg answer : ℕ) (g : Stage) → (t ≡ h → k ≡ place h → answer ≡ n) → IsUnacked n h g → IsUnacked n h (stage_next layout place (Place t s k) Load arg answer g)
  poll_unacked n t s k arg zero (swapping i) answer_or_zero u = u
  poll_unacked n t s k arg zero (passing i) answer_or_zero u = u
  poll_unacked n t s k arg zero (draining i) answer_or_zero u = u
  poll_unacked n t s k arg zero (awaiting i) answer_or_zero u = ⊎_elim
      (λ (b : ((t == i) && (k == place i)) ≡ true). subst (λ b. IsUnacked n h (if b then (if suc i == layout.harts then swapping 0 else awaiting (suc i)) else awaiting i)) (sym b)
      (let q = and_parts (t == i) (k == place i) b in moved_on (eqb-true t i q.0) (eqb-true k (place i) q.1)))
      (λ (b : ((t == i) && (k == place i)) ≡ false). subst (λ b. IsUnacked n h (if b then (if suc i == layout.harts then swapping 0 else awaiting (suc i)) else awaiting i)) (sym b) u)
      (cases_Bool ((t == i) && (k == place i)))
    where
      moved_on : t ≡ i → k ≡ place i → IsUnacked n h (if suc i == layout.harts then swapping 0 else awaiting (suc i))
      moved_on e f = let ne : t ≢ h = (λ d. u.1 (sym (answer_or_zero d (f ∙ ap place (sym e ∙ d))))) in let x : suc i ≤ h = below_next i t u.0 ne e in
          by_test (suc i) layout.harts (λ b. IsUnacked n h (if b then swapping 0 else awaiting (suc i))) (λ c. absurd (omega arith)) (λ _. (x, u.1))
  poll_unacked n t s k arg (suc m) g answer_or_zero u = u

pub place_parts : {t s k u v l : ℕ} → Place t s k ≡ Place u v l → (t ≡ u) × (s ≡ v)
place_parts e = (cc, cc)

pub marked_set : (n arg p i : ℕ) → is_mark p i arg ≡ true → is_set (if p / 64 == i then bit_or n arg else n) p ≡ true
marked_set n arg p i e = let q = and_parts (i == p / 64) (is_set arg p) e in
    subst (λ b. is_set (if b then bit_or n arg else n) p ≡ true) (sym (eq-eqb (p / 64) i (sym (eqb-true i (p / 64) q.0)))) (set_by n arg p q.1)

module _ (layout : Layout) (few : layout.harts ≤ most_harts) (c : ℕ) (runs : Bool) (r : List Step) where
  pub hart_apart : c < layout.harts → c ≡ monitor → ⊥
  hart_apart l e = omega arith

  fine_here : (words : Word → ℕ) (h p : ℕ) (w : Word) (op : WordOp) (arg answer : ℕ) → h < layout.harts → ActorMay layout c runs r w op arg → answer ≡ answer_of op (words w)
      → (w ≡ Lock h → op ≡ Store → ⊥) → IsFine layout words r h p
      → IsOn (value_next (Dirty (p / 64)) w op (words (Dirty (p / 64))) arg) p (is_taken_next p w op arg answer (is_taken p r)) (IsUnpassed h (stage_next layout (λ t. last_place t r) w op arg answer (stage layout r)))
  fine_here words h p w op arg answer l (take {i} z at) e off old = take_keeps (words (Dirty (p / 64))) p i answer (is_taken p r) (IsUnpassed h (stage layout r)) (IsUnpassed h (stage_next layout (λ t. last_place t r) (Dirty i) Swap 0 answer (stage layout r)))
      (λ d. e ∙ ap (λ x. words (Dirty x)) (sym d)) (λ o z. subst (IsUnpassed h) (at ∙ ap (λ x. swapping x) z) o)
      (subst (λ g. IsUnpassed h (stage_next layout (λ t. last_place t r) (Dirty i) Swap 0 answer g)) (sym at) (swap_unpassed layout (λ t. last_place t r) h l i 0 answer)) old
  fine_here words h p w op arg answer l (mark {i} x y a b) e off old = mark_keeps (words (Dirty (p / 64))) arg p i (is_taken p r) (IsUnpassed h (stage layout r)) old
  fine_here words h p w op arg answer l (unlock {h = x} q d sw) e off old = on_map (words (Dirty (p / 64))) p (is_taken p r) (unlock_unpassed layout (λ t. last_place t r) h l x 0 answer (stage layout r) (λ e. off (ap (λ y. Lock y) e) refl)) old
  fine_here words h p w op arg answer l (post {t} {q} {k} x y a b d) e off old = on_map (words (Dirty (p / 64))) p (is_taken p r) (place_unpassed layout (λ t. last_place t r) h l t c k q answer (stage layout r)) old
  fine_here words h p w op arg answer l (ack {s} {q} {k} x y a b d z v) e off old = on_map (words (Dirty (p / 64))) p (is_taken p r) (place_unpassed layout (λ t. last_place t r) h l c s k 0 answer (stage layout r)) old
  fine_here words h p w op arg answer l (poll {t} {k} x) e off old = on_map (words (Dirty (p / 64))) p (is_taken p r) (poll_unpassed layout (λ t. last_place t r) h l t c k arg answer (stage layout r)) old
  fine_here words h p w op arg answer l (fetch {s} {k} x y a b) e off old = on_map (words (Dirty (p / 64))) p (is_taken p r) (poll_unpassed layout (λ t. last_place t r) h l c s k arg answer (stage layout r)) old
  fine_here words h p w op arg answer l m e off old = old

  pub fine_else : (n p : ℕ) (b : Bool) (More : Type 0) (w : Word) (op : WordOp) (arg : ℕ) → c ≢ monitor → ActorMay layout c runs r w op arg → IsOn n p b More → IsOn (value_next (Dirty (p / 64)) w op n arg) p b More
  fine_else n p b More w op arg ne (take z at) old = absurd (ne z)
  fine_else n p b More w op arg ne (mark {i} x y a d) old = mark_keeps n arg p i b More old
  fine_else n p b More w op arg ne m old = old

  safe_here : (words : Word → ℕ) (h p : ℕ) (w : Word) (op : WordOp) (arg answer : ℕ) → c ≡ monitor → h < layout.harts → ActorMay layout c runs r w op arg → answer ≡ answer_of op (words w) → IsSafe layout words r h p
      → IsOn (value_next (Dirty (p / 64)) w op (words (Dirty (p / 64))) arg) p (is_taken_next p w op arg answer (is_taken p r))
      (IsUnacked (value_next (Place h monitor (last_place_next h w op arg answer (last_place h r))) w op (words (Place h monitor (last_place_next h w op arg answer (last_place h r)))) arg) h (stage_next layout (λ t. last_place t r) w op arg answer (stage layout r)))
  safe_here words h p w op arg answer z l (take {i} z' at) e old = let v : ℕ = words (Place h monitor (last_place h r)) in
      take_keeps (words (Dirty (p / 64))) p i answer (is_taken p r) (IsUnacked v h (stage layout r)) (IsUnacked v h (stage_next layout (λ t. last_place t r) (Dirty i) Swap 0 answer (stage layout r)))
      (λ d. e ∙ ap (λ x. words (Dirty x)) (sym d)) (λ o z. subst (IsUnacked v h) (at ∙ ap (λ x. swapping x) z) o)
      (subst (λ g. IsUnacked v h (stage_next layout (λ t. last_place t r) (Dirty i) Swap 0 answer g)) (sym at) (swap_unacked layout (λ t. last_place t r) h l v i 0 answer)) old
  safe_here words h p w op arg answer z l (mark {i} x y a b) e old = mark_keeps (words (Dirty (p / 64))) arg p i (is_taken p r) (IsUnacked (words (Place h monitor (last_place h r))) h (stage layout r)) old
  safe_here words h p w op arg answer z l (unlock {h = x} q d sw) e old = on_map (words (Dirty (p / 64))) p (is_taken p r) (unlock_unacked layout (λ t. last_place t r) h l (words (Place h monitor (last_place h r))) x 0 answer (stage layout r)) old
  safe_here words h p w op arg answer z l (post {t} {q} {k} x y a b d) e old = on_map (words (Dirty (p / 64))) p (is_taken p r)
      (post_unacked layout (λ t. last_place t r) h l (words (Place h monitor (last_place h r))) (value_next (Place h monitor (if h == t then k else last_place h r)) (Place t c k) Store (words (Place h monitor (if h == t then k else last_place h r))) q) t c k q answer (stage layout r) on out) old
    where
      on : t ≡ h → value_next (Place h monitor (if h == t then k else last_place h r)) (Place t c k) Store (words (Place h monitor (if h == t then k else last_place h r))) q ≢ 0
      on e f = asking q b (sym (by_test h t (λ b. value_next (Place h monitor (if b then k else last_place h r)) (Place t c k) Store (words (Place h monitor (if b then k else last_place h r))) q ≡ q)
          (λ g. ap (λ v. value_next v (Place t c k) Store (words (Place h monitor k)) q) (λ i. Place (g i) (sym z i) k) ∙ moved_here (Place t c k) Store (words (Place h monitor k)) q) (λ ne. absurd (ne (sym e)))) ∙ f)

      out : t ≢ h → value_next (Place h monitor (if h == t then k else last_place h r)) (Place t c k) Store (words (Place h monitor (if h == t then k else last_place h r))) q ≡ words (Place h monitor (last_place h r))
      out ne = by_test h t (λ b. value_next (Place h monitor (if b then k else last_place h r)) (Place t c k) Store (words (Place h monitor (if b then k else last_place h r))) q ≡ words (Place h monitor (last_place h r)))
          (λ g. absurd (ne (sym g))) (λ g. moved_away (Place h monitor (last_place h r)) (Place t c k) Store (words (Place h monitor (last_place h r))) q (ap (λ b. b && ((monitor == c) && (last_place h r == k))) (ne_eqb h t g)))
  safe_here words h p w op arg answer z l (ack x y a b d u v) e old = absurd (hart_apart y z)
  safe_here words h p w op arg answer z l (poll {t} {k} x) e old = on_map (words (Dirty (p / 64))) p (is_taken p r)
      (poll_unacked layout (λ t. last_place t r) h l (words (Place h monitor (last_place h r))) t c k arg answer (stage layout r) (λ d f. e ∙ (λ i. words (Place (d i) (z i) (f i))))) old
  safe_here words h p w op arg answer z l (fetch x y a b) e old = absurd (hart_apart y z)
  safe_here words h p w op arg answer z l m e old = old

  safe_else : (h lp v n p : ℕ) (b : Bool) (g : Stage) (w : Word) (op : WordOp) (arg : ℕ) → c ≢ monitor → ActorMay layout c runs r w op arg → ((s k : ℕ) → w ≡ Place h s k → op ≡ Store → c ≡ h → ⊥)
      → IsOn n p b (IsUnacked v h g) → IsOn (value_next (Dirty (p / 64)) w op n arg) p b (IsUnacked (value_next (Place h monitor lp) w op v arg) h g)
  safe_else h lp v n p b g w op arg ne (take z at) off old = absurd (ne z)
  safe_else h lp v n p b g w op arg ne (mark {i} x y a d) off old = mark_keeps n arg p i b (IsUnacked v h g) old
  safe_else h lp v n p b g w op arg ne (post {t} {q} {k} x y a f d) off old = by_same (Place h monitor lp) (Place t c k) (λ t. IsOn n p b (IsUnacked (if t then q else v) h g)) (λ e. absurd (ne (sym (place_parts e).1))) old
  safe_else h lp v n p b g w op arg ne (ack {s} {q} {k} x y a f d u z) off old = by_same (Place h monitor lp) (Place c s k) (λ t. IsOn n p b (IsUnacked (if t then 0 else v) h g))
      (λ e. absurd (off s k (ap (λ x. Place x s k) (sym (place_parts e).0)) refl (sym (place_parts e).0))) old
  safe_else h lp v n p b g w op arg ne m off old = old

  -- a WRITE word of another hart with bits 0 and 1 clear had them clear before, and bit 1 stays set
  write_else : (h j n : ℕ) (w : Word) (op : WordOp) (arg : ℕ) → h ≢ c → ActorMay layout c runs r w op arg → value_next (Tlb h j Write) w op n arg % 4 ≡ 0 → n % 4 ≡ 0
  write_else h j n w op arg ne (put_compare {j = k} {f = g} x y z u) k' = by_same (Tlb h j Write) (Tlb c k g) (λ t. (if t then arg else n) % 4 ≡ 0 → n % 4 ≡ 0) (λ e. absurd (ne (tlb_parts e).0)) (λ e. e) k'
  write_else h j n w op arg ne (put_page {j = k} x y z) k' = by_same (Tlb h j Write) (Tlb c k Page) (λ t. (if t then arg else n) % 4 ≡ 0 → n % 4 ≡ 0) (λ e. absurd (ne (tlb_parts e).0)) (λ e. e) k'
  write_else h j n w op arg ne (clear_clean {j = k} x y) k' = by_same (Tlb h j Write) (Tlb c k Write) (λ t. (if t then bit_and n 18446744073709551613 else n) % 4 ≡ 0 → n % 4 ≡ 0) (λ e. absurd (ne (tlb_parts e).0)) (λ e. e) k'
  write_else h j n w op arg ne (set_clean {h = x} {j = k} y z) k' = by_bool (same (Tlb h j Write) (Tlb x k Write)) (λ t. (if t then bit_or n 2 else n) % 4 ≡ 0 → n % 4 ≡ 0)
      (λ e. let d : bit_or n 2 / 2 ≡ bit_or (n / 2) 1 = or_shr n 2 1 in let f : bit_or (n / 2) 1 % 2 ≡ 1 = or_right_one (n / 2) 1 refl in absurd (omega arith)) (λ e. e) k'
  write_else h j n w op arg ne m k' = k'

  ored_else : (h j n : ℕ) (w : Word) (op : WordOp) (arg : ℕ) → h ≢ c → ActorMay layout c runs r w op arg → n / 2 % 2 ≡ 1 → value_next (Tlb h j Write) w op n arg / 2 % 2 ≡ 1
  ored_else h j n w op arg ne (put_compare {j = k} {f = g} x y z u) old = by_same (Tlb h j Write) (Tlb c k g) (λ t. (if t then arg else n) / 2 % 2 ≡ 1) (λ e. absurd (ne (tlb_parts e).0)) old
  ored_else h j n w op arg ne (put_page {j = k} x y z) old = by_same (Tlb h j Write) (Tlb c k Page) (λ t. (if t then arg else n) / 2 % 2 ≡ 1) (λ e. absurd (ne (tlb_parts e).0)) old
  ored_else h j n w op arg ne (clear_clean {j = k} x y) old = by_same (Tlb h j Write) (Tlb c k Write) (λ t. (if t then bit_and n 18446744073709551613 else n) / 2 % 2 ≡ 1) (λ e. absurd (ne (tlb_parts e).0)) old
  ored_else h j n w op arg ne (set_clean {h = x} {j = k} y z) old = by_bool (same (Tlb h j Write) (Tlb x k Write)) (λ t. (if t then bit_or n 2 else n) / 2 % 2 ≡ 1) (or_two n) old
    where
      or_two : (n : ℕ) → bit_or n 2 / 2 % 2 ≡ 1
      or_two n = let d : bit_or n 2 / 2 ≡ bit_or (n / 2) 1 = or_shr n 2 1 in let f : bit_or (n / 2) 1 % 2 ≡ 1 = or_right_one (n / 2) 1 refl in ap (λ x. x % 2) d ∙ f
  ored_else h j n w op arg ne m old = old

  -- the hart's own steps while the monitor holds its lock
  ored_own : (j n : ℕ) (w : Word) (op : WordOp) (arg : ℕ) → (held_lock r ≡ suc c → ⊥) → c ≢ monitor → ActorMay layout c runs r w op arg → n / 2 % 2 ≡ 1 → value_next (Tlb c j Write) w op n arg / 2 % 2 ≡ 1
  ored_own j n w op arg out ne (put_compare x y z u) old = absurd (out x)
  ored_own j n w op arg out ne (put_page x y z) old = absurd (out x)
  ored_own j n w op arg out ne (clear_clean x y) old = absurd (out x)
  ored_own j n w op arg out ne (set_clean x y) old = absurd (ne x)
  ored_own j n w op arg out ne m old = old

  ored_here : (h j n : ℕ) (w : Word) (op : WordOp) (arg answer : ℕ) → h ≢ c → ActorMay layout c runs r w op arg → (held_lock r ≡ suc h → is_ored h j r ≡ true → n / 2 % 2 ≡ 1)
      → held_lock_next w op arg answer (held_lock r) ≡ suc h → is_ored_next h j w op arg answer (is_ored h j r) ≡ true → value_next (Tlb h j Write) w op n arg / 2 % 2 ≡ 1
  ored_here h j n w op arg answer ne (lock_own x y) old a b = absurd (true≢false (sym b))
  ored_here h j n w op arg answer ne (lock_other x y z u) old a b = absurd (true≢false (sym b))
  ored_here h j n w op arg answer ne (unlock x y z) old a b = absurd (true≢false (sym b))
  ored_here h j n w op arg answer ne (set_clean {h = x} {j = k} y z) old a b = by_bool (same (Tlb h j Write) (Tlb x k Write)) (λ t. (if t then true else is_ored h j r) ≡ true → (if t then bit_or n 2 else n) / 2 % 2 ≡ 1)
      (λ _. let d : bit_or n 2 / 2 ≡ bit_or (n / 2) 1 = or_shr n 2 1 in let f : bit_or (n / 2) 1 % 2 ≡ 1 = or_right_one (n / 2) 1 refl in ap (λ x. x % 2) d ∙ f) (λ e. old a e) b
  ored_here h j n w op arg answer ne (put_compare x y z u) old a b = ored_else h j n w op arg ne (put_compare x y z u) (old a b)
  ored_here h j n w op arg answer ne (put_page x y z) old a b = ored_else h j n w op arg ne (put_page x y z) (old a b)
  ored_here h j n w op arg answer ne (clear_clean x y) old a b = ored_else h j n w op arg ne (clear_clean x y) (old a b)
  ored_here h j n w op arg answer ne m old a b = old a b

  some_same : {x y : ℕ} → Some x ≡ Some y → x ≡ y
  some_same e = cc

  none_is : {n : ℕ} {A : Type 0} → None ≡ Some n → A
  none_is e = absurd (cc)

  sized_here : (words : Word → ℕ) (h n z : ℕ) (w : Word) (op : WordOp) (arg answer : ℕ) → ActorMay layout c runs r w op arg → answer ≡ answer_of op (words w) → words (Size h) ≡ z → (held_lock r ≡ suc h → seen_size h r ≡ Some n → z ≡ n)
      → held_lock_next w op arg answer (held_lock r) ≡ suc h → seen_size_next h w op arg answer (seen_size h r) ≡ Some n → z ≡ n
  sized_here words h n z w op arg answer (lock_own x y) e at old a b = none_is b
  sized_here words h n z w op arg answer (lock_other x y u v) e at old a b = none_is b
  sized_here words h n z w op arg answer (unlock x y u) e at old a b = none_is b
  sized_here words h n z w op arg answer (load_other_size {h = x} y u) e at old a b = by_test h x (λ t. (if t then Some answer else seen_size h r) ≡ Some n → z ≡ n)
      (λ d f. sym at ∙ ap (λ y. words (Size y)) d ∙ sym e ∙ some_same f) (λ _. old a) b
  sized_here words h n z w op arg answer (load_size y) e at old a b = by_test h c (λ t. (if t then Some answer else seen_size h r) ≡ Some n → z ≡ n)
      (λ d f. sym at ∙ ap (λ y. words (Size y)) d ∙ sym e ∙ some_same f) (λ _. old a) b
  sized_here words h n z w op arg answer m e at old a b = old a b

  sized_own : (w : Word) (op : WordOp) (arg answer z : ℕ) → (held_lock r ≡ suc c → ⊥) → ActorMay layout c runs r w op arg → table_next (Size c) w op arg answer z ≡ z
  sized_own w op arg answer z out (put_size x y) = absurd (out x)
  sized_own w op arg answer z out m = refl

  unlocks : (h : ℕ) (w : Word) (op : WordOp) (arg : ℕ) → ActorMay layout c runs r w op arg → w ≡ Lock h → op ≡ Store → held_lock r ≡ suc h
  unlocks h w op arg (unlock {h = x} q d sw) e f = q ∙ ap (λ n. suc n) (same_lock e)
    where
      same_lock : {x y : ℕ} → Lock x ≡ Lock y → x ≡ y
      same_lock e = cc
  unlocks h w op arg (lock_own x y) e f = absurd (cc)
  unlocks h w op arg (lock_other x y z u) e f = absurd (cc)
  unlocks h w op arg m e f = absurd (cc)

  off_ram : (v : Word) (i : ℕ) (op : WordOp) (arg answer : ℕ) (b : Bool) → same v (Ram i) ≡ false → is_stored_next v (Ram i) op arg answer b ≡ b
  off_ram v i Store arg answer b e = ap (λ (t : Bool). if t then true else b) e
  off_ram v i op arg answer b e = refl

  off_ipi : (v : Word) (op : WordOp) (arg answer : ℕ) (b : Bool) → same v Ipi ≡ false → is_stored_next v Ipi op arg answer b ≡ b
  off_ipi v Store arg answer b e = ap (λ (t : Bool). if t then true else b) e
  off_ipi v op arg answer b e = refl

  abbrev IsBlank : (was : Bool) (boot write page : ℕ) → Type 0
  IsBlank was boot write page = (was ≡ false) × (boot ≡ 0) → (write ≡ 0) × (page ≡ 0)

  blank_here : (j : ℕ) (w : Word) (op : WordOp) (arg answer : ℕ) → ActorMay layout c runs r w op arg
      → IsBlank (is_stored (Tlb c j Write) r) (boot_entry j Write) (table_word (Tlb c j Write) r) (table_word (Tlb c j Page) r)
      → IsBlank (is_stored_next (Tlb c j Write) w op arg answer (is_stored (Tlb c j Write) r)) (boot_entry j Write) (table_next (Tlb c j Write) w op arg answer (table_word (Tlb c j Write) r)) (table_next (Tlb c j Page) w op arg answer (table_word (Tlb c j Page) r))
  blank_here j w op arg answer (put_compare {j = k} {f = g} x y z u) old = by_same (Tlb c j Write) (Tlb c k g)
      (λ t. IsBlank (if t then true else is_stored (Tlb c j Write) r) (boot_entry j Write) (if t then arg else table_word (Tlb c j Write) r) (if same (Tlb c j Page) (Tlb c k g) then arg else table_word (Tlb c j Page) r))
      (λ _ e. absurd (true≢false e.0))
      (λ e. let f = old e in (f.0, by_same (Tlb c j Page) (Tlb c k g) (λ t. (if t then arg else table_word (Tlb c j Page) r) ≡ 0) (λ d. absurd (true≢false (sym y ∙ ap is_compare (sym (tlb_parts d).2)))) f.1))
  blank_here j w op arg answer (put_page {j = k} x y z) old = by_same (Tlb c j Page) (Tlb c k Page)
      (λ t. IsBlank (if same (Tlb c j Write) (Tlb c k Page) then true else is_stored (Tlb c j Write) r) (boot_entry j Write) (if same (Tlb c j Write) (Tlb c k Page) then arg else table_word (Tlb c j Write) r) (if t then arg else table_word (Tlb c j Page) r))
      (λ d. apart (λ b e. let f = old e in absurd (one (table_word (Tlb c k Write) r) (ap (λ i. table_word (Tlb c i Write) r) (sym (tlb_parts d).1) ∙ f.0) z)))
      (apart (λ b e. old e))
    where
      one : (n : ℕ) → n ≡ 0 → invalid_bit n ≡ 1 → ⊥
      one n e f = omega (arith, e, f)

      apart : {P : ℕ} → ((b : Bool) → IsBlank (is_stored (Tlb c j Write) r) (boot_entry j Write) (table_word (Tlb c j Write) r) P)
          → IsBlank (if same (Tlb c j Write) (Tlb c k Page) then true else is_stored (Tlb c j Write) r) (boot_entry j Write) (if same (Tlb c j Write) (Tlb c k Page) then arg else table_word (Tlb c j Write) r) P
      apart {P} f = by_same (Tlb c j Write) (Tlb c k Page) (λ t. IsBlank (if t then true else is_stored (Tlb c j Write) r) (boot_entry j Write) (if t then arg else table_word (Tlb c j Write) r) P)
          (λ d. absurd (write_page (tlb_parts d).2)) (f true)
        where
          write_page : Write ≡ Page → ⊥
          write_page e = cc
  blank_here j w op arg answer (write_ram {i} x m) old = subst (λ b. IsBlank b (boot_entry j Write) (table_word (Tlb c j Write) r) (table_word (Tlb c j Page) r)) (sym (off_ram (Tlb c j Write) i op arg answer (is_stored (Tlb c j Write) r) refl)) old
  blank_here j w op arg answer (touch_ipi m) old = subst (λ b. IsBlank b (boot_entry j Write) (table_word (Tlb c j Write) r) (table_word (Tlb c j Page) r)) (sym (off_ipi (Tlb c j Write) op arg answer (is_stored (Tlb c j Write) r) refl)) old
  blank_here j w op arg answer m old = old

  -- the hart's WRITE words
  valid_here : (j p n : ℕ) (w : Word) (op : WordOp) (arg answer : ℕ) (F : Type 0) → c ≢ monitor → p < layout.pages → ActorMay layout c runs r w op arg
      → (invalid_bit (table_word (Tlb c j Write) r) ≡ 1 → n % 2 ≡ 1)
      → (is_page p (table_word (Tlb c j Page) r) ≡ true → n % 4 ≡ 0 → F)
      → (held_lock r ≡ suc c → is_known_dirty c p r ≡ true → F)
      → is_page p (table_next (Tlb c j Page) w op arg answer (table_word (Tlb c j Page) r)) ≡ true → value_next (Tlb c j Write) w op n arg % 4 ≡ 0 → F
  valid_here j p n w op arg answer F ne lp (put_compare {j = k} {f = g} x y z u) last old base page clear = by_same (Tlb c j Write) (Tlb c k g) (λ t. (if t then arg else n) % 4 ≡ 0 → F)
      (λ d e. base x (u (sym (tlb_parts d).2) e p lp (ap (λ i. is_page p (table_word (Tlb c i Page) r)) (sym (tlb_parts d).1) ∙ page_was))) (λ e. old page_was e) clear
    where
      page_was : is_page p (table_word (Tlb c j Page) r) ≡ true
      page_was = by_same (Tlb c j Page) (Tlb c k g) (λ t. is_page p (if t then arg else table_word (Tlb c j Page) r) ≡ true → is_page p (table_word (Tlb c j Page) r) ≡ true)
          (λ d. absurd (true≢false (sym y ∙ ap is_compare (sym (tlb_parts d).2)))) (λ e. e) page
  valid_here j p n w op arg answer F ne lp (put_page {j = k} x y z) last old base page clear = by_same (Tlb c j Page) (Tlb c k Page) (λ t. is_page p (if t then arg else table_word (Tlb c j Page) r) ≡ true → F)
      (λ d _. let odd : n % 2 ≡ 1 = last (ap (λ i. invalid_bit (table_word (Tlb c i Write) r)) (tlb_parts d).1 ∙ z) in absurd (omega (arith, odd, clear_was))) (λ e. old e clear_was) page
    where
      clear_was : n % 4 ≡ 0
      clear_was = by_same (Tlb c j Write) (Tlb c k Page) (λ t. (if t then arg else n) % 4 ≡ 0 → n % 4 ≡ 0) (λ d. absurd (write_page (tlb_parts d).2)) (λ e. e) clear
        where
          write_page : Write ≡ Page → ⊥
          write_page e = cc
  valid_here j p n w op arg answer F ne lp (clear_clean {j = k} x u) last old base page clear = by_same (Tlb c j Write) (Tlb c k Write) (λ t. (if t then bit_and n 18446744073709551613 else n) % 4 ≡ 0 → F)
      (λ d e. base x (u p lp (ap (λ i. is_page p (table_word (Tlb c i Page) r)) (sym (tlb_parts d).1) ∙ page))) (λ e. old page e) clear
  valid_here j p n w op arg answer F ne lp (set_clean x y) last old base page clear = absurd (ne x)
  valid_here j p n w op arg answer F ne lp m last old base page clear = old page clear

  on_set : (n p : ℕ) (b : Bool) (More : Type 0) → is_set n p ≡ true → IsOn n p b More
  on_set n p b More e = inl e

  -- marks made in the open lock section, and words loaded in it
  base_here : (p n : ℕ) (b : Bool) (More : Type 0) (w : Word) (op : WordOp) (arg answer : ℕ) → c ≢ monitor → ActorMay layout c runs r w op arg
      → ((j : ℕ) → w ≡ Tlb c j Write → op ≡ Load → is_page p (table_word (Tlb c j Page) r) ≡ true → answer % 4 ≡ 0 → IsOn n p b More)
      → (held_lock r ≡ suc c → is_known_dirty c p r ≡ true → IsOn n p b More)
      → held_lock_next w op arg answer (held_lock r) ≡ suc c → is_known_dirty_next c p (λ j. table_word (Tlb c j Page) r) w op arg answer (is_known_dirty c p r) ≡ true → IsOn (value_next (Dirty (p / 64)) w op n arg) p b More
  base_here p n b More w op arg answer ne (lock_own x y) seen old k l = absurd (true≢false (sym l))
  base_here p n b More w op arg answer ne (lock_other x y z u) seen old k l = absurd (true≢false (sym l))
  base_here p n b More w op arg answer ne (unlock x y z) seen old k l = absurd (true≢false (sym l))
  base_here p n b More w op arg answer ne (take z at) seen old k l = absurd (ne z)
  base_here p n b More w op arg answer ne (mark {i} x y a d) seen old k l = ⊎_elim
      (λ (e : is_mark p i arg ≡ true). on_set (if p / 64 == i then bit_or n arg else n) p b More (marked_set n arg p i e))
      (λ (e : is_mark p i arg ≡ false). mark_keeps n arg p i b More (old k (sym (ap (λ (t : Bool). if t then true else is_known_dirty c p r) e) ∙ l)))
      (cases_Bool (is_mark p i arg))
  base_here p n b More w op arg answer ne (load_slot {j} {f = Write} x) seen old k l = ⊎_elim
      (λ (e : (is_page p (table_word (Tlb c j Page) r) && is_clear answer) ≡ true). let q = and_parts (is_page p (table_word (Tlb c j Page) r)) (is_clear answer) e in seen j refl refl q.0 (eqb-true (answer % 4) 0 q.1))
      (λ (e : (is_page p (table_word (Tlb c j Page) r) && is_clear answer) ≡ false). old k (sym (ap (λ (t : Bool). if t then true else is_known_dirty c p r) e) ∙ l))
      (cases_Bool (is_page p (table_word (Tlb c j Page) r) && is_clear answer))
  base_here p n b More w op arg answer ne (load_slot {f = Read} x) seen old k l = old k l
  base_here p n b More w op arg answer ne (load_slot {f = Code} x) seen old k l = old k l
  base_here p n b More w op arg answer ne (load_slot {f = Page} x) seen old k l = old k l
  base_here p n b More w op arg answer ne m seen old k l = old k l

  -- the pages that the hart is armed for
  arm_here : (h lp v p n : ℕ) (b : Bool) (g : Stage) (w : Word) (op : WordOp) (arg answer : ℕ) → h ≡ c → c ≢ monitor → ActorMay layout c runs r w op arg
      → ((j : ℕ) → w ≡ Tlb c j Write → op ≡ Load → is_page p (table_word (Tlb c j Page) r) ≡ true → answer % 4 ≡ 0 → IsOn n p b (IsUnacked v h g))
      → (is_armed c p r ≡ true → IsOn n p b (IsUnacked v h g))
      → is_armed_next c p (λ j. table_word (Tlb c j Page) r) w op arg answer (is_armed c p r) ≡ true
      → IsOn (value_next (Dirty (p / 64)) w op n arg) p b (IsUnacked (value_next (Place h monitor lp) w op v arg) h g)
  arm_here h lp v p n b g w op arg answer is ne (take z at) seen old l = absurd (ne z)
  arm_here h lp v p n b g w op arg answer is ne load_stop seen old l = absurd (true≢false (sym l))
  arm_here h lp v p n b g w op arg answer is ne (ack {s} {q} {k} x y a f d u z) seen old l = by_test c c (λ t. (if t then false else is_armed c p r) ≡ true → IsOn n p b (IsUnacked (value_next (Place h monitor lp) (Place c s k) Store v 0) h g)) (λ _ e. absurd (true≢false (sym e))) (λ no'. absurd (no' refl)) l
  arm_here h lp v p n b g w op arg answer is ne (post {t} {q} {k} x y a f d) seen old l = safe_else h lp v n p b g (Place t c k) Store q ne (post x y a f d) (λ s z e _ m. x (place_first e ∙ is))
      (old (sym (ap (λ (t : Bool). if t then false else is_armed c p r) (ne_eqb t c x)) ∙ l))
    where
      place_first : {s z : ℕ} → Place t c k ≡ Place h s z → t ≡ h
      place_first e = cc
  arm_here h lp v p n b g w op arg answer is ne (mark {i} x y a d) seen old l = ⊎_elim
      (λ (e : is_mark p i arg ≡ true). on_set (if p / 64 == i then bit_or n arg else n) p b (IsUnacked v h g) (marked_set n arg p i e))
      (λ (e : is_mark p i arg ≡ false). mark_keeps n arg p i b (IsUnacked v h g) (old (sym (ap (λ (t : Bool). if t then true else is_armed c p r) e) ∙ l)))
      (cases_Bool (is_mark p i arg))
  arm_here h lp v p n b g w op arg answer is ne (load_slot {j} {f = Write} x) seen old l = ⊎_elim
      (λ (e : (is_page p (table_word (Tlb c j Page) r) && is_clear answer) ≡ true). let q = and_parts (is_page p (table_word (Tlb c j Page) r)) (is_clear answer) e in seen j refl refl q.0 (eqb-true (answer % 4) 0 q.1))
      (λ (e : (is_page p (table_word (Tlb c j Page) r) && is_clear answer) ≡ false). old (sym (ap (λ (t : Bool). if t then true else is_armed c p r) e) ∙ l))
      (cases_Bool (is_page p (table_word (Tlb c j Page) r) && is_clear answer))
  arm_here h lp v p n b g w op arg answer is ne (load_slot {f = Read} x) seen old l = old l
  arm_here h lp v p n b g w op arg answer is ne (load_slot {f = Code} x) seen old l = old l
  arm_here h lp v p n b g w op arg answer is ne (load_slot {f = Page} x) seen old l = old l
  arm_here h lp v p n b g w op arg answer is ne m seen old l = old l

  same_locks : {x y : ℕ} → Lock x ≡ Lock y → x ≡ y
  same_locks e = cc

  -- at the end of the monitor's lock section of h no WRITE word is left that the fact is about
  fine_pass : (words : Word → ℕ) (h p : ℕ) (w : Word) (op : WordOp) (arg answer : ℕ) → h < layout.harts → h ≢ c → ActorMay layout c runs r w op arg → answer ≡ answer_of op (words w)
      → (held_lock r ≡ suc h → IsSwept h r → ⊥) → IsFine layout words r h p
      → IsOn (value_next (Dirty (p / 64)) w op (words (Dirty (p / 64))) arg) p (is_taken_next p w op arg answer (is_taken p r)) (IsUnpassed h (stage_next layout (λ t. last_place t r) w op arg answer (stage layout r)))
  fine_pass words h p w op arg answer l ne (unlock {h = x} q d sw) e out old = ⊎_elim
      (λ (f : x ≡ h). absurd (out (q ∙ ap (λ n. suc n) f) (subst (λ y. IsSwept y r) f (sw (λ g. ne (sym f ∙ g))))))
      (λ (f : x ≢ h). fine_here words h p w op arg answer l (unlock q d sw) e (λ g _. f (same_locks g)) old)
      (cases_eq x h)
  fine_pass words h p w op arg answer l ne (lock_own x y) e out old = fine_here words h p w op arg answer l (lock_own x y) e (λ g o. absurd (cc)) old
  fine_pass words h p w op arg answer l ne (lock_other x y z u) e out old = fine_here words h p w op arg answer l (lock_other x y z u) e (λ g o. absurd (cc)) old
  fine_pass words h p w op arg answer l ne m e out old = fine_here words h p w op arg answer l m e (λ g o. absurd (cc)) old

not_page : (p n : ℕ) → n ≡ 0 → is_page p n ≡ true → ⊥
not_page p n z e = let f : n / 4096 ≡ 524288 + p = eqb-true (n / 4096) (524288 + p) e in omega (arith, f, z)

module _ (layout : Layout) (runs : ℕ → Bool) (limits : IsInLimits layout) where
  page_boot : (j : ℕ) → boot_entry j Page ≡ 0
  page_boot j = by_bool (is_first_slot j) (λ t. few t ≡ 0) refl refl
    where
      few : Bool → ℕ
      few t = if t && false then 1 else 0

  pub marks_start : (words : Word → ℕ) → IsStart layout runs words → Marks layout words (λ _. [])
  marks_start words o = record {
    ors = λ h j l k a. absurd (omega arith);
    sized = λ h n l k a. absurd (omega arith);
    blank = λ h j e. (e.1, page_boot j);
    valid = λ h j p l lp page clear. absurd (not_page p (boot_entry j Page) (page_boot j) page);
    bases = λ h p l lp k a. absurd (omega arith);
    arms = λ h p l lp a. absurd (true≢false (sym a));
  }

  off_monitor : (h : ℕ) → h < layout.harts → h ≢ monitor
  off_monitor h l e = let x = limits.harts in omega arith

  module _ (words : Word → ℕ) (own : ℕ → List Step) (t : Tables layout words own) (f : Marks layout words own) where
    clash : (h : ℕ) → h < layout.harts → held_lock (own h) ≡ suc h → held_lock (own monitor) ≡ suc h → ⊥
    clash h l a b = let x : words (Lock h) ≡ h + 1 = t.holds h h a in let y : words (Lock h) ≡ monitor + 1 = t.holds monitor h b in let z = limits.harts in omega (arith, x, y, z, l)

    clear_odd : (n : ℕ) → n % 4 ≡ 0 → n % 2 ≡ 1 → ⊥
    clear_odd n a b = omega (arith, a, b)

    clear_two : (n : ℕ) → n % 4 ≡ 0 → n / 2 % 2 ≡ 1 → ⊥
    clear_two n a b = omega (arith, a, b)

    unswept : (h j p : ℕ) → h < layout.harts → is_page p (table_word (Tlb h j Page) (own h)) ≡ true → words (Tlb h j Write) % 4 ≡ 0 → held_lock (own monitor) ≡ suc h → IsSwept h (own monitor) → ⊥
    unswept h j p l page clear hold sw = ⊎_elim
        (λ (v : is_victim j ≡ true). clear_two (words (Tlb h j Write)) clear (f.ors h j l hold (sw.2 j (inr v))))
        (λ (v : is_victim j ≡ false). ⊎_elim
        (λ (e : nat_lt j sw.0 ≡ true). clear_two (words (Tlb h j Write)) clear (f.ors h j l hold (sw.2 j (inl (ltb-true j sw.0 e)))))
        (λ (e : nat_lt j sw.0 ≡ false). let size : size_of h (own h) ≡ sw.0 = f.sized h sw.0 l hold sw.1 in let high : sw.0 ≤ j = omega (arith, ltb-false j sw.0 e) in
        out (t.swept h j Write refl v (subst (λ n. n ≤ j) (sym size) high)))
        (cases_Bool (nat_lt j sw.0)))
        (cases_Bool (is_victim j))
      where
        out : (invalid_bit (table_word (Tlb h j Write) (own h)) ≡ 1) ⊎ (is_clear_due h j Write (own h) ≡ true) ⊎ IsFresh h j Write (own h) → ⊥
        out (inl e) = clear_odd (words (Tlb h j Write)) clear ((t.last h j Write l).1 ∙ e)
        out (inr (inl e)) = true≢false (sym e ∙ t.calm h j Write refl (λ a. clash h l a hold))
        out (inr (inr e)) = not_page p (table_word (Tlb h j Page) (own h)) (f.blank h j e).1 page

    module _ (s : Step) (o : IsAct layout runs words own s) where
      seen_word : (j : ℕ) → name_of s.word ≡ Tlb s.actor j Write → s.op ≡ Load → s.answer % 4 ≡ 0 → words (Tlb s.actor j Write) % 4 ≡ 0
      seen_word j e g z = let x : s.answer ≡ words (Tlb s.actor j Write) = o.answered ∙ (λ i. answer_of (g i) (words (e i))) in sym (ap (λ n. n % 4) x) ∙ z

      step_ors : (h j : ℕ) → h < layout.harts → held_lock (put s own monitor) ≡ suc h → is_ored h j (put s own monitor) ≡ true → move s words (Tlb h j Write) / 2 % 2 ≡ 1
      step_ors h j l k a = by_two (λ h q b m. b ≡ monitor → h < layout.harts → held_lock m ≡ suc h → is_ored h j m ≡ true → move s words (Tlb h j Write) / 2 % 2 ≡ 1) h monitor s own (off_monitor h l)
          (λ off _ l k a. ored_own layout limits.harts s.actor (runs s.actor) (own s.actor) j (words (Tlb s.actor j Write)) (name_of s.word) s.op s.arg (λ e. clash s.actor l e k) off o.may (f.ors s.actor j l k a))
          (λ away z l k a. ored_here layout limits.harts s.actor (runs s.actor) (own s.actor) h j (words (Tlb h j Write)) (name_of s.word) s.op s.arg s.answer away o.may
          (λ k a. f.ors h j l (subst (λ b. held_lock (own b) ≡ suc h) z k) (subst (λ b. is_ored h j (own b) ≡ true) z a)) k a)
          (λ away off _ l k a. ored_else layout limits.harts s.actor (runs s.actor) (own s.actor) h j (words (Tlb h j Write)) (name_of s.word) s.op s.arg away o.may (f.ors h j l k a))
          refl l k a

      step_sized : (h n : ℕ) → h < layout.harts → held_lock (put s own monitor) ≡ suc h → seen_size h (put s own monitor) ≡ Some n → size_of h (put s own h) ≡ n
      step_sized h n l k a = by_two (λ h q b m. b ≡ monitor → h < layout.harts → held_lock m ≡ suc h → seen_size h m ≡ Some n → size_of h q ≡ n) h monitor s own (off_monitor h l)
          (λ off _ l k a. sized_own layout limits.harts s.actor (runs s.actor) (own s.actor) (name_of s.word) s.op s.arg s.answer (size_of s.actor (own s.actor)) (λ e. clash s.actor l e k) o.may ∙ f.sized s.actor n l k a)
          (λ away z l k a. sized_here layout limits.harts s.actor (runs s.actor) (own s.actor) words h n (size_of h (own h)) (name_of s.word) s.op s.arg s.answer o.may o.answered (t.size h l)
          (λ k a. f.sized h n l (subst (λ b. held_lock (own b) ≡ suc h) z k) (subst (λ b. seen_size h (own b) ≡ Some n) z a)) k a)
          (λ away off _ l k a. f.sized h n l k a)
          refl l k a

      step_valid : (h j p : ℕ) → h < layout.harts → p < layout.pages → is_page p (table_word (Tlb h j Page) (put s own h)) ≡ true → move s words (Tlb h j Write) % 4 ≡ 0 → IsFine layout (move s words) (put s own monitor) h p
      step_valid h j p l lp page clear = by_two (λ h q b m. b ≡ monitor → h < layout.harts → is_page p (table_word (Tlb h j Page) q) ≡ true → move s words (Tlb h j Write) % 4 ≡ 0 → IsFine layout (move s words) m h p) h monitor s own (off_monitor h l)
          (λ off _ l page clear. fine_else layout limits.harts s.actor (runs s.actor) (own s.actor) (words (Dirty (p / 64))) p (is_taken p (own monitor)) (IsUnpassed s.actor (stage layout (own monitor))) (name_of s.word) s.op s.arg off o.may
          (valid_here layout limits.harts s.actor (runs s.actor) (own s.actor) j p (words (Tlb s.actor j Write)) (name_of s.word) s.op s.arg s.answer (IsFine layout words (own monitor) s.actor p) off lp o.may
          (λ e. (t.last s.actor j Write l).1 ∙ e) (f.valid s.actor j p l lp) (f.bases s.actor p l lp) page clear))
          (λ away z l page clear. let was : words (Tlb h j Write) % 4 ≡ 0 = write_else layout limits.harts s.actor (runs s.actor) (own s.actor) h j (words (Tlb h j Write)) (name_of s.word) s.op s.arg away o.may clear in
          fine_pass layout limits.harts s.actor (runs s.actor) (own s.actor) words h p (name_of s.word) s.op s.arg s.answer l away o.may o.answered
          (λ k sw. unswept h j p l page was (subst (λ b. held_lock (own b) ≡ suc h) z k) (subst (λ b. IsSwept h (own b)) z sw))
          (subst (λ b. IsFine layout words (own b) h p) (sym z) (f.valid h j p l lp page was)))
          (λ away off _ l page clear. fine_else layout limits.harts s.actor (runs s.actor) (own s.actor) (words (Dirty (p / 64))) p (is_taken p (own monitor)) (IsUnpassed h (stage layout (own monitor))) (name_of s.word) s.op s.arg (λ e. off (sym e)) o.may
          (f.valid h j p l lp page (write_else layout limits.harts s.actor (runs s.actor) (own s.actor) h j (words (Tlb h j Write)) (name_of s.word) s.op s.arg away o.may clear)))
          refl l page clear

      step_bases : (h p : ℕ) → h < layout.harts → p < layout.pages → held_lock (put s own h) ≡ suc h → is_known_dirty h p (put s own h) ≡ true → IsFine layout (move s words) (put s own monitor) h p
      step_bases h p l lp k a = by_two (λ h q b m. b ≡ monitor → h < layout.harts → held_lock q ≡ suc h → is_known_dirty h p q ≡ true → IsFine layout (move s words) m h p) h monitor s own (off_monitor h l)
          (λ off _ l k a. base_here layout limits.harts s.actor (runs s.actor) (own s.actor) p (words (Dirty (p / 64))) (is_taken p (own monitor)) (IsUnpassed s.actor (stage layout (own monitor))) (name_of s.word) s.op s.arg s.answer off o.may
          (λ j e g page z. f.valid s.actor j p l lp page (seen_word j e g z)) (f.bases s.actor p l lp) k a)
          (λ away z l k a. fine_here layout limits.harts s.actor (runs s.actor) (own s.actor) words h p (name_of s.word) s.op s.arg s.answer l o.may o.answered
          (λ e g. clash h l k (subst (λ b. held_lock (own b) ≡ suc h) z (unlocks layout limits.harts s.actor (runs s.actor) (own s.actor) h (name_of s.word) s.op s.arg o.may e g)))
          (subst (λ b. IsFine layout words (own b) h p) (sym z) (f.bases h p l lp k a)))
          (λ away off _ l k a. fine_else layout limits.harts s.actor (runs s.actor) (own s.actor) (words (Dirty (p / 64))) p (is_taken p (own monitor)) (IsUnpassed h (stage layout (own monitor))) (name_of s.word) s.op s.arg (λ e. off (sym e)) o.may (f.bases h p l lp k a))
          refl l k a

      step_arms : (h p : ℕ) → h < layout.harts → p < layout.pages → is_armed h p (put s own h) ≡ true → IsSafe layout (move s words) (put s own monitor) h p
      step_arms h p l lp a = by_two (λ h q b m. b ≡ monitor → h < layout.harts → is_armed h p q ≡ true → IsSafe layout (move s words) m h p) h monitor s own (off_monitor h l)
          (λ off _ l a. let m : List Step = own monitor in let v : ℕ = words (Place s.actor monitor (last_place s.actor m)) in
          arm_here layout limits.harts s.actor (runs s.actor) (own s.actor) s.actor (last_place s.actor m) v p (words (Dirty (p / 64))) (is_taken p m) (stage layout m) (name_of s.word) s.op s.arg s.answer refl off o.may
          (λ j e g page z. on_map (words (Dirty (p / 64))) p (is_taken p m) (unpassed_unacked layout (λ t. last_place t m) s.actor l v (stage layout m)) (f.valid s.actor j p l lp page (seen_word j e g z)))
          (f.arms s.actor p l lp) a)
          (λ away z l a. safe_here layout limits.harts s.actor (runs s.actor) (own s.actor) words h p (name_of s.word) s.op s.arg s.answer z l o.may o.answered (subst (λ b. IsSafe layout words (own b) h p) (sym z) (f.arms h p l lp a)))
          (λ away off _ l a. let m : List Step = own monitor in safe_else layout limits.harts s.actor (runs s.actor) (own s.actor) h (last_place h m) (words (Place h monitor (last_place h m))) (words (Dirty (p / 64))) p (is_taken p m) (stage layout m)
          (name_of s.word) s.op s.arg (λ e. off (sym e)) o.may (λ _ _ _ _ e. away (sym e)) (f.arms h p l lp a))
          refl l a

      pub marks_step : Marks layout (move s words) (put s own)
      marks_step = record {
        ors = step_ors;
        sized = step_sized;
        blank = λ h j. by_put (λ h q. IsFresh h j Write q → (table_word (Tlb h j Write) q ≡ 0) × (table_word (Tlb h j Page) q ≡ 0)) h s own
            (blank_here layout limits.harts s.actor (runs s.actor) (own s.actor) j (name_of s.word) s.op s.arg s.answer o.may (f.blank s.actor j)) (λ _. f.blank h j);
        valid = step_valid;
        bases = step_bases;
        arms = step_arms;
      }

  pub marks : (h : List Step) → Woven layout runs h → IsBegun layout runs h → Tables layout (λ w. word_value w h) (acts h) × Marks layout (λ w. word_value w h) (acts h)
  marks = facts_along layout runs (λ h words own. Tables layout words own × Marks layout words own) limits
      (λ h words o _. (tables_start layout runs limits words o, marks_start words o)) (λ s h words own _ f. f)
      (λ s h words own o f. (tables_step layout runs limits s words own o f.0, marks_step words own f.0 f.1 s o))
