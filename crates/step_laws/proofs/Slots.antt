-- Locks and tables, by induction along the history.
use Rattle.std.proofs.Common.{◌≡◌, ◌≢◌, ℕ, zero, suc, ◌+◌, ◌/◌, ◌%◌, ◌^◌, ◌<◌, ◌≤◌, Bool, true, false, true≢false, List, [], refl, sym, ap, subst, ◌∙◌, inl, inr, arith, ⊎_elim}
use Rattle.std.specs.Prelude.{◌==◌, ◌⊎◌, ◌&&◌, ◌||◌, nat_lt, bit_and, bit_or, if◌then◌else◌}
use Rattle.std.proofs.lemmas.Bool.{cases_eq, cases_Bool, lt-ltb, ltb-true, ltb-false}
use Rattle.std.proofs.lemmas.Nat.{and_le_l, or_lt, and_mask, and_shr, or_shr, and_mod, or_mod}
use Rattle.std.specs.Int.Bits.{or_zero_r}
use prog.Atomic.{either}
use Rattle.step_laws.specs.Words.{most_harts}
use Rattle.step_laws.specs.declared.words.Layout.{Layout}
use Rattle.step_laws.specs.declared.map.TlbField.{TlbField}
use Rattle.step_laws.specs.declared.map.TlbField.TheVariants.{Write, Page}
use Rattle.step_laws.specs.declared.steps.Step.{Step}
use Rattle.step_laws.specs.declared.steps.WordOp.{WordOp}
use Rattle.step_laws.specs.declared.steps.WordOp.TheVariants.{Store, Exchange}
use Rattle.step_laws.specs.Layout.{IsInLimits}
use Rattle.step_laws.specs.Map.{Word, Ipi, Lock, Size, Tlb, Ram, name_of, same, loader}
use Rattle.step_laws.specs.WordValues.{word_value, value_next}
use Rattle.step_laws.specs.Steps.{own_steps, answer_of}
use Rattle.step_laws.specs.Fields.{IsSize, invalid_bit}
use Rattle.step_laws.specs.Tables.{held_lock, held_lock_next, table_word, table_next, size_of, is_clear_due, is_clear_due_next, is_compare, is_victim, is_swept, boot_entry, is_first_slot}
use Rattle.step_laws.specs.Loader.{is_stored, is_stored_next}
use Rattle.step_laws.specs.Discipline.{ActorMay, lock_own, lock_other, unlock, put_compare, put_page, put_size, clear_clean, set_clean, write_ram, touch_ipi}
use Rattle.step_laws.specs.Histories.{IsBegun}
use Rattle.step_laws.specs.TableLaws.{IsLastField, IsFresh, LockFacts, TableFacts, SlotFacts}
use Rattle.step_laws.proofs.Invariants.{Tables}
use Rattle.step_laws.proofs.Named.{by_test, by_lt}
use Rattle.step_laws.proofs.Woven.{Woven, woven, acts, acts_of, put, by_put, move, IsAct, IsStart}
use Rattle.step_laws.proofs.Along.{facts_along, by_same}
use Rattle.step_laws.proofs.Apart.{actor_off}

pub by_bool : (t : Bool) (P : Bool → Type 0) → P true → P false → P t
by_bool true P a b = a
by_bool false P a b = b

abbrev IsAlike : (last found : ℕ) → Type 0
IsAlike last found = (found / 4 ≡ last / 4) × (found % 2 ≡ last % 2)

cleared_alike : (last n : ℕ) → n < 2 ^ 64 → IsAlike last n → IsAlike last (bit_and n 18446744073709551613)
cleared_alike last n small old =
    let a : bit_and n 18446744073709551613 / 4 ≡ bit_and (n / 4) 4611686018427387903 = and_shr n 18446744073709551613 2 in
    let b : bit_and (n / 4) 4611686018427387903 ≡ n / 4 % 2 ^ 62 = and_mask (n / 4) 62 in
    let c : bit_and n 18446744073709551613 % 2 ≡ bit_and (n % 2) 1 = and_mod n 18446744073709551613 1 in
    let d : bit_and (n % 2) 1 ≡ n % 2 % 2 = and_mask (n % 2) 1 in
    let e : n / 4 % 2 ^ 62 ≡ n / 4 = omega arith in
    let g : n % 2 % 2 ≡ n % 2 = omega arith in
    (a ∙ b ∙ e ∙ old.0, c ∙ d ∙ g ∙ old.1)

marked_alike : (last n : ℕ) → IsAlike last n → IsAlike last (bit_or n 2)
marked_alike last n old =
    let a : bit_or n 2 / 4 ≡ bit_or (n / 4) 0 = or_shr n 2 2 in
    let c : bit_or n 2 % 2 ≡ bit_or (n % 2) 0 = or_mod n 2 1 in
    (a ∙ or_zero_r (n / 4) ∙ old.0, c ∙ or_zero_r (n % 2) ∙ old.1)

itself_last : (f : TlbField) (n : ℕ) → IsLastField f n n
itself_last Write n = (refl, refl)
itself_last f n = refl

pub tlb_parts : {b j : ℕ} {f : TlbField} {c k : ℕ} {g : TlbField} → Tlb b j f ≡ Tlb c k g → (b ≡ c) × (j ≡ k) × (f ≡ g)
tlb_parts e = (cc, cc, cc)

module _ (layout : Layout) (c : ℕ) (runs : Bool) (r : List Step) where
  lock_here : (words : Word → ℕ) (h : ℕ) (w : Word) (op : WordOp) (arg answer : ℕ) → ActorMay layout c runs r w op arg → answer ≡ answer_of op (words w) → (held_lock r ≡ suc h → words (Lock h) ≡ c + 1)
      → held_lock_next w op arg answer (held_lock r) ≡ suc h → value_next (Lock h) w op (words (Lock h)) arg ≡ c + 1
  lock_here words h w op arg answer (lock_own free l) e old k = go answer e k
    where
      go : (n : ℕ) → n ≡ words (Lock c) → held_lock_next (Lock c) (Exchange 0) (c + 1) n (held_lock r) ≡ suc h → value_next (Lock h) (Lock c) (Exchange 0) (words (Lock h)) (c + 1) ≡ c + 1
      go zero e k = by_test h c (λ t. (if t then either (words (Lock h) == 0) (c + 1) (words (Lock h)) else words (Lock h)) ≡ c + 1)
          (λ d. ap (λ m. either (m == 0) (c + 1) m) (ap (λ y. words (Lock y)) d ∙ sym e)) (λ ne. absurd (ne (omega arith)))
      go (suc n) e k = absurd (omega arith)
  lock_here words h w op arg answer (lock_other {h = x} free m l st) e old k = go answer e k
    where
      go : (n : ℕ) → n ≡ words (Lock x) → held_lock_next (Lock x) (Exchange 0) (c + 1) n (held_lock r) ≡ suc h → value_next (Lock h) (Lock x) (Exchange 0) (words (Lock h)) (c + 1) ≡ c + 1
      go zero e k = by_test h x (λ t. (if t then either (words (Lock h) == 0) (c + 1) (words (Lock h)) else words (Lock h)) ≡ c + 1)
          (λ d. ap (λ m. either (m == 0) (c + 1) m) (ap (λ y. words (Lock y)) d ∙ sym e)) (λ ne. absurd (ne (omega arith)))
      go (suc n) e k = absurd (omega arith)
  lock_here words h w op arg answer (unlock p d sw) e old k = absurd (omega arith)
  lock_here words h w op arg answer m e old k = old k

  lock_else : (words : Word → ℕ) (a h : ℕ) (w : Word) (op : WordOp) (arg : ℕ) → a ≢ c → ActorMay layout c runs r w op arg → ((x : ℕ) → held_lock r ≡ suc x → words (Lock x) ≡ c + 1) → words (Lock h) ≡ a + 1 → value_next (Lock h) w op (words (Lock h)) arg ≡ a + 1
  lock_else words a h w op arg ne (lock_own free l) own old = by_test h c (λ t. (if t then either (words (Lock h) == 0) (c + 1) (words (Lock h)) else words (Lock h)) ≡ a + 1)
      (λ d. by_test (words (Lock h)) 0 (λ t. either t (c + 1) (words (Lock h)) ≡ a + 1) (λ z. absurd (omega arith)) (λ _. old)) (λ _. old)
  lock_else words a h w op arg ne (lock_other {h = x} free m l st) own old = by_test h x (λ t. (if t then either (words (Lock h) == 0) (c + 1) (words (Lock h)) else words (Lock h)) ≡ a + 1)
      (λ d. by_test (words (Lock h)) 0 (λ t. either t (c + 1) (words (Lock h)) ≡ a + 1) (λ z. absurd (omega arith)) (λ _. old)) (λ _. old)
  lock_else words a h w op arg ne (unlock {h = x} p d sw) own old = by_test h x (λ t. (if t then 0 else words (Lock h)) ≡ a + 1)
      (λ e. let mine : words (Lock h) ≡ c + 1 = ap (λ y. words (Lock y)) e ∙ own x p in absurd (ne (omega arith))) (λ _. old)
  lock_else words a h w op arg ne m own old = old

  holder_here : (words : Word → ℕ) (h : ℕ) (w : Word) (op : WordOp) (arg answer : ℕ) → ActorMay layout c runs r w op arg → answer ≡ answer_of op (words w) → (words (Lock h) ≡ c + 1 → held_lock r ≡ suc h)
      → value_next (Lock h) w op (words (Lock h)) arg ≡ c + 1 → held_lock_next w op arg answer (held_lock r) ≡ suc h
  holder_here words h w op arg answer (lock_own free l) e old k = go answer e k
    where
      go : (n : ℕ) → n ≡ words (Lock c) → value_next (Lock h) (Lock c) (Exchange 0) (words (Lock h)) (c + 1) ≡ c + 1 → held_lock_next (Lock c) (Exchange 0) (c + 1) n (held_lock r) ≡ suc h
      go zero e k = by_test h c (λ t. (if t then either (words (Lock h) == 0) (c + 1) (words (Lock h)) else words (Lock h)) ≡ c + 1 → suc c ≡ suc h) (λ d _. ap (λ y. suc y) (sym d)) (λ _ k. absurd (omega (arith, old k))) k
      go (suc n) e k = by_test h c (λ t. (if t then either (words (Lock h) == 0) (c + 1) (words (Lock h)) else words (Lock h)) ≡ c + 1 → held_lock r ≡ suc h)
          (λ d. by_test (words (Lock h)) 0 (λ t. either t (c + 1) (words (Lock h)) ≡ c + 1 → held_lock r ≡ suc h) (λ z _. let i : words (Lock h) ≡ words (Lock c) = ap (λ y. words (Lock y)) d in absurd (omega arith)) (λ _. old)) (λ _. old) k
  holder_here words h w op arg answer (lock_other {h = x} free m l st) e old k = go answer e k
    where
      go : (n : ℕ) → n ≡ words (Lock x) → value_next (Lock h) (Lock x) (Exchange 0) (words (Lock h)) (c + 1) ≡ c + 1 → held_lock_next (Lock x) (Exchange 0) (c + 1) n (held_lock r) ≡ suc h
      go zero e k = by_test h x (λ t. (if t then either (words (Lock h) == 0) (c + 1) (words (Lock h)) else words (Lock h)) ≡ c + 1 → suc x ≡ suc h) (λ d _. ap (λ y. suc y) (sym d)) (λ _ k. absurd (omega (arith, old k))) k
      go (suc n) e k = by_test h x (λ t. (if t then either (words (Lock h) == 0) (c + 1) (words (Lock h)) else words (Lock h)) ≡ c + 1 → held_lock r ≡ suc h)
          (λ d. by_test (words (Lock h)) 0 (λ t. either t (c + 1) (words (Lock h)) ≡ c + 1 → held_lock r ≡ suc h) (λ z _. let i : words (Lock h) ≡ words (Lock x) = ap (λ y. words (Lock y)) d in absurd (omega arith)) (λ _. old)) (λ _. old) k
  holder_here words h w op arg answer (unlock {h = x} p d sw) e old k = by_test h x (λ t. (if t then 0 else words (Lock h)) ≡ c + 1 → 0 ≡ suc h) (λ _ k. absurd (omega arith)) (λ ne k. absurd (ne (omega (arith, old k)))) k
  holder_here words h w op arg answer m e old k = old k

  holder_else : (a h : ℕ) (w : Word) (op : WordOp) (arg n : ℕ) → a ≢ c → ActorMay layout c runs r w op arg → value_next (Lock h) w op n arg ≡ a + 1 → n ≡ a + 1
  holder_else a h w op arg n ne (lock_own free l) k = by_test h c (λ t. (if t then either (n == 0) (c + 1) n else n) ≡ a + 1 → n ≡ a + 1)
      (λ d. by_test n 0 (λ t. either t (c + 1) n ≡ a + 1 → n ≡ a + 1) (λ z e. absurd (ne (omega arith))) (λ _ e. e)) (λ _ e. e) k
  holder_else a h w op arg n ne (lock_other {h = x} free m l st) k = by_test h x (λ t. (if t then either (n == 0) (c + 1) n else n) ≡ a + 1 → n ≡ a + 1)
      (λ d. by_test n 0 (λ t. either t (c + 1) n ≡ a + 1 → n ≡ a + 1) (λ z e. absurd (ne (omega arith))) (λ _ e. e)) (λ _ e. e) k
  holder_else a h w op arg n ne (unlock {h = x} p d sw) k = by_test h x (λ t. (if t then 0 else n) ≡ a + 1 → n ≡ a + 1) (λ _ e. absurd (omega arith)) (λ _ e. e) k
  holder_else a h w op arg n ne m k = k

  bounded_step : (b j : ℕ) (f : TlbField) (w : Word) (op : WordOp) (arg n : ℕ) → ActorMay layout c runs r w op arg → arg < 2 ^ 64 → n < 2 ^ 64 → value_next (Tlb b j f) w op n arg < 2 ^ 64
  bounded_step b j f w op arg n (put_compare {j = k} {f = g} p q u mc) small old = by_bool (same (Tlb b j f) (Tlb c k g)) (λ t. (if t then arg else n) < 2 ^ 64) small old
  bounded_step b j f w op arg n (put_page {j = k} p u v) small old = by_bool (same (Tlb b j f) (Tlb c k Page)) (λ t. (if t then arg else n) < 2 ^ 64) small old
  bounded_step b j f w op arg n (clear_clean {j = k} p mc) small old = by_bool (same (Tlb b j f) (Tlb c k Write)) (λ t. (if t then bit_and n 18446744073709551613 else n) < 2 ^ 64) (omega (arith, and_le_l n 18446744073709551613)) old
  bounded_step b j f w op arg n (set_clean {h = x} {j = k} p q) small old = by_bool (same (Tlb b j f) (Tlb x k Write)) (λ t. (if t then bit_or n 2 else n) < 2 ^ 64) (or_lt 64 n 2 old (omega arith)) old
  bounded_step b j f w op arg n m small old = old

  last_here : (j : ℕ) (f : TlbField) (w : Word) (op : WordOp) (arg answer last n : ℕ) → layout.harts ≤ most_harts → c < layout.harts → ActorMay layout c runs r w op arg → n < 2 ^ 64 → IsLastField f last n
      → IsLastField f (table_next (Tlb c j f) w op arg answer last) (value_next (Tlb c j f) w op n arg)
  last_here j f w op arg answer last n few l (put_compare {j = k} {f = g} p q u mc) small old = by_bool (same (Tlb c j f) (Tlb c k g)) (λ t. IsLastField f (if t then arg else last) (if t then arg else n)) (itself_last f arg) old
  last_here j f w op arg answer last n few l (put_page {j = k} p u v) small old = by_bool (same (Tlb c j f) (Tlb c k Page)) (λ t. IsLastField f (if t then arg else last) (if t then arg else n)) (itself_last f arg) old
  last_here j f w op arg answer last n few l (clear_clean {j = k} p mc) small old = by_same (Tlb c j f) (Tlb c k Write) (λ t. IsLastField f last (if t then bit_and n 18446744073709551613 else n))
      (λ e. let g : f ≡ Write = (tlb_parts e).2 in subst (λ f. IsLastField f last (bit_and n 18446744073709551613)) (sym g) (cleared_alike last n small (subst (λ f. IsLastField f last n) g old))) old
  last_here j f w op arg answer last n few l (set_clean p q) small old = absurd (omega arith)
  last_here j f w op arg answer last n few l m small old = old

  last_else : (b j : ℕ) (f : TlbField) (w : Word) (op : WordOp) (arg last n : ℕ) → b ≢ c → ActorMay layout c runs r w op arg → IsLastField f last n → IsLastField f last (value_next (Tlb b j f) w op n arg)
  last_else b j f w op arg last n ne (put_compare {j = k} {f = g} p q u mc) old = by_same (Tlb b j f) (Tlb c k g) (λ t. IsLastField f last (if t then arg else n)) (λ e. absurd (ne (tlb_parts e).0)) old
  last_else b j f w op arg last n ne (put_page {j = k} p u v) old = by_same (Tlb b j f) (Tlb c k Page) (λ t. IsLastField f last (if t then arg else n)) (λ e. absurd (ne (tlb_parts e).0)) old
  last_else b j f w op arg last n ne (clear_clean {j = k} p mc) old = by_same (Tlb b j f) (Tlb c k Write) (λ t. IsLastField f last (if t then bit_and n 18446744073709551613 else n)) (λ e. absurd (ne (tlb_parts e).0)) old
  last_else b j f w op arg last n ne (set_clean {h = x} {j = k} p q) old = by_same (Tlb b j f) (Tlb x k Write) (λ t. IsLastField f last (if t then bit_or n 2 else n))
      (λ e. let g : f ≡ Write = (tlb_parts e).2 in subst (λ f. IsLastField f last (bit_or n 2)) (sym g) (marked_alike last n (subst (λ f. IsLastField f last n) g old))) old
  last_else b j f w op arg last n ne m old = old

  size_here : (w : Word) (op : WordOp) (arg answer last n : ℕ) → ActorMay layout c runs r w op arg → n ≡ last → value_next (Size c) w op n arg ≡ table_next (Size c) w op arg answer last
  size_here w op arg answer last n (put_size p q) old = by_bool (c == c) (λ t. (if t then arg else n) ≡ (if t then arg else last)) refl old
  size_here w op arg answer last n m old = old

  size_else : (b : ℕ) (w : Word) (op : WordOp) (arg n : ℕ) → b ≢ c → ActorMay layout c runs r w op arg → value_next (Size b) w op n arg ≡ n
  size_else b w op arg n ne (put_size p q) = by_test b c (λ t. (if t then arg else n) ≡ n) (λ e. absurd (ne e)) (λ _. refl)
  size_else b w op arg n ne m = refl

  sizes_here : (w : Word) (op : WordOp) (arg answer last : ℕ) → ActorMay layout c runs r w op arg → IsSize last → IsSize (table_next (Size c) w op arg answer last)
  sizes_here w op arg answer last (put_size p q) old = by_bool (c == c) (λ t. IsSize (if t then arg else last)) q old
  sizes_here w op arg answer last m old = old

  abbrev IsEmpty : (last : ℕ) (asked was : Bool) (boot : ℕ) → Type 0
  IsEmpty last asked was boot = (invalid_bit last ≡ 1) ⊎ (asked ≡ true) ⊎ ((was ≡ false) × (boot ≡ 0))

  or_left : (x y : Bool) → x ≡ true → (x || y) ≡ true
  or_left true y e = refl
  or_left false y e = absurd (true≢false (sym e))

  or_second : (x y : Bool) → y ≡ true → (x || y) ≡ true
  or_second true y e = refl
  or_second false y e = e

  untold : (v w : Word) (op : WordOp) (arg answer : ℕ) (b : Bool) → same v w ≡ false → is_stored_next v w op arg answer b ≡ b
  untold v w Store arg answer b e = ap (λ (t : Bool). if t then true else b) e
  untold v w op arg answer b e = refl

  swept_here : (j : ℕ) (f : TlbField) (w : Word) (op : WordOp) (arg answer : ℕ) → is_compare f ≡ true → is_victim j ≡ false → ActorMay layout c runs r w op arg
      → (size_of c r ≤ j → IsEmpty (table_word (Tlb c j f) r) (is_clear_due c j f r) (is_stored (Tlb c j f) r) (boot_entry j f))
      → table_next (Size c) w op arg answer (size_of c r) ≤ j
      → IsEmpty (table_next (Tlb c j f) w op arg answer (table_word (Tlb c j f) r)) (is_clear_due_next c j f w op arg (size_of c r) (is_clear_due c j f r)) (is_stored_next (Tlb c j f) w op arg answer (is_stored (Tlb c j f) r)) (boot_entry j f)
  swept_here j f w op arg answer cmp main (put_size p q) old k = by_test c c (λ t. IsEmpty (table_word (Tlb c j f) r) (if t then is_swept (size_of c r) arg j || is_clear_due c j f r else is_clear_due c j f r) (is_stored (Tlb c j f) r) (boot_entry j f))
      (λ _. ⊎_elim (λ (l : j < size_of c r). inr (inl (or_left (is_swept (size_of c r) arg j) (is_clear_due c j f r) (or_left (nat_lt j (size_of c r)) _ (lt-ltb j (size_of c r) l)))))
      (λ (l : size_of c r ≤ j). more (old l)) (below j (size_of c r)))
      (λ ne. absurd (ne refl))
    where
      more : IsEmpty (table_word (Tlb c j f) r) (is_clear_due c j f r) (is_stored (Tlb c j f) r) (boot_entry j f) → IsEmpty (table_word (Tlb c j f) r) (is_swept (size_of c r) arg j || is_clear_due c j f r) (is_stored (Tlb c j f) r) (boot_entry j f)
      more (inl e) = inl e
      more (inr (inl e)) = inr (inl (or_second (is_swept (size_of c r) arg j) (is_clear_due c j f r) e))
      more (inr (inr e)) = inr (inr e)

      below : (m n : ℕ) → (m < n) ⊎ (n ≤ m)
      below m n = ⊎_elim (λ (e : nat_lt m n ≡ true). inl (omega (arith, ltb-true m n e))) (λ (e : nat_lt m n ≡ false). inr (omega (arith, ltb-false m n e))) (cases_Bool (nat_lt m n))
  swept_here j f w op arg answer cmp main (put_compare {j = i} {f = g} p q u mc) old k = by_same (Tlb c j f) (Tlb c i g)
      (λ t. IsEmpty (if t then arg else table_word (Tlb c j f) r) (if t then (if arg == 1 then false else is_clear_due c j f r) else is_clear_due c j f r) (if t then true else is_stored (Tlb c j f) r) (boot_entry j f))
      (λ e. ⊎_elim (λ (v : (i < size_of c r) ⊎ (is_victim i ≡ true)). let d : j ≡ i = (tlb_parts e).1 in ⊎_elim (λ (x : i < size_of c r). absurd (omega arith)) (λ (x : is_victim i ≡ true). absurd (true≢false (sym x ∙ ap is_victim (sym d) ∙ main))) v)
      (λ (one : arg ≡ 1). inl (ap invalid_bit one)) u)
      (old k)
  swept_here j f w op arg answer cmp main (put_page {j = i} p u v) old k = by_same (Tlb c j f) (Tlb c i Page)
      (λ t. IsEmpty (if t then arg else table_word (Tlb c j f) r) (if t then (if arg == 1 then false else is_clear_due c j f r) else is_clear_due c j f r) (if t then true else is_stored (Tlb c j f) r) (boot_entry j f))
      (λ e. absurd (true≢false (sym cmp ∙ ap is_compare (tlb_parts e).2)))
      (old k)
  swept_here j f w op arg answer cmp main (write_ram {i} x m) old k = subst (λ b. IsEmpty (table_word (Tlb c j f) r) (is_clear_due c j f r) b (boot_entry j f)) (sym (untold (Tlb c j f) (Ram i) op arg answer (is_stored (Tlb c j f) r) refl)) (old k)
  swept_here j f w op arg answer cmp main (touch_ipi m) old k = subst (λ b. IsEmpty (table_word (Tlb c j f) r) (is_clear_due c j f r) b (boot_entry j f)) (sym (untold (Tlb c j f) Ipi op arg answer (is_stored (Tlb c j f) r) refl)) (old k)
  swept_here j f w op arg answer cmp main m old k = old k

  calm_here : (j : ℕ) (f : TlbField) (w : Word) (op : WordOp) (arg answer : ℕ) → is_compare f ≡ true → ActorMay layout c runs r w op arg → (held_lock r ≢ suc c → is_clear_due c j f r ≡ false)
      → held_lock_next w op arg answer (held_lock r) ≢ suc c → is_clear_due_next c j f w op arg (size_of c r) (is_clear_due c j f r) ≡ false
  calm_here j f w op arg answer cmp (put_size p q) old k = absurd (k p)
  calm_here j f w op arg answer cmp (put_compare p q u mc) old k = absurd (k p)
  calm_here j f w op arg answer cmp (put_page p u v) old k = absurd (k p)
  calm_here j f w op arg answer cmp (clear_clean p mc) old k = old k
  calm_here j f w op arg answer cmp (lock_own free l) old k = old (λ e. omega arith)
  calm_here j f w op arg answer cmp (lock_other free m l st) old k = old (λ e. omega arith)
  calm_here j f w op arg answer cmp (unlock {h = x} p d sw) old k = ⊎_elim (λ (e : x ≡ c). d e j f cmp) (λ (ne : x ≢ c). old (λ e. ne (omega arith))) (cases_eq x c)
  calm_here j f w op arg answer cmp m old k = old k

module _ (layout : Layout) (runs : ℕ → Bool) (limits : IsInLimits layout) where
  first_size : IsSize 64
  first_size = inl refl

  boot_small : (j : ℕ) (f : TlbField) → boot_entry j f < 2 ^ 64
  boot_small j f = by_bool (is_first_slot j && is_compare f) (λ t. (if t then 1 else 0) < 2 ^ 64) (omega arith) (omega arith)

  pub tables_start : (words : Word → ℕ) → IsStart layout runs words → Tables layout words (λ _. [])
  tables_start words o = record {
    holds = λ a h k. absurd (omega arith);
    holder = λ a h k. absurd (omega (arith, o.locks h));
    bounded = λ b j f l. subst (λ n. n < 2 ^ 64) (sym (o.slots b j f l)) (boot_small j f);
    last = λ b j f l. subst (IsLastField f (boot_entry j f)) (sym (o.slots b j f l)) (itself_last f (boot_entry j f));
    size = λ b l. o.sizes b l;
    sizes = λ b. first_size;
    swept = λ b j f cmp main above. first j f cmp main above;
    calm = λ b j f cmp k. refl;
  }
    where
      above_first : (j : ℕ) → 64 ≤ j → is_victim j ≡ false → is_first_slot j ≡ false
      above_first j a v = by_lt j 64 (λ t. (t || is_victim j) ≡ false) (λ l. absurd (omega arith)) (λ _. v)

      first : (j : ℕ) (f : TlbField) → is_compare f ≡ true → is_victim j ≡ false → 64 ≤ j
          → (invalid_bit (boot_entry j f) ≡ 1) ⊎ (false ≡ true) ⊎ ((false ≡ false) × (boot_entry j f ≡ 0))
      first j f cmp main above = inr (inr (refl, ap (λ t. if t && is_compare f then 1 else 0) (above_first j above main)))

  pub tables_step : (s : Step) (words : Word → ℕ) (own : ℕ → List Step) → IsAct layout runs words own s → Tables layout words own → Tables layout (move s words) (put s own)
  tables_step s words own o f = let c : ℕ = s.actor in let r : List Step = own s.actor in let w : Word = name_of s.word in record {
    holds = λ a h. by_put (λ a q. held_lock q ≡ suc h → move s words (Lock h) ≡ a + 1) a s own
        (lock_here layout c (runs c) r words h w s.op s.arg s.answer o.may o.answered (f.holds c h))
        (λ ne k. lock_else layout c (runs c) r words a h w s.op s.arg ne o.may (λ x. f.holds c x) (f.holds a h k));
    holder = λ a h. by_put (λ a q. move s words (Lock h) ≡ a + 1 → held_lock q ≡ suc h) a s own
        (holder_here layout c (runs c) r words h w s.op s.arg s.answer o.may o.answered (f.holder c h))
        (λ ne k. f.holder a h (holder_else layout c (runs c) r a h w s.op s.arg (words (Lock h)) ne o.may k));
    bounded = λ b j g l. bounded_step layout c (runs c) r b j g w s.op s.arg (words (Tlb b j g)) o.may o.arg (f.bounded b j g l);
    last = λ b j g l. by_put (λ b q. b < layout.harts → IsLastField g (table_word (Tlb b j g) q) (move s words (Tlb b j g))) b s own
        (λ l. last_here layout c (runs c) r j g w s.op s.arg s.answer (table_word (Tlb c j g) r) (words (Tlb c j g)) limits.harts l o.may (f.bounded c j g l) (f.last c j g l))
        (λ ne l. last_else layout c (runs c) r b j g w s.op s.arg (table_word (Tlb b j g) (own b)) (words (Tlb b j g)) ne o.may (f.last b j g l)) l;
    size = λ b l. by_put (λ b q. b < layout.harts → move s words (Size b) ≡ size_of b q) b s own
        (λ l. size_here layout c (runs c) r w s.op s.arg s.answer (size_of c r) (words (Size c)) o.may (f.size c l))
        (λ ne l. size_else layout c (runs c) r b w s.op s.arg (words (Size b)) ne o.may ∙ f.size b l) l;
    sizes = λ b. by_put (λ b q. IsSize (size_of b q)) b s own (sizes_here layout c (runs c) r w s.op s.arg s.answer (size_of c r) o.may (f.sizes c)) (λ _. f.sizes b);
    swept = λ b j g cmp main. by_put (λ b q. size_of b q ≤ j → (invalid_bit (table_word (Tlb b j g) q) ≡ 1) ⊎ (is_clear_due b j g q ≡ true) ⊎ IsFresh b j g q) b s own
        (swept_here layout c (runs c) r j g w s.op s.arg s.answer cmp main o.may (f.swept c j g cmp main)) (λ _. f.swept b j g cmp main);
    calm = λ b j g cmp. by_put (λ b q. held_lock q ≢ suc b → is_clear_due b j g q ≡ false) b s own
        (calm_here layout c (runs c) r j g w s.op s.arg s.answer cmp o.may (f.calm c j g cmp)) (λ _. f.calm b j g cmp);
  }

  pub tables : (h : List Step) → Woven layout runs h → IsBegun layout runs h → Tables layout (λ w. word_value w h) (acts h)
  tables = facts_along layout runs (λ h words own. Tables layout words own) limits (λ h words o _. tables_start words o) (λ s h words own _ f. f) (λ s h. tables_step s)

pub lock_facts : LockFacts
lock_facts layout runs hs a h i b who =
    let f : Tables layout (λ w. word_value w hs) (acts hs) = tables layout runs i.limits hs (woven layout runs hs i) b in
    let at : acts hs a ≡ own_steps a hs = acts_of hs a (actor_off layout a i.limits.harts who) in (
      λ k. f.holds a h (ap held_lock at ∙ k),
      λ k. sym (ap held_lock at) ∙ f.holder a h k,
    )

hart_off : (layout : Layout) (b : ℕ) → layout.harts ≤ most_harts → b < layout.harts → b ≢ loader
hart_off layout b few l e = omega arith

pub table_facts : TableFacts
table_facts layout runs hs b j g i k l =
    let f : Tables layout (λ w. word_value w hs) (acts hs) = tables layout runs i.limits hs (woven layout runs hs i) k in
    let at : acts hs b ≡ own_steps b hs = acts_of hs b (hart_off layout b i.limits.harts l) in (
      subst (λ r. IsLastField g (table_word (Tlb b j g) r) (word_value (Tlb b j g) hs)) at (f.last b j g l),
      f.size b l ∙ ap (size_of b) at,
      subst IsSize (sym (f.size b l)) (f.sizes b),
    )

invalid_last : (g : TlbField) (last found : ℕ) → IsLastField g last found → invalid_bit last ≡ 1 → invalid_bit found ≡ 1
invalid_last Write last found e k = e.1 ∙ k
invalid_last g last found e k = ap invalid_bit e ∙ k

pub slot_facts : SlotFacts
slot_facts layout runs hs b j g i k l cmp main away above =
    let f : Tables layout (λ w. word_value w hs) (acts hs) = tables layout runs i.limits hs (woven layout runs hs i) k in
    let at : acts hs b ≡ own_steps b hs = acts_of hs b (hart_off layout b i.limits.harts l) in
    let shut : is_clear_due b j g (acts hs b) ≡ false = f.calm b j g cmp (λ e. away (f.holds b b e)) in
    go f at shut (f.swept b j g cmp main (subst (λ n. n ≤ j) (f.size b l) above))
  where
    go : Tables layout (λ w. word_value w hs) (acts hs) → acts hs b ≡ own_steps b hs → is_clear_due b j g (acts hs b) ≡ false
        → (invalid_bit (table_word (Tlb b j g) (acts hs b)) ≡ 1) ⊎ (is_clear_due b j g (acts hs b) ≡ true) ⊎ IsFresh b j g (acts hs b) → (invalid_bit (word_value (Tlb b j g) hs) ≡ 1) ⊎ IsFresh b j g (own_steps b hs)
    go f at shut (inl e) = inl (invalid_last g (table_word (Tlb b j g) (acts hs b)) (word_value (Tlb b j g) hs) (f.last b j g l) e)
    go f at shut (inr (inl e)) = absurd (true≢false (sym e ∙ shut))
    go f at shut (inr (inr e)) = inr (subst (IsFresh b j g) at e)
