-- A pass of the monitor over a hart's table.
use Rattle.std.proofs.Common.{◌≡◌, ◌≢◌, ℕ, suc, ◌+◌, ◌<◌, ◌≤◌, Bool, true, false, refl, sym, ap, subst, ◌∙◌, inl, inr, ⊎_elim, arith}
use Rattle.std.specs.Prelude.{◌⊎◌, ◌==◌, Some, None, nat_lt, nat_le, if◌then◌else◌}
use Rattle.std.proofs.lemmas.Bool.{eq-eqb, ne_eqb, and_parts, leb-true, ltb-true}
use Rattle.step_laws.specs.declared.map.TlbField.TheVariants.{Write}
use Rattle.step_laws.specs.declared.steps.WordOp.{WordOp}
use Rattle.step_laws.specs.declared.steps.WordOp.TheVariants.{Load, Store, Swap, Or, Exchange}
use Rattle.step_laws.specs.Fields.{IsSize}
use Rattle.step_laws.specs.Words.{monitor}
use Rattle.step_laws.specs.Map.{Word, Dirty, Lock, Size, Tlb, name_of, same}
use Rattle.step_laws.specs.Marks.{Stage, swapping, dirty_words, passing, stage, stage_next, last_place, seen_size, seen_size_next, is_ored, is_ored_next, IsSwept}
use Rattle.step_laws.specs.Tables.{held_lock, held_lock_next, is_victim}
use Rattle.step_laws.proofs.Named.{same_refl}
use Rattle.guest_ram.specs.Ports.{Shown, Adds, May, IsKnown, IsActing}
use Rattle.guest_ram.proofs.MaySteps.{may_lock_other, may_unlock_other, may_load_other_size, may_set_clean, may_take}
use Rattle.guest_ram.proofs.Moves.{acting_adds, lock_adds, fold_adds, found_there}
use Rattle.guest_ram_cases.specs.Sweeps.{IsAtStage, after_pass}

pub stage_adds : (p q : Shown) (word arg answer : ℕ) (op : WordOp) (w : Word) → Adds p q word op arg answer → name_of word ≡ w
    → stage q.machine.layout q.own.steps ≡ stage_next p.machine.layout (λ t. last_place t p.own.steps) w op arg answer (stage p.machine.layout p.own.steps)
stage_adds p q word arg answer op w made e = ap (λ (x : Shown). stage x.machine.layout x.own.steps) made
    ∙ ap (λ v. stage_next p.machine.layout (λ t. last_place t p.own.steps) v op arg answer (stage p.machine.layout p.own.steps)) e

-- the stage after so many dirty words
abbrev pub taking_stage : Shown → ℕ → Stage
taking_stage p i = if i == dirty_words p.machine.layout then passing 0 else swapping i

pub takes_first : (p : Shown) → IsAtStage p (swapping 0) → IsAtStage p (taking_stage p 0)
takes_first p s = subst (IsAtStage p) (sym (ap (λ (t : Bool). if t then passing 0 else swapping 0) (ne_eqb 0 (dirty_words p.machine.layout) (λ e. let some = s.acting.limits.some_pages in omega (arith, e, some))))) s

at_swapping : (p : Shown) (i : ℕ) → i < dirty_words p.machine.layout → IsAtStage p (taking_stage p i) → IsAtStage p (swapping i)
at_swapping p i l s = subst (IsAtStage p) (ap (λ (t : Bool). if t then passing 0 else swapping i) (ne_eqb i (dirty_words p.machine.layout) (λ e. omega (arith, e, l)))) s

pub may_take_word : (p : Shown) (word i : ℕ) → i < dirty_words p.machine.layout → IsAtStage p (taking_stage p i) → name_of word ≡ Dirty i → May p word Swap 0
may_take_word p word i l s e = may_take p word i e s.acting s.monitor_is (at_swapping p i l s).stage_is

pub takes_more : (p q : Shown) (word i answer : ℕ) → i < dirty_words p.machine.layout → IsAtStage p (taking_stage p i) → Adds p q word Swap 0 answer → name_of word ≡ Dirty i → IsAtStage q (taking_stage q (i + 1))
takes_more p q word i answer l s made e = record {
  acting = acting_adds p q word 0 answer Swap (Dirty i) made e (λ _. refl) s.acting;
  monitor_is = ap (λ (x : Shown). x.own.actor) made ∙ s.monitor_is;
  free = lock_adds p q word 0 answer Swap (Dirty i) made e ∙ s.free;
  stage_is = stage_adds p q word 0 answer Swap (Dirty i) made e ∙ ap (λ g. stage_next p.machine.layout (λ t. last_place t p.own.steps) (Dirty i) Swap 0 answer g) (at_swapping p i l s).stage_is
      ∙ ap (λ (t : Bool). if t then (if suc i == dirty_words p.machine.layout then passing 0 else swapping (suc i)) else swapping i) (eq-eqb i i refl)
      ∙ ap (λ n. if n == dirty_words p.machine.layout then passing 0 else swapping n) (add_one i) ∙ ap (λ (x : Shown). taking_stage x (i + 1)) (sym made);
}
  where
    add_one : (n : ℕ) → suc n ≡ n + 1
    add_one n = omega arith

pub takes_all : (p : Shown) (i : ℕ) → i ≡ dirty_words p.machine.layout → IsAtStage p (taking_stage p i) → IsAtStage p (passing 0)
takes_all p i e s = subst (IsAtStage p) (ap (λ (t : Bool). if t then passing 0 else swapping i) (eq-eqb i (dirty_words p.machine.layout) e)) s

-- the monitor in the lock section of a hart, that has found its size and set the bit in these slots
pub record IsSweeping (p : Shown) (h size : ℕ) (Done : ℕ → Type 0) : Type 0 where
  pub acting : IsActing p
  pub monitor_is : p.own.actor ≡ monitor
  pub hart : h < p.machine.layout.harts
  pub held : held_lock p.own.steps ≡ suc h
  pub stage_is : stage p.machine.layout p.own.steps ≡ passing h
  pub size_is : seen_size h p.own.steps ≡ Some size
  pub bits : (j : ℕ) → Done j → is_ored h j p.own.steps ≡ true

pub may_sweep_lock : (p : Shown) (word arg h : ℕ) → IsAtStage p (passing h) → h < p.machine.layout.harts → name_of word ≡ Lock h → arg ≡ p.own.actor + 1 → May p word (Exchange 0) arg
may_sweep_lock p word arg h s l e is = may_lock_other p word arg h e is s.acting s.monitor_is l s.free s.stage_is

module _ (p q : Shown) (word arg answer h : ℕ) (s : IsAtStage p (passing h)) (made : Adds p q word (Exchange 0) arg answer) (e : name_of word ≡ Lock h) (zero : answer ≡ 0) where
  lock_held : held_lock q.own.steps ≡ suc h
  lock_held = lock_adds p q word arg answer (Exchange 0) (Lock h) made e ∙ ap (λ n. held_lock_next (Lock h) (Exchange 0) arg n (held_lock p.own.steps)) zero

  lock_stage : stage q.machine.layout q.own.steps ≡ passing h
  lock_stage = stage_adds p q word arg answer (Exchange 0) (Lock h) made e ∙ s.stage_is

  lock_acting : IsActing q
  lock_acting = acting_adds p q word arg answer (Exchange 0) (Lock h) made e (λ _. refl) s.acting

  lock_monitor : q.own.actor ≡ monitor
  lock_monitor = ap (λ (x : Shown). x.own.actor) made ∙ s.monitor_is

  pub may_sweep_size : (place : ℕ) → name_of place ≡ Size h → May q place Load 0
  may_sweep_size place f = may_load_other_size q place h f lock_acting lock_monitor lock_held

  pub sweeps_first : (r : Shown) (place size : ℕ) → h < p.machine.layout.harts → Adds q r place Load 0 size → name_of place ≡ Size h → IsSweeping r h size (λ j. j < 0)
  sweeps_first r place size l more f = record {
    acting = acting_adds q r place 0 size Load (Size h) more f (λ _. refl) lock_acting;
    monitor_is = ap (λ (x : Shown). x.own.actor) more ∙ lock_monitor;
    hart = subst (λ (x : Shown). h < x.machine.layout.harts) (sym more) (subst (λ (x : Shown). h < x.machine.layout.harts) (sym made) l);
    held = lock_adds q r place 0 size Load (Size h) more f ∙ lock_held;
    stage_is = stage_adds q r place 0 size Load (Size h) more f ∙ lock_stage;
    size_is = fold_adds (seen_size_next h) None q r place 0 size Load (Size h) more f ∙ ap (λ (t : Bool). if t then Some size else seen_size h q.own.steps) (eq-eqb h h refl);
    bits = λ j x. absurd (omega arith);
  }

  -- the size that is found is one
  pub size_found : (place size : ℕ) → h < p.machine.layout.harts → IsKnown q place size → name_of place ≡ Size h → IsSize size
  size_found place size l known f = found_there q place size (Size h) lock_acting known f (subst (λ (x : Shown). h < x.machine.layout.harts) (sym made) l)

pub may_sweep_slot : (p : Shown) (word h j size : ℕ) (Done : ℕ → Type 0) → IsSweeping p h size Done → name_of word ≡ Tlb h j Write → May p word Or 2
may_sweep_slot p word h j size Done s e = may_set_clean p word h j e s.acting s.monitor_is s.held

pub sweeps_more : (p q : Shown) (word h j size answer : ℕ) (Done More : ℕ → Type 0) → IsSweeping p h size Done → Adds p q word Or 2 answer → name_of word ≡ Tlb h j Write → ((i : ℕ) → More i → (i ≡ j) ⊎ Done i) → IsSweeping q h size More
sweeps_more p q word h j size answer Done More s made e within = record {
  acting = acting_adds p q word 2 answer Or (Tlb h j Write) made e (λ _. refl) s.acting;
  monitor_is = ap (λ (x : Shown). x.own.actor) made ∙ s.monitor_is;
  hart = subst (λ (x : Shown). h < x.machine.layout.harts) (sym made) s.hart;
  held = lock_adds p q word 2 answer Or (Tlb h j Write) made e ∙ s.held;
  stage_is = stage_adds p q word 2 answer Or (Tlb h j Write) made e ∙ s.stage_is;
  size_is = fold_adds (seen_size_next h) None p q word 2 answer Or (Tlb h j Write) made e ∙ s.size_is;
  bits = λ i x. fold_adds (is_ored_next h i) false p q word 2 answer Or (Tlb h j Write) made e ∙ ⊎_elim
      (λ (is : i ≡ j). ap (λ (t : Bool). if t then true else is_ored h i p.own.steps) (ap (λ k. same (Tlb h k Write) (Tlb h j Write)) is ∙ same_refl (Tlb h j Write)))
      (λ (d : Done i). kept (same (Tlb h i Write) (Tlb h j Write)) (is_ored h i p.own.steps) (s.bits i d)) (within i x);
}
  where
    kept : (t b : Bool) → b ≡ true → (if t then true else b) ≡ true
    kept true b e = refl
    kept false b e = e

pub sweeps_as : (p : Shown) (h size : ℕ) (Done More : ℕ → Type 0) → IsSweeping p h size Done → ((j : ℕ) → More j → Done j) → IsSweeping p h size More
sweeps_as p h size Done More s within = record { acting = s.acting; monitor_is = s.monitor_is; hart = s.hart; held = s.held; stage_is = s.stage_is; size_is = s.size_is; bits = λ j x. s.bits j (within j x) }

victim_few : (j : ℕ) → is_victim j ≡ true → (1024 ≤ j) × (j < 1032)
victim_few j v = let q = and_parts (nat_le 1024 j) (nat_lt j 1032) v in (leb-true 1024 j q.0, ltb-true j 1032 q.1)

module _ (p : Shown) (word h size to : ℕ) (s : IsSweeping p h size (λ j. (j < size) ⊎ ((1024 ≤ j) × (j < to)))) (end : 1032 ≤ to) (e : name_of word ≡ Lock h) where
  all_swept : IsSwept h p.own.steps
  all_swept = (size, s.size_is, λ j. ⊎_elim (λ (x : j < size). s.bits j (inl x)) (λ (v : is_victim j ≡ true). let few = victim_few j v in s.bits j (inr (few.0, omega (arith, few.1)))))

  other_hart : h ≢ p.own.actor
  other_hart is = let few = s.acting.limits.harts in let l = s.hart in omega (arith, few, l, s.monitor_is, is)

  pub may_sweep_unlock : May p word Store 0
  may_sweep_unlock = may_unlock_other p word h e s.acting s.held other_hart all_swept

  pub sweeps_last : (q : Shown) → Adds p q word Store 0 0 → IsAtStage q (after_pass p h)
  sweeps_last q made = record {
    acting = acting_adds p q word 0 0 Store (Lock h) made e (λ _. refl) s.acting;
    monitor_is = ap (λ (x : Shown). x.own.actor) made ∙ s.monitor_is;
    free = lock_adds p q word 0 0 Store (Lock h) made e;
    stage_is = stage_adds p q word 0 0 Store (Lock h) made e ∙ ap (λ g. stage_next p.machine.layout (λ t. last_place t p.own.steps) (Lock h) Store 0 0 g) s.stage_is
        ∙ ap (λ (t : Bool). if t then after_pass p h else passing h) (eq-eqb h h refl);
  }
