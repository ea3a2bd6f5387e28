-- How the steps of a hart's own start move what its record says.
use Rattle.std.proofs.Common.{◌≡◌, ℕ, Bool, true, false, refl, sym, ap, ◌∙◌, eq-eqb}
use Rattle.std.specs.Prelude.{if◌then◌else◌, ◌==◌}
use Rattle.step_laws.specs.declared.steps.WordOp.TheVariants.{Load, Store}
use Rattle.step_laws.specs.Harts.{is_owing, is_owing_next, is_running, is_running_next, Taking, idle, called, with_both, with_start, call_of, taking, taking_next}
use Rattle.step_laws.specs.Map.{Word, Hsm, Opaque, Start, name_of}
use Rattle.guest_ram.specs.Areas.{IsOfTable}
use Rattle.guest_ram.specs.Ports.{Shown, Adds, GoesBy, IsActing, Made, May}
use Rattle.guest_ram.proofs.MaySteps.{may_load_opaque, may_load_start, may_take_start}
use Rattle.guest_ram.proofs.Moves.{acting_adds, fold_adds}
use Rattle.hart_signals.proofs.Aside.{owing_goes, running_goes, table_off_states, taking_goes}

-- a stopped hart that has come to this point of its own start
pub record IsTaking (at : Taking) (p : Shown) : Type 0 where
  pub acting : IsActing p
  pub stopped : is_running p.own.actor p.own.runs p.own.steps ≡ false
  pub paid : is_owing p.own.actor p.own.steps ≡ false
  pub stage_is : taking p.own.actor p.own.steps ≡ at

own_test : {A : Type 0} (a : ℕ) (x y : A) → (if a == a then x else y) ≡ x
own_test a x y = ap (λ (b : Bool). if b then x else y) (eq-eqb a a refl)

module _ (p q : Shown) (word a answer : ℕ) (made : Adds p q word Load 0 answer) (is : a ≡ p.own.actor) where
  named : (w : ℕ → Word) → name_of word ≡ w a → name_of word ≡ w p.own.actor
  named w e = e ∙ ap w is

  takes_state : IsActing p → is_running p.own.actor p.own.runs p.own.steps ≡ false → is_owing p.own.actor p.own.steps ≡ false → name_of word ≡ Hsm a → answer ≡ 2 → IsTaking called q
  takes_state acting stopped paid e two = let f = named Hsm e in record {
    acting = acting_adds p q word 0 answer Load (Hsm p.own.actor) made f (λ b. refl) acting;
    stopped = ap (λ (x : Shown). is_running x.own.actor x.own.runs q.own.steps) made ∙ fold_adds (is_running_next p.own.actor) p.own.runs p q word 0 answer Load (Hsm p.own.actor) made f ∙ stopped;
    paid = ap (λ (x : Shown). is_owing x.own.actor q.own.steps) made ∙ fold_adds (is_owing_next p.own.actor) false p q word 0 answer Load (Hsm p.own.actor) made f ∙ paid;
    stage_is = ap (λ (x : Shown). taking x.own.actor q.own.steps) made ∙ fold_adds (taking_next p.own.actor) idle p q word 0 answer Load (Hsm p.own.actor) made f
        ∙ own_test p.own.actor (call_of answer) (taking p.own.actor p.own.steps) ∙ ap call_of two;
  }

  takes_place : (at : Taking) → IsTaking at p → name_of word ≡ Start a → IsTaking with_start q
  takes_place at k e = let f = named Start e in record {
    acting = acting_adds p q word 0 answer Load (Start p.own.actor) made f (λ b. refl) k.acting;
    stopped = ap (λ (x : Shown). is_running x.own.actor x.own.runs q.own.steps) made ∙ fold_adds (is_running_next p.own.actor) p.own.runs p q word 0 answer Load (Start p.own.actor) made f ∙ k.stopped;
    paid = ap (λ (x : Shown). is_owing x.own.actor q.own.steps) made ∙ fold_adds (is_owing_next p.own.actor) false p q word 0 answer Load (Start p.own.actor) made f ∙ k.paid;
    stage_is = ap (λ (x : Shown). taking x.own.actor q.own.steps) made ∙ fold_adds (taking_next p.own.actor) idle p q word 0 answer Load (Start p.own.actor) made f
        ∙ own_test p.own.actor with_start (taking p.own.actor p.own.steps);
  }

  takes_opaque : (at : Taking) → IsTaking at p → name_of word ≡ Opaque a → IsTaking with_both q
  takes_opaque at k e = let f = named Opaque e in record {
    acting = acting_adds p q word 0 answer Load (Opaque p.own.actor) made f (λ b. refl) k.acting;
    stopped = ap (λ (x : Shown). is_running x.own.actor x.own.runs q.own.steps) made ∙ fold_adds (is_running_next p.own.actor) p.own.runs p q word 0 answer Load (Opaque p.own.actor) made f ∙ k.stopped;
    paid = ap (λ (x : Shown). is_owing x.own.actor q.own.steps) made ∙ fold_adds (is_owing_next p.own.actor) false p q word 0 answer Load (Opaque p.own.actor) made f ∙ k.paid;
    stage_is = ap (λ (x : Shown). taking x.own.actor q.own.steps) made ∙ fold_adds (taking_next p.own.actor) idle p q word 0 answer Load (Opaque p.own.actor) made f
        ∙ own_test p.own.actor with_both (taking p.own.actor p.own.steps);
  }

-- a flush leaves it
takes_flush : (n : ℕ) (at : Taking) (p q : Shown) → GoesBy n IsOfTable p q → IsActing q → IsTaking at p → IsTaking at q
takes_flush n at p q goes acting k = record {
  acting = acting;
  stopped = running_goes n IsOfTable p q table_off_states goes ∙ k.stopped;
  paid = owing_goes n IsOfTable p q table_off_states goes ∙ k.paid;
  stage_is = taking_goes n IsOfTable p q table_off_states goes ∙ k.stage_is;
}

-- it runs once 0 is stored
pub runs_then : (p q : Shown) → Made p q (Hsm p.own.actor) Store 0 0 → is_running q.own.actor q.own.runs q.own.steps ≡ true
runs_then p q m = ap (λ (x : Shown). is_running x.own.actor x.own.runs q.own.steps) m.step
    ∙ fold_adds (is_running_next p.own.actor) p.own.runs p q m.word 0 0 Store (Hsm p.own.actor) m.step m.name ∙ own_test p.own.actor true (is_running p.own.actor p.own.runs p.own.steps)

-- the steps of a start that was called, one behind another: HSM is loaded, the table flushed, START and OPAQUE are loaded
module _ (n : ℕ) (p q f r u : Shown) (state start opaque a x m k : ℕ) (acting : IsActing p) (stopped : is_running p.own.actor p.own.runs p.own.steps ≡ false) (paid : is_owing p.own.actor p.own.steps ≡ false) (is : a ≡ p.own.actor)
    (e : name_of state ≡ Hsm a) (made : Adds p q state Load 0 x) (two : x ≡ 2) (goes : GoesBy n IsOfTable q f) (flushed : IsActing f) where
  is_q : a ≡ q.own.actor
  is_q = is ∙ ap (λ (y : Shown). y.own.actor) (sym made)

  pub is_f : a ≡ f.own.actor
  is_f = is_q ∙ ap (λ (y : Shown). y.own.actor) (sym goes.grown)

  first : IsTaking called f
  first = takes_flush n called q f goes flushed (takes_state p q state a x made is acting stopped paid e two)

  pub may_take_place : name_of start ≡ Start a → May f start Load 0
  may_take_place g = may_load_start f start (g ∙ ap Start is_f) first.acting first.stage_is

  module _ (g : name_of start ≡ Start a) (placed : Adds f r start Load 0 m) where
    second : IsTaking with_start r
    second = takes_place f r start a m placed is_f called first g

    pub is_r : a ≡ r.own.actor
    is_r = is_f ∙ ap (λ (y : Shown). y.own.actor) (sym placed)

    pub may_take_opaque : name_of opaque ≡ Opaque a → May r opaque Load 0
    may_take_opaque h = may_load_opaque r opaque (h ∙ ap Opaque is_r) second.acting second.stage_is

    module _ (h : name_of opaque ≡ Opaque a) (handed : Adds r u opaque Load 0 k) where
      third : IsTaking with_both u
      third = takes_opaque r u opaque a k handed is_r with_start second h

      pub is_u : a ≡ u.own.actor
      is_u = is_r ∙ ap (λ (y : Shown). y.own.actor) (sym handed)

      pub may_begin : May u state Store 0
      may_begin = may_take_start u state (e ∙ ap Hsm is_u) third.acting third.stage_is third.stopped third.paid
