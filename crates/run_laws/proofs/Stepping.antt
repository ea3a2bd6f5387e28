-- What the composition uses of the laws of steps.
use Rattle.std.proofs.Common.{◌≡◌, ◌≢◌, ◌⊎◌, ℕ, ◌<◌, ◌≤◌, ◌-◌, ◌^◌, Bool, true, false, true≢false, List, [], ◌∷◌, ◌++◌, refl, sym, ap, subst, ◌∙◌, inl, inr, arith, eq-eqb, ne_eqb}
use Rattle.std.specs.Prelude.{◌==◌, if◌then◌else◌}
use Rattle.std.proofs.lemmas.Bool.{cases_eq, and_parts, eqb-true}
use Rattle.step_laws.specs.declared.words.Layout.{Layout}
use Rattle.step_laws.specs.declared.steps.Step.{Step}
use Rattle.step_laws.specs.declared.steps.WordOp.{WordOp}
use Rattle.step_laws.specs.declared.steps.WordOp.TheVariants.{Load, Store, Add}
use Rattle.step_laws.specs.Map.{Word, Zero, Live, Hsm, name_of, number_of}
use Rattle.step_laws.specs.Words.{loader}
use Rattle.step_laws.specs.WordValues.{word_value}
use Rattle.step_laws.specs.Past.{Earlier, at_head, further, Anything}
use Rattle.step_laws.specs.Steps.{own_steps, value_at, answer_of}
use Rattle.step_laws.specs.Harts.{is_running, Opening, closed, opened, placed as placing, handed, counted, opening, Taking, idle, called, with_start, with_both, taking, is_owing, is_owing_next}
use Rattle.step_laws.specs.Discipline.{IsActor, IsPermitted, by_loader, by_actor, ActorMay, add_live, end_start, take_start, stop, take_live}
use Rattle.step_laws.specs.Histories.{IsHistory, IsBegun as HasBegun}
use Rattle.step_laws.specs.HartLaws.{HartStates, opens, IsTake}
use Rattle.step_laws.proofs.Named.{by_test}
use Rattle.step_laws.proofs.Woven.{woven as steps_woven, history_tail as tail_of, held_value, acts, acts_of, acting, own_here, own_other, loader_op}
use Rattle.step_laws.proofs.Along.{permits_loader}
use Rattle.step_laws.proofs.Apart.{section_law as apart_law}
use Rattle.step_laws.proofs.Halting.{states, stop_law as ended_law, settled_law}
use Rattle.turn_pieces.specs.Folds.{is_waiting, was_last, was_last_next}
use Rattle.turn_pieces.specs.Folds.{IsUncount}
use Rattle.run_laws.proofs.Used.{SectionLaw, StopLaw, IsOpening, IsHalt, NoneSince}

-- each step is lawful after the steps before it, by the words' numbers
pub record IsLawful (layout : Layout) (runs : ℕ → Bool) (s : Step) (h : List Step) : Type 0 where
  pub answered : s.answer ≡ answer_of s.op (value_at s.word h)
  pub permitted : IsPermitted layout s.actor (runs s.actor) (own_steps s.actor h) (name_of s.word) s.op s.arg

abbrev pub Woven : Layout → (ℕ → Bool) → List Step → Type 0
Woven layout runs [] = Unit {0}
Woven layout runs (s ∷ h) = IsLawful layout runs s h × Woven layout runs h

pub woven : (layout : Layout) (runs : ℕ → Bool) (h : List Step) → IsHistory layout runs h → Woven layout runs h
woven layout runs [] i = tt
woven layout runs (s ∷ h) i = (
  record { answered = i.consistent.2; permitted = (steps_woven layout runs (s ∷ h) i).0.permitted },
  woven layout runs h (tail_of layout runs s h i),
)

-- nobody touches the memory beside who is in section
pub section_law : SectionLaw
section_law layout runs h s a small i actor other k ne g = (apart_law layout runs (s ∷ []) h a actor i k ((λ r. ne r.0), tt)).0 ne g

-- hart states
opens_true : (t : ℕ) (o : Opening) → IsOpening t o → opens o t ≡ true
opens_true t closed e = absurd e
opens_true t (opened x) e = eq-eqb x t e
opens_true t (placing x) e = eq-eqb x t e
opens_true t (handed x) e = eq-eqb x t e
opens_true t (counted x) e = eq-eqb x t e

waits_some : (x : Taking) → is_waiting x ≡ true → x ≢ idle
waits_some idle e f = absurd (true≢false (sym e))
waits_some called e f = cc (f)
waits_some with_start e f = cc (f)
waits_some with_both e f = cc (f)

states_at : (layout : Layout) (runs : ℕ → Bool) (h : List Step) → IsHistory layout runs h → HasBegun layout runs h → HartStates layout runs h (λ w. word_value w h) (acts h)
states_at layout runs h i b = states layout runs i.limits h (steps_woven layout runs h i) b

own_at : (layout : Layout) (h : List Step) (a : ℕ) → layout.harts ≤ 8 → IsActor layout a → acts h a ≡ own_steps a h
own_at layout h a small m = acts_of h a (acting layout a small m)

hsm_value : (layout : Layout) (h : List Step) (t : ℕ) → layout.harts ≤ 8 → t < layout.harts → value_at (number_of (Hsm t)) h ≡ word_value (Hsm t) h
hsm_value layout h t small lt = held_value (Hsm t) h (omega (arith, small, lt))

-- a step by which the last one was taken
last_split : (a : ℕ) (w : Word) (op : WordOp) (arg answer : ℕ) (b : Bool) → was_last_next a w op arg answer b ≡ true → (b ≡ true) ⊎ ((w ≡ Live) × (op ≡ Add) × (arg ≡ 2 ^ 64 - 1) × (answer ≡ 1))
last_split a (Hsm t) Store arg answer b e = by_test a t (λ v. (if v then false else b) ≡ true → (b ≡ true) ⊎ ((Hsm t ≡ Live) × (Store ≡ Add) × (arg ≡ 2 ^ 64 - 1) × (answer ≡ 1)))
    (λ _ e. absurd (true≢false (sym e))) (λ _ e. inl e) e
last_split a Live Add arg answer b e = let p = and_parts (arg == 2 ^ 64 - 1) (answer == 1) e in inr (refl, refl, eqb-true arg (2 ^ 64 - 1) p.0, eqb-true answer 1 p.1)
last_split a w op arg answer b e = inl e

record Taken (h : List Step) : Type 0 where
  later : List Step
  before : List Step
  at : Step
  whole : h ≡ later ++ (at ∷ before)
  take : IsTake at
  one : at.answer ≡ 1

was_taken : (a : ℕ) (h : List Step) → was_last a (own_steps a h) ≡ true → Taken h
was_taken a [] e = absurd (true≢false (sym e))
was_taken a (s ∷ h) e = by_test a s.actor (λ t. was_last a (if t then s ∷ own_steps a h else own_steps a h) ≡ true → Taken (s ∷ h))
    (λ _ e. go (last_split a (name_of s.word) s.op s.arg s.answer (was_last a (own_steps a h)) e) (was_taken a h)) (λ _ e. more (was_taken a h e)) e
  where
    more : Taken h → Taken (s ∷ h)
    more k = record { later = s ∷ k.later; before = k.before; at = k.at; whole = ap (λ x. s ∷ x) k.whole; take = k.take; one = k.one }

    go : (was_last a (own_steps a h) ≡ true) ⊎ ((name_of s.word ≡ Live) × (s.op ≡ Add) × (s.arg ≡ 2 ^ 64 - 1) × (s.answer ≡ 1)) → (was_last a (own_steps a h) ≡ true → Taken h) → Taken (s ∷ h)
    go (inl b) ih = more (ih b)
    go (inr p) ih = record { later = []; before = h; at = s; whole = refl; take = (p.0, p.1, p.2); one = p.3 }

-- then all are stopped
all_one : (layout : Layout) (runs : ℕ → Bool) (h : List Step) (a k : ℕ) → IsHistory layout runs h → k < layout.harts → was_last a (own_steps a h) ≡ true → word_value (Hsm k) h ≡ 1
all_one layout runs h a k i lt e = let d = was_taken a h e in
    ap (word_value (Hsm k)) d.whole ∙ ended_law layout runs d.later d.before d.at k (subst (IsHistory layout runs) d.whole i) d.take d.one lt

-- who has stopped and not yet said so wasn't the last since
owes_next : (a : ℕ) (w : Word) (op : WordOp) (arg answer : ℕ) (o b : Bool) → (o ≡ true → b ≡ false) → is_owing_next a w op arg answer o ≡ true → was_last_next a w op arg answer b ≡ false
owes_next a (Hsm h) Store arg answer o b f e = by_test a h (λ v. (if v then false else b) ≡ false) (λ _. refl)
    (λ ne. f (sym (ap (λ (t : Bool). if t then arg == 1 else o) (ne_eqb h a (λ z. ne (sym z)))) ∙ e))
owes_next a Live Add arg answer o b f e = absurd (true≢false (sym e))
owes_next a w op arg answer o b f e = f e

owes_last : (a : ℕ) (r : List Step) → is_owing a r ≡ true → was_last a r ≡ false
owes_last a [] e = refl
owes_last a (s ∷ r) e = owes_next a (name_of s.word) s.op s.arg s.answer (is_owing a r) (was_last a r) (owes_last a r) e

halt_runs : {layout : Layout} {c : ℕ} {runs : Bool} {r : List Step} {w : Word} {op : WordOp} {arg : ℕ} → ActorMay layout c runs r w op arg → IsHalt w op arg → (c < layout.harts) × (is_running c runs r ≡ true)
halt_runs (stop p q e) k = (p, q)
halt_runs m k = absurd k

-- where all are stopped that stays so
lasting : {layout : Layout} {c : ℕ} {runs : Bool} {r : List Step} {w : Word} {op : WordOp} {arg : ℕ} (answer : ℕ) → ActorMay layout c runs r w op arg → ((c < layout.harts) → is_running c runs r ≡ true → ⊥) → (taking c r ≢ idle → ⊥)
    → ((k : ℕ) → opens (opening r) k ≡ true → ⊥) → (is_owing c r ≡ true → ⊥) → was_last_next c w op arg answer true ≡ true
lasting answer (take_start p q e) f g h o = absurd (g (λ z. cc (p, z)))
lasting answer (stop p q e) f g h o = absurd (f p q)
lasting answer (end_start {h = k} p) f g h o = absurd (h k (ap (λ x. opens x k) p ∙ eq-eqb k k refl))
lasting answer (add_live {h = k} p) f g h o = absurd (h k (ap (λ x. opens x k) p ∙ eq-eqb k k refl))
lasting answer (take_live p) f g h o = absurd (o p)
lasting answer m f g h o = refl

abbrev Left : Layout → List Step → Type 0
Left layout h = (a : ℕ) × (a < layout.harts) × (was_last a (own_steps a h) ≡ true) × NoneSince a h

module _ (layout : Layout) (runs : ℕ → Bool) where
  left_more : (s : Step) (h : List Step) → IsHistory layout runs (s ∷ h) → Left layout h → Left layout (s ∷ h)
  left_more s h i k = elim (cases_eq s.actor loader) [ inl is ↦ loading is | inr ne ↦ acts_on ne ]
    where
      a : ℕ
      a = k.0

      small : layout.harts ≤ 8
      small = i.limits.harts

      not_loader : a ≢ loader
      not_loader e = let lt = k.1 in let p = small in omega (arith, lt, p, e)

      one : (t : ℕ) → t < layout.harts → word_value (Hsm t) h ≡ 1
      one t lt = all_one layout runs h a t (tail_of layout runs s h i) lt k.2

      loading : s.actor ≡ loader → Left layout (s ∷ h)
      loading is = (a, k.1, ap (was_last a) (own_other s h a (λ e. not_loader (e ∙ is))) ∙ k.2, inr (no_halt, k.3))
        where
          no_halt : IsHalt (name_of s.word) s.op s.arg → ⊥
          no_halt x = go (loader_op layout (own_steps s.actor h) (name_of s.word) s.op s.arg (permits_loader layout s.actor (runs s.actor) (own_steps s.actor h) (name_of s.word) s.op s.arg small is (woven layout runs (s ∷ h) i).0.permitted)) x
            where
              go : (s.op ≡ Store) ⊎ ((name_of s.word ≡ Zero) × (s.op ≡ Load)) → IsHalt (name_of s.word) s.op s.arg → ⊥
              go (inl o) x = true≢false (sym k.2 ∙ ap (was_last a) (i.led.0 is o a not_loader))
              go (inr o) x = subst (λ w. IsHalt w s.op s.arg) o.0 x

      acts_on : s.actor ≢ loader → Left layout (s ∷ h)
      acts_on ne = go (woven layout runs (s ∷ h) i).0.permitted
        where
          st : HartStates layout runs h (λ w. word_value w h) (acts h)
          st = states_at layout runs h (tail_of layout runs s h i) ((steps_woven layout runs (s ∷ h) i).0.begun ne)

          own : acts h s.actor ≡ own_steps s.actor h
          own = acts_of h s.actor ne

          none_runs : (s.actor < layout.harts) → is_running s.actor (runs s.actor) (own_steps s.actor h) ≡ true → ⊥
          none_runs lt e = true≢false (sym e ∙ (sym (ap (is_running s.actor (runs s.actor)) own) ∙ (st.run s.actor lt ∙ ap (λ n. n == 0) (one s.actor lt))))

          go : IsPermitted layout s.actor (runs s.actor) (own_steps s.actor h) (name_of s.word) s.op s.arg → Left layout (s ∷ h)
          go (by_loader e m) = absurd (ne e)
          go (by_actor who f m) = (a, k.1, by_test a s.actor (λ t. was_last a (if t then s ∷ own_steps a h else own_steps a h) ≡ true) mine (λ _. k.2), inr ((λ x. let p = halt_runs m x in none_runs p.0 p.1), k.3))
            where
              mine : a ≡ s.actor → was_last a (s ∷ own_steps a h) ≡ true
              mine is = subst (λ c. was_last c (s ∷ own_steps c h) ≡ true) (sym is)
                  (ap (was_last_next s.actor (name_of s.word) s.op s.arg s.answer) was ∙ lasting s.answer m none_runs none_takes none_opens none_owes)
                where
                  lt : s.actor < layout.harts
                  lt = subst (λ c. c < layout.harts) is k.1

                  was : was_last s.actor (own_steps s.actor h) ≡ true
                  was = subst (λ c. was_last c (own_steps c h) ≡ true) is k.2

                  none_takes : taking s.actor (own_steps s.actor h) ≢ idle → ⊥
                  none_takes n = one_two (word_value (Hsm s.actor) h) (one s.actor lt) (st.call s.actor (λ e. n (sym (ap (taking s.actor) own) ∙ e)))
                    where
                      one_two : (n : ℕ) → n ≡ 1 → n ≡ 2 → ⊥
                      one_two n e f = omega (arith, e, f)

                  none_opens : (t : ℕ) → opens (opening (own_steps s.actor h)) t ≡ true → ⊥
                  none_opens t e = one_three (word_value (Hsm t) h) (one t (st.opened_hart s.actor t here)) (st.opens_it s.actor t here)
                    where
                      here : opens (opening (acts h s.actor)) t ≡ true
                      here = ap (λ r. opens (opening r) t) own ∙ e

                      one_three : (n : ℕ) → n ≡ 1 → n ≡ 3 → ⊥
                      one_three n e f = omega (arith, e, f)

                  none_owes : is_owing s.actor (own_steps s.actor h) ≡ true → ⊥
                  none_owes e = true≢false (sym was ∙ owes_last s.actor (own_steps s.actor h) e)

  left_first : (s : Step) (h : List Step) → IsHistory layout runs (s ∷ h) → IsTake s → s.answer ≡ 1 → Left layout (s ∷ h)
  left_first s h i take one = elim (cases_eq s.actor loader) [ inl is ↦ absurd (loading is) | inr ne ↦ acts_on ne ]
    where
      loading : s.actor ≡ loader → ⊥
      loading is = go (loader_op layout (own_steps s.actor h) (name_of s.word) s.op s.arg (permits_loader layout s.actor (runs s.actor) (own_steps s.actor h) (name_of s.word) s.op s.arg i.limits.harts is (woven layout runs (s ∷ h) i).0.permitted))
        where
          go : (s.op ≡ Store) ⊎ ((name_of s.word ≡ Zero) × (s.op ≡ Load)) → ⊥
          go (inl o) = cc (o, take.1)
          go (inr o) = cc (o.1, take.1)

      acts_on : s.actor ≢ loader → Left layout (s ∷ h)
      acts_on ne = go (woven layout runs (s ∷ h) i).0.permitted
        where
          st : HartStates layout runs h (λ w. word_value w h) (acts h)
          st = states_at layout runs h (tail_of layout runs s h i) ((steps_woven layout runs (s ∷ h) i).0.begun ne)

          owes : {w : Word} {op : WordOp} {arg : ℕ} → ActorMay layout s.actor (runs s.actor) (own_steps s.actor h) w op arg → w ≡ Live → op ≡ Add → arg ≡ 2 ^ 64 - 1 → is_owing s.actor (own_steps s.actor h) ≡ true
          owes (take_live p) e f g = p
          owes (add_live p) e f g = absurd (omega (arith, g))
          owes m e f g = absurd (cc (e, f))

          go : IsPermitted layout s.actor (runs s.actor) (own_steps s.actor h) (name_of s.word) s.op s.arg → Left layout (s ∷ h)
          go (by_loader e m) = absurd (ne e)
          go (by_actor who f m) = (
            s.actor,
            (st.owes s.actor (ap (is_owing s.actor) (acts_of h s.actor ne) ∙ owes m take.0 take.1 take.2)).0,
            ap (was_last s.actor) (own_here s h s.actor refl) ∙ (λ j. was_last_next s.actor (take.0 j) (take.1 j) (take.2 j) (one j) (was_last s.actor (own_steps s.actor h))),
            inl (refl, subst (λ w. IsUncount w s.op s.arg) (sym take.0) (subst (λ o. IsUncount Live o s.arg) (sym take.1) take.2), one),
          )

  left_of : (h : List Step) → IsHistory layout runs h → Earlier (λ s. IsTake s × (s.answer ≡ 1)) Anything h → Left layout h
  left_of [] i e = elim e [ ]
  left_of (s ∷ h) i e = parts (left_of h (tail_of layout runs s h i)) e
    where
      parts : (Earlier (λ s. IsTake s × (s.answer ≡ 1)) Anything h → Left layout h) → Earlier (λ s. IsTake s × (s.answer ≡ 1)) Anything (s ∷ h) → Left layout (s ∷ h)
      parts ih (at_head p q) = left_first s h i p.0 p.1
      parts ih (further d) = left_more s h i (ih d)

pub stop_law : StopLaw
stop_law = record {
  opens = λ layout runs h a t small i b m o.
      let st = states_at layout runs h i b in
      let here : opens (opening (acts h a)) t ≡ true = ap (λ r. opens (opening r) t) (own_at layout h a small m) ∙ opens_true t (opening (own_steps a h)) o in
      hsm_value layout h t small (st.opened_hart a t here) ∙ st.opens_it a t here;
  alone = λ layout runs h a b t small i g m n o p.
      let st = states_at layout runs h i g in
      let here : opens (opening (acts h a)) t ≡ true = ap (λ r. opens (opening r) t) (own_at layout h a small m) ∙ opens_true t (opening (own_steps a h)) o in
      let there : opens (opening (acts h b)) t ≡ true = ap (λ r. opens (opening r) t) (own_at layout h b small n) ∙ opens_true t (opening (own_steps b h)) p in
      elim (cases_eq a b) [ inl e ↦ e | inr ne ↦ absurd (st.alone a b t ne here there) ];
  waits = λ layout runs h a small i b lt w.
      let st = states_at layout runs h i b in
      hsm_value layout h a small lt ∙ st.call a (λ e. waits_some (taking a (own_steps a h)) w (sym (ap (taking a) (own_at layout h a small (inl lt))) ∙ e));
  lasts = λ layout runs h a k small i b m lt w. hsm_value layout h k small lt ∙ all_one layout runs h a k i lt w;
  leaves = λ layout runs h small i b one none.
      let k = left_of layout runs h i (settled_law layout runs h i b (λ t lt. sym (hsm_value layout h t small lt) ∙ one t lt) none) in
      (k.0, acting layout k.0 small (inl k.1), k.2, k.3);
}
