-- CONS never wraps: no actor draws more than one place beyond the last.
use Rattle.std.proofs.Common.{◌≡◌, ◌≢◌, ◌⊎◌, ℕ, zero, suc, ◌+◌, ◌<◌, ◌≤◌, ◌^◌, Bool, true, false, true≢false, List, [], ◌∷◌, refl, sym, ap, subst, ◌∙◌, inl, inr, arith, ne_eqb}
use Rattle.std.specs.Prelude.{◌==◌, ◌&&◌, nat_lt, if◌then◌else◌}
use Rattle.std.proofs.lemmas.Bool.{eqb-true}
use prog.Atomic.{either}
use Rattle.step_laws.specs.declared.words.Layout.{Layout}
use Rattle.step_laws.specs.declared.steps.Step.{Step}
use Rattle.step_laws.specs.declared.steps.WordOp.{WordOp}
use Rattle.step_laws.specs.declared.steps.WordOp.TheVariants.{Load, Add, Exchange}
use Rattle.step_laws.specs.Map.{Word, Stop, Cons, name_of, number_of}
use Rattle.step_laws.specs.Words.{loader}
use Rattle.step_laws.specs.Fields.{IsReason, pass, fail, limit, output_full, all_stopped, stopped}
use Rattle.step_laws.specs.WordValues.{word_value, value_next}
use Rattle.step_laws.specs.Steps.{own_steps, value_at, answer_of}
use Rattle.step_laws.specs.Discipline.{IsActor, IsPermitted, by_loader, by_actor, ActorMay, load_stop, set_stop, draw}
use Rattle.step_laws.specs.Histories.{IsHistory}
use Rattle.step_laws.specs.HartLaws.{total}
use Rattle.step_laws.proofs.Named.{by_lt}
use Rattle.step_laws.proofs.Woven.{woven, held_value}
use Rattle.step_laws.proofs.Counted.{Sums, sums_of, total_few}
use Rattle.machine_model.specs.State.{Setup}
use Rattle.step_laws.specs.Words.{console_places}
use Rattle.run_laws.proofs.Placed.{Placed, steps, mine}
use Rattle.turn_pieces.specs.Draws.{Filled, within, beyond, ended, overflow, said, filled, filled_next, may_draw, may_draw_next, Drawing}
use Rattle.run_laws.proofs.Pieces.{Told, IsIdleStep}
use Rattle.run_laws.proofs.Beginning.{IsBegun, history}
use Rattle.run_laws.proofs.Weave.{by_mine, mine_here, mine_other}
use Rattle.run_laws.proofs.Agree.{history_tail}

abbrev pub filled_bit : Filled → ℕ
filled_bit within = 0
filled_bit _ = 1

-- what a step does to STOP, CONS and these folds
data Kind (w : Word) (op : WordOp) (arg answer : ℕ) : Type 0 where
  looks : w ≡ Stop → op ≡ Load → Kind w op arg answer
  sets : w ≡ Stop → op ≡ Exchange 0 → arg ≢ 0 → Kind w op arg answer
  places : w ≡ Cons → op ≡ Add → arg ≡ 1 → Kind w op arg answer
  rests : ((p : Filled) → filled_next w op arg answer p ≡ p) → ((b : Bool) → may_draw_next w op arg answer b ≡ b) → ((n : ℕ) → value_next Cons w op n arg ≡ n) → ((n : ℕ) → value_next Stop w op n arg ≡ n) → Kind w op arg answer

a_reason : {l : Layout} (n : ℕ) → IsReason l n → n ≢ 0
a_reason n (pass e) f = omega (arith, e, f)
a_reason n (fail code lt e) f = omega (arith, e, f)
a_reason n (limit h lt e) f = omega (arith, e, f)
a_reason n (output_full e) f = omega (arith, e, f)
a_reason n (all_stopped e) f = omega (arith, e, f)
a_reason n (stopped e) f = omega (arith, e, f)

kind_of : {l : Layout} {a : ℕ} {runs : Bool} {r : List Step} {w : Word} {op : WordOp} {arg : ℕ} (answer : ℕ) → ActorMay l a runs r w op arg → Kind w op arg answer
kind_of answer load_stop = looks refl refl
kind_of {arg = arg} answer (set_stop k) = sets refl refl (a_reason arg k)
kind_of answer (draw m) = places refl refl refl
kind_of answer m = rests (λ p. refl) (λ b. refl) (λ n. refl) (λ n. refl)

-- the folds of an actor and the two words
pub record Bounded (boot : List Step) (ts : List Placed) : Type 0 where
  pub told : (a : ℕ) → filled (steps (mine a ts)) ≡ ended → word_value Stop (history boot ts) ≢ 0
  pub free : (a : ℕ) → may_draw (steps (mine a ts)) ≡ true → filled (steps (mine a ts)) ≡ within
  pub most : word_value Cons (history boot ts) ≤ console_places + total (λ a. filled_bit (filled (steps (mine a ts)))) 9

not_others : (p : Filled) → p ≢ beyond → p ≢ ended → p ≡ within
not_others within f g = refl
not_others beyond f g = absurd (f refl)
not_others ended f g = absurd (g refl)

said_bit : (p : Filled) → filled_bit (said p) ≡ filled_bit p
said_bit within = refl
said_bit beyond = refl
said_bit ended = refl

bit_few : (p : Filled) → filled_bit p ≤ 1
bit_few within = omega arith
bit_few beyond = omega arith
bit_few ended = omega arith

exchanged : (old arg : ℕ) → arg ≢ 0 → either (old == 0) arg old ≢ 0
exchanged zero arg ne e = ne e
exchanged (suc n) arg ne e = omega (arith, sym (ap (λ (b : Bool). either b arg (suc n)) (ne_eqb (suc n) 0 (λ z. omega (arith, z)))) ∙ e)

module _ (boot : List Step) (t : Placed) (ts : List Placed) (ok : Bounded boot ts) where
  -- the folds of each after the step
  by_steps : (P : ℕ → List Step → Type 0) (a : ℕ) → P t.step.actor (t.step ∷ steps (mine t.step.actor ts)) → (a ≢ t.step.actor → P a (steps (mine a ts))) → P a (steps (mine a (t ∷ ts)))
  by_steps P a mine_ other = by_mine (λ b l. P b (steps l)) a t ts mine_ other

  abbrev New : Filled
  New = filled_next (name_of t.step.word) t.step.op t.step.arg t.step.answer (filled (steps (mine t.step.actor ts)))

  sums : Sums 9 t.step.actor (filled_bit (filled (steps (mine t.step.actor ts)))) (filled_bit (filled (steps (mine t.step.actor (t ∷ ts)))))
      (total (λ a. filled_bit (filled (steps (mine a ts)))) 9) (total (λ a. filled_bit (filled (steps (mine a (t ∷ ts))))) 9)
  sums = sums_of (λ a. filled_bit (filled (steps (mine a ts)))) (λ a. filled_bit (filled (steps (mine a (t ∷ ts))))) t.step.actor 9 (λ a ne. ap (λ l. filled_bit (filled (steps l))) (mine_other a t ts ne))

  now_is : filled (steps (mine t.step.actor (t ∷ ts))) ≡ New
  now_is = ap (λ l. filled (steps l)) (mine_here t ts)

  same_total : filled_bit New ≡ filled_bit (filled (steps (mine t.step.actor ts))) → total (λ a. filled_bit (filled (steps (mine a (t ∷ ts))))) 9 ≡ total (λ a. filled_bit (filled (steps (mine a ts)))) 9
  same_total e = sums.kept (ap filled_bit now_is ∙ e)

  -- nothing moved, but the fold of looking and drawing
  quiet : New ≡ filled (steps (mine t.step.actor ts)) → (may_draw (t.step ∷ steps (mine t.step.actor ts)) ≡ true → filled (steps (mine t.step.actor ts)) ≡ within)
      → word_value Cons (history boot (t ∷ ts)) ≡ word_value Cons (history boot ts) → word_value Stop (history boot (t ∷ ts)) ≡ word_value Stop (history boot ts) → Bounded boot (t ∷ ts)
  quiet same looked cons_is stop_is = record {
    told = λ a. by_steps (λ a l. filled l ≡ ended → word_value Stop (history boot (t ∷ ts)) ≢ 0) a
        (λ e z. ok.told t.step.actor (sym same ∙ e) (sym stop_is ∙ z)) (λ _ e z. ok.told a e (sym stop_is ∙ z));
    free = λ a. by_steps (λ a l. may_draw l ≡ true → filled l ≡ within) a (λ e. same ∙ looked e) (λ _. ok.free a);
    most = let x = same_total (ap filled_bit same) in let y = ok.most in omega (arith, x, y, cons_is);
  }

  bounded_act : t.step.actor < 9 → t.step.answer ≡ answer_of t.step.op (word_value (name_of t.step.word) (history boot ts)) → Drawing (steps (mine t.step.actor ts)) (name_of t.step.word) t.step.op
      → Kind (name_of t.step.word) t.step.op t.step.arg t.step.answer → Bounded boot (t ∷ ts)
  bounded_act lt an ds (rests f g x y) = quiet (f (filled (steps (mine t.step.actor ts)))) (λ e. ok.free t.step.actor (sym (g (may_draw (steps (mine t.step.actor ts)))) ∙ e)) (x (word_value Cons (history boot ts))) (y (word_value Stop (history boot ts)))
  bounded_act lt an ds (looks e o) = quiet (λ i. filled_next (e i) (o i) t.step.arg t.step.answer (filled (steps (mine t.step.actor ts)))) looked
      (λ i. value_next Cons (e i) (o i) (word_value Cons (history boot ts)) t.step.arg) (λ i. value_next Stop (e i) (o i) (word_value Stop (history boot ts)) t.step.arg)
    where
      drawing : filled (steps (mine t.step.actor ts)) ≢ beyond
      drawing = subst (λ p. Drawing (steps (mine t.step.actor ts)) Stop p) o (subst (λ v. Drawing (steps (mine t.step.actor ts)) v t.step.op) e ds)

      looked : may_draw (t.step ∷ steps (mine t.step.actor ts)) ≡ true → filled (steps (mine t.step.actor ts)) ≡ within
      looked b = not_others (filled (steps (mine t.step.actor ts))) drawing (λ z. ok.told t.step.actor z stop_zero)
        where
          answer_zero : t.step.answer ≡ 0
          answer_zero = eqb-true t.step.answer 0 (sym (λ i. may_draw_next (e i) (o i) t.step.arg t.step.answer (may_draw (steps (mine t.step.actor ts)))) ∙ b)

          stop_zero : word_value Stop (history boot ts) ≡ 0
          stop_zero = sym (an ∙ (λ i. answer_of (o i) (word_value (e i) (history boot ts)))) ∙ answer_zero
  bounded_act lt an ds (sets e o ne) = record {
    told = λ a _. stop_set;
    free = λ a. by_steps (λ a l. may_draw l ≡ true → filled l ≡ within) a
        (λ b. (λ i. filled_next (e i) (o i) t.step.arg t.step.answer (filled (steps (mine t.step.actor ts))))
        ∙ ap said (ok.free t.step.actor (sym (λ i. may_draw_next (e i) (o i) t.step.arg t.step.answer (may_draw (steps (mine t.step.actor ts)))) ∙ b))) (λ _. ok.free a);
    most = let x = same_total (ap filled_bit (λ i. filled_next (e i) (o i) t.step.arg t.step.answer (filled (steps (mine t.step.actor ts)))) ∙ said_bit (filled (steps (mine t.step.actor ts)))) in
        let y = ok.most in let z : word_value Cons (history boot (t ∷ ts)) ≡ word_value Cons (history boot ts) = (λ i. value_next Cons (e i) (o i) (word_value Cons (history boot ts)) t.step.arg) in omega (arith, x, y, z);
  }
    where
      stop_set : word_value Stop (history boot (t ∷ ts)) ≢ 0
      stop_set z = exchanged (word_value Stop (history boot ts)) t.step.arg ne (sym (λ i. value_next Stop (e i) (o i) (word_value Stop (history boot ts)) t.step.arg) ∙ z)
  bounded_act lt an ds (places e o ar) = by_lt t.step.answer console_places (λ v. (nat_lt t.step.answer console_places ≡ v) → Bounded boot (t ∷ ts)) inside outside refl
    where
      was : filled (steps (mine t.step.actor ts)) ≡ within
      was = ok.free t.step.actor (subst (λ p. Drawing (steps (mine t.step.actor ts)) Cons p) o (subst (λ v. Drawing (steps (mine t.step.actor ts)) v t.step.op) e ds))

      answer_is : t.step.answer ≡ word_value Cons (history boot ts)
      answer_is = an ∙ (λ i. answer_of (o i) (word_value (e i) (history boot ts)))

      few : total (λ a. filled_bit (filled (steps (mine a ts)))) 9 ≤ 9
      few = total_few (λ a. filled_bit (filled (steps (mine a ts)))) 9 (λ a. bit_few (filled (steps (mine a ts))))

      more : word_value Cons (history boot (t ∷ ts)) ≡ word_value Cons (history boot ts) + 1
      more = (λ i. value_next Cons (e i) (o i) (word_value Cons (history boot ts)) (ar i)) ∙ (let x = few in let y = ok.most in omega (arith, x, y))

      stop_same : word_value Stop (history boot (t ∷ ts)) ≡ word_value Stop (history boot ts)
      stop_same = λ i. value_next Stop (e i) (o i) (word_value Stop (history boot ts)) t.step.arg

      filled_as : (v : Bool) → nat_lt t.step.answer console_places ≡ v → New ≡ (if v then within else beyond)
      filled_as v k = (λ i. filled_next (e i) (o i) t.step.arg t.step.answer (was i)) ∙ (ap (λ (b : Bool). if b then within else overflow within) k)

      inside : t.step.answer < console_places → nat_lt t.step.answer console_places ≡ true → Bounded boot (t ∷ ts)
      inside lt k = record {
        told = λ a. by_steps (λ a l. filled l ≡ ended → word_value Stop (history boot (t ∷ ts)) ≢ 0) a
            (λ f z. cc (filled_as true k, f)) (λ _ f z. ok.told a f (sym stop_same ∙ z));
        free = λ a. by_steps (λ a l. may_draw l ≡ true → filled l ≡ within) a (λ _. filled_as true k) (λ _. ok.free a);
        most = let x = more in let y = answer_is in omega (arith, x, y, lt);
      }

      outside : console_places ≤ t.step.answer → nat_lt t.step.answer console_places ≡ false → Bounded boot (t ∷ ts)
      outside le k = record {
        told = λ a. by_steps (λ a l. filled l ≡ ended → word_value Stop (history boot (t ∷ ts)) ≢ 0) a
            (λ f z. cc (filled_as false k, f)) (λ _ f z. ok.told a f (sym stop_same ∙ z));
        free = λ a. by_steps (λ a l. may_draw l ≡ true → filled l ≡ within) a (λ b. absurd (shut b)) (λ _. ok.free a);
        most = let x = sums.changed lt in let y = more in let z = ok.most in let p = ap filled_bit was in let q = ap filled_bit (now_is ∙ filled_as false k) in omega (arith, x, y, z, p, q);
      }
        where
          and_false : (b : Bool) → (b && false) ≡ false
          and_false true = refl
          and_false false = refl

          shut : may_draw (t.step ∷ steps (mine t.step.actor ts)) ≡ true → ⊥
          shut b = true≢false (sym b ∙ ((λ i. may_draw_next (e i) (o i) t.step.arg t.step.answer (may_draw (steps (mine t.step.actor ts))))
              ∙ (ap (λ v. may_draw (steps (mine t.step.actor ts)) && v) k ∙ and_false (may_draw (steps (mine t.step.actor ts))))))

module _ (u : Setup) (boot : List Step) (runs : ℕ → Bool) (begun : IsBegun u boot) where
  pub bounded : (ts : List Placed) → IsHistory u.layout runs (history boot ts) → Told u ts → Bounded boot ts
  bounded [] h d = record {
    told = λ a e. cc (e);
    free = λ a e. refl;
    most = let x : word_value Cons boot ≡ 0 = sym (held_value Cons boot tt) ∙ begun.output in omega (arith, x);
  }
  bounded (t ∷ ts) h d = go d.0.who (woven u.layout runs (history boot (t ∷ ts)) h).0.permitted (bounded ts (history_tail u runs t.step (history boot ts) h) d.1)
    where
      nine : IsActor u.layout t.step.actor → t.step.actor < 9
      nine (inl lt) = let p = begun.limits.harts in omega (arith, lt, p)
      nine (inr e) = omega (arith, e)

      go : (t.step.actor ≢ loader) ⊎ IsIdleStep t → IsPermitted u.layout t.step.actor (runs t.step.actor) (own_steps t.step.actor (history boot ts)) (name_of t.step.word) t.step.op t.step.arg → Bounded boot ts → Bounded boot (t ∷ ts)
      go (inr i) p ok = quiet boot t ts ok (λ j. filled_next (i.0 j) (i.1 j) t.step.arg t.step.answer (filled (steps (mine t.step.actor ts))))
          (λ b. ok.free t.step.actor (sym (λ j. may_draw_next (i.0 j) (i.1 j) t.step.arg t.step.answer (may_draw (steps (mine t.step.actor ts)))) ∙ b))
          (λ j. value_next Cons (i.0 j) (i.1 j) (word_value Cons (history boot ts)) t.step.arg) (λ j. value_next Stop (i.0 j) (i.1 j) (word_value Stop (history boot ts)) t.step.arg)
      go (inl ne) (by_loader e m) ok = absurd (ne e)
      go (inl ne) (by_actor who f m) ok = bounded_act boot t ts ok (nine who) (woven u.layout runs (history boot (t ∷ ts)) h).0.answered d.0.right.draws (kind_of t.step.answer m)

  -- places drawn
  pub cons_few : (ts : List Placed) → IsHistory u.layout runs (history boot ts) → Told u ts → value_at (number_of Cons) (history boot ts) < 2 ^ 63
  cons_few ts h d =
      let k = bounded ts h d in
      let x = k.most in
      let y = total_few (λ a. filled_bit (filled (steps (mine a ts)))) 9 (λ a. bit_few (filled (steps (mine a ts)))) in
      let z = held_value Cons (history boot ts) tt in
      omega (arith, x, y, z)
