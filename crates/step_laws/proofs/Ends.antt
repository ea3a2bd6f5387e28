-- STOP stays set.
use Rattle.std.proofs.Common.{◌≡◌, ◌≢◌, ℕ, Bool, true, List, sym, ap, subst, ◌∙◌, inl, inr, arith, true≢false}
use Rattle.std.specs.Prelude.{◌==◌, ◌⊎◌}
use Rattle.std.proofs.lemmas.Bool.{cases_eq, ne_eqb}
use prog.Atomic.{either}
use Rattle.step_laws.specs.declared.words.Layout.{Layout}
use Rattle.step_laws.specs.declared.steps.Step.{Step}
use Rattle.step_laws.specs.declared.steps.WordOp.{WordOp}
use Rattle.step_laws.specs.Map.{Word, Stop, Place, name_of}
use Rattle.step_laws.specs.WordValues.{value_next}
use Rattle.step_laws.specs.Fields.{IsReason, pass, fail, limit, output_full, all_stopped, stopped}
use Rattle.step_laws.specs.Output.{has_set_stop, has_set_stop_next}
use Rattle.step_laws.specs.OutputLaws.{EndLaw}
use Rattle.step_laws.specs.Ranges.{FindFacts}
use Rattle.step_laws.specs.Discipline.{ActorMay, set_stop}
use Rattle.step_laws.proofs.Woven.{woven, acts_of, by_put, move}
use Rattle.step_laws.proofs.Along.{facts_along}
use Rattle.step_laws.proofs.Apart.{actor_off}
use Rattle.step_laws.proofs.Known.{range_facts}

some_reason : (layout : Layout) (n : ℕ) → IsReason layout n → n ≢ 0
some_reason layout n (pass e) z = omega arith
some_reason layout n (fail code l e) z = omega arith
some_reason layout n (limit h l e) z = omega arith
some_reason layout n (output_full e) z = omega arith
some_reason layout n (all_stopped e) z = omega arith
some_reason layout n (stopped e) z = omega arith

set_here : (layout : Layout) (n reason : ℕ) → IsReason layout reason → either (n == 0) reason n ≢ 0
set_here layout n reason p = by_value (cases_eq n 0)
  where
    by_value : (n ≡ 0) ⊎ (n ≢ 0) → either (n == 0) reason n ≢ 0
    by_value (inl e) = subst (λ m. either (m == 0) reason m ≢ 0) (sym e) (some_reason layout reason p)
    by_value (inr ne) = subst (λ t. either t reason n ≢ 0) (sym (ne_eqb n 0 ne)) ne

module _ (layout : Layout) (c : ℕ) (runs : Bool) (r : List Step) where
  own_end : (w : Word) (op : WordOp) (arg answer n : ℕ) (b : Bool) → ActorMay layout c runs r w op arg → (b ≡ true → n ≢ 0) → has_set_stop_next w op arg answer b ≡ true → value_next Stop w op n arg ≢ 0
  own_end w op arg answer n b (set_stop {reason} p) old e = set_here layout n reason p
  own_end w op arg answer n b m old e = old e

  other_end : (w : Word) (op : WordOp) (arg n : ℕ) → ActorMay layout c runs r w op arg → n ≢ 0 → value_next Stop w op n arg ≢ 0
  other_end w op arg n (set_stop {reason} p) old = set_here layout n reason p
  other_end w op arg n m old = old

pub end_law : EndLaw
end_law layout runs hs a who i b e = facts_along layout runs (λ h words own. (a : ℕ) → has_set_stop (own a) ≡ true → words Stop ≢ 0) i.limits
    (λ h words o l a f. absurd (true≢false (sym f)))
    (λ s h words own k f. f)
    (λ s h words own o f a. by_put (λ a q. has_set_stop q ≡ true → move s words Stop ≢ 0) a s own
    (own_end layout s.actor (runs s.actor) (own s.actor) (name_of s.word) s.op s.arg s.answer (words Stop) (has_set_stop (own s.actor)) o.may (f s.actor))
    (λ ne is. other_end layout s.actor (runs s.actor) (own s.actor) (name_of s.word) s.op s.arg (words Stop) o.may (f a is)))
    hs (woven layout runs hs i) b a (ap has_set_stop (acts_of hs a (actor_off layout a i.limits.harts who)) ∙ e)

pub find_facts : FindFacts
find_facts layout runs hs a Stop who i b = (range_facts layout runs hs Stop i b, λ e. end_law layout runs hs a who i b e)
find_facts layout runs hs a (Place t s k) who i b = range_facts layout runs hs (Place t s k) i b
find_facts layout runs hs a w who i b = range_facts layout runs hs w i b
