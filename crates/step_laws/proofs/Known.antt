-- What may stand in a word.
use Rattle.std.proofs.Common.{◌≡◌, ℕ, Bool, List, refl, sym, ap, subst, inl, inr}
use Rattle.std.specs.Prelude.{◌==◌, ◌%◌, if◌then◌else◌}
use prog.Atomic.{either}
use Rattle.step_laws.specs.declared.words.Layout.{Layout}
use Rattle.step_laws.specs.declared.steps.Step.{Step}
use Rattle.step_laws.specs.declared.steps.WordOp.{WordOp}
use Rattle.step_laws.specs.declared.map.TlbField.TheVariants.{Read}
use Rattle.step_laws.specs.Map.{Word, Stop, Size, Hsm, Start, Place, name_of, same}
use Rattle.step_laws.specs.WordValues.{word_value, value_next}
use Rattle.step_laws.specs.Discipline.{ActorMay, set_stop, post, ack, set_start}
use Rattle.step_laws.specs.Ranges.{MayStand, RangeFacts}
use Rattle.step_laws.proofs.Woven.{Woven, woven}
use Rattle.step_laws.proofs.Along.{facts_along}
use Rattle.step_laws.proofs.Halting.{states}
use Rattle.step_laws.proofs.Slots.{table_facts, by_bool}

-- the words that aren't known by the facts on hart states and tables
record Ranges (layout : Layout) (words : Word → ℕ) : Type 0 where
  stop : MayStand layout Stop (words Stop)
  places : (t s k : ℕ) → MayStand layout (Place t s k) (words (Place t s k))
  starts : (h : ℕ) → MayStand layout (Start h) (words (Start h))

module _ (layout : Layout) (c : ℕ) (runs : Bool) (r : List Step) where
  stop_step : (w : Word) (op : WordOp) (arg n : ℕ) → ActorMay layout c runs r w op arg → MayStand layout Stop n → MayStand layout Stop (value_next Stop w op n arg)
  stop_step w op arg n (set_stop p) old = by_bool (n == 0) (λ t. MayStand layout Stop (either t arg n)) (inr p) old
  stop_step w op arg n m old = old

  place_step : (t s k : ℕ) (w : Word) (op : WordOp) (arg n : ℕ) → ActorMay layout c runs r w op arg → MayStand layout (Place t s k) n → MayStand layout (Place t s k) (value_next (Place t s k) w op n arg)
  place_step t s k w op arg n (post {t = u} {k = l} p few at q free) old = by_bool (same (Place t s k) (Place u c l)) (λ b. MayStand layout (Place t s k) (if b then arg else n)) (inr q) old
  place_step t s k w op arg n (ack {s = v} {k = l} p few at calm is asked done) old = by_bool (same (Place t s k) (Place c v l)) (λ b. MayStand layout (Place t s k) (if b then 0 else n)) (inl refl) old
  place_step t s k w op arg n m old = old

  start_step : (h : ℕ) (w : Word) (op : WordOp) (arg n : ℕ) → ActorMay layout c runs r w op arg → n % 4 ≡ 0 → value_next (Start h) w op n arg % 4 ≡ 0
  start_step h w op arg n (set_start {h = x} o z) old = by_bool (h == x) (λ t. (if t then arg else n) % 4 ≡ 0) z old
  start_step h w op arg n m old = old

pub range_facts : RangeFacts
range_facts layout runs hs w i b = all w
  where
    o : Woven layout runs hs
    o = woven layout runs hs i

    f : Ranges layout (λ w. word_value w hs)
    f = facts_along layout runs (λ h words own. Ranges layout words) i.limits
        (λ h words s _. record { stop = subst (MayStand layout Stop) (sym s.stop) (inl refl); places = λ t s' k. inl (s.places t s' k); starts = λ h. ap (λ n. n % 4) (s.starts h) })
        (λ s h words own _ f. f)
        (λ s h words own a f. record {
          stop = stop_step layout s.actor (runs s.actor) (own s.actor) (name_of s.word) s.op s.arg (words Stop) a.may f.stop;
          places = λ t x k. place_step layout s.actor (runs s.actor) (own s.actor) t x k (name_of s.word) s.op s.arg (words (Place t x k)) a.may (f.places t x k);
          starts = λ h. start_step layout s.actor (runs s.actor) (own s.actor) h (name_of s.word) s.op s.arg (words (Start h)) a.may (f.starts h);
        }) hs o b

    all : (w : Word) → MayStand layout w (word_value w hs)
    all Stop = f.stop
    all (Place t s k) = f.places t s k
    all (Start h) = f.starts h
    all (Hsm h) = (states layout runs i.limits hs o b).low h
    all (Size h) = λ l. (table_facts layout runs hs h 0 Read i b l).2
    all w = tt
