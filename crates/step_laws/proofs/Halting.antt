-- Hart states, by induction along the history.
use Rattle.std.proofs.Common.{◌≡◌, ◌≢◌, ℕ, zero, suc, ◌+◌, ◌<◌, ◌≤◌, Bool, true, false, true≢false, List, [], ◌∷◌, ◌++◌, refl, sym, ap, subst, ◌∙◌, inl, inr, arith, ⊎_elim}
use Rattle.std.specs.Prelude.{◌==◌, ◌⊎◌, if◌then◌else◌}
use Rattle.std.proofs.lemmas.Bool.{eqb-true, eq-eqb}
use Rattle.step_laws.specs.declared.words.Layout.{Layout}
use Rattle.step_laws.specs.declared.steps.Step.{Step}
use Rattle.step_laws.specs.declared.steps.WordOp.{WordOp}
use Rattle.step_laws.specs.declared.steps.WordOp.TheVariants.{Load, Store, Add, Exchange}
use Rattle.step_laws.specs.Layout.{IsInLimits}
use Rattle.step_laws.specs.Map.{Word, Zero, Live, Hsm, Start, Opaque, name_of, loader}
use Rattle.step_laws.specs.WordValues.{word_value, value_next}
use Rattle.step_laws.specs.Steps.{own_steps, answer_of}
use Rattle.step_laws.specs.Past.{Earlier, at_head, further, Anything}
use Rattle.step_laws.specs.Harts.{is_running, Opening, closed, counted, opening, opening_next, idle, called, with_start, taking, is_owing}
use Rattle.step_laws.specs.Discipline.{IsPermitted, by_loader, by_actor, ActorMay, LoaderMay, boot_live, boot_hsm, minus_one, load_start, load_opaque, set_start, set_opaque, add_live, take_live}
use Rattle.step_laws.specs.Histories.{IsBegun}
use Rattle.step_laws.specs.HartLaws.{opens, open_bit, uncounted_bit, bit, unstopped_bit, total, IsSparing, IsGiven, IsInProgress, HartStates, HartFacts, IsTake, StopLaw, StartLaw, MoveLaw, SettledLaw}
use Rattle.step_laws.proofs.Named.{by_test}
use Rattle.step_laws.proofs.Woven.{Woven, woven, woven_before, acts, acts_of, put, by_put, by_two, move, IsAct, IsStart, loader_op}
use Rattle.step_laws.proofs.Along.{facts_along, act_of, IsCalm}
use Rattle.step_laws.proofs.Apart.{actor_off}
use Rattle.step_laws.proofs.States.{low_step, run_here, run_else, opens_here, open_here, three_else, call_here, call_else, three_before, opens_on, opener_here, owes_here, spares, moves, two_before, one_stays, progress_on, progress_here, sparing}
use Rattle.step_laws.proofs.Counted.{total_le, total_sum, total_few, total_one, total_none, Sums, sums_of, counted_step}

put_here : (s : Step) (own : ℕ → List Step) → put s own s.actor ≡ s ∷ own s.actor
put_here s own = ap (λ (t : Bool). if t then s ∷ own s.actor else own s.actor) (eq-eqb s.actor s.actor refl)

put_off : (s : Step) (own : ℕ → List Step) (a : ℕ) → a ≢ s.actor → put s own a ≡ own a
put_off s own a ne = by_test a s.actor (λ t. (if t then s ∷ own a else own a) ≡ own a) (λ e. absurd (ne e)) (λ _. refl)

sums_put : (φ : ℕ → List Step → ℕ) (s : Step) (own : ℕ → List Step) (n : ℕ) → Sums n s.actor (φ s.actor (own s.actor)) (φ s.actor (s ∷ own s.actor)) (total (λ a. φ a (own a)) n) (total (λ a. φ a (put s own a)) n)
sums_put φ s own n = subst (λ r. Sums n s.actor (φ s.actor (own s.actor)) (φ s.actor r) (total (λ a. φ a (own a)) n) (total (λ a. φ a (put s own a)) n)) (put_here s own)
    (sums_of (λ a. φ a (own a)) (λ a. φ a (put s own a)) s.actor n (λ h ne. ap (φ h) (put_off s own h ne)))

total_first : (f : ℕ → ℕ) (n : ℕ) → f 0 ≡ 1 → ((h : ℕ) → 1 ≤ h → h < suc n → f h ≡ 0) → total f (suc n) ≡ 1
total_first f zero e k = omega (arith, e)
total_first f (suc n) e k = omega (arith, total_first f n e (λ h p q. k h p (omega arith)), k (suc n) (omega arith) (omega arith))

from_one : (P : ℕ → Type 0) (n : ℕ) → 1 ≤ n → ((m : ℕ) → n ≡ suc m → P (suc m)) → P n
from_one P zero p f = absurd (omega arith)
from_one P (suc m) p f = f m refl

uncounted_le : (o : Opening) → uncounted_bit o ≤ open_bit o
uncounted_le o = by o
  where
    by : (o : Opening) → uncounted_bit o ≤ open_bit o
    by closed = omega arith
    by (counted x) = omega arith
    by o = omega arith

open_cases : (o : Opening) → (open_bit o ≡ 0) ⊎ (open_bit o ≡ 1)
open_cases closed = inl refl
open_cases o = inr refl

unstopped_few : (n : ℕ) → unstopped_bit n ≤ 1
unstopped_few n = by_test n 1 (λ t. (if t then 0 else 1) ≤ 1) (λ _. omega arith) (λ _. omega arith)

bit_few : (b : Bool) → bit b ≤ 1
bit_few true = omega arith
bit_few false = omega arith

module _ (layout : Layout) (runs : ℕ → Bool) (limits : IsInLimits layout) where
  states_start : (hs : List Step) (words : Word → ℕ) → IsStart layout runs words → HartStates layout runs hs words (λ _. [])
  states_start hs words o = record {
    low = λ h. omega (arith, o.low h);
    run = o.ran;
    opens_it = λ a h k. absurd (true≢false (sym k));
    alone = λ a b h ne k. absurd (true≢false (sym k));
    three = λ h e. absurd (omega (arith, o.low h));
    opener = λ a k. absurd (omega arith);
    opened_hart = λ a h k. absurd (true≢false (sym k));
    call = λ h k. absurd (k refl);
    owes = λ a k. absurd (true≢false (sym k));
    progress = λ a. tt;
    given = λ h e. absurd (omega (arith, o.low h));
    starts = total_none (λ h. bit (words (Hsm h) == 3)) layout.harts (λ h l. by_test (words (Hsm h)) 3 (λ t. bit t ≡ 0) (λ e. absurd (omega (arith, o.low h))) (λ _. refl)) ∙ sym (total_none (λ a. 0) layout.harts (λ h l. refl));
    live = from_one (λ n. ((h : ℕ) → 1 ≤ h → h < n → words (Hsm h) ≡ 1) → words Live + total (λ a. 0) n ≡ total (λ h. unstopped_bit (words (Hsm h))) n + total (λ a. 0) n) layout.harts limits.some_hart
        (λ m _ others. let t : total (λ h. unstopped_bit (words (Hsm h))) (suc m) ≡ 1 = total_first (λ h. unstopped_bit (words (Hsm h))) m (ap unstopped_bit o.first) (λ h p q. ap unstopped_bit (others h p q)) in omega (arith, t, o.live)) o.others;
  }

  -- a start that is open is of two harts that aren't stopped
  states_half : (hs : List Step) (words : Word → ℕ) (own : ℕ → List Step) → HartStates layout runs hs words own
      → total (λ a. uncounted_bit (opening (own a))) layout.harts + total (λ a. uncounted_bit (opening (own a))) layout.harts ≤ total (λ h. unstopped_bit (words (Hsm h))) layout.harts
  states_half hs words own f =
      let n : ℕ = layout.harts in
      let c : total (λ a. uncounted_bit (opening (own a))) n ≤ total (λ a. open_bit (opening (own a))) n = total_le (λ a. uncounted_bit (opening (own a))) (λ a. open_bit (opening (own a))) n (λ h l. uncounted_le (opening (own h))) in
      let d : total (λ h. open_bit (opening (own h)) + bit (words (Hsm h) == 3)) n ≤ total (λ h. unstopped_bit (words (Hsm h))) n = total_le (λ h. open_bit (opening (own h)) + bit (words (Hsm h) == 3)) (λ h. unstopped_bit (words (Hsm h))) n each in
      omega (arith, c, d, total_sum (λ h. open_bit (opening (own h))) (λ h. bit (words (Hsm h) == 3)) n, f.starts)
    where
      each : (h : ℕ) → h < layout.harts → open_bit (opening (own h)) + bit (words (Hsm h) == 3) ≤ unstopped_bit (words (Hsm h))
      each h l = ⊎_elim
          (λ (e : open_bit (opening (own h)) ≡ 0). by_test (words (Hsm h)) 3 (λ t. open_bit (opening (own h)) + bit t ≤ unstopped_bit (words (Hsm h)))
          (λ i. let u : unstopped_bit (words (Hsm h)) ≡ 1 = ap unstopped_bit i in omega (arith, e, u)) (λ _. omega (arith, e)))
          (λ (e : open_bit (opening (own h)) ≡ 1).
          let z : words (Hsm h) ≡ 0 = eqb-true (words (Hsm h)) 0 (sym (f.run h l) ∙ (f.opener h e).1) in
          let u : unstopped_bit (words (Hsm h)) ≡ 1 = ap unstopped_bit z in
          let v : bit (words (Hsm h) == 3) ≡ 0 = ap (λ m. bit (m == 3)) z in omega (arith, e, u, v))
          (open_cases (opening (own h)))

  states_step : (s : Step) (hs : List Step) (words : Word → ℕ) (own : ℕ → List Step) → IsAct layout runs words own s → HartStates layout runs hs words own → HartStates layout runs (s ∷ hs) (move s words) (put s own)
  states_step s hs words own o f = record {
    low = λ h. low_step layout c (runs c) r words h w s.op s.arg (words (Hsm h)) o.may (f.low h);
    run = λ h l. by_put (λ a q. a < layout.harts → is_running a (runs a) q ≡ (move s words (Hsm a) == 0)) h s own
        (λ l. run_here layout c (runs c) r words w s.op s.arg s.answer (words (Hsm c)) o.may (f.run c l))
        (λ ne l. run_else layout c (runs c) r words h w s.op s.arg (words (Hsm h)) (is_running h (runs h) (own h)) ne o.may (f.opens_it c h) (f.run h l)) l;
    opens_it = λ a h. by_put (λ a q. opens (opening q) h ≡ true → move s words (Hsm h) ≡ 3) a s own
        (open_here layout c (runs c) r words h w s.op s.arg s.answer o.may o.answered (f.opens_it c h))
        (λ ne k. three_else layout c (runs c) r words h w s.op s.arg o.may (f.alone a c h ne k) (f.call c) (f.run c) (f.opens_it a h k));
    alone = λ a b h ne. by_two (λ a r b q. opens (opening r) h ≡ true → opens (opening q) h ≡ true → ⊥) a b s own ne
        (λ off k l. mine h k (λ x. f.alone c b h off x l) (f.opens_it b h l))
        (λ off l k. mine h k (λ x. f.alone a c h off l x) (f.opens_it a h l))
        (λ _ _. f.alone a b h ne);
    three = λ h e. ⊎_elim
        (λ (x : words (Hsm h) ≡ 3). let old = f.three h x in (
          old.0,
          by_put (λ b q. opens (opening (own b)) h ≡ true → opens (opening q) h ≡ true) old.0 s own
              (opens_on layout c (runs c) r words h w s.op s.arg s.answer o.may (λ i. (f.opener c i).1) e) (λ _ k. k) old.1,
        ))
        (λ (x : opens (opening_next w s.op s.arg s.answer (opening r)) h ≡ true). (c, ap (λ q. opens (opening q) h) (put_here s own) ∙ x))
        (three_before layout c (runs c) r words h w s.op s.arg s.answer o.may o.answered e);
    opener = λ a. by_put (λ a q. open_bit (opening q) ≡ 1 → (a < layout.harts) × (is_running a (runs a) q ≡ true)) a s own
        (opener_here layout c (runs c) r words w s.op s.arg s.answer o.may (f.opener c)) (λ _. f.opener a);
    opened_hart = λ a h. by_put (λ a q. opens (opening q) h ≡ true → h < layout.harts) a s own
        (λ k. ⊎_elim (λ (x : opens (opening r) h ≡ true). f.opened_hart c h x) (λ (x : (words (Hsm h) ≡ 1) × (w ≡ Hsm h) × (s.op ≡ Exchange 1) × (h < layout.harts)). x.3)
        (opens_here layout c (runs c) r words h w s.op s.arg s.answer o.may o.answered k)) (λ _. f.opened_hart a h);
    call = λ h. by_put (λ a q. taking a q ≢ idle → move s words (Hsm a) ≡ 2) h s own
        (call_here layout c (runs c) r words w s.op s.arg s.answer o.may o.answered (f.call c))
        (λ ne k. call_else layout c (runs c) r words h w s.op s.arg ne o.may (f.call h k));
    owes = λ a. by_put (λ a q. is_owing a q ≡ true → (a < layout.harts) × (is_running a (runs a) q ≡ false)) a s own
        (owes_here layout c (runs c) r words w s.op s.arg s.answer o.may (f.owes c)) (λ _. f.owes a);
    progress = λ a. by_put (λ a q. IsInProgress a (opening q) (move s words) (s ∷ hs)) a s own
        (progress_here layout c (runs c) r words s hs refl w s.op s.arg s.answer refl refl refl refl o.may (f.progress c))
        (λ ne. progress_on a (opening (own a)) words (move s words) s hs (λ h k. spared h (f.alone a c h ne k) (λ i. omega (arith, f.opens_it a h k))) (f.progress a));
    given = λ h e. ⊎_elim
        (λ (x : words (Hsm h) ≡ 2). let old = f.given h x in (
          old.0,
          progress_on old.0 (counted h) words (move s words) s hs
              (λ y k. subst (λ z. IsSparing z s × (move s words (Start z) ≡ words (Start z)) × (move s words (Opaque z) ≡ words (Opaque z))) (eqb-true h y k) (spared h (λ l. omega (arith, f.opens_it c h l)) (λ i. omega arith))) old.1,
        ))
        (λ (x : (opening r ≡ counted h) × (w ≡ Hsm h) × (s.op ≡ Store)). (
          c,
          progress_on c (counted h) words (move s words) s hs
              (λ y k. subst (λ z. IsSparing z s × (move s words (Start z) ≡ words (Start z)) × (move s words (Opaque z) ≡ words (Opaque z))) (eqb-true h y k) (ending h x.1 x.2))
              (subst (λ q. IsInProgress c q words hs) x.0 (f.progress c)),
        ))
        (two_before layout c (runs c) r words h w s.op s.arg o.may e);
    starts = sums.0;
    live = sums.1;
  }
    where
      c : ℕ
      c = s.actor

      r : List Step
      r = own s.actor

      w : Word
      w = name_of s.word

      mine : (h : ℕ) → opens (opening_next w s.op s.arg s.answer (opening r)) h ≡ true → (opens (opening r) h ≡ true → ⊥) → words (Hsm h) ≡ 3 → ⊥
      mine h k away three = ⊎_elim away (λ (x : (words (Hsm h) ≡ 1) × (w ≡ Hsm h) × (s.op ≡ Exchange 1) × (h < layout.harts)). omega (arith, x.0))
          (opens_here layout c (runs c) r words h w s.op s.arg s.answer o.may o.answered k)

      spared : (h : ℕ) → (opens (opening r) h ≡ true → ⊥) → words (Hsm h) ≢ 1 → IsSparing h s × (move s words (Start h) ≡ words (Start h)) × (move s words (Opaque h) ≡ words (Opaque h))
      spared h away off = spares layout c (runs c) r words h w s.op s.arg s.answer o.may o.answered away off

      ending : (h : ℕ) → w ≡ Hsm h → s.op ≡ Store → IsSparing h s × (move s words (Start h) ≡ words (Start h)) × (move s words (Opaque h) ≡ words (Opaque h))
      ending h e g = (
        sparing h s (Hsm h) Store s.answer e g refl (λ d k. absurd (cc), λ d. absurd (cc), λ d. absurd (cc)),
        ap (λ v. value_next (Start h) v s.op (words (Start h)) s.arg) e,
        ap (λ v. value_next (Opaque h) v s.op (words (Opaque h)) s.arg) e,
      )

      sums : (total (λ h. bit (move s words (Hsm h) == 3)) layout.harts ≡ total (λ a. open_bit (opening (put s own a))) layout.harts)
          × (move s words Live + total (λ a. uncounted_bit (opening (put s own a))) layout.harts
          ≡ total (λ h. unstopped_bit (move s words (Hsm h))) layout.harts + total (λ a. bit (is_owing a (put s own a))) layout.harts)
      sums = counted_step layout c (runs c) r words
          (total (λ h. bit (words (Hsm h) == 3)) layout.harts) (total (λ h. bit (move s words (Hsm h) == 3)) layout.harts)
          (total (λ a. open_bit (opening (own a))) layout.harts) (total (λ a. open_bit (opening (put s own a))) layout.harts)
          (total (λ a. uncounted_bit (opening (own a))) layout.harts) (total (λ a. uncounted_bit (opening (put s own a))) layout.harts)
          (total (λ h. unstopped_bit (words (Hsm h))) layout.harts) (total (λ h. unstopped_bit (move s words (Hsm h))) layout.harts)
          (total (λ a. bit (is_owing a (own a))) layout.harts) (total (λ a. bit (is_owing a (put s own a))) layout.harts)
          w s.op s.arg s.answer o.may (record {
            threes = λ x same. sums_of (λ h. bit (words (Hsm h) == 3)) (λ h. bit (move s words (Hsm h) == 3)) x layout.harts (λ h ne. ap (λ n. bit (n == 3)) (same h ne));
            opens_sum = sums_put (λ a q. open_bit (opening q)) s own layout.harts;
            counts_sum = sums_put (λ a q. uncounted_bit (opening q)) s own layout.harts;
            unstopped = λ x same. sums_of (λ h. unstopped_bit (words (Hsm h))) (λ h. unstopped_bit (move s words (Hsm h))) x layout.harts (λ h ne. ap unstopped_bit (same h ne));
            owing_sum = sums_put (λ a q. bit (is_owing a q)) s own layout.harts;
            answered = o.answered;
            three = λ h k. (f.opens_it c h k, f.opened_hart c h k);
            opener = f.opener c;
            owes = f.owes c;
            run = f.run c;
            call = f.call c;
            starts = f.starts;
            live = f.live;
            half = states_half hs words own f;
            some = λ e. let one : bit (is_owing c (own c)) ≡ 1 = ap bit e in omega (arith, one, total_one (λ a. bit (is_owing a (own a))) layout.harts c (f.owes c e).0);
            few = omega (arith, limits.harts, total_few (λ h. unstopped_bit (words (Hsm h))) layout.harts (λ h. unstopped_few (words (Hsm h))), total_few (λ a. bit (is_owing a (own a))) layout.harts (λ a. bit_few (is_owing a (own a))));
          })

  -- the loader's loads spare every hart
  states_quiet : (s : Step) (hs : List Step) (words : Word → ℕ) (own : ℕ → List Step) → (s.actor ≡ loader) × IsCalm s → HartStates layout runs hs words own → HartStates layout runs (s ∷ hs) words own
  states_quiet s hs words own e f = record {
    low = f.low;
    run = f.run;
    opens_it = f.opens_it;
    alone = f.alone;
    three = f.three;
    opener = f.opener;
    opened_hart = f.opened_hart;
    call = f.call;
    owes = f.owes;
    progress = λ a. progress_on a (opening (own a)) words words s hs (λ h k. (calm h, refl, refl)) (f.progress a);
    given = λ h x. let old = f.given h x in (old.0, progress_on old.0 (counted h) words words s hs (λ y k. (calm y, refl, refl)) old.1);
    starts = f.starts;
    live = f.live;
  }
    where
      calm : (h : ℕ) → IsSparing h s
      calm h = sparing h s Zero Load s.answer e.1.0 e.1.1 refl (λ d. absurd (cc), λ d. absurd (cc), λ d. absurd (cc))

  pub states : (h : List Step) → Woven layout runs h → IsBegun layout runs h → HartStates layout runs h (λ w. word_value w h) (acts h)
  states = facts_along layout runs (λ hs words own. HartStates layout runs hs words own) limits (λ h words o _. states_start h words o) states_quiet states_step

-- facts along a history that rest on the hart states before each step
module _ (layout : Layout) (runs : ℕ → Bool) (limits : IsInLimits layout) (F : List Step → (Word → ℕ) → (ℕ → List Step) → Type 0)
    (start : (h : List Step) (words : Word → ℕ) → IsStart layout runs words → F h words (λ _. []))
    (quiet : (s : Step) (h : List Step) (words : Word → ℕ) (own : ℕ → List Step) → (s.actor ≡ loader) × IsCalm s → F h words own → F (s ∷ h) words own)
    (step : (s : Step) (h : List Step) (words : Word → ℕ) (own : ℕ → List Step) → IsAct layout runs words own s → HartStates layout runs h words own → F h words own → F (s ∷ h) (move s words) (put s own)) where
  along_states : (hs : List Step) → Woven layout runs hs → IsBegun layout runs hs → F hs (λ w. word_value w hs) (acts hs)
  along_states hs o b = (facts_along layout runs (λ h words own. HartStates layout runs h words own × F h words own) limits
      (λ h words s l. (states_start layout runs limits h words s, start h words s))
      (λ s h words own e f. (states_quiet layout runs limits s h words own e f.0, quiet s h words own e f.1))
      (λ s h words own a f. (states_step layout runs limits s h words own a f.0, step s h words own a f.0 f.1)) hs o b).1

take_owes : (layout : Layout) (c : ℕ) (runs : Bool) (r : List Step) (w : Word) (op : WordOp) (arg : ℕ) → ActorMay layout c runs r w op arg → w ≡ Live → op ≡ Add → arg ≡ minus_one → is_owing c r ≡ true
take_owes layout c runs r w op arg (take_live o) e f g = o
take_owes layout c runs r w op arg (add_live o) e f g = absurd (omega arith)
take_owes layout c runs r w op arg m e f g = absurd (cc)

start_called : (layout : Layout) (c h : ℕ) (runs : Bool) (r : List Step) (w : Word) (op : WordOp) (arg : ℕ) → ActorMay layout c runs r w op arg → op ≡ Load → (w ≡ Start h) ⊎ (w ≡ Opaque h) → taking c r ≢ idle
start_called layout c h runs r w op arg (load_start t) f e = λ i. apart (sym t ∙ i)
  where
    apart : called ≡ idle → ⊥
    apart e = cc
start_called layout c h runs r w op arg (load_opaque t) f e = λ i. apart (sym t ∙ i)
  where
    apart : with_start ≡ idle → ⊥
    apart e = cc
start_called layout c h runs r w op arg (set_start o z) f e = absurd (cc)
start_called layout c h runs r w op arg (set_opaque o) f e = absurd (cc)
start_called layout c h runs r w op arg m f (inl e) = absurd (cc)
start_called layout c h runs r w op arg m f (inr e) = absurd (cc)

loader_one : (layout : Layout) (r : List Step) (h : ℕ) (w : Word) (op : WordOp) (arg n : ℕ) → LoaderMay layout r w op arg → n ≡ 1 → value_next (Hsm h) w op n arg ≡ 1
loader_one layout r h w op arg n (boot_hsm {h = x} p a b) e = by_test h x (λ t. (if t then 1 else n) ≡ 1) (λ _. refl) (λ _. e)
loader_one layout r h w op arg n (boot_live p) e = e
loader_one layout r h w op arg n m e = e

stopped_bit : (n : ℕ) → unstopped_bit n ≤ 0 → n ≡ 1
stopped_bit n = by_test n 1 (λ t. (if t then 0 else 1) ≤ 0 → n ≡ 1) (λ e _. e) (λ _ p. absurd (omega arith))

module _ (layout : Layout) (runs : ℕ → Bool) (limits : IsInLimits layout) where
  all_stopped : (s : Step) (before : List Step) → Woven layout runs (s ∷ before) → IsTake s → s.answer ≡ 1 → (h : ℕ) → h < layout.harts → word_value (Hsm h) (s ∷ before) ≡ 1
  all_stopped s before o k one h l = ap (λ v. value_next (Hsm h) v s.op (word_value (Hsm h) before) s.arg) k.0 ∙ stopped_bit (word_value (Hsm h) before) (go o.0.permitted)
    where
      go : IsPermitted layout s.actor (runs s.actor) (own_steps s.actor before) (name_of s.word) s.op s.arg → unstopped_bit (word_value (Hsm h) before) ≤ 0
      go (by_loader e m) = ⊎_elim (λ (x : s.op ≡ Store). absurd (apart (sym k.1 ∙ x))) (λ (x : (name_of s.word ≡ Zero) × (s.op ≡ Load)). absurd (other (sym k.0 ∙ x.0)))
          (loader_op layout (own_steps s.actor before) (name_of s.word) s.op s.arg m)
        where
          apart : Add ≡ Store → ⊥
          apart e = cc

          other : Live ≡ Zero → ⊥
          other e = cc
      go (by_actor who f m) =
          let out : s.actor ≢ loader = actor_off layout s.actor limits.harts who in
          let f : HartStates layout runs before (λ w. word_value w before) (acts before) = states layout runs limits before o.1 (o.0.begun out) in
          let owes : is_owing s.actor (acts before s.actor) ≡ true = ap (is_owing s.actor) (acts_of before s.actor out) ∙ take_owes layout s.actor (runs s.actor) (own_steps s.actor before) (name_of s.word) s.op s.arg m k.0 k.1 k.2 in
          let bit_one : bit (is_owing s.actor (acts before s.actor)) ≡ 1 = ap bit owes in
          let live : word_value Live before ≡ 1 = sym (λ i. answer_of (k.1 i) (word_value (k.0 i) before)) ∙ sym o.0.answered ∙ one in
          omega (
            arith,
            live,
            f.live,
            bit_one,
            states_half layout runs limits before (λ w. word_value w before) (acts before) f,
            total_one (λ a. bit (is_owing a (acts before a))) layout.harts s.actor (f.owes s.actor owes).0,
            total_one (λ h. unstopped_bit (word_value (Hsm h) before)) layout.harts h l,
          )

  stay_stopped : (later now : List Step) → Woven layout runs (later ++ now) → ((h : ℕ) → h < layout.harts → word_value (Hsm h) now ≡ 1) → (h : ℕ) → h < layout.harts → word_value (Hsm h) (later ++ now) ≡ 1
  stay_stopped [] now o all h l = all h l
  stay_stopped (x ∷ later) now o all h l = go (stay_stopped later now o.1 all) o.0.permitted
    where
      go : ((h : ℕ) → h < layout.harts → word_value (Hsm h) (later ++ now) ≡ 1) → IsPermitted layout x.actor (runs x.actor) (own_steps x.actor (later ++ now)) (name_of x.word) x.op x.arg → word_value (Hsm h) (x ∷ (later ++ now)) ≡ 1
      go ih (by_loader e m) = loader_one layout (own_steps x.actor (later ++ now)) h (name_of x.word) x.op x.arg (word_value (Hsm h) (later ++ now)) m (ih h l)
      go ih (by_actor who _ m) =
          let out : x.actor ≢ loader = actor_off layout x.actor limits.harts who in
          let f : HartStates layout runs (later ++ now) (λ w. word_value w (later ++ now)) (acts (later ++ now)) = states layout runs limits (later ++ now) o.1 (o.0.begun out) in
          let a : IsAct layout runs (λ w. word_value w (later ++ now)) (acts (later ++ now)) x = act_of layout runs x (later ++ now) limits.harts out o.0 in
          one_stays layout x.actor (runs x.actor) (acts (later ++ now) x.actor) (λ w. word_value w (later ++ now)) h (name_of x.word) x.op x.arg a.may (f.opens_it x.actor h) (f.call x.actor) (f.run x.actor) (ih x.actor) (ih h l)

pub stop_law : StopLaw
stop_law layout runs later before s h i k one l = let o : Woven layout runs (later ++ (s ∷ before)) = woven layout runs (later ++ (s ∷ before)) i in
    stay_stopped layout runs i.limits later (s ∷ before) o (all_stopped layout runs i.limits s before (woven_before layout runs later (s ∷ before) o) k one) h l

pub move_law : MoveLaw
move_law layout runs before s h i out =
    let o : Woven layout runs (s ∷ before) = woven layout runs (s ∷ before) i in
    let f : HartStates layout runs before (λ w. word_value w before) (acts before) = states layout runs i.limits before o.1 (o.0.begun out) in
    let a : IsAct layout runs (λ w. word_value w before) (acts before) s = act_of layout runs s before i.limits.harts out o.0 in
    moves layout s.actor (runs s.actor) (acts before s.actor) (λ w. word_value w before) h (name_of s.word) s.op s.arg a.may (f.opens_it s.actor h) (f.call s.actor) (f.run s.actor) (f.opener s.actor)

pub start_law : StartLaw
start_law layout runs before s h i l is load =
    let o : Woven layout runs (s ∷ before) = woven layout runs (s ∷ before) i in
    let out : s.actor ≢ loader = (λ e. omega (arith, i.limits.harts, is, e)) in
    let f : HartStates layout runs before (λ w. word_value w before) (acts before) = states layout runs i.limits before o.1 (o.0.begun out) in
    let a : IsAct layout runs (λ w. word_value w before) (acts before) s = act_of layout runs s before i.limits.harts out o.0 in
    let two : (name_of s.word ≡ Start h) ⊎ (name_of s.word ≡ Opaque h) → word_value (Hsm h) before ≡ 2 = (λ e. ap (λ y. word_value (Hsm y) before) (sym is)
    ∙ f.call s.actor (start_called layout s.actor h (runs s.actor) (acts before s.actor) (name_of s.word) s.op s.arg a.may load e)) in
    let answer : (w : Word) → name_of s.word ≡ w → word_value w before ≡ s.answer = (λ w e. sym (λ i. answer_of (load i) (word_value (e i) before)) ∙ sym a.answered) in (
      λ e. let g = f.given h (two (inl e)) in (g.0, word_value (Opaque h) before, subst (λ u. IsGiven g.0 h u (word_value (Opaque h) before) before) (answer (Start h) e) g.1),
      λ e. let g = f.given h (two (inr e)) in (g.0, word_value (Start h) before, subst (λ v. IsGiven g.0 h (word_value (Start h) before) v before) (answer (Opaque h) e) g.1),
    )

pub hart_facts : HartFacts
hart_facts layout runs h i b = (acts h, λ a l. acts_of h a (λ e. omega (arith, i.limits.harts, e)), states layout runs i.limits h (woven layout runs h i) b)

live_zero : (layout : Layout) (c : ℕ) (runs : Bool) (r : List Step) (w : Word) (op : WordOp) (arg n : ℕ) → ActorMay layout c runs r w op arg → n < 100 → value_next Live w op n arg ≡ 0
    → (n ≡ 0) ⊎ ((w ≡ Live) × (op ≡ Add) × (arg ≡ minus_one) × (n ≡ 1))
live_zero layout c runs r w op arg n (take_live o) few e = inr (refl, refl, refl, omega arith)
live_zero layout c runs r w op arg n (add_live o) few e = absurd (omega arith)
live_zero layout c runs r w op arg n m few e = inl e

module _ (layout : Layout) (runs : ℕ → Bool) (limits : IsInLimits layout) where
  abbrev Settling : List Step → (Word → ℕ) → (ℕ → List Step) → Type 0
  Settling hs words own = words Live ≡ 0 → Earlier (λ s. IsTake s × (s.answer ≡ 1)) Anything hs

  few_live : (hs : List Step) (words : Word → ℕ) (own : ℕ → List Step) → HartStates layout runs hs words own → words Live < 100
  few_live hs words own f = omega (
    arith,
    f.live,
    limits.harts,
    total_few (λ h. unstopped_bit (words (Hsm h))) layout.harts (λ h. unstopped_few (words (Hsm h))),
    total_few (λ a. bit (is_owing a (own a))) layout.harts (λ a. bit_few (is_owing a (own a))),
  )

  settling : (hs : List Step) → Woven layout runs hs → IsBegun layout runs hs → HartStates layout runs hs (λ w. word_value w hs) (acts hs) × Settling hs (λ w. word_value w hs) (acts hs)
  settling hs o b = (states layout runs limits hs o b, by hs o b)
    where
      by : (hs : List Step) → Woven layout runs hs → IsBegun layout runs hs → Settling hs (λ w. word_value w hs) (acts hs)
      by hs o b = along_states layout runs limits (λ hs words own. Settling hs words own) (λ h words s e. absurd (omega (arith, s.live))) (λ s h words own _ f e. further (f e))
          (λ s h words own a k f e. ⊎_elim (λ (x : words Live ≡ 0). further (f x))
          (λ (x : (name_of s.word ≡ Live) × (s.op ≡ Add) × (s.arg ≡ minus_one) × (words Live ≡ 1)). at_head ((x.0, x.1, x.2), a.answered ∙ (λ i. answer_of (x.1 i) (words (x.0 i))) ∙ x.3) tt)
          (live_zero layout s.actor (runs s.actor) (own s.actor) (name_of s.word) s.op s.arg (words Live) a.may (few_live h words own k) e)) hs o b

pub settled_law : SettledLaw
settled_law layout runs hs i b stopped paid =
    let k = settling layout runs i.limits hs (woven layout runs hs i) b in
    let n : total (λ h. unstopped_bit (word_value (Hsm h) hs)) layout.harts ≡ 0 = total_none (λ h. unstopped_bit (word_value (Hsm h) hs)) layout.harts (λ h l. ap unstopped_bit (stopped h l)) in
    let e : total (λ a. bit (is_owing a (acts hs a))) layout.harts ≡ 0 = total_none (λ a. bit (is_owing a (acts hs a))) layout.harts
    (λ h l. ap bit (ap (is_owing h) (acts_of hs h (λ x. omega (arith, i.limits.harts, x))) ∙ paid h l)) in
    k.1 (omega (arith, n, e, k.0.live))
