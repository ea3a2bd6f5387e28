-- A pass goes on.
use Rattle.std.proofs.Common.{◌∷◌, ◌≡◌, ◌≢◌, ℕ, ◌+◌, ◌<◌, ◌≤◌, Bool, true, refl, sym, ap, subst, ◌∙◌, inl, inr, arith, ⊎_elim}
use Rattle.std.specs.Prelude.{◌==◌, ◌⊎◌, nat_lt, if◌then◌else◌}
use Rattle.std.proofs.lemmas.Bool.{lt-ltb, le-ltb, ne_eqb, eq-eqb, cases_eq}
use Rattle.step_laws.specs.declared.words.Layout.{Layout}
use Rattle.step_laws.specs.declared.steps.WordOp.TheVariants.{Load}
use Rattle.step_laws.specs.Words.{most_harts}
use Rattle.step_laws.specs.Map.{Run, name_of, number_of, monitor, actors}
use Rattle.step_laws.specs.Sections.{actor_from, other_from, is_claimant, pass, pass_by, pass_next, IsInSection}
use Rattle.step_laws.proofs.Named.{by_test, number_name}
use Rattle.guest_ram.specs.Areas.{IsOfSection}
use Rattle.guest_ram.specs.declared.port.Seen.{Seen}
use Rattle.guest_ram.specs.Ports.{Machine, Shown, Adds, Made, May, IsActing, GoesBy}
use Rattle.guest_ram.proofs.Moves.{claims_adds, acting_adds, phase_adds, actor_goes, machine_goes, goes_none, goes_step, goes_then, goes_at_most}
use Rattle.exclusive.specs.Claims.{HasFoundAllOut, HasFoundInside}
use Rattle.exclusive.specs.Others.{HasMadeAll, others_below}
use Rattle.exclusive.proofs.Pairs.{hart_is_other, monitor_is_other, others_gap, all_of_hart, all_of_monitor, made_none, made_one, made_next, made_past}
use Rattle.guest_ram.proofs.MaySteps.{may_check}
use Rattle.exclusive.proofs.Looks.{IsPassing, IsLooking}

hart_from : (layout : Layout) (i : ℕ) → i < layout.harts → actor_from layout i ≡ i
hart_from layout i l = ap (λ (t : Bool). if t then i else if nat_lt monitor i then actors else monitor) (lt-ltb i layout.harts l)

monitor_from : (layout : Layout) → layout.harts ≤ most_harts → actor_from layout layout.harts ≡ monitor
monitor_from layout l = ap (λ (t : Bool). if t then layout.harts else if nat_lt monitor layout.harts then actors else monitor) (le-ltb layout.harts layout.harts (omega arith))
    ∙ ap (λ (t : Bool). if t then actors else monitor) (le-ltb monitor layout.harts l)

none_from : (layout : Layout) → layout.harts ≤ most_harts → actor_from layout actors ≡ actors
none_from layout l = ap (λ (t : Bool). if t then actors else actors) (le-ltb actors layout.harts (omega arith))

other_of : (layout : Layout) (a n m : ℕ) → actor_from layout n ≡ m → m ≢ a → other_from layout a n ≡ m
other_of layout a n m e ne = ap (λ k. if k == a then actor_from layout (k + 1) else k) e ∙ ap (λ (t : Bool). if t then actor_from layout (m + 1) else m) (ne_eqb m a ne)

other_past : (layout : Layout) (a n m : ℕ) → actor_from layout n ≡ m → m ≡ a → other_from layout a n ≡ actor_from layout (m + 1)
other_past layout a n m e is = ap (λ k. if k == a then actor_from layout (k + 1) else k) e ∙ ap (λ (t : Bool). if t then actor_from layout (m + 1) else m) (eq-eqb m a is)

from_next : (layout : Layout) (a : ℕ) → layout.harts ≤ most_harts → a < layout.harts → actor_from layout (a + 1) ≢ a
from_next layout a few l e = ⊎_elim (λ (x : a + 1 < layout.harts). let f : actor_from layout (a + 1) ≡ a + 1 = hart_from layout (a + 1) x in omega arith)
    (λ (x : a + 1 ≡ layout.harts). let f : actor_from layout (a + 1) ≡ monitor = ap (actor_from layout) x ∙ monitor_from layout few in omega arith) (next a layout.harts l)
  where
    next : (m n : ℕ) → m < n → (m + 1 < n) ⊎ (m + 1 ≡ n)
    next m n l = by_test (m + 1) n (λ _. (m + 1 < n) ⊎ (m + 1 ≡ n)) (λ e. inr e) (λ ne. inl (omega arith))

-- the own number is passed over
pub passing_own : (layout : Layout) (a p : ℕ) → layout.harts ≤ most_harts → a < layout.harts → IsPassing layout a a p → IsPassing layout a (a + 1) p
passing_own layout a p few l k = subst (λ n. (n ≡ other_from layout a 0) ⊎ (p ≡ n) ⊎ (p ≡ actors)) same k
  where
    same : other_from layout a a ≡ other_from layout a (a + 1)
    same = other_past layout a a a (hart_from layout a l) refl ∙ sym (other_of layout a (a + 1) (actor_from layout (a + 1)) refl (from_next layout a few l))

by_next : (layout : Layout) (a b p : ℕ) → (b ≡ other_from layout a 0) ⊎ (p ≡ b) ⊎ (p ≡ actors) → pass_next layout a (Run b) Load 0 0 p ≡ other_from layout a (b + 1) ⊎ (pass_next layout a (Run b) Load 0 0 p ≡ actors)
by_next layout a b p k = by_test p actors (λ t. ((if t then p else pass_by layout a b p) ≡ other_from layout a (b + 1)) ⊎ ((if t then p else pass_by layout a b p) ≡ actors))
    (λ e. inr e) (λ ne. inl (by_test b p (λ t. (if t then other_from layout a (b + 1) else if b == other_from layout a 0 then other_from layout a (b + 1) else other_from layout a 0) ≡ other_from layout a (b + 1)) (λ _. refl)
    (λ off. go ne off k)))
  where
    go : p ≢ actors → b ≢ p → (b ≡ other_from layout a 0) ⊎ (p ≡ b) ⊎ (p ≡ actors) → (if b == other_from layout a 0 then other_from layout a (b + 1) else other_from layout a 0) ≡ other_from layout a (b + 1)
    go ne off (inl e) = ap (λ (t : Bool). if t then other_from layout a (b + 1) else other_from layout a 0) (eq-eqb b (other_from layout a 0) e)
    go ne off (inr (inl e)) = absurd (off (sym e))
    go ne off (inr (inr e)) = absurd (ne e)

-- another hart is found outside
pub passing_hart : (layout : Layout) (a i p : ℕ) → i < layout.harts → i ≢ a → IsPassing layout a i p → IsPassing layout a (i + 1) (pass_next layout a (Run i) Load 0 0 p)
passing_hart layout a i p l ne k = ⊎_elim (λ (x : pass_next layout a (Run i) Load 0 0 p ≡ other_from layout a (i + 1)). inr (inl x)) (λ (x : pass_next layout a (Run i) Load 0 0 p ≡ actors). inr (inr x))
    (by_next layout a i p (subst (λ n. (n ≡ other_from layout a 0) ⊎ (p ≡ n) ⊎ (p ≡ actors)) (other_of layout a i i (hart_from layout i l) ne) k))

-- the monitor has seen all harts
pub passed_monitor : (layout : Layout) (p : ℕ) → 1 ≤ layout.harts → layout.harts ≤ most_harts → IsPassing layout monitor layout.harts p → p ≡ actors
passed_monitor layout p some_hart few k = go k
  where
    last : other_from layout monitor layout.harts ≡ actors
    last = other_past layout monitor layout.harts monitor (monitor_from layout few) refl ∙ none_from layout few

    first : other_from layout monitor 0 ≡ 0
    first = other_of layout monitor 0 0 (hart_from layout 0 some_hart) (λ e. omega arith)

    go : IsPassing layout monitor layout.harts p → p ≡ actors
    go (inl e) = absurd (omega (arith, last, first))
    go (inr (inl e)) = e ∙ last
    go (inr (inr e)) = e

-- a hart has seen all harts and then the monitor
pub passed_hart : (layout : Layout) (a p : ℕ) → layout.harts ≤ most_harts → a ≢ monitor → IsPassing layout a layout.harts p → pass_next layout a (Run monitor) Load 0 0 p ≡ actors
passed_hart layout a p few ne k = ⊎_elim (λ (x : pass_next layout a (Run monitor) Load 0 0 p ≡ other_from layout a 9). x ∙ end) (λ (x : pass_next layout a (Run monitor) Load 0 0 p ≡ actors). x)
    (by_next layout a monitor p (subst (λ n. (n ≡ other_from layout a 0) ⊎ (p ≡ n) ⊎ (p ≡ actors)) (other_of layout a layout.harts monitor (monitor_from layout few) (λ e. ne (sym e))) k))
  where
    end : other_from layout a 9 ≡ actors
    end = ⊎_elim (λ (e : a ≡ actors). other_past layout a 9 actors (none_from layout few) (sym e) ∙ past_all) (λ (off : a ≢ actors). other_of layout a 9 actors (none_from layout few) (λ e. off (sym e))) (cases_eq a actors)
      where
        past_all : actor_from layout 10 ≡ actors
        past_all = ap (λ (t : Bool). if t then 10 else actors) (le-ltb 10 layout.harts (omega arith))

looked : (p q : Shown) (b word answer : ℕ) → Adds p q word Load 0 answer → name_of word ≡ Run b → answer ≡ 0
    → pass q.machine.layout q.own.actor q.own.steps ≡ pass_next p.machine.layout p.own.actor (Run b) Load 0 0 (pass p.machine.layout p.own.actor p.own.steps)
looked p q b word answer made e zero_there = ap (λ (x : Shown). pass x.machine.layout x.own.actor x.own.steps) made
    ∙ (λ i. pass_next p.machine.layout p.own.actor (e i) Load 0 (zero_there i) (pass p.machine.layout p.own.actor p.own.steps))

kept_claim : (p q : Shown) (b word answer : ℕ) → Adds p q word Load 0 answer → name_of word ≡ Run b → is_claimant p.own.steps ≡ true → is_claimant q.own.steps ≡ true
kept_claim p q b word answer made e k = claims_adds p q word 0 answer Load (Run b) made e ∙ k

same_actor : (n : ℕ) (o p : Shown) → GoesBy n IsOfSection o p → p.own.actor ≡ o.own.actor
same_actor n o p goes = actor_goes n IsOfSection o p goes

same_layout : (n : ℕ) (o p : Shown) → GoesBy n IsOfSection o p → p.machine.layout ≡ o.machine.layout
same_layout n o p goes = ap (λ (m : Machine). m.layout) (machine_goes n IsOfSection o p goes)

pub looking_first : (p : Shown) (own harts : ℕ) → IsActing p → own ≡ p.own.actor → harts ≡ p.machine.layout.harts → is_claimant p.own.steps ≡ true → IsLooking p p own harts 0
looking_first p own harts a o h k = record {
  found = made_none Run Load 0 p p.machine.layout p.own.actor;
  goes = goes_none IsOfSection p;
  phase = refl;
  acting = a;
  own_is = o;
  harts_are = h;
  claimed = k;
  passing = inl refl;
}

-- RUN of the next hart was loaded as 0
pub looking_hart : (o p q : Shown) (own harts hart word answer : ℕ) → Adds p q word Load 0 answer → May p word Load 0 → name_of word ≡ Run hart → answer ≡ 0 → hart < harts → hart ≢ own → IsLooking o p own harts hart → IsLooking o q own harts (hart + 1)
looking_hart o p q own harts hart word answer made may e z l ne k = record {
  found = made_next Run Load 0 o p q o.machine.layout o.own.actor hart word answer k.found
      (hart_is_other o.machine.layout o.own.actor hart (subst (λ (x : Layout). hart < x.harts) (same_layout hart o p k.goes) (omega (arith, k.harts_are))) (λ i. ne (i ∙ sym (same_actor hart o p k.goes) ∙ sym k.own_is))) made (sym (number_name word) ∙ ap number_of e) z;
  goes = goes_then hart 1 IsOfSection o p q k.goes (goes_step IsOfSection p q word 0 answer Load (Run hart) made may e tt);
  phase = phase_adds p q word 0 answer Load (Run hart) made e ∙ k.phase;
  acting = acting_adds p q word 0 answer Load (Run hart) made e (λ b. refl) k.acting;
  own_is = k.own_is ∙ sym (ap (λ (x : Shown). x.own.actor) made);
  harts_are = k.harts_are ∙ sym (ap (λ (x : Shown). x.machine.layout.harts) made);
  claimed = kept_claim p q hart word answer made e k.claimed;
  passing = subst (λ n. IsPassing q.machine.layout q.own.actor (hart + 1) n) (sym (looked p q hart word answer made e z))
      (subst (λ (x : Shown). IsPassing x.machine.layout x.own.actor (hart + 1) (pass_next p.machine.layout p.own.actor (Run hart) Load 0 0 (pass p.machine.layout p.own.actor p.own.steps))) (sym made)
      (passing_hart p.machine.layout p.own.actor hart (pass p.machine.layout p.own.actor p.own.steps) (omega (arith, k.harts_are)) (λ i. ne (i ∙ sym k.own_is)) k.passing));
}

-- the own one is passed over
pub looking_own : (o p : Shown) (own harts hart : ℕ) → hart < harts → hart ≡ own → IsLooking o p own harts hart → IsLooking o p own harts (hart + 1)
looking_own o p own harts hart l is k = record {
  found = made_past Run Load 0 o p o.machine.layout o.own.actor hart k.found (is ∙ k.own_is ∙ same_actor hart o p k.goes);
  goes = goes_at_most hart (hart + 1) IsOfSection o p (omega arith) k.goes;
  phase = k.phase;
  acting = k.acting;
  own_is = k.own_is;
  harts_are = k.harts_are;
  claimed = k.claimed;
  passing = subst (λ n. IsPassing p.machine.layout p.own.actor (n + 1) (pass p.machine.layout p.own.actor p.own.steps)) (sym (is ∙ k.own_is))
      (passing_own p.machine.layout p.own.actor (pass p.machine.layout p.own.actor p.own.steps) k.acting.limits.harts (omega (arith, k.own_is, k.harts_are, is))
      (subst (λ n. IsPassing p.machine.layout p.own.actor n (pass p.machine.layout p.own.actor p.own.steps)) (is ∙ k.own_is) k.passing));
}

pub may_look_monitor : (o p : Shown) (own harts hart word : ℕ) → IsLooking o p own harts hart → own ≢ monitor → name_of word ≡ Run monitor → May p word Load 0
may_look_monitor o p own harts hart word k ne e = may_check p word monitor e k.acting (λ i. ne (k.own_is ∙ sym i)) k.claimed

-- a hart has found all others outside
module _ (o p q : Shown) (own harts hart word answer : ℕ) (k : IsLooking o p own harts hart) (end : hart ≡ harts) (ne : own ≢ monitor) (made : Adds p q word Load 0 answer) (e : name_of word ≡ Run monitor) (z : answer ≡ 0) where
  pub looked_all : IsInSection q.machine.layout q.own.actor q.own.steps
  looked_all = (
    kept_claim p q monitor word answer made e k.claimed,
    looked p q monitor word answer made e z
        ∙ passed_hart p.machine.layout p.own.actor (pass p.machine.layout p.own.actor p.own.steps) k.acting.limits.harts (λ i. ne (k.own_is ∙ i)) (subst (λ n. IsPassing p.machine.layout p.own.actor n (pass p.machine.layout p.own.actor p.own.steps)) (end ∙ k.harts_are) k.passing),
  )

  pub found_all : HasFoundAllOut o q
  found_all = subst (λ bs. HasMadeAll Run Load 0 bs o q)
      (ap (λ n. monitor ∷ others_below o.machine.layout o.own.actor n) (end ∙ k.harts_are ∙ ap (λ (x : Layout). x.harts) (same_layout hart o p k.goes))
      ∙ sym (all_of_hart o.machine.layout o.own.actor (subst (λ (x : Layout). x.harts ≤ monitor) (same_layout hart o p k.goes) k.acting.limits.harts) (λ i. ne (k.own_is ∙ same_actor hart o p k.goes ∙ i))))
      (made_one Run Load 0 o p q (others_below o.machine.layout o.own.actor hart) monitor word answer k.found made (sym (number_name word) ∙ ap number_of e) z)

-- and the monitor
module _ (o p : Shown) (own harts hart : ℕ) (k : IsLooking o p own harts hart) (end : hart ≡ harts) (is : own ≡ monitor) where
  pub looked_by_monitor : IsInSection p.machine.layout p.own.actor p.own.steps
  looked_by_monitor = (
    k.claimed,
    passed_monitor p.machine.layout (pass p.machine.layout p.own.actor p.own.steps) k.acting.limits.some_hart k.acting.limits.harts
        (subst (λ a. IsPassing p.machine.layout a p.machine.layout.harts (pass p.machine.layout p.own.actor p.own.steps)) (sym k.own_is ∙ is) (subst (λ n. IsPassing p.machine.layout p.own.actor n (pass p.machine.layout p.own.actor p.own.steps)) (end ∙ k.harts_are) k.passing)),
  )

  pub found_by_monitor : HasFoundAllOut o p
  found_by_monitor = subst (λ bs. HasMadeAll Run Load 0 bs o p)
      (ap (λ n. others_below o.machine.layout o.own.actor n) (end ∙ k.harts_are ∙ ap (λ (x : Layout). x.harts) (same_layout hart o p k.goes))
      ∙ sym (subst (λ a. others_below o.machine.layout a actors ≡ others_below o.machine.layout a o.machine.layout.harts) (sym is ∙ k.own_is ∙ same_actor hart o p k.goes)
      (all_of_monitor o.machine.layout (subst (λ (x : Layout). x.harts ≤ monitor) (same_layout hart o p k.goes) k.acting.limits.harts))))
      k.found

-- one of them was not
pub found_hart : (o p q : Shown) (own harts hart : ℕ) (seen : Seen) → IsLooking o p own harts hart → hart < harts → hart ≢ own → Made p q (Run hart) Load 0 seen.value → seen.word ≡ number_of (Run hart) → seen.value ≢ 0 → HasFoundInside seen o q
found_hart o p q own harts hart seen k l ne m at not_out = record {
  actor = hart;
  other = hart_is_other o.machine.layout o.own.actor hart (subst (λ (x : Layout). hart < x.harts) (same_layout hart o p k.goes) (omega (arith, k.harts_are))) (λ i. ne (i ∙ sym (same_actor hart o p k.goes) ∙ sym k.own_is));
  before = p;
  out = k.found;
  finds = m;
  word = at;
  not_out = not_out;
}

pub found_monitor : (o p q : Shown) (own harts hart : ℕ) (seen : Seen) → IsLooking o p own harts hart → hart ≡ harts → own ≢ monitor → Made p q (Run monitor) Load 0 seen.value → seen.word ≡ number_of (Run monitor) → seen.value ≢ 0 → HasFoundInside seen o q
found_monitor o p q own harts hart seen k end ne m at not_out = record {
  actor = monitor;
  other = monitor_is_other o.machine.layout o.own.actor (λ i. ne (k.own_is ∙ same_actor hart o p k.goes ∙ i));
  before = p;
  out = subst (λ bs. HasMadeAll Run Load 0 bs o p)
      (ap (others_below o.machine.layout o.own.actor) (end ∙ k.harts_are ∙ ap (λ (x : Layout). x.harts) (same_layout hart o p k.goes))
      ∙ sym (others_gap o.machine.layout o.own.actor monitor (subst (λ (x : Layout). x.harts ≤ monitor) (same_layout hart o p k.goes) k.acting.limits.harts) (omega arith))) k.found;
  finds = m;
  word = at;
  not_out = not_out;
}
