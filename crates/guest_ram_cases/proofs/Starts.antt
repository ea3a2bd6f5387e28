-- How the steps of a start and of a stop move what the record says.
use Rattle.std.proofs.Common.{◌≡◌, ◌≢◌, ◌<◌, ℕ, zero, suc, subst, Bool, true, false, refl, sym, ap, ◌∙◌}
use Rattle.std.specs.Prelude.{if◌then◌else◌}
use Rattle.std.proofs.lemmas.Bool.{eq-eqb, ne_eqb}
use Rattle.step_laws.specs.declared.steps.WordOp.{WordOp}
use Rattle.step_laws.specs.declared.steps.WordOp.TheVariants.{Load, Store, Add, Exchange}
use Rattle.step_laws.specs.Map.{Word, Live, Hsm, Start, Opaque, name_of}
use Rattle.step_laws.specs.Harts.{Opening, closed, opened, placed, handed, counted, opening, opening_next, is_owing, is_owing_next, is_running, is_running_next, Taking, idle, called, with_start, with_both, call_of, taking, taking_next}
use Rattle.step_laws.specs.Discipline.{minus_one}
use Rattle.guest_ram.specs.Ports.{Shown, Adds, May, IsActing}
use Rattle.guest_ram.proofs.MaySteps.{may_load_start, may_load_opaque, may_take_start}
use Rattle.guest_ram.proofs.Moves.{fold_adds, acting_adds}
use Rattle.step_laws.specs.Output.{is_finished_next}
use Rattle.guest_ram_cases.specs.States.{IsAtRest, IsHart}

opening_took : (p q : Shown) (word arg answer : ℕ) (op : WordOp) (w : Word) → Adds p q word op arg answer → name_of word ≡ w → opening q.own.steps ≡ opening_next w op arg answer (opening p.own.steps)
opening_took p q word arg answer op w made e = fold_adds opening_next closed p q word arg answer op w made e

pub start_begun : (p q : Shown) (word h answer : ℕ) → Adds p q word (Exchange 1) 3 answer → name_of word ≡ Hsm h → answer ≡ 1 → opening q.own.steps ≡ opened h
start_begun p q word h answer made e one = opening_took p q word 3 answer (Exchange 1) (Hsm h) made e ∙ ap (λ n. opening_next (Hsm h) (Exchange 1) 3 n (opening p.own.steps)) one

pub start_refused : (p q : Shown) (word h answer : ℕ) → Adds p q word (Exchange 1) 3 answer → name_of word ≡ Hsm h → answer ≢ 1 → opening p.own.steps ≡ closed → opening q.own.steps ≡ closed
start_refused p q word h answer made e other free = opening_took p q word 3 answer (Exchange 1) (Hsm h) made e ∙ go answer other
  where
    go : (n : ℕ) → n ≢ 1 → opening_next (Hsm h) (Exchange 1) 3 n (opening p.own.steps) ≡ closed
    go zero ne = free
    go (suc zero) ne = absurd (ne refl)
    go (suc (suc n)) ne = free

pub start_placed : (p q : Shown) (word h arg : ℕ) → Adds p q word Store arg 0 → name_of word ≡ Start h → opening q.own.steps ≡ placed h
start_placed p q word h arg made e = opening_took p q word arg 0 Store (Start h) made e

pub start_handed : (p q : Shown) (word h arg : ℕ) → Adds p q word Store arg 0 → name_of word ≡ Opaque h → opening q.own.steps ≡ handed h
start_handed p q word h arg made e = opening_took p q word arg 0 Store (Opaque h) made e

pub start_counted : (p q : Shown) (word h answer : ℕ) → Adds p q word Add 1 answer → name_of word ≡ Live → opening p.own.steps ≡ handed h → opening q.own.steps ≡ counted h
start_counted p q word h answer made e o = opening_took p q word 1 answer Add Live made e ∙ ap (λ x. opening_next Live Add 1 answer x) o

pub start_ended : (p q : Shown) (word h : ℕ) → Adds p q word Store 2 0 → name_of word ≡ Hsm h → opening q.own.steps ≡ closed
start_ended p q word h made e = opening_took p q word 2 0 Store (Hsm h) made e

-- a step on a word of hart states leaves the actor acting
pub acting_hsm : (p q : Shown) (word arg answer h : ℕ) (op : WordOp) → Adds p q word op arg answer → name_of word ≡ Hsm h → IsActing p → IsActing q
acting_hsm p q word arg answer h op made e = acting_adds p q word arg answer op (Hsm h) made e (λ b. refl)

pub acting_start : (p q : Shown) (word arg answer h : ℕ) (op : WordOp) → Adds p q word op arg answer → name_of word ≡ Start h → IsActing p → IsActing q
acting_start p q word arg answer h op made e = acting_adds p q word arg answer op (Start h) made e (λ b. refl)

pub acting_opaque : (p q : Shown) (word arg answer h : ℕ) (op : WordOp) → Adds p q word op arg answer → name_of word ≡ Opaque h → IsActing p → IsActing q
acting_opaque p q word arg answer h op made e = acting_adds p q word arg answer op (Opaque h) made e (λ b. refl)

pub acting_live : (p q : Shown) (word arg answer : ℕ) (op : WordOp) → Adds p q word op arg answer → name_of word ≡ Live → IsActing p → IsActing q
acting_live p q word arg answer op made e = acting_adds p q word arg answer op Live made e (λ b. refl)

pub ruleset acting_state = (acting_hsm, acting_start, acting_opaque, acting_live)

pub ruleset starting = (start_begun, start_refused, start_placed, start_handed, start_counted, start_ended)

same_actor : (p q : Shown) (word arg answer : ℕ) (op : WordOp) → Adds p q word op arg answer → q.own.actor ≡ p.own.actor
same_actor p q word arg answer op made = ap (λ (x : Shown). x.own.actor) made

-- once it has stopped the hart owes, until it takes itself from LIVE
pub stop_owes : (p q : Shown) (word a : ℕ) → Adds p q word Store 1 0 → name_of word ≡ Hsm a → a ≡ p.own.actor → is_owing q.own.actor q.own.steps ≡ true
stop_owes p q word a made e is = ap (λ x. is_owing x q.own.steps) (same_actor p q word 1 0 Store made)
    ∙ fold_adds (is_owing_next p.own.actor) false p q word 1 0 Store (Hsm a) made e
    ∙ ap (λ (t : Bool). if t then true else is_owing p.own.actor p.own.steps) (eq-eqb a p.own.actor is)

pub stop_paid : (p q : Shown) (word answer : ℕ) → Adds p q word Add minus_one answer → name_of word ≡ Live → is_owing q.own.actor q.own.steps ≡ false
stop_paid p q word answer made e = ap (λ x. is_owing x q.own.steps) (same_actor p q word minus_one answer Add made) ∙ fold_adds (is_owing_next p.own.actor) false p q word minus_one answer Add Live made e

pub ruleset stopping = (stop_owes, stop_paid)

-- a stopped hart that has come to this point of a start of its own
pub record IsTaking (p : Shown) (at : Taking) : Type 0 where
  pub acting : IsActing p
  pub stopped : is_running p.own.actor p.own.runs p.own.steps ≡ false
  pub paid : is_owing p.own.actor p.own.steps ≡ false
  pub stage_is : taking p.own.actor p.own.steps ≡ at

module _ (p q : Shown) (word a answer : ℕ) (acting : IsActing p) (stopped : is_running p.own.actor p.own.runs p.own.steps ≡ false) (paid : is_owing p.own.actor p.own.steps ≡ false) (made : Adds p q word Load 0 answer) (is : a ≡ p.own.actor) where
  takes_state : name_of word ≡ Hsm a → answer ≡ 2 → IsTaking q called
  takes_state e two = record {
    acting = acting_adds p q word 0 answer Load (Hsm a) made e (λ b. refl) acting;
    stopped = ap (λ (x : Shown). is_running x.own.actor x.own.runs q.own.steps) made ∙ fold_adds (is_running_next p.own.actor) p.own.runs p q word 0 answer Load (Hsm a) made e ∙ stopped;
    paid = ap (λ (x : Shown). is_owing x.own.actor q.own.steps) made ∙ fold_adds (is_owing_next p.own.actor) false p q word 0 answer Load (Hsm a) made e ∙ paid;
    stage_is = ap (λ (x : Shown). taking x.own.actor q.own.steps) made ∙ fold_adds (taking_next p.own.actor) idle p q word 0 answer Load (Hsm a) made e
        ∙ ap (λ (t : Bool). if t then call_of answer else taking p.own.actor p.own.steps) (eq-eqb a p.own.actor is) ∙ ap call_of two;
  }

module _ (p q : Shown) (word a answer : ℕ) (at : Taking) (s : IsTaking p at) (made : Adds p q word Load 0 answer) (is : a ≡ p.own.actor) where
  takes_place : name_of word ≡ Start a → IsTaking q with_start
  takes_place e = record {
    acting = acting_adds p q word 0 answer Load (Start a) made e (λ b. refl) s.acting;
    stopped = ap (λ (x : Shown). is_running x.own.actor x.own.runs q.own.steps) made ∙ fold_adds (is_running_next p.own.actor) p.own.runs p q word 0 answer Load (Start a) made e ∙ s.stopped;
    paid = ap (λ (x : Shown). is_owing x.own.actor q.own.steps) made ∙ fold_adds (is_owing_next p.own.actor) false p q word 0 answer Load (Start a) made e ∙ s.paid;
    stage_is = ap (λ (x : Shown). taking x.own.actor q.own.steps) made ∙ fold_adds (taking_next p.own.actor) idle p q word 0 answer Load (Start a) made e
        ∙ ap (λ (t : Bool). if t then with_start else taking p.own.actor p.own.steps) (eq-eqb a p.own.actor is);
  }

  takes_opaque : name_of word ≡ Opaque a → IsTaking q with_both
  takes_opaque e = record {
    acting = acting_adds p q word 0 answer Load (Opaque a) made e (λ b. refl) s.acting;
    stopped = ap (λ (x : Shown). is_running x.own.actor x.own.runs q.own.steps) made ∙ fold_adds (is_running_next p.own.actor) p.own.runs p q word 0 answer Load (Opaque a) made e ∙ s.stopped;
    paid = ap (λ (x : Shown). is_owing x.own.actor q.own.steps) made ∙ fold_adds (is_owing_next p.own.actor) false p q word 0 answer Load (Opaque a) made e ∙ s.paid;
    stage_is = ap (λ (x : Shown). taking x.own.actor q.own.steps) made ∙ fold_adds (taking_next p.own.actor) idle p q word 0 answer Load (Opaque a) made e
        ∙ ap (λ (t : Bool). if t then with_both else taking p.own.actor p.own.steps) (eq-eqb a p.own.actor is);
  }

-- the whole of it
module _ (p q r u : Shown) (state start opaque a n m k : ℕ) (acting : IsActing p) (stopped : is_running p.own.actor p.own.runs p.own.steps ≡ false) (paid : is_owing p.own.actor p.own.steps ≡ false) (is : a ≡ p.own.actor)
    (e : name_of state ≡ Hsm a) (f : name_of start ≡ Start a) (g : name_of opaque ≡ Opaque a) (made : Adds p q state Load 0 n) (two : n ≡ 2) where
  is_q : a ≡ q.own.actor
  is_q = is ∙ ap (λ (x : Shown). x.own.actor) (sym made)

  first : IsTaking q called
  first = takes_state p q state a n acting stopped paid made is e two

  pub may_take_place : May q start Load 0
  may_take_place = may_load_start q start (f ∙ ap (λ x. Start x) is_q) first.acting first.stage_is

  module _ (placed' : Adds q r start Load 0 m) where
    second : IsTaking r with_start
    second = takes_place q r start a m called first placed' is_q f

    is_r : a ≡ r.own.actor
    is_r = is_q ∙ ap (λ (x : Shown). x.own.actor) (sym placed')

    pub may_take_opaque : May r opaque Load 0
    may_take_opaque = may_load_opaque r opaque (g ∙ ap (λ x. Opaque x) is_r) second.acting second.stage_is

    pub may_take_state : Adds r u opaque Load 0 k → May u state Store 0
    may_take_state handed' = let third : IsTaking u with_both = takes_opaque r u opaque a k with_start second handed' is_r g in
        may_take_start u state (e ∙ ap (λ x. Hsm x) (is_r ∙ ap (λ (x : Shown). x.own.actor) (sym handed'))) third.acting third.stage_is third.stopped third.paid

-- a step by which a hart runs, makes a start or owes as the folds say
module _ (p q : Shown) (word arg answer : ℕ) (op : WordOp) (w : Word) (runs : Bool) (start : Opening) (owes : Bool) (i : IsHart p runs start owes) (made : Adds p q word op arg answer) (e : name_of word ≡ w) (going : (b : Bool) → is_finished_next w op arg answer b ≡ b) where
  pub hart_on : (runs' : Bool) (start' : Opening) (owes' : Bool) → is_running_next p.own.actor w op arg answer runs ≡ runs' → opening_next w op arg answer start ≡ start' → is_owing_next p.own.actor w op arg answer owes ≡ owes' → IsHart q runs' start' owes'
  hart_on runs' start' owes' r o b = record {
    acting = acting_adds p q word arg answer op w made e going i.acting;
    hart = subst (λ (x : Shown). x.own.actor < x.machine.layout.harts) (sym made) i.hart;
    running = ap (λ (x : Shown). is_running x.own.actor x.own.runs q.own.steps) made ∙ fold_adds (is_running_next p.own.actor) p.own.runs p q word arg answer op w made e ∙ ap (is_running_next p.own.actor w op arg answer) i.running ∙ r;
    start_is = opening_took p q word arg answer op w made e ∙ ap (opening_next w op arg answer) i.start_is ∙ o;
    owing = ap (λ x. is_owing x q.own.steps) (same_actor p q word arg answer op made) ∙ fold_adds (is_owing_next p.own.actor) false p q word arg answer op w made e ∙ ap (is_owing_next p.own.actor w op arg answer) i.owing ∙ b;
  }

-- a start of another hart: its exchange
module _ (p q : Shown) (word t answer : ℕ) (i : IsAtRest p true) (made : Adds p q word (Exchange 1) 3 answer) (e : name_of word ≡ Hsm t) where
  pub rests_refused : answer ≢ 1 → IsAtRest q true
  rests_refused ne = hart_on p q word 3 answer (Exchange 1) (Hsm t) true closed false i made e (λ _. refl) true closed false refl (go answer ne) refl
    where
      go : (n : ℕ) → n ≢ 1 → opening_next (Hsm t) (Exchange 1) 3 n closed ≡ closed
      go zero ne = refl
      go (suc zero) ne = absurd (ne refl)
      go (suc (suc n)) ne = refl

  pub rests_begun : answer ≡ 1 → IsHart q true (opened t) false
  rests_begun one = hart_on p q word 3 answer (Exchange 1) (Hsm t) true closed false i made e (λ _. refl) true (opened t) false refl (ap (λ n. opening_next (Hsm t) (Exchange 1) 3 n closed) one) refl

-- and its other steps
pub rests_placed : (p q : Shown) (word t at : ℕ) → IsHart p true (opened t) false → Adds p q word Store at 0 → name_of word ≡ Start t → IsHart q true (placed t) false
rests_placed p q word t at i made e = hart_on p q word at 0 Store (Start t) true (opened t) false i made e (λ _. refl) true (placed t) false refl refl refl

pub rests_handed : (p q : Shown) (word t arg : ℕ) → IsHart p true (placed t) false → Adds p q word Store arg 0 → name_of word ≡ Opaque t → IsHart q true (handed t) false
rests_handed p q word t arg i made e = hart_on p q word arg 0 Store (Opaque t) true (placed t) false i made e (λ _. refl) true (handed t) false refl refl refl

pub rests_counted : (p q : Shown) (word t answer : ℕ) → IsHart p true (handed t) false → Adds p q word Add 1 answer → name_of word ≡ Live → IsHart q true (counted t) false
rests_counted p q word t answer i made e = hart_on p q word 1 answer Add Live true (handed t) false i made e (λ _. refl) true (counted t) false refl refl refl

pub rests_started : (p q : Shown) (word t : ℕ) → t ≢ p.own.actor → IsHart p true (counted t) false → Adds p q word Store 2 0 → name_of word ≡ Hsm t → IsAtRest q true
rests_started p q word t ne i made e = hart_on p q word 2 0 Store (Hsm t) true (counted t) false i made e (λ _. refl) true closed false
    (ap (λ (b : Bool). if b then false else true) (ne_eqb t p.own.actor ne)) refl (ap (λ (b : Bool). if b then false else false) (ne_eqb t p.own.actor ne))

-- the own stop
pub rests_stopping : (p q : Shown) (word a : ℕ) → a ≡ p.own.actor → IsAtRest p true → Adds p q word Store 1 0 → name_of word ≡ Hsm a → IsHart q false closed true
rests_stopping p q word a is i made e = hart_on p q word 1 0 Store (Hsm a) true closed false i made e (λ _. refl) false closed true
    (ap (λ (b : Bool). if b then false else true) (eq-eqb a p.own.actor is)) refl (ap (λ (b : Bool). if b then true else false) (eq-eqb a p.own.actor is))

pub rests_stopped : (p q : Shown) (word answer : ℕ) → IsHart p false closed true → Adds p q word Add minus_one answer → name_of word ≡ Live → IsAtRest q false
rests_stopped p q word answer i made e = hart_on p q word minus_one answer Add Live false closed true i made e (λ _. refl) false closed false refl refl refl

-- the own start
pub rests_loaded : (p q : Shown) (word h answer : ℕ) (runs : Bool) → IsAtRest p runs → Adds p q word Load 0 answer → name_of word ≡ Hsm h → IsAtRest q runs
rests_loaded p q word h answer runs i made e = hart_on p q word 0 answer Load (Hsm h) runs closed false i made e (λ _. refl) runs closed false refl refl refl

pub rests_told : (p q : Shown) (word h answer : ℕ) → IsAtRest p false → Adds p q word Load 0 answer → name_of word ≡ Start h → IsAtRest q false
rests_told p q word h answer i made e = hart_on p q word 0 answer Load (Start h) false closed false i made e (λ _. refl) false closed false refl refl refl

pub rests_given : (p q : Shown) (word h answer : ℕ) → IsAtRest p false → Adds p q word Load 0 answer → name_of word ≡ Opaque h → IsAtRest q false
rests_given p q word h answer i made e = hart_on p q word 0 answer Load (Opaque h) false closed false i made e (λ _. refl) false closed false refl refl refl

pub rests_running : (p q : Shown) (word a : ℕ) → a ≡ p.own.actor → IsAtRest p false → Adds p q word Store 0 0 → name_of word ≡ Hsm a → IsAtRest q true
rests_running p q word a is i made e = hart_on p q word 0 0 Store (Hsm a) false closed false i made e (λ _. refl) true closed false
    (ap (λ (b : Bool). if b then true else false) (eq-eqb a p.own.actor is)) refl (ap (λ (b : Bool). if b then false else false) (eq-eqb a p.own.actor is))
