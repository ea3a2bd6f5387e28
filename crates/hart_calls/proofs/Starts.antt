-- How the steps of a start and of a stop move what the record says.
use Rattle.std.proofs.Common.{◌≡◌, ◌≢◌, ℕ, zero, suc, Bool, true, false, refl, ap, ◌∙◌}
use Rattle.std.specs.Prelude.{if◌then◌else◌}
use Rattle.std.proofs.lemmas.Bool.{eq-eqb}
use Rattle.step_laws.specs.declared.steps.WordOp.{WordOp}
use Rattle.step_laws.specs.declared.steps.WordOp.TheVariants.{Store, Add, Exchange}
use Rattle.step_laws.specs.Map.{Word, Live, Hsm, Start, Opaque, name_of}
use Rattle.step_laws.specs.Harts.{closed, opened, placed, handed, counted, opening, opening_next, is_owing, is_owing_next}
use Rattle.step_laws.specs.Discipline.{minus_one}
use Rattle.guest_ram.specs.Ports.{Shown, Adds, IsActing, May}
use Rattle.guest_ram.proofs.MaySteps.{may_stop}
use Rattle.guest_ram.proofs.Moves.{fold_adds, acting_adds}
use Rattle.hart_calls.specs.States.{IsRunner}

opening_took : (p q : Shown) (word arg answer : ℕ) (op : WordOp) (w : Word) → Adds p q word op arg answer → name_of word ≡ w → opening q.own.steps ≡ opening_next w op arg answer (opening p.own.steps)
opening_took p q word arg answer op w made e = fold_adds opening_next closed p q word arg answer op w made e

pub start_begun : (p q : Shown) (word h answer : ℕ) → Adds p q word (Exchange 1) 3 answer → name_of word ≡ Hsm h → answer ≡ 1 → opening q.own.steps ≡ opened h
start_begun p q word h answer made e one = opening_took p q word 3 answer (Exchange 1) (Hsm h) made e ∙ ap (λ n. opening_next (Hsm h) (Exchange 1) 3 n (opening p.own.steps)) one

pub start_refused : (p q : Shown) (word h answer : ℕ) → Adds p q word (Exchange 1) 3 answer → name_of word ≡ Hsm h → answer ≢ 1 → opening p.own.steps ≡ closed → opening q.own.steps ≡ closed
start_refused p q word h answer made e other free = opening_took p q word 3 answer (Exchange 1) (Hsm h) made e ∙ go answer other
  where
    go : (n : ℕ) → n ≢ 1 → opening_next (Hsm h) (Exchange 1) 3 n (opening p.own.steps) ≡ closed
    go zero ne = free
    go (suc zero) ne = absurd (ne refl)
    go (suc (suc n)) ne = free

pub start_placed : (p q : Shown) (word h arg : ℕ) → Adds p q word Store arg 0 → name_of word ≡ Start h → opening q.own.steps ≡ placed h
start_placed p q word h arg made e = opening_took p q word arg 0 Store (Start h) made e

pub start_handed : (p q : Shown) (word h arg : ℕ) → Adds p q word Store arg 0 → name_of word ≡ Opaque h → opening q.own.steps ≡ handed h
start_handed p q word h arg made e = opening_took p q word arg 0 Store (Opaque h) made e

pub start_counted : (p q : Shown) (word h answer : ℕ) → Adds p q word Add 1 answer → name_of word ≡ Live → opening p.own.steps ≡ handed h → opening q.own.steps ≡ counted h
start_counted p q word h answer made e o = opening_took p q word 1 answer Add Live made e ∙ ap (λ x. opening_next Live Add 1 answer x) o

pub start_ended : (p q : Shown) (word h : ℕ) → Adds p q word Store 2 0 → name_of word ≡ Hsm h → opening q.own.steps ≡ closed
start_ended p q word h made e = opening_took p q word 2 0 Store (Hsm h) made e

-- a step on a word of hart states leaves the actor acting
pub acting_hsm : (p q : Shown) (word arg answer h : ℕ) (op : WordOp) → Adds p q word op arg answer → name_of word ≡ Hsm h → IsActing p → IsActing q
acting_hsm p q word arg answer h op made e = acting_adds p q word arg answer op (Hsm h) made e (λ b. refl)

pub acting_start : (p q : Shown) (word arg answer h : ℕ) (op : WordOp) → Adds p q word op arg answer → name_of word ≡ Start h → IsActing p → IsActing q
acting_start p q word arg answer h op made e = acting_adds p q word arg answer op (Start h) made e (λ b. refl)

pub acting_opaque : (p q : Shown) (word arg answer h : ℕ) (op : WordOp) → Adds p q word op arg answer → name_of word ≡ Opaque h → IsActing p → IsActing q
acting_opaque p q word arg answer h op made e = acting_adds p q word arg answer op (Opaque h) made e (λ b. refl)

pub acting_live : (p q : Shown) (word arg answer : ℕ) (op : WordOp) → Adds p q word op arg answer → name_of word ≡ Live → IsActing p → IsActing q
acting_live p q word arg answer op made e = acting_adds p q word arg answer op Live made e (λ b. refl)

pub ruleset acting_state = (acting_hsm, acting_start, acting_opaque, acting_live)

pub ruleset starting = (start_begun, start_refused, start_placed, start_handed, start_counted, start_ended)

same_actor : (p q : Shown) (word arg answer : ℕ) (op : WordOp) → Adds p q word op arg answer → q.own.actor ≡ p.own.actor
same_actor p q word arg answer op made = ap (λ (x : Shown). x.own.actor) made

-- once it has stopped the hart owes, until it takes itself from LIVE
pub stop_owes : (p q : Shown) (word a : ℕ) → Adds p q word Store 1 0 → name_of word ≡ Hsm a → a ≡ p.own.actor → is_owing q.own.actor q.own.steps ≡ true
stop_owes p q word a made e is = ap (λ x. is_owing x q.own.steps) (same_actor p q word 1 0 Store made)
    ∙ fold_adds (is_owing_next p.own.actor) false p q word 1 0 Store (Hsm a) made e
    ∙ ap (λ (t : Bool). if t then true else is_owing p.own.actor p.own.steps) (eq-eqb a p.own.actor is)

pub stop_paid : (p q : Shown) (word answer : ℕ) → Adds p q word Add minus_one answer → name_of word ≡ Live → is_owing q.own.actor q.own.steps ≡ false
stop_paid p q word answer made e = ap (λ x. is_owing x q.own.steps) (same_actor p q word minus_one answer Add made) ∙ fold_adds (is_owing_next p.own.actor) false p q word minus_one answer Add Live made e

pub ruleset stopping = (stop_owes, stop_paid)

-- a hart that runs and makes no start may stop
pub stops_itself : (p : Shown) (word a : ℕ) → a ≡ p.own.actor → name_of word ≡ Hsm a → IsRunner p → May p word Store 1
stops_itself p word a is e r = may_stop p word (e ∙ ap Hsm is) r.acting r.hart r.runs r.free
