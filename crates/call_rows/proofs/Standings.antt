-- What keeps a hart standing: its way in and out, a call, and its start.
use Rattle.std.proofs.Common.{◌≡◌, ◌<◌, ℕ, Bool, true, false, refl, sym, ap, subst, ◌∙◌}
use Rattle.step_laws.specs.declared.steps.WordOp.{WordOp}
use Rattle.step_laws.specs.Map.{Word, Live, Hsm, Start, Opaque}
use Rattle.step_laws.specs.Harts.{Opening, closed, opening, opening_next, is_owing, is_owing_next, is_running, is_running_next}
use Rattle.step_laws.specs.Sections.{is_claimant, outside, phase, IsOut}
use Rattle.guest_ram.specs.Areas.{IsOfSection, IsOfStates}
use Rattle.guest_ram.specs.Ports.{Shown, GoesBy, IsActing}
use Rattle.guest_ram.proofs.AreaLemmas.{states_aside}
use Rattle.guest_ram.proofs.Moves.{actor_goes, fold_goes, machine_goes, stands_goes}
use Rattle.guest_ram_cases.specs.States.{IsAtRest}
use Rattle.guest_ram_cases.specs.Tours.{IsSameSeat}
use Rattle.exclusive.specs.Claims.{IsOfClaims}
use Rattle.hart_calls.specs.States.{IsRunner}

abbrev pub IsOffStates : Word → Type 0
IsOffStates Live = ⊥
IsOffStates (Hsm h) = ⊥
IsOffStates (Start h) = ⊥
IsOffStates (Opaque h) = ⊥
IsOffStates w = Unit {0}

pub section_off : (w : Word) → IsOfSection w → IsOffStates w
section_off Live x = absurd x
section_off (Hsm h) x = absurd x
section_off (Start h) x = absurd x
section_off (Opaque h) x = absurd x
section_off w x = tt

pub claims_off : (w : Word) → IsOfClaims w → IsOffStates w
claims_off Live x = absurd x
claims_off (Hsm h) x = absurd x
claims_off (Start h) x = absurd x
claims_off (Opaque h) x = absurd x
claims_off w x = tt

running_off : (a : ℕ) (w : Word) (op : WordOp) (arg answer : ℕ) (b : Bool) → IsOffStates w → is_running_next a w op arg answer b ≡ b
running_off a (Hsm h) op arg answer b x = absurd x
running_off a w op arg answer b x = refl

owing_off : (a : ℕ) (w : Word) (op : WordOp) (arg answer : ℕ) (b : Bool) → IsOffStates w → is_owing_next a w op arg answer b ≡ b
owing_off a (Hsm h) op arg answer b x = absurd x
owing_off a Live op arg answer b x = absurd x
owing_off a w op arg answer b x = refl

opening_off : (w : Word) (op : WordOp) (arg answer : ℕ) (o : Opening) → IsOffStates w → opening_next w op arg answer o ≡ o
opening_off Live op arg answer o x = absurd x
opening_off (Hsm h) op arg answer o x = absurd x
opening_off (Start h) op arg answer o x = absurd x
opening_off (Opaque h) op arg answer o x = absurd x
opening_off w op arg answer o x = refl

module _ (n : ℕ) (A : Word → Type 0) (p q : Shown) (goes : GoesBy n A p q) where
  pub seat_goes : IsSameSeat p q
  seat_goes = record { machine = machine_goes n A p q goes; actor = actor_goes n A p q goes }

  hart_goes : p.own.actor < p.machine.layout.harts → q.own.actor < q.machine.layout.harts
  hart_goes less = subst (λ (x : Shown). x.own.actor < x.machine.layout.harts) (sym goes.grown) less

  -- off the words of hart states
  pub rest_goes : (runs : Bool) → ((w : Word) → A w → IsOffStates w) → IsActing q → IsAtRest p runs → IsAtRest q runs
  rest_goes runs off acting r = record {
    acting = acting;
    hart = hart_goes r.hart;
    running = ap (λ (x : Shown). is_running x.own.actor x.own.runs q.own.steps) goes.grown ∙ fold_goes (is_running_next p.own.actor) p.own.runs n A p q (λ w op arg answer x t. running_off p.own.actor w op arg answer x (off w t)) goes ∙ r.running;
    start_is = fold_goes opening_next closed n A p q (λ w op arg answer x t. opening_off w op arg answer x (off w t)) goes ∙ r.start_is;
    owing = ap (λ (x : Shown). is_owing x.own.actor q.own.steps) goes.grown ∙ fold_goes (is_owing_next p.own.actor) false n A p q (λ w op arg answer x t. owing_off p.own.actor w op arg answer x (off w t)) goes ∙ r.owing;
  }

  -- by a call, which says what it leaves
  pub rest_called : (runs : Bool) → is_running q.own.actor q.own.runs q.own.steps ≡ runs → opening q.own.steps ≡ closed → is_owing q.own.actor q.own.steps ≡ false → IsActing q → p.own.actor < p.machine.layout.harts → IsAtRest q runs
  rest_called runs running free paid acting less = record { acting = acting; hart = hart_goes less; running = running; start_is = free; owing = paid }

pub runner : (p : Shown) → IsAtRest p true → IsRunner p
runner p r = record { acting = r.acting; hart = r.hart; runs = r.running; free = r.start_is }

pub out_is : (p : Shown) → phase p.own.steps ≡ outside → is_claimant p.own.steps ≡ false → IsOut p.own.steps
out_is p at none = (at, none)

-- a start of the own leaves a hart outside
pub out_states : (n : ℕ) (p q : Shown) → GoesBy n IsOfStates p q → IsOut p.own.steps → IsOut q.own.steps
out_states n p q goes out = let s = stands_goes n IsOfStates p q states_aside goes in (s.phase ∙ out.0, s.claim ∙ out.1)
