-- What goes with a hart as it is called out, goes in, claims the section, gives it back, and leaves.
use Rattle.std.proofs.Common.{◌≡◌, ◌≢◌, ℕ, Bool, true, false, refl, sym, ap, subst, ◌∙◌, arith}
use Rattle.std.specs.Prelude.{◌==◌, IfErr, OnOk, Result, Ok, Err, not}
use Rattle.step_laws.specs.declared.steps.WordOp.TheVariants.{Load, Store}
use Rattle.step_laws.specs.Map.{Word, Done, Kick, Pend, Run}
use Rattle.step_laws.specs.Sections.{inside, is_claimant, outside, phase}
use Rattle.guest_ram.specs.Areas.{IsOfSection}
use Rattle.guest_ram.specs.Ports.{GoesBy, IsActing, Shown, StandsAs}
use Rattle.guest_ram.proofs.Moves.{goes_made, goes_then, goes_within}
use Rattle.tlb_table.proofs.Aside.{IsOffTable}
use Rattle.turn_pieces.specs.Doing.{IsCalm}
use Rattle.turn_pieces.specs.Writers.{IsPlain}
use Rattle.turn_pieces.proofs.Unmarked.{is_other}
use Rattle.turn_pieces.proofs.Writers.{part_nowhere, part_then}
use Rattle.exclusive.specs.Claims.{IsOfClaims}
use Rattle.exclusive.specs.Entries.{HasLeft}
use Rattle.hart_signals.specs.Signals.{HasClearedKick, HasFoundKick, HasSignedOff}
use Rattle.signal_pieces.specs.Signalling.{IsOfSides}
use Rattle.signal_pieces.proofs.Single.{goes_one}
use Rattle.hart_turn.specs.declared.hart.Claim.{Claim}
use Rattle.hart_turn.specs.declared.hart.Hart.{Hart}
use Rattle.hart_turn.specs.Harts.{GoesWith, IsStill, StandsBy, gone_in, is_made, phase_of, with_claim}
use Rattle.hart_turn.specs.Logs.{AtEnd, AtWork, Finishes}
use Rattle.hart_turn.specs.Parts.{IsOfLeaving}
use Rattle.hart_turn.proofs.Aside.{claims_sides, section_sides, stand_as}
use Rattle.hart_turn.proofs.Draws.{IsNeither}
use Rattle.hart_turn.proofs.Sides.{Goes, ends_on, part_still, sides_go}

pub not_both : (b : Bool) → b ≡ false → b ≡ true → ⊥
not_both b x y = let e : false ≡ true = sym x ∙ y in cc

-- what a look at KICK found, where it says so
pub found_some : (found : ℕ) (b : Bool) → b ≡ not (found == 0) → b ≡ true → found ≢ 0
found_some found b is says = λ e. not_both (not (found == 0)) (ap (λ n. not (n == 0)) e) (sym is ∙ says)

pub on_ok : {A E : Type 0} {P Q : Type 0} (r : Result A E) → (P → Q) → OnOk r P → OnOk r Q
on_ok (Ok x) f y = f y
on_ok (Err e) f y = tt

pub on_err : {A E : Type 0} {P Q : E → Type 0} (r : Result A E) → ((e : E) → P e → Q e) → IfErr r P → IfErr r Q
on_err (Ok x) f y = tt
on_err (Err e) f y = f e y

pub wants_it : (claim : Claim) → claim ≢ Claim.Unwanted → is_made claim ≡ false → claim ≡ Claim.Wanted
wants_it Claim.Unwanted ne e = absurd (ne refl)
wants_it Claim.Wanted ne e = refl
wants_it Claim.Made ne e = absurd (let f : true ≡ false = e in cc)

-- where a hart stands
stand_out : (h : Hart) (n : ℕ) (p q : Shown) → StandsBy h p → phase q.own.steps ≡ outside → is_claimant q.own.steps ≡ is_claimant p.own.steps → StandsBy (record h { inside = false; quantum = n }) q
stand_out h n p q x out same = record { phase_is = out; claim_is = same ∙ x.claim_is; quantum = λ e. absurd (not_both false refl e) }

stand_in : (h : Hart) (q : Shown) → phase q.own.steps ≡ inside → is_claimant q.own.steps ≡ false → is_made h.claim ≡ false → StandsBy (gone_in h) q
stand_in h q there none unmade = record { phase_is = there; claim_is = none ∙ sym unmade; quantum = λ e. (omega arith, omega arith, unmade) }

stand_outside : (claim : Claim) (h : Hart) (q : Shown) → h.inside ≡ false → phase q.own.steps ≡ outside → is_claimant q.own.steps ≡ is_made claim → StandsBy (with_claim claim h) q
stand_outside claim h q out there claims = record { phase_is = there ∙ ap phase_of (sym out); claim_is = claims; quantum = λ e. absurd (not_both h.inside out e) }

-- with its port and its log behind each
module _ (h : Hart) (p q : Shown) (can : GoesWith h p) where
  -- it looked at its KICK
  pub looked : (found : ℕ) → HasFoundKick found p q → IsActing q → StandsAs p q → Goes h h p q
  looked found m acting s = sides_go 1 h h p q can (goes_made IsOfSides p q (Kick p.own.actor) Load 0 found m tt) acting refl (stand_as h p q can.stands s)

  -- it took back what called it out
  pub cleared : HasClearedKick p q → IsActing q → StandsAs p q → Goes h h p q
  cleared m acting s = sides_go 1 h h p q can (goes_made IsOfSides p q (Kick p.own.actor) Store 0 0 m tt) acting refl (stand_as h p q can.stands s)

  -- it left
  pub left : (n : ℕ) → HasLeft p q → IsActing q → phase q.own.steps ≡ outside → is_claimant q.own.steps ≡ is_claimant p.own.steps → Goes h (record h { inside = false; quantum = n }) p q
  left n m acting out same = sides_go 1 h (record h { inside = false; quantum = n }) p q can (goes_made IsOfSides p q (Run p.own.actor) Store 0 0 m tt) acting refl (stand_out h n p q can.stands out same)

  -- it found itself called out, and left
  pub called_out : (found : ℕ) (q' : Shown) → HasFoundKick found p q → IsActing q → StandsAs p q → HasLeft q q' → IsActing q' → phase q'.own.steps ≡ outside → is_claimant q'.own.steps ≡ is_claimant q.own.steps → Goes h (record h { inside = false }) p q'
  called_out found q' m acting s m' acting' out same =
      let y = looked found m acting s in
      let k = record h { inside = false } in
      let z = sides_go 1 h k q q' y.with (goes_made IsOfSides q q' (Run q.own.actor) Store 0 0 m' tt) acting' refl (stand_out h h.quantum q q' y.with.stands out same) in record {
        with = z.with;
        works = part_then (AtWork h p) (AtWork h q) (AtWork k q') y.works z.works;
        ends = part_then (AtEnd h p) (AtEnd h q) (AtEnd k q') y.ends z.ends;
      }

  -- it entered, or turned back
  pub entered : GoesBy 3 IsOfSection p q → IsActing q → phase q.own.steps ≡ inside → is_claimant q.own.steps ≡ false → is_made h.claim ≡ false → Goes h (gone_in h) p q
  entered goes acting there none unmade = sides_go 3 h (gone_in h) p q can (goes_within 3 IsOfSection IsOfSides p q section_sides goes) acting refl (stand_in h q there none unmade)

  pub turned : GoesBy 3 IsOfSection p q → IsActing q → h.inside ≡ false → phase q.own.steps ≡ outside → is_claimant q.own.steps ≡ false → is_made h.claim ≡ false → Goes h h p q
  turned goes acting out there none unmade = sides_go 3 h h p q can (goes_within 3 IsOfSection IsOfSides p q section_sides goes) acting refl (stand_outside h.claim h q out there (none ∙ sym unmade))

  -- it claimed the section, or another had
  pub claims : (claim : Claim) → GoesBy 9 IsOfClaims p q → IsActing q → h.inside ≡ false → phase q.own.steps ≡ outside → is_claimant q.own.steps ≡ is_made claim → Goes h (with_claim claim h) p q
  claims claim goes acting out there is = sides_go 9 h (with_claim claim h) p q can (goes_within 9 IsOfClaims IsOfSides p q claims_sides goes) acting refl (stand_outside claim h q out there is)

  -- it looked whether all others are outside
  pub looks : GoesBy 9 IsOfSection p q → IsActing q → phase q.own.steps ≡ phase p.own.steps → is_claimant q.own.steps ≡ true → h.claim ≡ Claim.Made → Goes h h p q
  looks goes acting same is made = sides_go 9 h h p q can (goes_within 9 IsOfSection IsOfSides p q section_sides goes) acting refl
      (record { phase_is = same ∙ can.stands.phase_is; claim_is = is ∙ sym (ap is_made made); quantum = can.stands.quantum })

  -- it gave the section back
  pub gave : GoesBy 1 IsOfSection p q → IsActing q → phase q.own.steps ≡ phase p.own.steps → is_claimant q.own.steps ≡ false → Goes h (with_claim Claim.Unwanted h) p q
  gave goes acting same none = sides_go 1 h (with_claim Claim.Unwanted h) p q can (goes_within 1 IsOfSection IsOfSides p q section_sides goes) acting refl
      (record { phase_is = same ∙ can.stands.phase_is; claim_is = none; quantum = λ e. let x = can.stands.quantum e in (x.0, x.1, refl) })

-- nothing was done, and it stands elsewhere
pub restands : (h k : Hart) (p : Shown) → IsStill h k → Finishes h k p p
restands h k p still = part_still (AtEnd h p) h k p still (part_nowhere (AtEnd h p))

-- its last step
pub signs : (h : Hart) (p q : Shown) → HasSignedOff p q → Finishes h h p q
signs h p q m = ends_on 1 (λ v. v ≡ Done p.own.actor) h p q (λ v e. subst IsOffTable (sym e) tt) (λ v e. ap is_other e) (λ v e. subst IsNeither (sym e) tt) (goes_one p q (Done p.own.actor) Store 1 0 m)
    (subst (λ v. IsCalm v Store 0) (sym m.name) tt, subst (λ v. IsPlain p.own.actor v Store) (sym m.name) tt, tt)

pub called_goes : (found : ℕ) (p m q : Shown) → HasFoundKick found p m → HasLeft m q → GoesBy 2 IsOfSides p q
called_goes found p m q x y = goes_then 1 1 IsOfSides p m q (goes_made IsOfSides p m (Kick p.own.actor) Load 0 found x tt) (goes_made IsOfSides m q (Run m.own.actor) Store 0 0 y tt)

sides_leave : (w : Word) → IsOfSides w → IsOfLeaving w
sides_leave (Done a) t = absurd t
sides_leave Pend t = t
sides_leave (Run a) t = t
sides_leave (Kick h) t = t
sides_leave w t = absurd t

pub leaves_goes : (p m q : Shown) → GoesBy 1 IsOfSides p m → HasSignedOff m q → GoesBy 2 IsOfLeaving p q
leaves_goes p m q goes signed = goes_then 1 1 IsOfLeaving p m q (goes_within 1 IsOfSides IsOfLeaving p m sides_leave goes) (goes_made IsOfLeaving m q (Done m.own.actor) Store 1 0 signed tt)
