-- Steps that the discipline refuses for a premise that no law uses: each breaks that premise alone.
use Rattle.std.proofs.Common.{◌≡◌, ℕ, zero, suc, ◌%◌, ◌^◌, true, true≢false, List, [], ◌∷◌, refl, sym, arith}
use Rattle.step_laws.specs.declared.map.TlbField.TheVariants.{Write}
use Rattle.step_laws.specs.declared.steps.Step.{Step}
use Rattle.step_laws.specs.declared.steps.WordOp.TheVariants.{Load, Store, Or, Exchange}
use Rattle.step_laws.specs.Map.{Pend, Run, Lock, Place, Dirty, Tlb, name_of}
use Rattle.step_laws.specs.Discipline.{IsPermitted, by_loader, by_actor, raise, claim, check, fetch, mark, set_clean, lock_other}
use Rattle.step_laws.proofs.Samples.{two, by}

-- hart 0 has claimed the section
abbrev claimed : List Step
claimed = by 0 1 (Exchange 0) 1 0 ∷ []

-- hart 0 is inside
abbrev entered : List Step
entered = by 0 1 Load 0 0 ∷ by 0 8 Store 1 0 ∷ []

-- hart 0 has marked a page
abbrev marked : List Step
marked = by 0 728 Or 1 0 ∷ []

pub raise_as_claimant : IsPermitted two 0 true claimed (Run 0) Store 1 → ⊥
unfolding name_of
raise_as_claimant (by_loader e m) = omega (arith, e)
raise_as_claimant (by_actor who f (raise at)) = true≢false at.1

pub claim_from_inside : IsPermitted two 0 true entered Pend (Exchange 0) 1 → ⊥
unfolding name_of
claim_from_inside (by_loader e m) = omega (arith, e)
claim_from_inside (by_actor who f (claim at)) = let e = at.0 in absurd (cc)

pub check_without_claim : IsPermitted two 0 true [] (Run 1) Load 0 → ⊥
check_without_claim (by_loader e m) = omega (arith, e)
check_without_claim (by_actor who f (check ne at)) = true≢false (sym at)

pub check_of_the_own_run : IsPermitted two 0 true claimed (Run 0) Load 0 → ⊥
check_of_the_own_run (by_loader e m) = omega (arith, e)
check_of_the_own_run (by_actor who f (check ne at)) = ne refl

pub fetch_of_a_later_place : IsPermitted two 0 true [] (Place 0 1 3) Load 0 → ⊥
fetch_of_a_later_place (by_loader e m) = omega (arith, e)
fetch_of_a_later_place (by_actor who f (fetch ne l at calm)) = omega (arith, at)

pub fetch_behind_a_mark : IsPermitted two 0 true marked (Place 0 1 0) Load 0 → ⊥
unfolding name_of
fetch_behind_a_mark (by_loader e m) = omega (arith, e)
fetch_behind_a_mark (by_actor who f (fetch ne l at calm)) = true≢false calm

pub clean_without_lock : IsPermitted two 8 true [] (Tlb 0 3 Write) Or 2 → ⊥
clean_without_lock (by_loader e m) = omega (arith, e)
clean_without_lock (by_actor who f (set_clean is held)) = omega (arith, held)

pub lock_outside_a_pass : IsPermitted two 8 true [] (Lock 0) (Exchange 0) 9 → ⊥
lock_outside_a_pass (by_loader e m) = omega (arith, e)
lock_outside_a_pass (by_actor who f (lock_other free is l st)) = absurd (cc)

power_of_two : (n : ℕ) → 3 ≡ 2 ^ n → ⊥
power_of_two zero e = omega (arith, e)
power_of_two (suc n) e = omega (arith, e)

pub mark_of_two_pages : IsPermitted two 0 true [] (Dirty 0) Or 3 → ⊥
mark_of_two_pages (by_loader e m) = omega (arith, e)
mark_of_two_pages (by_actor who f (mark {p} l few at is)) = power_of_two (p % 64) is
