-- Sections: what an actor's record says of its RUN, its claim and its pass over the others' RUN.
use Rattle.std.specs.Prelude.{◌≡◌, ℕ, zero, suc, ◌+◌, ◌==◌, ◌⊎◌, Bool, true, false, List, nat_lt, if◌then◌else◌}
use Rattle.step_laws.specs.declared.words.Layout.{Layout}
use Rattle.step_laws.specs.declared.steps.Step.{Step}
use Rattle.step_laws.specs.declared.steps.WordOp.{WordOp}
use Rattle.step_laws.specs.declared.steps.WordOp.TheVariants.{Load, Store, Exchange}
use Rattle.step_laws.specs.Map.{Word, Pend, Run, monitor, actors}
use Rattle.step_laws.specs.Folds.{fold_steps}

-- where an actor stands with its RUN: outside, about to enter, inside, or found that another claims the section
pub data Phase : Type 0 where
  outside : Phase
  raised : Phase
  inside : Phase
  blocked : Phase

abbrev pub phase_next : Word → WordOp → ℕ → ℕ → Phase → Phase
phase_next (Run b) Store zero answer p = outside
phase_next (Run b) Store (suc n) answer p = raised
phase_next Pend Load arg zero p = inside
phase_next Pend Load arg (suc n) p = blocked
phase_next _ _ _ _ p = p

abbrev pub phase : List Step → Phase
phase r = fold_steps phase_next outside r

abbrev pub is_claimant_next : Word → WordOp → ℕ → ℕ → Bool → Bool
is_claimant_next Pend Store arg answer c = false
is_claimant_next Pend (Exchange e) arg zero c = true
is_claimant_next _ _ _ _ c = c

-- whether the actor claimed PEND and holds it
abbrev pub is_claimant : List Step → Bool
is_claimant r = fold_steps is_claimant_next false r

-- the first actor from a number on: a hart of the machine, else the monitor, else none
abbrev pub actor_from : Layout → ℕ → ℕ
actor_from layout n = if nat_lt n layout.harts then n else if nat_lt monitor n then actors else monitor

-- the same, but for the actor a
abbrev pub other_from : Layout → ℕ → ℕ → ℕ
other_from layout a n = if actor_from layout n == a then actor_from layout (actor_from layout n + 1) else actor_from layout n

-- a load of RUN of b that answered 0 in a pass that had come to p: the pass goes on, or a new one begins, or none
abbrev pub pass_by : Layout → (a b p : ℕ) → ℕ
pass_by layout a b p = if b == p then other_from layout a (b + 1) else if b == other_from layout a 0 then other_from layout a (b + 1) else other_from layout a 0

abbrev pub pass_next : Layout → ℕ → Word → WordOp → ℕ → ℕ → ℕ → ℕ
pass_next layout a (Run b) Load arg zero p = if p == actors then p else pass_by layout a b p
pass_next layout a (Run b) Load arg (suc n) p = if p == actors then p else other_from layout a 0
pass_next layout a Pend (Exchange e) arg zero p = other_from layout a 0
pass_next layout a _ _ _ _ p = p

-- how far the pass over the others' RUN has come since the claim: whose RUN is next. Once it is whole it stays so
abbrev pub pass : Layout → ℕ → List Step → ℕ
pass layout a r = fold_steps (pass_next layout a) (other_from layout a 0) r

-- outside, and no claimant
abbrev pub IsOut : List Step → Type 0
IsOut r = (phase r ≡ outside) × (is_claimant r ≡ false)

-- claimant, and since the claim every other actor's RUN was loaded 0, in one pass in actor order
abbrev pub IsInSection : Layout → ℕ → List Step → Type 0
IsInSection layout a r = (is_claimant r ≡ true) × (pass layout a r ≡ actors)

abbrev pub MayTouch : Layout → ℕ → List Step → Type 0
MayTouch layout a r = (phase r ≡ inside) ⊎ IsInSection layout a r
