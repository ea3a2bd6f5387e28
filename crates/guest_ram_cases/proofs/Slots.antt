-- Slots that are made invalid one behind another.
use Rattle.std.proofs.Common.{◌≡◌, ◌≢◌, ℕ, ◌+◌, ◌<◌, ◌≤◌, Bool, true, false, List, ◌⊎◌, inl, inr, ⊎_elim, refl, sym, ap, subst, ◌∙◌, arith}
use Rattle.std.specs.Prelude.{nat_lt, nat_le, ◌&&◌, ◌||◌}
use Rattle.std.proofs.lemmas.Bool.{cases_eq, and_parts, and_from, lt-ltb, ltb-true}
use Rattle.step_laws.specs.declared.words.Layout.{Layout}
use Rattle.step_laws.specs.declared.steps.Step.{Step}
use Rattle.step_laws.specs.Words.{main_slots, all_slots}
use Rattle.step_laws.specs.Map.{Hsm, Size, Tlb}
use Rattle.step_laws.specs.Loader.{is_stored}
use Rattle.step_laws.specs.Tables.{is_first_slot}
use Rattle.guest_ram.specs.Areas.{AnyWord}
use Rattle.guest_ram.specs.Ports.{Shown, GoesBy}
use Rattle.guest_ram.proofs.Moves.{stored_goes}
use Rattle.guest_ram_cases.specs.Booted.{IsClear, IsHartBooted}

pub layout_goes : (n : ℕ) (p q : Shown) → GoesBy n AnyWord p q → q.machine.layout ≡ p.machine.layout
layout_goes n p q a = ap (λ (x : Shown). x.machine.layout) a.grown

pub hart_goes : (n : ℕ) (p q : Shown) (h : ℕ) → GoesBy n AnyWord p q → h < p.machine.layout.harts → h < q.machine.layout.harts
hart_goes n p q h a less = subst (λ (l : Layout). h < l.harts) (sym (layout_goes n p q a)) less

pub clear_goes : (n : ℕ) (p q : Shown) (h j : ℕ) → GoesBy n AnyWord p q → IsClear h j p.own.steps → IsClear h j q.own.steps
clear_goes n p q h j a c f less = stored_goes n AnyWord p q (Tlb h j f) a (c f less)

-- the slots from one on to below another
abbrev pub AreClear : ℕ → ℕ → ℕ → List Step → Type 0
AreClear h from to r = (j : ℕ) → from ≤ j → j < to → IsClear h j r

pub clears_goes : (n : ℕ) (p q : Shown) (h from to : ℕ) → GoesBy n AnyWord p q → AreClear h from to p.own.steps → AreClear h from to q.own.steps
clears_goes n p q h from to a c j least less = clear_goes n p q h j a (c j least less)

pub clears_more : (n : ℕ) (p q : Shown) (h from to : ℕ) → GoesBy n AnyWord p q → AreClear h from to p.own.steps → IsClear h to q.own.steps → AreClear h from (to + 1) q.own.steps
clears_more n p q h from to a c here j least less = ⊎_elim (λ (is : j ≡ to). subst (λ k. IsClear h k q.own.steps) (sym is) here)
    (λ (ne : j ≢ to). clears_goes n p q h from to a c j least (omega arith)) (cases_eq j to)

pub none_clear : (h from : ℕ) (r : List Step) → AreClear h from from r
none_clear h from r j least less = absurd (omega arith)

le_test : (a b : ℕ) → a ≤ b → nat_le a b ≡ true
le_test a b p = grind (arith, p)

pub first_main : (j : ℕ) → j < 64 → is_first_slot j ≡ true
first_main j p = ap (λ (t : Bool). t || (nat_le main_slots j && nat_lt j all_slots)) (lt-ltb j 64 p)

true_or : (t : Bool) → (t || true) ≡ true
true_or true = refl
true_or false = refl

pub first_victim : (j : ℕ) → main_slots ≤ j → j < all_slots → is_first_slot j ≡ true
first_victim j p q = ap (λ (t : Bool). nat_lt j 64 || t) (and_from (nat_le main_slots j) (nat_lt j all_slots) (le_test main_slots j p) (lt-ltb j all_slots q)) ∙ true_or (nat_lt j 64)

test_le : (a b : ℕ) → nat_le a b ≡ true → a ≤ b
test_le a b e = grind (arith, e)

either_slot : (j : ℕ) (t : Bool) → nat_lt j 64 ≡ t → (t || (nat_le main_slots j && nat_lt j all_slots)) ≡ true → (j < 64) ⊎ ((main_slots ≤ j) × (j < all_slots))
either_slot j true e k = inl (ltb-true j 64 e)
either_slot j false e k = let p = and_parts (nat_le main_slots j) (nat_lt j all_slots) k in inr (test_le main_slots j p.0, ltb-true j all_slots p.1)

pub hart_booted : (h : ℕ) (r : List Step) → is_stored (Size h) r ≡ true → AreClear h 0 64 r → AreClear h main_slots all_slots r → IsHartBooted h r
hart_booted h r size main victims = record {
  size = size;
  slots = λ j first. ⊎_elim (λ (less : j < 64). main j (omega arith) less) (λ (v : (main_slots ≤ j) × (j < all_slots)). victims j v.0 v.1) (either_slot j (nat_lt j 64) refl first);
}

-- harts below one have their TLBs
abbrev pub AreBooted : ℕ → List Step → Type 0
AreBooted to r = (h : ℕ) → h < to → IsHartBooted h r

pub hart_booted_goes : (n : ℕ) (p q : Shown) (h : ℕ) → GoesBy n AnyWord p q → IsHartBooted h p.own.steps → IsHartBooted h q.own.steps
hart_booted_goes n p q h a b = record { size = stored_goes n AnyWord p q (Size h) a b.size; slots = λ j first. clear_goes n p q h j a (b.slots j first) }

pub booted_more : (n : ℕ) (p q : Shown) (to : ℕ) → GoesBy n AnyWord p q → AreBooted to p.own.steps → IsHartBooted to q.own.steps → AreBooted (to + 1) q.own.steps
booted_more n p q to a c here h less = ⊎_elim (λ (is : h ≡ to). subst (λ k. IsHartBooted k q.own.steps) (sym is) here)
    (λ (ne : h ≢ to). hart_booted_goes n p q h a (c h (omega arith))) (cases_eq h to)

-- the harts from 1 on are stopped
abbrev pub AreStopped : ℕ → List Step → Type 0
AreStopped to r = (h : ℕ) → 1 ≤ h → h < to → is_stored (Hsm h) r ≡ true

pub stopped_goes : (n : ℕ) (p q : Shown) (to : ℕ) → GoesBy n AnyWord p q → AreStopped to p.own.steps → AreStopped to q.own.steps
stopped_goes n p q to a c h least less = stored_goes n AnyWord p q (Hsm h) a (c h least less)

pub stopped_more : (n : ℕ) (p q : Shown) (to : ℕ) → GoesBy n AnyWord p q → AreStopped to p.own.steps → is_stored (Hsm to) q.own.steps ≡ true → AreStopped (to + 1) q.own.steps
stopped_more n p q to a c here h least less = ⊎_elim (λ (is : h ≡ to). subst (λ k. is_stored (Hsm k) q.own.steps ≡ true) (sym is) here)
    (λ (ne : h ≢ to). stopped_goes n p q to a c h least (omega arith)) (cases_eq h to)
