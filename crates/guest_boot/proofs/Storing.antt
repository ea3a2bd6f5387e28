-- Words that are stored one behind another.
use Rattle.std.proofs.Common.{◌≡◌, ◌≢◌, ℕ, ◌+◌, ◌<◌, ◌≤◌, Bool, true, false, List, ◌⊎◌, inl, inr, ⊎_elim, refl, sym, ap, subst, ◌∙◌, arith}
use Rattle.std.specs.Prelude.{nat_lt, nat_le, ◌&&◌, ◌||◌}
use Rattle.std.proofs.lemmas.Bool.{cases_eq, and_parts, and_from, lt-ltb, ltb-true}
use Rattle.step_laws.specs.declared.words.Layout.{Layout}
use Rattle.step_laws.specs.declared.steps.Step.{Step}
use Rattle.step_laws.specs.Words.{main_slots, all_slots}
use Rattle.step_laws.specs.Map.{Word, Live, Hsm, Size, Tlb, Ram}
use Rattle.step_laws.specs.Loader.{IsBooted, is_stored}
use Rattle.step_laws.specs.Tables.{is_first_slot}
use Rattle.guest_ram.specs.Ports.{Shown, GoesBy}
use Rattle.guest_ram.proofs.Moves.{stored_goes}
use Rattle.guest_boot.specs.Stored.{AreStored, IsOfBoot, IsOfHart, IsOfImage, IsOfLoader, IsSlot}

pub layout_goes : (n : ℕ) (Touches : Word → Type 0) (p q : Shown) → GoesBy n Touches p q → q.machine.layout ≡ p.machine.layout
layout_goes n Touches p q a = ap (λ (x : Shown). x.machine.layout) a.grown

pub hart_goes : (n : ℕ) (p q : Shown) (h : ℕ) → GoesBy n IsOfBoot p q → h < p.machine.layout.harts → h < q.machine.layout.harts
hart_goes n p q h a less = subst (λ (l : Layout). h < l.harts) (sym (layout_goes n IsOfBoot p q a)) less

-- what is stored stays so
pub all_go : (n : ℕ) (Touches Of : Word → Type 0) (p q : Shown) → GoesBy n Touches p q → AreStored Of p.own.steps → AreStored Of q.own.steps
all_go n Touches Of p q a c w at = stored_goes n Touches p q w a (c w at)

pub slots_more : (n : ℕ) (p q : Shown) (h from to : ℕ) → GoesBy n IsOfBoot p q → AreStored (IsSlot h from to) p.own.steps → AreStored (IsSlot h to (to + 1)) q.own.steps → AreStored (IsSlot h from (to + 1)) q.own.steps
slots_more n p q h from to a old here (Tlb i j f) at = ⊎_elim (λ (is : j ≡ to). here (Tlb i j f) (at.0, omega (arith, is), omega (arith, is), at.3))
    (λ (ne : j ≢ to). stored_goes n IsOfBoot p q (Tlb i j f) a (old (Tlb i j f) (at.0, at.1, omega (arith, at.2, ne), at.3))) (cases_eq j to)
slots_more n p q h from to a old here w at = absurd at

pub no_slots : (h from : ℕ) (r : List Step) → AreStored (IsSlot h from from) r
no_slots h from r (Tlb i j f) at = absurd (omega (arith, at.1, at.2))
no_slots h from r w at = absurd at

le_test : (a b : ℕ) → a ≤ b → nat_le a b ≡ true
le_test a b p = grind (arith, p)

pub first_main : (j : ℕ) → j < 64 → is_first_slot j ≡ true
first_main j p = ap (λ (t : Bool). t || (nat_le main_slots j && nat_lt j all_slots)) (lt-ltb j 64 p)

true_or : (t : Bool) → (t || true) ≡ true
true_or true = refl
true_or false = refl

pub first_victim : (j : ℕ) → main_slots ≤ j → j < all_slots → is_first_slot j ≡ true
first_victim j p q = ap (λ (t : Bool). nat_lt j 64 || t) (and_from (nat_le main_slots j) (nat_lt j all_slots) (le_test main_slots j p) (lt-ltb j all_slots q)) ∙ true_or (nat_lt j 64)

test_le : (a b : ℕ) → nat_le a b ≡ true → a ≤ b
test_le a b e = grind (arith, e)

either_slot : (j : ℕ) (t : Bool) → nat_lt j 64 ≡ t → (t || (nat_le main_slots j && nat_lt j all_slots)) ≡ true → (j < 64) ⊎ ((main_slots ≤ j) × (j < all_slots))
either_slot j true e k = inl (ltb-true j 64 e)
either_slot j false e k = let p = and_parts (nat_le main_slots j) (nat_lt j all_slots) k in inr (test_le main_slots j p.0, ltb-true j all_slots p.1)

pub hart_stored : (h : ℕ) (r : List Step) → is_stored (Size h) r ≡ true → AreStored (IsSlot h 0 64) r → AreStored (IsSlot h main_slots all_slots) r → AreStored (IsOfHart h) r
hart_stored h r size main victims (Size i) at = subst (λ k. is_stored (Size k) r ≡ true) (sym at) size
hart_stored h r size main victims (Tlb i j f) at = ⊎_elim (λ (less : j < 64). main (Tlb i j f) (at.0, omega arith, less, at.2))
    (λ (v : (main_slots ≤ j) × (j < all_slots)). victims (Tlb i j f) (at.0, v.0, v.1, at.2)) (either_slot j (nat_lt j 64) refl at.1)
hart_stored h r size main victims w at = absurd at

-- the harts below one have their TLBs
abbrev pub AreBooted : ℕ → List Step → Type 0
AreBooted to r = (h : ℕ) → h < to → AreStored (IsOfHart h) r

pub booted_more : (n : ℕ) (p q : Shown) (to : ℕ) → GoesBy n IsOfBoot p q → AreBooted to p.own.steps → AreStored (IsOfHart to) q.own.steps → AreBooted (to + 1) q.own.steps
booted_more n p q to a c here h less = ⊎_elim (λ (is : h ≡ to). subst (λ k. AreStored (IsOfHart k) q.own.steps) (sym is) here)
    (λ (ne : h ≢ to). all_go n IsOfBoot (IsOfHart h) p q a (c h (omega (arith, less, ne)))) (cases_eq h to)

-- the harts from 1 on, below one, are stopped
abbrev pub AreStopped : ℕ → List Step → Type 0
AreStopped to r = (h : ℕ) → 1 ≤ h → h < to → is_stored (Hsm h) r ≡ true

pub stopped_goes : (n : ℕ) (p q : Shown) (to : ℕ) → GoesBy n IsOfBoot p q → AreStopped to p.own.steps → AreStopped to q.own.steps
stopped_goes n p q to a c h least less = stored_goes n IsOfBoot p q (Hsm h) a (c h least less)

pub stopped_more : (n : ℕ) (p q : Shown) (to : ℕ) → GoesBy n IsOfBoot p q → AreStopped to p.own.steps → is_stored (Hsm to) q.own.steps ≡ true → AreStopped (to + 1) q.own.steps
stopped_more n p q to a c here h least less = ⊎_elim (λ (is : h ≡ to). subst (λ k. is_stored (Hsm k) q.own.steps ≡ true) (sym is) here)
    (λ (ne : h ≢ to). stopped_goes n p q to a c h least (omega (arith, less, ne))) (cases_eq h to)

-- all that the loader stores before the first split stays stored
pub booted_goes : (n : ℕ) (Touches : Word → Type 0) (p q : Shown) → GoesBy n Touches p q → IsBooted p.machine.layout p.own.steps → IsBooted q.machine.layout q.own.steps
booted_goes n Touches p q a b = subst (λ (l : Layout). IsBooted l q.own.steps) (sym (layout_goes n Touches p q a)) (record {
  live = stored_goes n Touches p q Live a b.live;
  states = λ h least less. stored_goes n Touches p q (Hsm h) a (b.states h least less);
  sizes = λ h less. stored_goes n Touches p q (Size h) a (b.sizes h less);
  slots = λ h j f less first field. stored_goes n Touches p q (Tlb h j f) a (b.slots h j f less first field);
})

pub boots_of_loader : (w : Word) → IsOfBoot w → IsOfLoader w
boots_of_loader (Ram i) at = tt
boots_of_loader w at = at

pub images_of_loader : (w : Word) → IsOfImage w → IsOfLoader w
images_of_loader (Ram i) at = tt
images_of_loader w at = absurd at
