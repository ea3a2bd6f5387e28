-- Bytes of RAM that are printed: what their loads and puts keep, and that each word is found as one.
use Rattle.std.proofs.Common.{◌≡◌, ◌≢◌, ◌⊎◌, ℕ, zero, suc, ◌+◌, ◌*◌, ◌<◌, ◌≤◌, ◌^◌, Bool, true, false, refl, sym, ap, subst, ◌∙◌, inl, inr, arith, add-one}
use Rattle.std.specs.Prelude.{◌-◌, ◌/◌, ◌%◌, ◌==◌, ◌||◌, if◌then◌else◌}
use Rattle.std.proofs.lemmas.Bool.{eq-eqb, ne_eqb, eqb-true, eqb-false, cases_Bool}
use Rattle.step_laws.specs.declared.steps.WordOp.TheVariants.{Load}
use Rattle.step_laws.specs.Map.{Ram, Word, name_of}
use Rattle.step_laws.specs.Sections.{MayTouch}
use Rattle.step_laws.specs.Words.{ram_word}
use Rattle.machine_model.specs.Memory.{Memory}
use Rattle.guest_ram.specs.Areas.{IsOfOutput, IsOfRam}
use Rattle.guest_ram.specs.Ports.{Shown, Adds, May, IsActing, GoesBy, StandsAs}
use Rattle.guest_ram.proofs.AreaLemmas.{inner_aside, ram_inner}
use Rattle.guest_ram.proofs.MaySteps.{may_read_ram}
use Rattle.guest_ram.proofs.Moves.{acting_adds, goes_step, machine_goes, stands_goes, touch_stands}
use Rattle.guest_devices.specs.Output.{HasPut}
use Rattle.hart_calls.specs.Printing.{HasCopied, HasCopiedByte, HasLoaded, HasLoadedIf, HasRunOut, HasRunOutAt, MayPrint, begins_word}

pub may_load : (pa word : ℕ) (p : Shown) → name_of word ≡ Ram ((pa - 2 ^ 31) / 8) → MayPrint pa 1 p → May p word Load 0
may_load pa word p e m = may_read_ram p word ((pa - 2 ^ 31) / 8) e m.acting m.touch

pub loaded : (finds : Memory) (pa word answer : ℕ) (p q : Shown) → word ≡ ram_word pa → name_of word ≡ Ram ((pa - 2 ^ 31) / 8) → Adds p q word Load 0 answer → May p word Load 0 → finds (ram_word pa) ≡ answer → HasLoaded finds pa p q
loaded finds pa word answer p q is e made may found = record {
  step = subst (λ n. Adds p q (ram_word pa) Load 0 n) (sym found) (subst (λ n. Adds p q n Load 0 answer) is made);
  may = subst (λ n. May p n Load 0) is may;
  index = (pa - 2 ^ 31) / 8;
  name = ap name_of (sym is) ∙ e;
}

-- who made the steps of a call goes on as it was
pub may_moved : (from count : ℕ) (p q : Shown) → q.machine ≡ p.machine → IsActing q → MayTouch q.machine.layout q.own.actor q.own.steps → MayPrint from count p → MayPrint from count q
may_moved from count p q same acting touch m = record { acting = acting; touch = touch; above = m.above; below = subst (λ x. from + count ≤ 2 ^ 31 + 4096 * x.layout.pages) (sym same) m.below }

pub may_stood : (from count n : ℕ) (A : Word → Type 0) (p q : Shown) → GoesBy n A p q → StandsAs p q → IsActing q → MayPrint from count p → MayPrint from count q
may_stood from count n A p q goes stands acting m = may_moved from count p q (machine_goes n A p q goes) acting (touch_stands n A p q goes stands m.touch) m

pub may_loaded : (from count pa word answer : ℕ) (p q : Shown) → name_of word ≡ Ram ((pa - 2 ^ 31) / 8) → Adds p q word Load 0 answer → May p word Load 0 → MayPrint from count p → MayPrint from count q
may_loaded from count pa word answer p q e made may m =
    let goes : GoesBy 1 IsOfRam p q = goes_step IsOfRam p q word 0 answer Load (Ram ((pa - 2 ^ 31) / 8)) made may e tt in
    may_stood from count 1 IsOfRam p q goes (stands_goes 1 IsOfRam p q (λ w x. inner_aside w (ram_inner w x)) goes)
    (acting_adds p q word 0 answer Load (Ram ((pa - 2 ^ 31) / 8)) made e (λ b. refl) m.acting) m

-- what was found elsewhere doesn't matter
same_finds : (f g : Memory) (from n : ℕ) (p q : Shown) → ((i : ℕ) → i < n → f (ram_word (from + i)) ≡ g (ram_word (from + i))) → HasCopied f from n p q → HasCopied g from n p q
same_finds f g from zero p q same x = x
same_finds f g from (suc n) p q same x = (x.0, same_finds f g from n p x.0 (λ i less. same i (omega arith)) x.1, byte_same x.2)
  where
    here : f (ram_word (from + n)) ≡ g (ram_word (from + n))
    here = same n (omega arith)

    load_same : (b : Bool) (s t : Shown) → HasLoadedIf b f (from + n) s t → HasLoadedIf b g (from + n) s t
    load_same true s t y = record { step = subst (λ v. Adds s t (ram_word (from + n)) Load 0 v) here y.step; may = y.may; index = y.index; name = y.name }
    load_same false s t y = y

    byte_same : HasCopiedByte f from n x.0 q → HasCopiedByte g from n x.0 q
    byte_same y = record { mid = y.mid; loads = load_same (begins_word from n) x.0 y.mid y.loads; puts = subst (λ v. HasPut (v / 256 ^ ((from + n) % 8) % 256) y.mid q) here y.puts }

-- the word of the byte before this one was found so
abbrev pub IsLast : Memory → (from i word : ℕ) → Type 0
IsLast f from i word = i ≢ 0 → f (ram_word (from + (i - 1))) ≡ word

pub with_word : Memory → (at word : ℕ) → Memory
with_word f at word = λ n. if n == at then word else f n

with_here : (f : Memory) (at word : ℕ) → with_word f at word at ≡ word
unfolding with_word
with_here f at word = ap (λ b. if b then word else f at) (eq-eqb at at refl)

with_other : (f : Memory) (at word n : ℕ) → n ≢ at → with_word f at word n ≡ f n
unfolding with_word
with_other f at word n ne = ap (λ b. if b then word else f n) (ne_eqb n at ne)

-- a byte that begins a word is in another word than those before it
apart : (from i j : ℕ) → 2 ^ 31 ≤ from → begins_word from i ≡ true → j < i → ram_word (from + j) ≢ ram_word (from + i)
apart from i j above begins less = λ same. go (cases_Bool ((from + i) % 8 == 0)) same
  where
    zero_not : (i == 0) ≡ false
    zero_not = ne_eqb i 0 (λ e. omega (arith, e))

    go : (((from + i) % 8 == 0) ≡ true) ⊎ (((from + i) % 8 == 0) ≡ false) → ram_word (from + j) ≡ ram_word (from + i) → ⊥
    go (inl e) same = let first : (from + i) % 8 ≡ 0 = eqb-true ((from + i) % 8) 0 e in omega (arith, same)
    go (inr e) same = let none : begins_word from i ≡ false = (λ k. zero_not k || e k) in absurd (cc)

-- any other is in the word of the byte before it
pub beside : (from i : ℕ) → 2 ^ 31 ≤ from → begins_word from i ≡ false → (i ≢ 0) × (ram_word (from + i) ≡ ram_word (from + (i - 1)))
beside from i above begins = go (cases_Bool (i == 0)) (cases_Bool ((from + i) % 8 == 0))
  where
    go : ((i == 0) ≡ true) ⊎ ((i == 0) ≡ false) → (((from + i) % 8 == 0) ≡ true) ⊎ (((from + i) % 8 == 0) ≡ false) → (i ≢ 0) × (ram_word (from + i) ≡ ram_word (from + (i - 1)))
    go (inl e) f = let all : begins_word from i ≡ true = (λ k. e k || ((from + i) % 8 == 0)) in absurd (cc)
    go (inr e) (inl f) = let all : begins_word from i ≡ true = (λ k. e k || f k) in absurd (cc)
    go (inr e) (inr f) =
        let some : i ≢ 0 = eqb-false i 0 e in
        let inner : (from + i) % 8 ≢ 0 = eqb-false ((from + i) % 8) 0 f in
        (some, omega (arith, some, inner))

module _ (f : Memory) (from i word found : ℕ) (p mid q : Shown) (above : 2 ^ 31 ≤ from) (copied : HasCopied f from i p mid) (last : IsLast f from i word) (kept : begins_word from i ≡ false → found ≡ word) where
  -- one memory that finds these words too
  pub record Finds : Type 0 where
    pub finds : Memory
    pub copies : HasCopied finds from i p mid
    pub here : finds (ram_word (from + i)) ≡ found

  pub finds_more : Finds
  finds_more = go (cases_Bool (begins_word from i))
    where
      go : (begins_word from i ≡ true) ⊎ (begins_word from i ≡ false) → Finds
      go (inl e) = record {
        finds = with_word f (ram_word (from + i)) found;
        copies = same_finds f (with_word f (ram_word (from + i)) found) from i p mid (λ j less. sym (with_other f (ram_word (from + i)) found (ram_word (from + j)) (apart from i j above e less))) copied;
        here = with_here f (ram_word (from + i)) found;
      }
      go (inr e) = let x = beside from i above e in record { finds = f; copies = copied; here = ap f x.1 ∙ last x.0 ∙ sym (kept e) }

  pub copied_more : ((g : Memory) → g (ram_word (from + i)) ≡ found → HasCopiedByte g from i mid q) → (g : Memory) × HasCopied g from (i + 1) p q × IsLast g from (i + 1) found
  copied_more byte = let x = finds_more in
      (x.finds, subst (λ n. HasCopied x.finds from n p q) (sym (add-one i)) (mid, x.copies, byte x.finds x.here), λ some. let same : from + (i + 1 - 1) ≡ from + i = omega arith in ap (λ n. x.finds (ram_word n)) same ∙ x.here)

  pub ran_out : (count : ℕ) → i < count → ((g : Memory) → g (ram_word (from + i)) ≡ found → HasRunOutAt g from i mid q) → (g : Memory) × HasRunOut g from count p q
  ran_out count less at = let x = finds_more in (x.finds, record { put = i; fewer = less; mid = mid; copies = x.copies; stops = at x.finds x.here })

-- behind a byte that was put, or found no place, the rest may be printed
pub may_put : (from count n : ℕ) (p q : Shown) → GoesBy n IsOfOutput p q → StandsAs p q → IsActing q → MayPrint from count p → MayPrint from count q
may_put from count n p q goes stands acting m = may_stood from count n IsOfOutput p q goes stands acting m
