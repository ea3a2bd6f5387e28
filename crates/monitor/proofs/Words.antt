-- Bytes of RAM that are read: each word is found as one, and how many loads there are.
use Rattle.std.proofs.Common.{◌≡◌, ◌≢◌, ◌⊎◌, ℕ, zero, suc, ◌+◌, ◌<◌, ◌≤◌, ◌^◌, Bool, true, false, List, [], ◌∷◌, ◌++◌, refl, sym, ap, subst, ◌∙◌, inl, inr, arith, add-one, append_assoc, length}
use Rattle.std.specs.Prelude.{◌-◌, ◌/◌, ◌%◌, ◌==◌, ◌||◌, if◌then◌else◌}
use Rattle.std.proofs.lemmas.Bool.{eq-eqb, ne_eqb, eqb-true, eqb-false, cases_Bool}
use Rattle.step_laws.specs.declared.steps.WordOp.TheVariants.{Load}
use Rattle.step_laws.specs.Words.{ram_word}
use Rattle.machine_model.specs.Memory.{Memory}
use Rattle.machine_model.specs.Sbi.{byte_at, bytes_from}
use Rattle.guest_ram.specs.Ports.{Shown, Adds}
use Rattle.hart_calls.specs.Printing.{HasLoadedIf, begins_word}
use Rattle.hart_calls.proofs.Printed.{IsLast, beside}
use Rattle.call_pieces.proofs.Copying.{bytes_snoc}
use Rattle.monitor.specs.Reads.{most_loads, one_if}
use Rattle.monitor.specs.Steps.{HasRead}

-- two memories have the same words of these bytes
abbrev pub Alike : (f g : Memory) (from n : ℕ) → Type 0
Alike f g from n = (i : ℕ) → i < n → f (ram_word (from + i)) ≡ g (ram_word (from + i))

load_alike : (b : Bool) (f g : Memory) (pa : ℕ) (p q : Shown) → f (ram_word pa) ≡ g (ram_word pa) → HasLoadedIf b f pa p q → HasLoadedIf b g pa p q
load_alike true f g pa p q same x = record { step = subst (λ v. Adds p q (ram_word pa) Load 0 v) same x.step; may = x.may; index = x.index; name = x.name }
load_alike false f g pa p q same x = x

pub read_alike : (f g : Memory) (from n : ℕ) (p q : Shown) → Alike f g from n → HasRead f from n p q → HasRead g from n p q
read_alike f g from zero p q same x = x
read_alike f g from (suc n) p q same x = (
  x.0,
  read_alike f g from n p x.0 (λ i less. same i (omega arith)) x.1,
  load_alike (begins_word from n) f g (from + n) x.0 q (same n (omega arith)) x.2,
)

pub bytes_alike : (f g : Memory) (from n : ℕ) → Alike f g from n → bytes_from f from n ≡ bytes_from g from n
bytes_alike f g from zero same = refl
bytes_alike f g from (suc n) same = bytes_snoc f from n ∙ (λ j. bytes_alike f g from n (λ i less. same i (omega arith)) j ++ (same n (omega arith) j / 256 ^ ((from + n) % 8) % 256) ∷ []) ∙ sym (bytes_snoc g from n)

with_word : Memory → (at word : ℕ) → Memory
with_word f at word = λ n. if n == at then word else f n

with_here : (f : Memory) (at word : ℕ) → with_word f at word at ≡ word
unfolding with_word
with_here f at word = ap (λ b. if b then word else f at) (eq-eqb at at refl)

with_other : (f : Memory) (at word n : ℕ) → n ≢ at → with_word f at word n ≡ f n
unfolding with_word
with_other f at word n ne = ap (λ b. if b then word else f n) (ne_eqb n at ne)

-- a byte that begins a word is in another word than those before it
apart : (from i j : ℕ) → 2 ^ 31 ≤ from → begins_word from i ≡ true → j < i → ram_word (from + j) ≢ ram_word (from + i)
apart from i j above begins less = λ same. go (cases_Bool ((from + i) % 8 == 0)) same
  where
    zero_not : (i == 0) ≡ false
    zero_not = ne_eqb i 0 (λ e. omega (arith, e))

    go : (((from + i) % 8 == 0) ≡ true) ⊎ (((from + i) % 8 == 0) ≡ false) → ram_word (from + j) ≡ ram_word (from + i) → ⊥
    go (inl e) same = let first : (from + i) % 8 ≡ 0 = eqb-true ((from + i) % 8) 0 e in omega (arith, same)
    go (inr e) same = let none : begins_word from i ≡ false = (λ k. zero_not k || e k) in absurd (cc)

module _ (f : Memory) (from i word found : ℕ) (p mid q : Shown) (above : 2 ^ 31 ≤ from) (read : HasRead f from i p mid) (last : IsLast f from i word) (kept : begins_word from i ≡ false → found ≡ word) where
  record Finds : Type 0 where
    pub finds : Memory
    pub alike : Alike f finds from i
    pub here : finds (ram_word (from + i)) ≡ found

  finds_more : Finds
  finds_more = go (cases_Bool (begins_word from i))
    where
      go : (begins_word from i ≡ true) ⊎ (begins_word from i ≡ false) → Finds
      go (inl e) = record {
        finds = with_word f (ram_word (from + i)) found;
        alike = λ j less. sym (with_other f (ram_word (from + i)) found (ram_word (from + j)) (apart from i j above e less));
        here = with_here f (ram_word (from + i)) found;
      }
      go (inr e) = let x = beside from i above e in record { finds = f; alike = λ j less. refl; here = ap f x.1 ∙ last x.0 ∙ sym (kept e) }

  -- one byte more, of the word that was found
  pub read_more : (old items : List ℕ) → items ≡ old ++ bytes_from f from i → ((g : Memory) → g (ram_word (from + i)) ≡ found → HasLoadedIf (begins_word from i) g (from + i) mid q)
      → (g : Memory) × HasRead g from (i + 1) p q × IsLast g from (i + 1) found × (items ++ (found / 256 ^ ((from + i) % 8) % 256) ∷ [] ≡ old ++ bytes_from g from (i + 1))
  read_more old items is load = let x = finds_more in (
    x.finds,
    subst (λ n. HasRead x.finds from n p q) (sym (add-one i)) (mid, read_alike f x.finds from i p mid x.alike read, load x.finds x.here),
    λ some. let same : from + (i + 1 - 1) ≡ from + i = omega arith in ap (λ n. x.finds (ram_word n)) same ∙ x.here,
    ap (λ bs. bs ++ (found / 256 ^ ((from + i) % 8) % 256) ∷ []) is ∙ ap (λ v. (old ++ bytes_from f from i) ++ (v / 256 ^ ((from + i) % 8) % 256) ∷ []) (sym x.here) ∙ append_assoc old (bytes_from f from i) (byte_at x.finds (from + i) ∷ [])
        ∙ ap (λ bs. old ++ bs) (ap (λ bs. bs ++ byte_at x.finds (from + i) ∷ []) (bytes_alike f x.finds from i x.alike) ∙ sym (bytes_snoc x.finds from i) ∙ ap (λ n. bytes_from x.finds from n) (sym (add-one i))),
  )

-- a word more where the byte begins one
pub loads_more : (from n : ℕ) → most_loads from n + one_if (begins_word from n) ≡ most_loads from (n + 1)
loads_more from n = go n ∙ ap (most_loads from) (sym (add-one n))
  where
    go : (i : ℕ) → most_loads from i + one_if (begins_word from i) ≡ most_loads from (suc i)
    go zero = omega arith
    go (suc i) = by (cases_Bool ((from + suc i) % 8 == 0))
      where
        some : (suc i == 0) ≡ false
        some = ne_eqb (suc i) 0 (λ e. omega (arith, e))

        by : (((from + suc i) % 8 == 0) ≡ true) ⊎ (((from + suc i) % 8 == 0) ≡ false) → most_loads from (suc i) + one_if (begins_word from (suc i)) ≡ most_loads from (suc (suc i))
        by (inl e) =
            let begins = eqb-true ((from + suc i) % 8) 0 e in
            let is : begins_word from (suc i) ≡ true = (λ k. some k || e k) in
            ap (λ b. most_loads from (suc i) + one_if b) is ∙ omega (arith, begins)
        by (inr e) =
            let goes_on = eqb-false ((from + suc i) % 8) 0 e in
            let is : begins_word from (suc i) ≡ false = (λ k. some k || e k) in
            ap (λ b. most_loads from (suc i) + one_if b) is ∙ omega (arith, goes_on)

-- 4096 bytes lie in at most 513 words
pub few_loads : (from n : ℕ) → n ≤ 4096 → most_loads from n ≤ 513
few_loads from zero few = omega arith
few_loads from (suc n) few = omega (arith, few)

pub many_bytes : (finds : Memory) (from n : ℕ) → length (bytes_from finds from n) ≡ n
many_bytes finds from zero = refl
many_bytes finds from (suc n) = ap suc (many_bytes finds (from + 1) n)
