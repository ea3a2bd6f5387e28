-- What words of RAM hold behind the loader's steps.
use Rattle.std.proofs.Common.{◌≡◌, ◌≢◌, ℕ, ◌+◌, ◌*◌, ◌<◌, ◌≤◌, Bool, List, [], ◌∷◌, ◌++◌, ◌-◌, length, get_or, take, drop, refl, sym, ap, ◌∙◌, arith, eq-eqb}
use Rattle.std.specs.Prelude.{◌==◌, if◌then◌else◌}
use Rattle.std.proofs.lemmas.Bool.{ne_eqb}
use Rattle.std.proofs.lemmas.List.{drop_more, length-drop, take_all}
use Rattle.elf_load.specs.declared.image.Part.{Part}
use Rattle.step_laws.specs.declared.steps.Step.{Step}
use Rattle.step_laws.specs.declared.steps.WordOp.{WordOp}
use Rattle.step_laws.specs.declared.steps.WordOp.TheVariants.{Store}
use Rattle.step_laws.specs.Map.{Word, Ram, name_of}
use Rattle.step_laws.specs.WordValues.{word_value, value_next}
use Rattle.guest_ram.specs.Ports.{Shown, Adds, AreAllowed, GoesBy}
use Rattle.guest_boot.specs.Stored.{IsLoaded, IsOfBoot}

-- a word of RAM behind a store in one
ram_adds : (p q : Shown) (word arg i j : ℕ) → Adds p q word Store arg 0 → name_of word ≡ Ram j → word_value (Ram i) q.own.steps ≡ (if i == j then arg else word_value (Ram i) p.own.steps)
ram_adds p q word arg i j made e = ap (λ (x : Shown). word_value (Ram i) x.own.steps) made ∙ ap (λ v. value_next (Ram i) v Store (word_value (Ram i) p.own.steps) arg) e

pub ram_here : (p q : Shown) (word arg i : ℕ) → Adds p q word Store arg 0 → name_of word ≡ Ram i → word_value (Ram i) q.own.steps ≡ arg
ram_here p q word arg i made e = ram_adds p q word arg i i made e ∙ ap (λ (t : Bool). if t then arg else word_value (Ram i) p.own.steps) (eq-eqb i i refl)

pub ram_there : (p q : Shown) (word arg i j : ℕ) → Adds p q word Store arg 0 → name_of word ≡ Ram j → i ≢ j → word_value (Ram i) q.own.steps ≡ word_value (Ram i) p.own.steps
ram_there p q word arg i j made e ne = ram_adds p q word arg i j made e ∙ ap (λ (t : Bool). if t then arg else word_value (Ram i) p.own.steps) (ne_eqb i j ne)

-- steps off RAM leave it
ram_off : (i : ℕ) (v : Word) (op : WordOp) (n arg : ℕ) → IsOfBoot v → value_next (Ram i) v op n arg ≡ n
ram_off i (Ram j) op n arg off = absurd off
ram_off i v op n arg off = refl

ram_behind : (p : Shown) (added r : List Step) (i : ℕ) → AreAllowed IsOfBoot p added → word_value (Ram i) (added ++ r) ≡ word_value (Ram i) r
ram_behind p [] r i all = refl
ram_behind p (s ∷ added) r i all = ram_off i (name_of s.word) s.op (word_value (Ram i) (added ++ r)) s.arg all.0.0 ∙ ram_behind p added r i all.1

-- RAM holds nothing but zeros where the loader has stored in other words alone
pub none_loaded : (n : ℕ) (file : List ℕ) (p q : Shown) → p.own.steps ≡ [] → GoesBy n IsOfBoot p q → IsLoaded file [] q.machine.layout q.own.steps
none_loaded n file p q fresh a = let zero : (i : ℕ) → word_value (Ram i) q.own.steps ≡ 0 = λ i. ap (λ (x : Shown). word_value (Ram i) x.own.steps) a.grown ∙ ram_behind p a.added p.own.steps i a.allowed ∙ ap (λ (r : List Step). word_value (Ram i) r) fresh in record {
  within = λ i less. zero i;
  behind = λ i from. zero i;
}

pub more_times : (a m n : ℕ) → n ≡ m + 1 → a * m + a ≤ a * n
more_times a m n e = let same : a * n ≡ a * (m + 1) = ap (λ k. a * k) e in let more : a * (m + 1) ≡ a * m + a = grind arith in omega (arith, same, more)

-- a part of a list, and those behind it
pub from_here : (parts : List Part) (i : ℕ) (d : Part) → i < length parts → get_or parts i d ∷ take (length parts - (i + 1)) (drop (i + 1) parts) ≡ drop i parts
from_here parts i d less = ap (λ (r : List Part). get_or parts i d ∷ r) (take_all (length parts - (i + 1)) (drop (i + 1) parts) (omega (arith, length-drop (i + 1) parts))) ∙ sym (drop_more parts i d less)
