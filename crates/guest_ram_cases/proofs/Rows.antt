-- One more word of a row.
use Rattle.std.proofs.Common.{◌≡◌, ℕ, ◌+◌, [], ◌∷◌, refl, sym, ap, ◌∙◌, arith}
use Rattle.step_laws.specs.declared.steps.Step.{Step}
use Rattle.step_laws.specs.declared.steps.WordOp.TheVariants.{Add}
use Rattle.step_laws.specs.Map.{Ram, number_of}
use Rattle.guest_ram.specs.Plays.{step_of}
use Rattle.guest_ram.specs.Ports.{Shown, Adds, after_step}
use Rattle.guest_ram_cases.specs.Made.{HasAdded}

pub none_added : (p : Shown) (from value : ℕ) → HasAdded p p from 0 value
none_added p from value = record { added = []; all = refl; adds = tt; grown = refl }

pub more_added : (p q r : Shown) (from count value word answer : ℕ) → HasAdded p q from count value → word ≡ number_of (Ram (from + count)) → Adds q r word Add value answer
    → HasAdded p r from (count + 1) value
more_added p q r from count value word answer h e made = let s : Step = step_of p.own.actor word Add value answer in record {
  added = s ∷ h.added;
  all = omega (arith, h.all);
  adds = (ap (λ n. step_of p.own.actor n Add value answer) (e ∙ ap (λ n. number_of (Ram (from + n))) (sym h.all)), h.adds);
  grown = made ∙ ap (λ (x : Shown). after_step x word Add value answer) h.grown;
}
