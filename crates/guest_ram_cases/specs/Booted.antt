-- What is stored of a hart's TLB before it makes steps.
use Rattle.std.specs.Prelude.{◌≡◌, ℕ, true, List}
use Rattle.step_laws.specs.declared.map.TlbField.{TlbField}
use Rattle.step_laws.specs.declared.steps.Step.{Step}
use Rattle.step_laws.specs.Map.{Size, Tlb}
use Rattle.step_laws.specs.Loader.{is_stored}
use Rattle.step_laws.specs.Tables.{is_first_slot, is_compare}

-- the compare words of a slot
abbrev pub IsClear : ℕ → ℕ → List Step → Type 0
IsClear h j r = (f : TlbField) → is_compare f ≡ true → is_stored (Tlb h j f) r ≡ true

pub record IsHartBooted (h : ℕ) (r : List Step) : Type 0 where
  pub size : is_stored (Size h) r ≡ true
  pub slots : (j : ℕ) → is_first_slot j ≡ true → IsClear h j r
