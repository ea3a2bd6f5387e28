-- The loader's record: what it stored before the first hart's step.
use Rattle.std.specs.Prelude.{◌≡◌, ℕ, ◌<◌, ◌≤◌, Bool, true, false, List, if◌then◌else◌}
use Rattle.step_laws.specs.declared.words.Layout.{Layout}
use Rattle.step_laws.specs.declared.map.TlbField.{TlbField}
use Rattle.step_laws.specs.declared.steps.Step.{Step}
use Rattle.step_laws.specs.declared.steps.WordOp.{WordOp}
use Rattle.step_laws.specs.declared.steps.WordOp.TheVariants.{Load, Store}
use Rattle.step_laws.specs.Map.{Word, Zero, Live, Size, Hsm, Tlb, same}
use Rattle.step_laws.specs.Folds.{fold_steps}
use Rattle.step_laws.specs.Tables.{is_first_slot, is_compare, table_boot}

abbrev pub split_next : Word → WordOp → ℕ → ℕ → Bool → Bool
split_next Zero Load arg answer b = true
split_next _ _ _ _ b = b

-- whether the loader has loaded word 0, as it does to split a seat off
abbrev pub has_split : List Step → Bool
has_split r = fold_steps split_next false r

abbrev pub is_stored_next : Word → Word → WordOp → ℕ → ℕ → Bool → Bool
is_stored_next v w Store arg answer b = if same v w then true else b
is_stored_next v w _ _ _ b = b

-- whether the word was stored in
abbrev pub is_stored : Word → List Step → Bool
is_stored v r = fold_steps (is_stored_next v) false r

-- what the loader stores in a word that is not RAM, where it stores there
abbrev pub boot_value : Word → ℕ
boot_value Live = 1
boot_value (Hsm h) = 1
boot_value w = table_boot w

-- all that the loader stores before a hart's first step is stored, but for RAM
pub record IsBooted (layout : Layout) (r : List Step) : Type 0 where
  pub live : is_stored Live r ≡ true
  pub states : (h : ℕ) → 1 ≤ h → h < layout.harts → is_stored (Hsm h) r ≡ true
  pub sizes : (h : ℕ) → h < layout.harts → is_stored (Size h) r ≡ true
  pub slots : (h j : ℕ) (f : TlbField) → h < layout.harts → is_first_slot j ≡ true → is_compare f ≡ true → is_stored (Tlb h j f) r ≡ true
