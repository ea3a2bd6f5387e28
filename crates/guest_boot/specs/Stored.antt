-- What the loader has stored. Lists of steps are newest first.
use Rattle.std.specs.Prelude.{◌≡◌, ℕ, ◌+◌, ◌*◌, ◌^◌, ◌<◌, ◌≤◌, true, List, ◌∷◌}
use Rattle.elf_load.specs.declared.image.Part.{Part}
use Rattle.elf_load.specs.Contents.{contents_word}
use Rattle.step_laws.specs.declared.words.Layout.{Layout}
use Rattle.step_laws.specs.declared.steps.Step.{Step}
use Rattle.step_laws.specs.declared.steps.WordOp.TheVariants.{Load}
use Rattle.step_laws.specs.Map.{Word, Live, Size, Hsm, Tlb, Ram}
use Rattle.step_laws.specs.Loader.{is_stored}
use Rattle.step_laws.specs.Tables.{is_first_slot, is_compare}
use Rattle.step_laws.specs.WordValues.{word_value}
use Rattle.machine_model.specs.State.{Setup}
use Rattle.run_laws.specs.Boot.{IsBoot}

-- each word of the set was stored
abbrev pub AreStored : (Word → Type 0) → List Step → Type 0
AreStored Of r = (w : Word) → Of w → is_stored w r ≡ true

-- the compare words of a hart's slots from one on, up to another
abbrev pub IsSlot : (h from to : ℕ) → Word → Type 0
IsSlot h from to (Tlb i j f) = (i ≡ h) × (from ≤ j) × (j < to) × (is_compare f ≡ true)
IsSlot h from to _ = ⊥

-- the size of a hart's TLB, and the compare words of the slots that are made invalid
abbrev pub IsOfHart : (h : ℕ) → Word → Type 0
IsOfHart h (Size i) = i ≡ h
IsOfHart h (Tlb i j f) = (i ≡ h) × (is_first_slot j ≡ true) × (is_compare f ≡ true)
IsOfHart h _ = ⊥

-- what is stored but for RAM
abbrev pub IsOfBoot : Word → Type 0
IsOfBoot Live = Unit {0}
IsOfBoot (Hsm h) = Unit {0}
IsOfBoot (Size h) = Unit {0}
IsOfBoot (Tlb h j f) = Unit {0}
IsOfBoot _ = ⊥

-- RAM
abbrev pub IsOfImage : Word → Type 0
IsOfImage (Ram i) = Unit {0}
IsOfImage _ = ⊥

-- and both
abbrev pub IsOfLoader : Word → Type 0
IsOfLoader (Ram i) = Unit {0}
IsOfLoader w = IsOfBoot w

-- the words of RAM hold what the parts of a file give
pub record IsLoaded (file : List ℕ) (parts : List Part) (layout : Layout) (r : List Step) : Type 0 where
  pub within : (i : ℕ) → i < 512 * layout.pages → word_value (Ram i) r ≡ contents_word file parts (2 ^ 31 + 8 * i)
  pub behind : (i : ℕ) → 512 * layout.pages ≤ i → word_value (Ram i) r ≡ 0

-- a load leaves the record one of a machine that begins
abbrev pub LoadsKeep : Type 0
LoadsKeep = (u : Setup) (s : Step) (r : List Step) → s.op ≡ Load → IsBoot u r → IsBoot u (s ∷ r)
