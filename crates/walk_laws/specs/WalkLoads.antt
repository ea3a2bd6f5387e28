-- The loads of a walk (RISC-V Privileged Architecture, "Virtual Address Translation Process"): which words of RAM it reads, and what a
-- record of steps says of them. Lists are newest first.
use Rattle.std.specs.Prelude.{◌≡◌, ◌⊎◌, ℕ, zero, suc, ◌*◌, ◌%◌, ◌^◌, ◌||◌, if◌then◌else◌, List, [], ◌∷◌}
use Rattle.rv64_priv.specs.declared.state.Kind.{Kind}
use Rattle.rv64_priv.specs.declared.state.Regime.{Regime}
use Rattle.rv64_priv.specs.Pte.{is_bare, is_malformed, is_leaf, ppn}
use Rattle.rv64_priv.specs.Walk.{Walked, walk_of, is_ram, is_canonical, pte_address}
use Rattle.rv64_priv.specs.Reads.{answering}
use Rattle.step_laws.specs.declared.steps.Step.{Step}
use Rattle.step_laws.specs.declared.steps.WordOp.TheVariants.{Load}
use Rattle.step_laws.specs.Words.{ram_word}
use Rattle.step_laws.specs.Map.{Ram, name_of}

-- what a load found
pub record Found : Type 0 where
  pub word : ℕ
  pub value : ℕ

abbrev pub found : (word value : ℕ) → Found
found word value = record { word = word; value = value }

abbrev pub Loads : Found → Step → Type 0
Loads x s = (s.word ≡ x.word) × (s.op ≡ Load) × (s.answer ≡ x.value)

-- the loads of a walk that finds these words, by level, from a table on; behind them those that were made before
abbrev pub reads_from : (pages va : ℕ) → (ℕ → ℕ) → (levels table : ℕ) → List Found → List Found
reads_from pages va finds zero table before = before
reads_from pages va finds (suc level) table before =
    let address = pte_address table va level in
    let read = found (ram_word address) (finds level) ∷ before in
    let more = reads_from pages va finds level (ppn (finds level) * 4096) read in
    if is_ram pages address then (if is_malformed (finds level) || is_leaf (finds level) then read else more) else before

-- those of the walk of an address; in bare mode, and of an address that isn't canonical, there are none
unfoldable pub reads_of : (pages : ℕ) → Regime → (va : ℕ) → (ℕ → ℕ) → List Found
reads_of pages r va finds =
    if is_bare r then [] else if is_canonical va then reads_from pages va finds 3 (r.satp % 2 ^ 44 * 4096) [] else []

-- these words were loaded so in this order in a record of steps, the last one first in the list
abbrev pub AreLoaded : List Found → List Step → Type 0
AreLoaded [] r = Unit {0}
AreLoaded (x ∷ xs) [] = ⊥
AreLoaded (x ∷ xs) (s ∷ r) = (Loads x s × AreLoaded xs r) ⊎ AreLoaded (x ∷ xs) r

-- a record shows that a walk of the address ends so
pub record IsWalked (pages : ℕ) (r : Regime) (kind : Kind) (va : ℕ) (end : Walked) (steps : List Step) : Type 0 where
  pub finds : ℕ → ℕ
  pub is_end : walk_of pages r kind (answering finds) va ≡ end
  pub loaded : AreLoaded (reads_of pages r va finds) steps

-- each load of a walk is of a word of RAM
abbrev pub AreOfRam : List Found → Type 0
AreOfRam [] = Unit {0}
AreOfRam (x ∷ xs) = ((i : ℕ) × (name_of x.word ≡ Ram i)) × AreOfRam xs

abbrev pub ReadsAreOfRam : Type 0
ReadsAreOfRam = (pages : ℕ) (r : Regime) (va : ℕ) (finds : ℕ → ℕ) → AreOfRam (reads_of pages r va finds)
