-- Walks by the words that their reads found.
use Rattle.std.specs.Prelude.{◌≡◌, ℕ, zero, suc, ◌*◌, ◌%◌, ◌^◌, false, IsTrue}
use Rattle.rv64_priv.specs.declared.state.Kind.{Kind}
use Rattle.rv64_priv.specs.declared.state.Regime.{Regime}
use Rattle.rv64_priv.specs.Pte.{is_bare, is_malformed, is_leaf, ppn}
use Rattle.rv64_priv.specs.Walk.{Levels, walk_of, is_ram, is_canonical, pte_address}

-- a walk whose read of each level answers this
abbrev pub answering : (ℕ → ℕ) → Levels
answering a = λ level pa. a level

-- the reads of a walk, as far as it goes, find these words
abbrev pub Finds : ℕ → (va : ℕ) → Levels → (a : ℕ → ℕ) → (levels table : ℕ) → Type 0
Finds pages va l a zero table = Unit {0}
Finds pages va l a (suc level) table = IsTrue (is_ram pages (pte_address table va level))
    → (l level (pte_address table va level) ≡ a level)
    × (is_malformed (a level) ≡ false → is_leaf (a level) ≡ false → Finds pages va l a level (ppn (a level) * 4096))

-- the reads of the walk of an address find these words; in bare mode, and of an address that isn't canonical, there are none
abbrev pub FindsFor : ℕ → Regime → (va : ℕ) → Levels → (a : ℕ → ℕ) → Type 0
FindsFor pages r va l a = is_bare r ≡ false → IsTrue (is_canonical va) → Finds pages va l a 3 (r.satp % 2 ^ 44 * 4096)

-- the walk of an address is that of the words that its reads found
abbrev pub WalkIsFound : Type 0
WalkIsFound = (pages : ℕ) (r : Regime) (kind : Kind) (va : ℕ) (l : Levels) (a : ℕ → ℕ)
    → FindsFor pages r va l a → walk_of pages r kind l va ≡ walk_of pages r kind (answering a) va
