-- The loads of a walk are of RAM.
use Rattle.std.proofs.Common.{◌≡◌, ℕ, zero, suc, ◌*◌, ◌%◌, ◌^◌, Bool, true, false, List, [], ◌∷◌}
use Rattle.std.specs.Prelude.{◌||◌, if◌then◌else◌}
use Rattle.rv64_priv.specs.Pte.{is_bare, is_malformed, is_leaf, ppn}
use Rattle.rv64_priv.specs.Walk.{is_ram, is_canonical, pte_address}
use Rattle.step_laws.specs.Words.{ram_word}
use Rattle.step_laws.specs.Map.{Ram, name_of}
use Rattle.step_laws.proofs.Named.{name_number}
use Rattle.walk_laws.specs.WalkLoads.{found, reads_from, reads_of, AreOfRam, ReadsAreOfRam, Found}

of_ram : (pa : ℕ) → (i : ℕ) × (name_of (ram_word pa) ≡ Ram i)
of_ram pa = (_, name_number (Ram _) tt)

from_ram : (pages va : ℕ) (finds : ℕ → ℕ) (levels table : ℕ) (before : List Found) → AreOfRam before → AreOfRam (reads_from pages va finds levels table before)
from_ram pages va finds zero table before s = s
from_ram pages va finds (suc level) table before s = go (is_ram pages (pte_address table va level)) (is_malformed (finds level) || is_leaf (finds level))
    (from_ram pages va finds level (ppn (finds level) * 4096) (found (ram_word (pte_address table va level)) (finds level) ∷ before) (of_ram (pte_address table va level), s))
  where
    go : (b c : Bool) → AreOfRam (reads_from pages va finds level (ppn (finds level) * 4096) (found (ram_word (pte_address table va level)) (finds level) ∷ before))
        → AreOfRam (if b then (if c then found (ram_word (pte_address table va level)) (finds level) ∷ before
        else reads_from pages va finds level (ppn (finds level) * 4096) (found (ram_word (pte_address table va level)) (finds level) ∷ before)) else before)
    go false c k = s
    go true true k = (of_ram (pte_address table va level), s)
    go true false k = k

pub reads_are_of_ram : ReadsAreOfRam
unfolding reads_of
reads_are_of_ram pages r va finds = go (is_bare r) (is_canonical va)
  where
    go : (b c : Bool) → AreOfRam (if b then [] else (if c then reads_from pages va finds 3 (r.satp % 2 ^ 44 * 4096) [] else []))
    go true c = tt
    go false false = tt
    go false true = from_ram pages va finds 3 (r.satp % 2 ^ 44 * 4096) [] tt
