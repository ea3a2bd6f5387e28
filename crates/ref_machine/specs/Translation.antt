-- Walks, places and reaches as the machine on one thread keeps them.
use Rattle.std.specs.Prelude.{◌≡◌, ℕ, ◌+◌, ◌≤◌, ◌<◌, ◌*◌, ◌%◌, ◌^◌, true, List, Result, Ok, Err}
use Rattle.step_laws.specs.Words.{first_ram_word}
use Rattle.rv64_priv.specs.Walk.{Walked, Leaf, PageFault, AccessFault, is_reachable}
use Rattle.rv64_priv.specs.declared.state.Kind.{Kind}
use Rattle.ref_machine.specs.declared.translation.WalkEnd.{WalkEnd}
use Rattle.ref_machine.specs.declared.translation.Spot.{Spot as Place}
use Rattle.ref_machine.specs.declared.translation.Fault.{Fault as TheFault}
use Rattle.ref_machine.specs.declared.translation.Reach.{Reach as Reached}
use Rattle.machine_model.specs.Memory.{One, Two}
use Rattle.machine_model.specs.Access.{Spot, AtRam, AtDevice, Faults, Reach, InRam, OnDevice, Unreached, code_word}
use Rattle.ref_machine.specs.SharedState.{ram_memory}

abbrev pub end_of : WalkEnd → Walked
end_of (WalkEnd.Leaf pte page level) = Leaf pte page level
end_of WalkEnd.PageFault = PageFault
end_of WalkEnd.AccessFault = AccessFault

abbrev pub spot : Place → Spot
spot (Place.Ram pa) = AtRam pa
spot (Place.Device pa) = AtDevice pa
spot (Place.Faults fault) = Faults fault.cause fault.tval

-- where a fetch leads
abbrev pub fetch_spot : Result ℕ TheFault → Spot
fetch_spot (Ok pa) = AtRam pa
fetch_spot (Err fault) = Faults fault.cause fault.tval

-- the word that a fetch finds there
abbrev pub IsWord : List ℕ → Spot → Result ℕ TheFault → Type 0
IsWord ram (AtRam pa) word = word ≡ Ok (code_word (ram_memory ram) pa)
IsWord ram (AtDevice pa) word = ⊥
IsWord ram (Faults cause tval) word = word ≡ Err (record { cause = cause; tval = tval })

-- a reach of so many bytes, with words by their index in RAM
abbrev pub reached_as : (width : ℕ) → Reached → Reach
reached_as width (Reached.Word index offset) = InRam (One (first_ram_word + index) offset width)
reached_as width (Reached.Words first second offset) = InRam (Two (first_ram_word + first) (first_ram_word + second) offset width)
reached_as width (Reached.Device pa) = OnDevice pa
reached_as width (Reached.Faults fault) = Unreached fault.cause fault.tval

-- its words are there, and it lies in them
abbrev pub IsInside : (words width : ℕ) → Reached → Type 0
IsInside words width (Reached.Word index offset) = (index < words) × (offset + width ≤ 8)
IsInside words width (Reached.Words first second offset) = (first < words) × (second < words) × (offset < 8) × (8 < offset + width)
IsInside words width _ = Unit {0}

-- the place of an address in RAM: its page is whole there
abbrev pub IsInRam : (pages va pa : ℕ) → Type 0
IsInRam pages va pa = (2 ^ 31 ≤ pa) × (pa < 2 ^ 31 + 4096 * pages) × (pa % 4096 ≡ va % 4096)

abbrev pub IsSpotIn : (pages va : ℕ) → Spot → Type 0
IsSpotIn pages va (AtRam pa) = IsInRam pages va pa
IsSpotIn pages va _ = Unit {0}

-- a leaf's page can be reached, begins a page, and lies below 4 GiB
abbrev pub IsSoundEnd : (pages : ℕ) → Kind → Walked → Type 0
IsSoundEnd pages kind (Leaf pte page level) = (is_reachable pages kind page ≡ true) × (page % 4096 ≡ 0)
IsSoundEnd pages kind _ = Unit {0}

abbrev pub IsSmall : Walked → Type 0
IsSmall (Leaf pte page level) = page < 2 ^ 32
IsSmall _ = Unit {0}
