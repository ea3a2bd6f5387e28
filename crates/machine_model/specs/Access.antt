-- Where the bytes of an access lie.
use Rattle.std.specs.Prelude.{ℕ, ◌+◌, ◌/◌, ◌%◌, ◌^◌, Bool, true, false, nat_lt, if◌then◌else◌}
use Rattle.rv64_priv.specs.declared.state.Kind.{Kind}
use Rattle.rv64_priv.specs.Walk.{Walked, Leaf, PageFault, AccessFault, is_device}
use Rattle.rv64_priv.specs.Trap.{page_fault, access_fault}
use Rattle.rv64_priv.specs.Bits.{aligned}
use Rattle.step_laws.specs.Words.{ram_word}
use Rattle.machine_model.specs.Memory.{Memory, Span, span_over}

-- where an address leads
pub data Spot : Type 0 where
  AtRam : (pa : ℕ) → Spot
  AtDevice : (pa : ℕ) → Spot
  Faults : (cause tval : ℕ) → Spot

abbrev pub spot_at : ℕ → Spot
spot_at pa = if is_device pa then AtDevice pa else AtRam pa

abbrev pub spot_of : Kind → (va : ℕ) → Walked → Spot
spot_of kind va (Leaf pte page level) = spot_at (page + va % 4096)
spot_of kind va PageFault = Faults (page_fault kind) va
spot_of kind va AccessFault = Faults (access_fault kind) va

-- the access reaches over its page's end, to this address
abbrev pub crosses_page : ℕ → ℕ → Bool
crosses_page va width = nat_lt 4096 (va % 4096 + width)

abbrev pub second_va : ℕ → ℕ
second_va va = (aligned 12 va + 4096) % 2 ^ 64

-- where the bytes of an access lie: in RAM, on a device, or unreached, with the fault
pub data Reach : Type 0 where
  InRam : (span : Span) → Reach
  OnDevice : (pa : ℕ) → Reach
  Unreached : (cause tval : ℕ) → Reach

-- an access within a page: its word, and the next one where it crosses
abbrev pub one_page : (width : ℕ) → Spot → Reach
one_page width (AtRam pa) = InRam (span_over (ram_word pa) (ram_word pa + 1) (pa % 8) width)
one_page width (AtDevice pa) = OnDevice pa
one_page width (Faults cause tval) = Unreached cause tval

-- an access over two pages: the first is translated first, and no part may lie on a device
abbrev pub second_page : Kind → (va width pa : ℕ) → Spot → Reach
second_page kind va width pa (AtRam pb) = InRam (span_over (ram_word pa) (ram_word pb) (pa % 8) width)
second_page kind va width pa (AtDevice pb) = Unreached (access_fault kind) (second_va va)
second_page kind va width pa (Faults cause tval) = Unreached cause tval

abbrev pub two_pages : Kind → (va width : ℕ) → (first second : Spot) → Reach
two_pages kind va width (AtRam pa) second = second_page kind va width pa second
two_pages kind va width (AtDevice pa) second = Unreached (access_fault kind) va
two_pages kind va width (Faults cause tval) second = Unreached cause tval

-- the reach of an access whose pages were walked with these ends
abbrev pub reach : Kind → (va width : ℕ) → (first second : Walked) → Reach
reach kind va width first second =
    if crosses_page va width
    then two_pages kind va width (spot_of kind va first) (spot_of kind (second_va va) second)
    else one_page width (spot_of kind va first)

-- the walk of the second page is made
abbrev pub is_at_ram : Spot → Bool
is_at_ram (AtRam pa) = true
is_at_ram _ = false

-- the word of code at a physical address, which is a multiple of 4
abbrev pub code_word : Memory → ℕ → ℕ
code_word m pa = m (ram_word pa) / 256 ^ (pa % 8) % 2 ^ 32
