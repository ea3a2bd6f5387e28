-- Compare words: which page and which mode a slot of a TLB is for (an address-translation cache as the RISC-V Privileged Architecture
-- allows one in "Virtual Address Translation Process"; its form is this project's own).
use Rattle.std.specs.Prelude.{ℕ, ◌+◌, ◌==◌, ◌&&◌, Bool, if◌then◌else◌}
use Rattle.rv64_priv.specs.declared.state.Kind.{Kind}
use Rattle.rv64_priv.specs.declared.state.Kind.TheVariants as kinds
use Rattle.rv64_priv.specs.Bits.{aligned, bit_if}
use Rattle.step_laws.specs.declared.map.TlbField.{TlbField}
use Rattle.step_laws.specs.declared.map.TlbField.TheVariants.{Read, Write, Code}
use Rattle.step_laws.specs.Fields.{compare_page, invalid_bit, not_dirty_bit, device_bit, user_bit}

-- the valid compare word of the page that holds the address: bit 1 says that the page isn't known to be dirty, bit 2 that it is a
-- device's, bit 3 that it is for user mode
abbrev pub compare_word : (va : ℕ) → (not_dirty device user : Bool) → ℕ
compare_word va not_dirty device user = aligned 12 va + bit_if not_dirty 1 + bit_if device 2 + bit_if user 3

-- a compare word hits: it is valid, for the page that holds the address, and for this mode
abbrev pub hit : (compare va : ℕ) → (user : Bool) → Bool
hit compare va user = (invalid_bit compare == 0) && ((compare_page compare == compare_page va) && (user_bit compare == (if user then 1 else 0)))

abbrev pub is_not_dirty : ℕ → Bool
is_not_dirty compare = not_dirty_bit compare == 1

abbrev pub is_for_device : ℕ → Bool
is_for_device compare = device_bit compare == 1

-- the field of a slot that an access of this kind compares with
abbrev pub field_of : Kind → TlbField
field_of kinds.Load = Read
field_of kinds.Store = Write
field_of kinds.Fetch = Code
