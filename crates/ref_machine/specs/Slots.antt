-- The harts as the machine on one thread keeps them.
use Rattle.std.specs.Prelude.{ℕ, Bool, List, Option, Some, None, if◌then◌else◌, slice_index_or, slice_set}
use Rattle.std.specs.List.{list_all}
use Rattle.machine_model.specs.declared.mode.Mode.{Mode}
use Rattle.machine_model.specs.declared.mode.Mode.TheVariants.{Started, Halted, Pending}
use Rattle.ref_machine.specs.declared.hart.HartSlot.{HartSlot}
use Rattle.machine_model.specs.Event.{Starting}
use Rattle.machine_model.specs.State.{reset, is_halted, is_started}
use Rattle.machine_model.specs.Change.{begun_arch}

abbrev pub new_slot : Mode → (pc : ℕ) → HartSlot
new_slot mode pc = record { arch = reset pc; mode = mode; start = 0; opaque = 0; count = 0 }

-- a hart by its number; one that isn't there is stopped
abbrev pub slot_at : List HartSlot → ℕ → HartSlot
slot_at slots h = slice_index_or slots h (new_slot Halted 0)

abbrev pub modes_of : List HartSlot → ℕ → Mode
modes_of slots h = (slot_at slots h).mode

abbrev pub slots_all_halted : List HartSlot → Bool
slots_all_halted slots = list_all (λ t. is_halted t.mode) slots

-- a started hart begins
abbrev pub slot_begun : (h : ℕ) → HartSlot → HartSlot
slot_begun h t = record t { arch = begun_arch h t.start t.opaque; mode = Started }

-- a hart's start is pending
abbrev pub slot_awaited : Starting → HartSlot → HartSlot
slot_awaited g t = record t { mode = if is_started t.mode then Started else Pending; start = g.at; opaque = g.opaque }

abbrev pub slots_with_start : List HartSlot → Option Starting → List HartSlot
slots_with_start slots None = slots
slots_with_start slots (Some g) = slice_set slots g.target (slot_awaited g (slot_at slots g.target))
