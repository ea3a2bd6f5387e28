-- What the machine on one thread keeps.
use Rattle.std.specs.Prelude.{All, ◌≡◌, ℕ, ◌-◌, ◌%◌, ◌<◌, ◌≤◌, List, ◌∷◌, length, replicate, IsNone, slice_set, vec_len}
use Rattle.machine_model.specs.declared.mode.Mode.TheVariants.{Started, Halted}
use Rattle.ref_machine.specs.declared.hart.HartSlot.{HartSlot}
use Rattle.ref_machine.specs.declared.machine.PlainMachine.TheInside.{Inside}
use Rattle.ref_machine.specs.Paths.{AreWalks}
use Rattle.ref_machine.specs.SharedState.{Shared}
use Rattle.ref_machine.specs.Slots.{new_slot, slot_at}

pub record PlainState : Type 0 where
  pub slots : List HartSlot
  pub shared : Shared

abbrev pub slot : PlainState → ℕ → HartSlot
slot p h = slot_at p.slots h

abbrev pub with_slot : PlainState → (h : ℕ) → HartSlot → PlainState
with_slot p h t = record p { slots = slice_set p.slots h t }

-- a hart begins at a multiple of 4, and is below its limit where the machine goes on
pub record IsSlotKept (b : Shared) (t : HartSlot) : Type 0 where
  pub aligned : t.start % 4 ≡ 0
  pub below : IsNone b.reason → t.count < b.limit

abbrev pub AreKept : Shared → List HartSlot → Type 0
AreKept b slots = (h : ℕ) → h < length slots → IsSlotKept b (slot_at slots h)

abbrev pub state_view : Inside → PlainState
state_view m = record { slots = m.slots.items; shared = m.shared }

-- all harts are there
pub record IsKept (m : Inside) : Type 0 where
  pub few : m.shared.layout.harts ≤ 8
  pub there : vec_len m.slots ≡ m.shared.layout.harts
  pub kept : AreKept m.shared m.slots.items
  pub walks_there : vec_len m.walks ≡ m.shared.layout.harts
  pub walks : All AreWalks m.walks.items

-- hart 0 begins at the image's start, all others are stopped
abbrev pub first_slots : (harts start : ℕ) → List HartSlot
first_slots harts start = new_slot Started start ∷ replicate (harts - 1) (new_slot Halted 0)
