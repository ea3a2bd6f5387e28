-- How what the machine keeps shows the reference machine's state: it has the present words alone.
use Rattle.std.specs.Prelude.{◌≡◌, ℕ, ◌<◌, ◌+◌, ◌*◌, List, length, map, Option, None, slice_index}
use Rattle.rv64_exec.specs.Code.{Code}
use Rattle.step_laws.specs.Words.{first_ram_word, ipi_word}
use Rattle.ref_machine.specs.declared.hart.HartSlot.{HartSlot}
use Rattle.machine_model.specs.Memory.{Memory, StoreEntry, written}
use Rattle.machine_model.specs.State.{Setup, State, Hart, Command}
use Rattle.machine_model.specs.Now.{IsNext}
use Rattle.machine_model.specs.Plain.{after_turn}
use Rattle.ref_machine.specs.SharedState.{Shared}
use Rattle.ref_machine.specs.PlainState.{PlainState}

-- a hart that may hold a word
abbrev pub holding : Option Code → HartSlot → Hart
holding held t = record { arch = t.arch; mode = t.mode; start = t.start; opaque = t.opaque; held = held; count = t.count }

-- between two turns no hart holds one
abbrev pub resting : HartSlot → Hart
resting t = holding None t

abbrev pub shown : PlainState → List StoreEntry → List Command → State
shown p entries script =
    record { entries = entries; harts = map resting p.slots; output = p.shared.console; reason = p.shared.reason; script = script }

-- memory's words that the machine keeps
abbrev pub ShowsRam : List ℕ → Memory → Type 0
ShowsRam ram m = (i : ℕ) → i < length ram → slice_index ram i ≡ m (first_ram_word + i)

pub record ShowsMemory (b : Shared) (m : Memory) : Type 0 where
  pub ram : ShowsRam b.ram m
  pub ipi : m ipi_word ≡ b.ipi

pub record Shows (u : Setup) (p : PlainState) (s : State) : Type 0 where
  pub entries : List StoreEntry
  pub script : List Command
  pub state : s ≡ shown p entries script
  pub there : length p.slots ≡ u.layout.harts
  pub layout : p.shared.layout ≡ u.layout
  pub size : length p.shared.ram ≡ 512 * u.layout.pages
  pub memory : ShowsMemory p.shared (written u.image entries)
  pub limit : p.shared.limit ≡ u.limit

-- A turn of the plain run: whatever state is shown before it, the hart's next word has one code where the machine goes on,
-- and by each code that it has the state behind the turn is shown.
pub record Turned (h : ℕ) (p q : PlainState) : Type 0 where
  pub code : (u : Setup) (s : State) → Shows u p s → p.shared.reason ≡ None → (code : Code) × IsNext u s h code
  pub only : (u : Setup) (s : State) → Shows u p s → p.shared.reason ≡ None → (code other : Code) → IsNext u s h code → IsNext u s h other → code ≡ other
  pub next : (u : Setup) (s : State) → Shows u p s → (code : Code) → IsNext u s h code → Shows u q (after_turn u h code s)
