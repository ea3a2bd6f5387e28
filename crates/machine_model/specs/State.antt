-- The state of the reference machine.
use Rattle.std.specs.Prelude.{ℕ, Bool, true, false, List, [], ◌∷◌, replicate, Option, None, slice_index_or, ◌-◌}
use Rattle.std.specs.List.{list_all}
use Rattle.rv64_priv.specs.State.{Arch}
use Rattle.rv64_exec.specs.Code.{Code}
use Rattle.step_laws.specs.declared.words.Layout.{Layout}
use Rattle.machine_model.specs.declared.reason.Reason.{Reason}
use Rattle.machine_model.specs.declared.mode.Mode.{Mode}
use Rattle.machine_model.specs.declared.mode.Mode.TheVariants.{Started, Halted}
use Rattle.machine_model.specs.Memory.{Memory, StoreEntry, written}

-- what is kept of a hart
pub record Hart : Type 0 where
  pub arch : Arch
  pub mode : Mode
  -- of its last accepted start
  pub start : ℕ
  pub opaque : ℕ
  -- the fetched word
  pub held : Option Code
  -- its retired and trapped instructions
  pub count : ℕ

-- a line of a script
pub data Command : Type 0 where
  AwaitBytes : (count : ℕ) → Command
  Snapshot : Command
  DumpBytes : (at len : ℕ) → Command
  StopAll : Command

-- what a run begins with
pub record Setup : Type 0 where
  pub layout : Layout
  pub image : Memory
  pub start : ℕ
  pub limit : ℕ
  pub script : List Command

-- Store entries are newest first, the output oldest first as the program writes it.
pub record State : Type 0 where
  pub entries : List StoreEntry
  pub harts : List Hart
  pub output : List ℕ
  pub reason : Option Reason
  -- what is left of it
  pub script : List Command

-- memory now
abbrev pub memory : Setup → State → Memory
memory u s = written u.image s.entries

-- all registers and CSRs 0, supervisor mode, bare
abbrev pub reset : (pc : ℕ) → Arch
reset pc = record { x = replicate 32 0; pc = pc; user = false; sstatus = 0; sie = 0; stvec = 0; sscratch = 0; sepc = 0; scause = 0; stval = 0; satp = 0; hold = None }

abbrev pub new_hart : Mode → (pc : ℕ) → Hart
new_hart mode pc = record { arch = reset pc; mode = mode; start = 0; opaque = 0; held = None; count = 0 }

-- a hart by its number; one that isn't there is stopped
abbrev pub nth : List Hart → ℕ → Hart
nth harts h = slice_index_or harts h (new_hart Halted 0)

abbrev pub hart : State → ℕ → Hart
hart s h = nth s.harts h

abbrev pub mode_of : State → ℕ → Mode
mode_of s h = (hart s h).mode

abbrev pub is_halted : Mode → Bool
is_halted Halted = true
is_halted _ = false

abbrev pub is_started : Mode → Bool
is_started Started = true
is_started _ = false

abbrev pub all_halted : State → Bool
all_halted s = list_all (λ t. is_halted t.mode) s.harts

-- hart 0 begins at the image's start, all others stopped
abbrev pub initial : Setup → State
initial u = record {
  entries = [];
  harts = new_hart Started u.start ∷ replicate (u.layout.harts - 1) (new_hart Halted 0);
  output = [];
  reason = None;
  script = u.script;
}
