-- What all harts of the machine on one thread share.
use Rattle.std.specs.Prelude.{◌≡◌, ℕ, ◌+◌, ◌-◌, ◌*◌, ◌/◌, ◌^◌, ◌≤◌, ◌<◌, List, [], length, fold, Option, Some, None, slice_index, slice_set, vec_len, vec_capacity}
use Rattle.elf_load.specs.declared.image.Part.{Part}
use Rattle.elf_load.specs.Contents.{contents_word}
use Rattle.elf_load.specs.Loaded.{Loaded}
use Rattle.step_laws.specs.declared.words.Layout.{Layout}
use Rattle.step_laws.specs.Words.{first_ram_word}
use Rattle.rv64_priv.specs.Walk.{Levels}
use Rattle.machine_model.specs.declared.reason.Reason.{Reason}
use Rattle.ref_machine.specs.declared.shared.Shared.TheInside.{Inside}
use Rattle.machine_model.specs.Memory.{Memory, Write, StoreEntry}
use Rattle.step_laws.specs.Map.{console_places}

pub record Shared : Type 0 where
  pub layout : Layout
  pub ram : List ℕ
  -- bit h for hart h
  pub ipi : ℕ
  pub limit : ℕ
  pub console : List ℕ
  pub reason : Option Reason

abbrev pub shared_of : Inside → Shared
shared_of m = record { layout = m.layout; ram = m.ram.items; ipi = m.ipi; limit = m.limit; console = m.console.items; reason = m.reason }

-- RAM has its pages, and the console has its room
pub record IsSharedKept (m : Inside) : Type 0 where
  pub few_harts : m.layout.harts ≤ 8
  pub few_pages : m.layout.pages ≤ 4096
  pub size : vec_len m.ram ≡ 512 * m.layout.pages
  pub room : console_places ≤ vec_capacity m.console
  pub fits : vec_len m.console ≤ console_places

-- RAM has the words that the parts of a file give
abbrev pub IsLoaded : List ℕ → List Part → (words : ℕ) → List ℕ → Type 0
IsLoaded file parts words ram = (length ram ≡ words) × ((i : ℕ) → i < words → slice_index ram i ≡ contents_word file parts (2 ^ 31 + 8 * i))

-- RAM as memory, and as the reads of a walk find it
abbrev pub ram_memory : List ℕ → Memory
ram_memory ram word = slice_index ram (word - first_ram_word)

abbrev pub ram_reads : List ℕ → Levels
ram_reads ram level pa = slice_index ram ((pa - 2 ^ 31) / 8)

-- RAM with a store entry written
abbrev pub ram_with : List ℕ → Write → List ℕ
ram_with ram w = slice_set ram (w.word - first_ram_word) w.value

abbrev pub ram_after : List ℕ → Option StoreEntry → List ℕ
ram_after ram None = ram
ram_after ram (Some entry) = fold ram_with ram entry

-- what all harts share at first
pub record IsFirst (file : List ℕ) (image : Loaded) (layout : Layout) (limit : ℕ) (b : Shared) : Type 0 where
  pub loaded : IsLoaded file image.parts (512 * layout.pages) b.ram
  pub rest : b ≡ record { layout = layout; ram = b.ram; ipi = 0; limit = limit; console = []; reason = None }
