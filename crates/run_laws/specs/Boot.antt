-- Where a machine begins: what the loader's record is to be, and the first state of the run that is read from it.
use Rattle.std.specs.Prelude.{◌≡◌, ℕ, ◌&&◌, nat_lt, if◌then◌else◌, List}
use Rattle.step_laws.specs.declared.words.Layout.{Layout}
use Rattle.step_laws.specs.declared.steps.Step.{Step}
use Rattle.step_laws.specs.Map.{Word, Live, Hsm, Size, Tlb, Ram, name_of}
use Rattle.step_laws.specs.Steps.{value_at}
use Rattle.step_laws.specs.Tables.{boot_entry}
use Rattle.machine_model.specs.Memory.{Memory}
use Rattle.machine_model.specs.State.{Setup}

-- the word of this number holds this in the reference machine's first memory: the image's word, where it is of RAM, and else 0
abbrev pub image_word : Memory → Word → (number : ℕ) → ℕ
image_word image (Ram i) n = image n
image_word image w n = 0

-- and in the machine, as the loader leaves it: LIVE is 1, each hart but hart 0 is stopped, the tables are empty and of 64 slots
abbrev pub first_word : Layout → Memory → Word → (number : ℕ) → ℕ
first_word layout image Live n = 1
first_word layout image (Hsm h) n = if nat_lt 0 h && nat_lt h layout.harts then 1 else 0
first_word layout image (Size h) n = if nat_lt h layout.harts then 64 else 0
first_word layout image (Tlb h j f) n = if nat_lt h layout.harts then boot_entry j f else 0
first_word layout image w n = image_word image w n

-- the loader's record: its stores leave the image in RAM, and the other words as a machine begins
pub record IsBoot (u : Setup) (r : List Step) : Type 0 where
  pub leaves : (n : ℕ) → value_at n r ≡ first_word u.layout u.image (name_of n) n
  -- the image is of RAM alone
  pub image : (n : ℕ) → u.image n ≡ image_word u.image (name_of n) n
