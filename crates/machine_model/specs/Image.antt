-- The memory that an image gives, by words, and the machine that begins with it.
use Rattle.std.specs.Prelude.{ℕ, ◌+◌, ◌-◌, ◌*◌, ◌^◌, nat_lt, if◌then◌else◌, List, []}
use Rattle.elf_load.specs.Loaded.{Loaded}
use Rattle.elf_load.specs.declared.image.Part.{Part}
use Rattle.elf_load.specs.Contents.{contents_word}
use Rattle.step_laws.specs.declared.words.Layout.{Layout}
use Rattle.step_laws.specs.Words.{first_ram_word}
use Rattle.machine_model.specs.Memory.{Memory}
use Rattle.machine_model.specs.State.{Setup}

-- each word of RAM has 8 bytes of the image; the other words are 0
abbrev pub image_memory : List ℕ → List Part → Memory
image_memory file parts word =
    if nat_lt word first_ram_word then 0 else contents_word file parts (2 ^ 31 + 8 * (word - first_ram_word))

-- the setup of a machine with this image and no script
abbrev pub setup_of : Layout → List ℕ → Loaded → (limit : ℕ) → Setup
setup_of layout file image limit =
    record { layout = layout; image = image_memory file image.parts; start = image.start; limit = limit; script = [] }
