-- What an image is to a contract: where the machine starts (ELF-64 Object File Format, "ELF header", e_entry), and its parts.
use Rattle.std.specs.Prelude.{ℕ, List}
use Rattle.elf_load.specs.declared.image.Part.{Part}
use Rattle.elf_load.specs.declared.image.Image.TheInside.{Inside}

pub record Loaded : Type 0 where
  pub start : ℕ
  pub parts : List Part

abbrev pub loaded_by : Inside → Loaded
loaded_by image = record { start = image.start; parts = image.parts.items }
