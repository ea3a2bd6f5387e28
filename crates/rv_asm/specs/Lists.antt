-- Texts that listings were added to, and parts that can be listed: what the code says of itself; no public contract has these words.
use Rattle.std.specs.Prelude.{◌≡◌, ℕ, ◌+◌, ◌*◌, ◌^◌, ◌≤◌, List, [], ◌∷◌, ◌++◌, length}
use Rattle.elf_load.specs.declared.image.Part.{Part}
use Rattle.rv_asm.specs.Listing.{IsListed, IsListing}

-- a text to which such lines were added
pub record Lists (file : List ℕ) (at len place : ℕ) (old new : List ℕ) : Type 0 where
  pub lines : List ℕ
  pub is_listed : IsListed file at len place lines
  pub is_new : new ≡ old ++ lines

pub record ListsParts (file : List ℕ) (parts : List Part) (old new : List ℕ) : Type 0 where
  pub lines : List ℕ
  pub is_listing : IsListing file parts lines
  pub is_new : new ≡ old ++ lines

-- parts whose bytes are the file's and lie in RAM
pub record IsInFile (file : List ℕ) (p : Part) : Type 0 where
  pub in_file : p.at + p.len ≤ length file
  pub above : 2 ^ 31 ≤ p.place
  pub below : p.place + p.len ≤ 2 ^ 31 + 4096 * 4096

abbrev pub AreInFile : List ℕ → List Part → Type 0
AreInFile file [] = Unit {0}
AreInFile file (p ∷ parts) = IsInFile file p × AreInFile file parts
