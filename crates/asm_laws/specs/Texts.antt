-- A listing as a text that an assembler takes.
use Rattle.std.specs.Prelude.{◌≡◌, ◌<◌, ◌+◌, ◌==◌, ℕ, Bool, if◌then◌else◌, List, [], ◌∷◌, ◌++◌, drop, map, slice_range, Ok, All}
use Rattle.std.specs.List.{position_or_len}
use Rattle.elf_load.specs.declared.image.Part.{Part}
use Rattle.elf_load.specs.Loaded.{Loaded}
use Rattle.elf_load.specs.ImageOf.{image_of}
use Rattle.text_lines.specs.Lines.{lines_of}
use Rattle.asm_text.specs.Text.{begins_with, is_colon}
use Rattle.rv_asm.specs.Listing.{IsListing}
use Rattle.rv_asm.specs.Assembly.{assembly_of, file_of, first_place}

abbrev pub is_dot : ℕ → Bool
is_dot c = c == 46

-- a line is `ADDR: WORD TEXT`, or `ADDR: .byte` with numbers
abbrev pub behind_address : List ℕ → List ℕ
behind_address line = drop (position_or_len is_colon line + 2) line

abbrev pub text_in : List ℕ → List ℕ
text_in line = if begins_with is_dot (behind_address line) then behind_address line else drop 9 (behind_address line)

-- lines, each with a line feed behind it
abbrev pub with_feeds : List (List ℕ) → List ℕ
with_feeds [] = []
with_feeds (line ∷ lines) = line ++ 10 ∷ with_feeds lines

abbrev pub listed_text : List ℕ → List ℕ
listed_text listing = with_feeds (map text_in (lines_of listing))

-- The listing of a file whose one part lies at the first place is a text of that part's bytes.
abbrev pub ListsBack : Type 0
ListsBack = (file listing : List ℕ) (image : Loaded) (p : Part)
    → All (λ byte. byte < 256) file → image_of file 4096 ≡ Ok image → image.parts ≡ p ∷ [] → p.place ≡ first_place → IsListing file (p ∷ []) listing
    → assembly_of (listed_text listing) ≡ Ok (file_of (slice_range file p.at (p.at + p.len)))
