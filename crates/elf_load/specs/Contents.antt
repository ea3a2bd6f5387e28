-- What an image puts into memory (ELF-64 Object File Format, "Program header table": past p_filesz a segment holds zeros).
use Rattle.std.specs.Prelude.{ℕ, ◌+◌, ◌-◌, ◌*◌, ◌^◌, Bool, ◌&&◌, nat_lt, nat_le, if◌then◌else◌, List, [], ◌∷◌, slice_index}
use Rattle.elf_load.specs.declared.image.Part.{Part}

abbrev pub is_in_part : (pa : ℕ) → Part → Bool
is_in_part pa p = nat_le p.place pa && nat_lt pa (p.place + p.len + p.zeros)

-- a byte of a part: the file's, and past these 0
abbrev pub part_byte : List ℕ → (pa : ℕ) → Part → ℕ
part_byte file pa p = if nat_lt (pa - p.place) p.len then slice_index file (p.at + (pa - p.place)) else 0

-- the byte at a physical address; 0 in no part
abbrev pub contents : List ℕ → List Part → (pa : ℕ) → ℕ
contents file [] pa = 0
contents file (p ∷ ps) pa = if is_in_part pa p then part_byte file pa p else contents file ps pa

-- the little-endian number of the eight bytes from a physical address on
abbrev pub contents_word : List ℕ → List Part → (pa : ℕ) → ℕ
contents_word file parts pa =
    contents file parts pa + 2 ^ 8 * contents file parts (pa + 1) + 2 ^ 16 * contents file parts (pa + 2)
    + 2 ^ 24 * contents file parts (pa + 3) + 2 ^ 32 * contents file parts (pa + 4) + 2 ^ 40 * contents file parts (pa + 5)
    + 2 ^ 48 * contents file parts (pa + 6) + 2 ^ 56 * contents file parts (pa + 7)
