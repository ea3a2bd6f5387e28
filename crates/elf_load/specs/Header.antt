-- The fields of an ELF-64 file (ELF-64 Object File Format, "ELF header" and "Program header table").
use Rattle.std.specs.Prelude.{ℕ, zero, suc, ◌+◌, ◌*◌, List, [], ◌∷◌, slice_index}

-- the little-endian number of so many bytes from an offset in the file on
abbrev pub number_at : List ℕ → (offset count : ℕ) → ℕ
number_at file offset zero = 0
number_at file offset (suc count) = slice_index file offset + 256 * number_at file (offset + 1) count

abbrev pub e_type : List ℕ → ℕ
e_type file = number_at file 16 2

abbrev pub e_machine : List ℕ → ℕ
e_machine file = number_at file 18 2

abbrev pub e_entry : List ℕ → ℕ
e_entry file = number_at file 24 8

abbrev pub e_phoff : List ℕ → ℕ
e_phoff file = number_at file 32 8

abbrev pub e_flags : List ℕ → ℕ
e_flags file = number_at file 48 4

abbrev pub e_phentsize : List ℕ → ℕ
e_phentsize file = number_at file 54 2

abbrev pub e_phnum : List ℕ → ℕ
e_phnum file = number_at file 56 2

-- a program header, but for its flags and its alignment, which place nothing
pub record Header : Type 0 where
  pub p_type : ℕ
  pub p_offset : ℕ
  pub p_vaddr : ℕ
  pub p_paddr : ℕ
  pub p_filesz : ℕ
  pub p_memsz : ℕ

abbrev pub header_at : List ℕ → (offset : ℕ) → Header
header_at file offset = record {
  p_type = number_at file offset 4;
  p_offset = number_at file (offset + 8) 8;
  p_vaddr = number_at file (offset + 16) 8;
  p_paddr = number_at file (offset + 24) 8;
  p_filesz = number_at file (offset + 32) 8;
  p_memsz = number_at file (offset + 40) 8;
}

-- so many headers of 56 bytes from an offset in the file on
unfoldable pub headers_from : List ℕ → (offset count : ℕ) → List Header
headers_from file offset zero = []
headers_from file offset (suc count) = header_at file offset ∷ headers_from file (offset + 56) count

-- the table, in order
abbrev pub headers : List ℕ → List Header
headers file = headers_from file (e_phoff file) (e_phnum file)
