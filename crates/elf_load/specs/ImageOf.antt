-- Which files are accepted: the first check that a file fails, or its image. Sums don't wrap. (ELF-64 Object File Format, "ELF header"
-- and "Program header table"; e_machine and the bits of e_flags: RISC-V ELF psABI, "File Header".)
use Rattle.std.specs.Prelude.{◌≡◌, ◌≤◌, ℕ, ◌+◌, ◌-◌, ◌*◌, ◌%◌, ◌^◌, Bool, true, false, not, ◌&&◌, ◌||◌, ◌==◌, nat_lt, nat_le, if◌then◌else◌, List, []}
use Rattle.std.specs.Prelude.{◌∷◌, ◌++◌, map, filter, length, slice_index, Option, Some, None, Result, Ok, Err}
use Rattle.std.specs.List.{list_any}
use Rattle.elf_load.specs.declared.image.BadImage.{BadImage}
use Rattle.elf_load.specs.declared.image.BadImage.TheVariants.{Short, NotElf, NotRv64, NotExec, Compressed, SegmentOutside, Overlap, EntryOutside}
use Rattle.elf_load.specs.declared.image.Part.{Part}
use Rattle.elf_load.specs.Header.{Header, headers, e_type, e_machine, e_entry, e_phoff, e_flags, e_phentsize, e_phnum, number_at}
use Rattle.elf_load.specs.Loaded.{Loaded}

-- whether a file fails, and the kind of fault that it then has
pub record Check : Type 0 where
  pub fails : Bool
  pub kind : BadImage

abbrev pub check : Bool → BadImage → Check
check b k = record { fails = b; kind = k }

-- the kind of the first of these checks that fails
abbrev pub first_failed : List Check → Option BadImage
first_failed [] = None
first_failed (c ∷ cs) = if c.fails then Some c.kind else first_failed cs

-- 7f, and the letters E, L, F
abbrev pub is_elf : List ℕ → Bool
is_elf file = number_at file 0 4 == 0x464c457f

-- 64-bit, little-endian, version 1, RISC-V, with program headers of 56 bytes where there are any
abbrev pub is_rv64 : List ℕ → Bool
is_rv64 file =
    (slice_index file 4 == 2) && (slice_index file 5 == 1) && (slice_index file 6 == 1) && (e_machine file == 243)
    && ((e_phnum file == 0) || (e_phentsize file == 56))

-- the checks of the file's own header: type 2 is an executable file, bit 0 of the flags is the C extension
abbrev pub head_checks : List ℕ → List Check
head_checks file =
    check (nat_lt (length file) 64) Short
    ∷ check (not (is_elf file)) NotElf
    ∷ check (not (is_rv64 file)) NotRv64
    ∷ check (not (e_type file == 2)) NotExec
    ∷ check (e_flags file % 2 == 1) Compressed
    ∷ check (nat_lt (length file) (e_phoff file + 56 * e_phnum file)) Short
    ∷ []

-- a header of type 1, "load", that places something in memory
abbrev pub is_placed : Header → Bool
is_placed h = (h.p_type == 1) && nat_lt 0 h.p_memsz

abbrev pub placed : List ℕ → List Header
placed file = filter is_placed (headers file)

abbrev pub is_within_ram : (pages : ℕ) → Header → Bool
is_within_ram pages h = nat_le (2 ^ 31) h.p_paddr && nat_le (h.p_paddr + h.p_memsz) (2 ^ 31 + 4096 * pages)

-- the checks of a header that places something
abbrev pub place_checks : (len pages : ℕ) → Header → List Check
place_checks len pages h =
    check (nat_lt len (h.p_offset + h.p_filesz)) Short
    ∷ check (nat_lt h.p_memsz h.p_filesz || not (is_within_ram pages h)) SegmentOutside
    ∷ []

abbrev pub all_place_checks : (len pages : ℕ) → List Header → List Check
all_place_checks len pages [] = []
all_place_checks len pages (h ∷ hs) = place_checks len pages h ++ all_place_checks len pages hs

-- both cover some physical byte
abbrev pub shares_byte : Header → Header → Bool
shares_byte g h = nat_lt g.p_paddr (h.p_paddr + h.p_memsz) && nat_lt h.p_paddr (g.p_paddr + g.p_memsz)

abbrev pub overlaps : List Header → Bool
overlaps [] = false
overlaps (h ∷ hs) = list_any (shares_byte h) hs || overlaps hs

-- the entry's physical address, by the first header whose virtual addresses hold it
abbrev pub holds_entry : (entry : ℕ) → Header → Bool
holds_entry entry h = nat_le h.p_vaddr entry && nat_lt entry (h.p_vaddr + h.p_memsz)

abbrev pub start_among : (entry : ℕ) → List Header → Option ℕ
start_among entry [] = None
start_among entry (h ∷ hs) = if holds_entry entry h then Some (entry - h.p_vaddr + h.p_paddr) else start_among entry hs

abbrev pub start_of : List ℕ → Option ℕ
start_of file = start_among (e_entry file) (placed file)

-- there is none, or it isn't a multiple of 4
abbrev pub is_bad_start : Option ℕ → Bool
is_bad_start None = true
is_bad_start (Some start) = not (start % 4 == 0)

abbrev pub start_or_zero : Option ℕ → ℕ
start_or_zero None = 0
start_or_zero (Some start) = start

-- all checks, in order
abbrev pub checks : List ℕ → (pages : ℕ) → List Check
checks file pages =
    head_checks file ++ all_place_checks (length file) pages (placed file)
    ++ (check (overlaps (placed file)) Overlap ∷ check (is_bad_start (start_of file)) EntryOutside ∷ [])

abbrev pub part_of : Header → Part
part_of h = record { place = h.p_paddr; at = h.p_offset; len = h.p_filesz; zeros = h.p_memsz - h.p_filesz }

abbrev pub read_image : List ℕ → Loaded
read_image file = record { start = start_or_zero (start_of file); parts = map part_of (placed file) }

abbrev pub answer_to : Option BadImage → Loaded → Result Loaded BadImage
answer_to None image = Ok image
answer_to (Some kind) image = Err kind

-- the image of a file for a machine of so many pages, or the first kind of fault that refuses it
unfoldable pub image_of : List ℕ → (pages : ℕ) → Result Loaded BadImage
image_of file pages = answer_to (first_failed (checks file pages)) (read_image file)

-- the image was read from this file, for a machine of no more pages than these
pub record IsImageOf (file : List ℕ) (pages : ℕ) (image : Loaded) : Type 0 where
  pub read_for : ℕ
  pub no_more : read_for ≤ pages
  pub is_image : image_of file read_for ≡ Ok image
