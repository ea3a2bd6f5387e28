-- Loops over the table of headers and over those that place something.
use Rattle.std.proofs.Common.{◌≡◌, refl, sym, ℕ, zero, suc, ◌+◌, ◌-◌, ◌*◌, ◌^◌, ◌≤◌, ◌<◌, List, [], ◌∷◌, ◌++◌, map, length, None, Bool, true, false, not, ◌&&◌, ◌||◌, ap, ◌∙◌, arith}
use Rattle.std.specs.Prelude.{if◌then◌else◌, filter, nat_le, nat_lt, slice_index_or}
use Rattle.std.proofs.lemmas.Bool.{leb-true}
use Rattle.std.proofs.lemmas.List.{append_assoc, append-nil}
use Rattle.elf_load.specs.declared.header.ProgramHeader.{ProgramHeader}
use Rattle.elf_load.specs.declared.image.BadImage.TheVariants.{Short, SegmentOutside}
use Rattle.elf_load.specs.Fields.{fields_of}
use Rattle.elf_load.specs.Header.{Header, header_at, headers_from, e_phoff, e_phnum}
use Rattle.elf_load.specs.ImageOf.{check, first_failed, place_checks, all_place_checks, is_placed, placed}
use Rattle.elf_load.proofs.Checks.{failed_append, both_pass}

headers_step : (file : List ℕ) (table i end : ℕ) → i < end → headers_from file (table + 56 * i) (end - i) ≡ header_at file (table + 56 * i) ∷ headers_from file (table + 56 * (i + 1)) (end - (i + 1))
unfolding headers_from
headers_step file table i end within =
    let count : end - i ≡ suc (end - (i + 1)) = omega arith in
    let next : (table + 56 * i) + 56 ≡ table + 56 * (i + 1) = omega arith in
    ap (λ n. headers_from file (table + 56 * i) n) count ∙ ap (λ p. header_at file (table + 56 * i) ∷ headers_from file p (end - (i + 1))) next

filter_step : (file : List ℕ) (table i end : ℕ) (b : Bool) → i < end → is_placed (header_at file (table + 56 * i)) ≡ b
    → filter is_placed (headers_from file (table + 56 * i) (end - i))
    ≡ (if b then header_at file (table + 56 * i) ∷ filter is_placed (headers_from file (table + 56 * (i + 1)) (end - (i + 1)))
    else filter is_placed (headers_from file (table + 56 * (i + 1)) (end - (i + 1))))
filter_step file table i end b within is =
    ap (λ hs. filter is_placed hs) (headers_step file table i end within)
    ∙ ap (λ b. if b then header_at file (table + 56 * i) ∷ filter is_placed (headers_from file (table + 56 * (i + 1)) (end - (i + 1)))
    else filter is_placed (headers_from file (table + 56 * (i + 1)) (end - (i + 1)))) is

-- a header that places nothing
pub passed_over : (file : List ℕ) (hs all : List Header) (table i end : ℕ) → i < end → is_placed (header_at file (table + 56 * i)) ≡ false
    → hs ++ filter is_placed (headers_from file (table + 56 * i) (end - i)) ≡ all
    → hs ++ filter is_placed (headers_from file (table + 56 * (i + 1)) (end - (i + 1))) ≡ all
passed_over file hs all table i end within is so_far = ap (λ rest. hs ++ rest) (sym (filter_step file table i end false within is)) ∙ so_far

-- one that places something
pub taken_in : (file : List ℕ) (hs all : List Header) (table i end : ℕ) → i < end → is_placed (header_at file (table + 56 * i)) ≡ true
    → hs ++ filter is_placed (headers_from file (table + 56 * i) (end - i)) ≡ all
    → (hs ++ header_at file (table + 56 * i) ∷ []) ++ filter is_placed (headers_from file (table + 56 * (i + 1)) (end - (i + 1))) ≡ all
taken_in file hs all table i end within is so_far =
    append_assoc hs (header_at file (table + 56 * i) ∷ []) (filter is_placed (headers_from file (table + 56 * (i + 1)) (end - (i + 1))))
    ∙ ap (λ rest. hs ++ rest) (sym (filter_step file table i end true within is)) ∙ so_far

-- the whole table
pub all_read : (file : List ℕ) (hs : List Header) (table i end : ℕ) → end ≤ i → table ≡ e_phoff file → end ≡ e_phnum file
    → hs ++ filter is_placed (headers_from file (table + 56 * i) (end - i)) ≡ filter is_placed (headers_from file table end) → hs ≡ placed file
unfolding headers_from
all_read file hs table i end over at_table at_end so_far =
    let none : end - i ≡ 0 = omega arith in
    sym (append-nil hs)
    ∙ ap (λ n. hs ++ filter is_placed (headers_from file (table + 56 * i) n)) (sym none)
    ∙ so_far
    ∙ ap (λ t. filter is_placed (headers_from file t end)) at_table
    ∙ ap (λ n. filter is_placed (headers_from file (e_phoff file) n)) at_end

-- a header that passes its checks ends within RAM
ends_within : (len pages : ℕ) (h : Header) → pages ≤ 4096 → first_failed (place_checks len pages h) ≡ None → h.p_paddr + h.p_memsz ≤ 2 ^ 31 + 4096 * 4096
ends_within len pages h few passes =
    let within : h.p_paddr + h.p_memsz ≤ 2 ^ 31 + 4096 * pages
    = leb-true _ _ (last_test (nat_lt len (h.p_offset + h.p_filesz)) (nat_lt h.p_memsz h.p_filesz) (nat_le (2 ^ 31) h.p_paddr) (nat_le (h.p_paddr + h.p_memsz) (2 ^ 31 + 4096 * pages)) passes) in
    omega (arith, within)
  where
    last_test : (a b c d : Bool) → first_failed (check a Short ∷ check (b || not (c && d)) SegmentOutside ∷ []) ≡ None → d ≡ true
    last_test true b c d e = cc
    last_test false true c d e = cc
    last_test false false false d e = cc
    last_test false false true false e = cc
    last_test false false true true e = refl

pub all_within : (len pages : ℕ) (hs : List ProgramHeader) → pages ≤ 4096 → first_failed (all_place_checks len pages (map fields_of hs)) ≡ None
    → (k : ℕ) (d : ProgramHeader) → k < length hs → (slice_index_or hs k d).p_paddr + (slice_index_or hs k d).p_memsz ≤ 2 ^ 31 + 4096 * 4096
all_within len pages [] few passes k d inside = absurd (omega arith)
all_within len pages (h ∷ hs) few passes zero d inside =
    ends_within len pages (fields_of h) few (both_pass _ _ (sym (failed_append (place_checks len pages (fields_of h)) (all_place_checks len pages (map fields_of hs))) ∙ passes)).0
all_within len pages (h ∷ hs) few passes (suc k) d inside =
    all_within len pages hs few (both_pass _ _ (sym (failed_append (place_checks len pages (fields_of h)) (all_place_checks len pages (map fields_of hs))) ∙ passes)).1 k d (omega (arith, inside))

pub map_twice : {A B C : Type 0} (g : B → C) (f : A → B) → (xs : List A) → map (λ x. g (f x)) xs ≡ map g (map f xs)
map_twice g f [] = refl
map_twice g f (x ∷ xs) = ap (λ ys. g (f x) ∷ ys) (map_twice g f xs)
