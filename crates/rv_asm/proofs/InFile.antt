-- The parts of an image that was read from a file lie in the file and in RAM.
use Rattle.std.proofs.Common.{◌≡◌, refl, ◌≤◌, ◌+◌, ◌*◌, ◌^◌, ℕ, List, [], ◌∷◌, ◌++◌, map, Some, None, Option, Ok, true, false, Bool, not, ◌&&◌, ◌||◌, sym, ◌∙◌, subst, arith}
use Rattle.std.specs.Prelude.{length, nat_le, nat_lt}
use Rattle.std.proofs.lemmas.Bool.{leb-true, ltb-false}
use Rattle.elf_load.specs.declared.image.BadImage.{BadImage}
use Rattle.elf_load.specs.declared.image.BadImage.TheVariants.{EntryOutside, Overlap, Short, SegmentOutside}
use Rattle.elf_load.specs.Header.{Header}
use Rattle.elf_load.specs.Loaded.{Loaded}
use Rattle.elf_load.specs.ImageOf.{Check, check, first_failed, head_checks, place_checks, all_place_checks, checks, placed, overlaps, start_of, is_bad_start}
use Rattle.elf_load.specs.ImageOf.{part_of, read_image, answer_to, image_of, IsImageOf}
use Rattle.elf_load.proofs.Checks.{failed_append, both_pass}
use Rattle.rv_asm.specs.Lists.{IsInFile, AreInFile}

answered : (o : Option BadImage) (l image : Loaded) → answer_to o l ≡ Ok image → (o ≡ None) × (l ≡ image)
answered None l image e = (refl, cc)
answered (Some k) l image e = cc

tests : (a b c d : Bool) → first_failed (check a Short ∷ check (b || not (c && d)) SegmentOutside ∷ []) ≡ None → (a ≡ false) × (b ≡ false) × (c ≡ true) × (d ≡ true)
tests true b c d e = cc
tests false true c d e = cc
tests false false false d e = cc
tests false false true false e = cc
tests false false true true e = (refl, refl, refl, refl)

one_in_file : (file : List ℕ) (pages : ℕ) (h : Header) → pages ≤ 4096 → first_failed (place_checks (length file) pages h) ≡ None → IsInFile file (part_of h)
one_in_file file pages h few passes =
    let all = tests (nat_lt (length file) (h.p_offset + h.p_filesz)) (nat_lt h.p_memsz h.p_filesz) (nat_le (2 ^ 31) h.p_paddr) (nat_le (h.p_paddr + h.p_memsz) (2 ^ 31 + 4096 * pages)) passes in
    let in_file : h.p_offset + h.p_filesz ≤ length file = ltb-false _ _ all.0 in
    let fits : h.p_filesz ≤ h.p_memsz = ltb-false _ _ all.1 in
    let above : 2 ^ 31 ≤ h.p_paddr = leb-true _ _ all.2 in
    let below : h.p_paddr + h.p_memsz ≤ 2 ^ 31 + 4096 * pages = leb-true _ _ all.3 in
    record { in_file = in_file; above = above; below = omega (arith, fits, below, few) }

all_in_file : (file : List ℕ) (pages : ℕ) (hs : List Header) → pages ≤ 4096 → first_failed (all_place_checks (length file) pages hs) ≡ None → AreInFile file (map part_of hs)
all_in_file file pages [] few passes = tt
all_in_file file pages (h ∷ hs) few passes =
    let both = both_pass (first_failed (place_checks (length file) pages h)) (first_failed (all_place_checks (length file) pages hs))
    (sym (failed_append (place_checks (length file) pages h) (all_place_checks (length file) pages hs)) ∙ passes) in
    (one_in_file file pages h few both.0, all_in_file file pages hs few both.1)

pub parts_in_file : (file : List ℕ) (image : Loaded) → IsImageOf file 4096 image → AreInFile file image.parts
unfolding image_of
parts_in_file file image of =
    let both = answered (first_failed (checks file of.read_for)) (read_image file) image of.is_image in
    let tail : List Check = check (overlaps (placed file)) Overlap ∷ check (is_bad_start (start_of file)) EntryOutside ∷ [] in
    let front : first_failed (head_checks file ++ all_place_checks (length file) of.read_for (placed file)) ≡ None
    = (both_pass (first_failed (head_checks file ++ all_place_checks (length file) of.read_for (placed file))) (first_failed tail)
    (sym (failed_append (head_checks file ++ all_place_checks (length file) of.read_for (placed file)) tail) ∙ both.0)).0 in
    let places : first_failed (all_place_checks (length file) of.read_for (placed file)) ≡ None
    = (both_pass (first_failed (head_checks file)) (first_failed (all_place_checks (length file) of.read_for (placed file)))
    (sym (failed_append (head_checks file) (all_place_checks (length file) of.read_for (placed file))) ∙ front)).1 in
    subst (λ (l : Loaded). AreInFile file l.parts) both.1 (all_in_file file of.read_for (placed file) of.no_more places)
