-- An accepted image has nothing behind RAM.
use Rattle.std.proofs.Common.{◌≡◌, ℕ, ◌+◌, ◌*◌, ◌^◌, ◌≤◌, Bool, true, false, List, [], ◌∷◌, ◌++◌, refl, sym, ap, subst, ◌∙◌, arith, length}
use Rattle.std.specs.Prelude.{nat_lt, not, ◌||◌, if◌then◌else◌, map, Option, Some, None, Ok}
use Rattle.std.proofs.lemmas.Bool.Decides.{nat_tests}
use Rattle.elf_load.specs.declared.image.BadImage.{BadImage}
use Rattle.elf_load.specs.declared.image.BadImage.TheVariants.{Short, SegmentOutside}
use Rattle.elf_load.specs.Contents.{is_in_part, part_byte, contents, contents_word}
use Rattle.elf_load.specs.Header.{Header}
use Rattle.elf_load.specs.ImageOf.{check, first_failed, placed, place_checks, all_place_checks, head_checks, checks, part_of, read_image, answer_to, image_of, is_within_ram, overlaps, is_bad_start, start_of, IsImageOf}
use Rattle.elf_load.specs.Loaded.{Loaded}
use Rattle.elf_load.proofs.Checks.{failed_append, both_pass}

answered : (o : Option BadImage) (x image : Loaded) → answer_to o x ≡ Ok image → (o ≡ None) × (x ≡ image)
answered None x image e = (refl, cc)
answered (Some k) x image e = absurd (cc)

passed : (len pages : ℕ) (h : Header) → first_failed (place_checks len pages h) ≡ None → (nat_lt h.p_memsz h.p_filesz ≡ false) × (is_within_ram pages h ≡ true)
passed len pages h e = tests (nat_lt len (h.p_offset + h.p_filesz)) (nat_lt h.p_memsz h.p_filesz) (is_within_ram pages h) e
  where
    tests : (a b w : Bool) → first_failed (check a Short ∷ check (b || not w) SegmentOutside ∷ []) ≡ None → (b ≡ false) × (w ≡ true)
    tests true b w e = absurd (cc)
    tests false true w e = absurd (cc)
    tests false false false e = absurd (cc)
    tests false false true e = (refl, refl)

out : (h : Header) (pages pa : ℕ) → nat_lt h.p_memsz h.p_filesz ≡ false → is_within_ram pages h ≡ true → 2 ^ 31 + 4096 * pages ≤ pa → is_in_part pa (part_of h) ≡ false
out h pages pa few within high = grind (arith, nat_tests)

none_beyond : (file : List ℕ) (len pages : ℕ) (hs : List Header) → first_failed (all_place_checks len pages hs) ≡ None → (pa : ℕ) → 2 ^ 31 + 4096 * pages ≤ pa → contents file (map part_of hs) pa ≡ 0
none_beyond file len pages [] e pa high = refl
none_beyond file len pages (h ∷ hs) e pa high =
    let both = both_pass _ _ (sym (failed_append (place_checks len pages h) (all_place_checks len pages hs)) ∙ e) in
    let own = passed len pages h both.0 in
    ap (λ (b : Bool). if b then part_byte file pa (part_of h) else contents file (map part_of hs) pa) (out h pages pa own.0 own.1 high)
    ∙ none_beyond file len pages hs both.1 pa high

placed_pass : (file : List ℕ) (pages : ℕ) → first_failed (checks file pages) ≡ None → first_failed (all_place_checks (length file) pages (placed file)) ≡ None
placed_pass file pages e = let rest = check (overlaps (placed file)) BadImage.Overlap ∷ check (is_bad_start (start_of file)) BadImage.EntryOutside ∷ [] in
    let first = both_pass _ _ (sym (failed_append (head_checks file ++ all_place_checks (length file) pages (placed file)) rest) ∙ e) in
    (both_pass _ _ (sym (failed_append (head_checks file) (all_place_checks (length file) pages (placed file))) ∙ first.0)).1

byte_beyond : (file : List ℕ) (pages : ℕ) (image : Loaded) → image_of file pages ≡ Ok image → (pa : ℕ) → 2 ^ 31 + 4096 * pages ≤ pa → contents file image.parts pa ≡ 0
unfolding image_of
byte_beyond file pages image e pa high = let is = answered (first_failed (checks file pages)) (read_image file) image e in
    subst (λ (x : Loaded). contents file x.parts pa ≡ 0) is.1 (none_beyond file (length file) pages (placed file) (placed_pass file pages is.0) pa high)

pub word_beyond : (file : List ℕ) (pages : ℕ) (image : Loaded) → IsImageOf file pages image → (i : ℕ) → 512 * pages ≤ i → contents_word file image.parts (2 ^ 31 + 8 * i) ≡ 0
word_beyond file pages image is i high =
    let at : (k : ℕ) → contents file image.parts (2 ^ 31 + 8 * i + k) ≡ 0 = λ k. byte_beyond file is.read_for image is.is_image (2 ^ 31 + 8 * i + k) (omega (arith, high, is.no_more)) in
    let first : contents file image.parts (2 ^ 31 + 8 * i) ≡ 0 = byte_beyond file is.read_for image is.is_image (2 ^ 31 + 8 * i) (omega (arith, high, is.no_more)) in
    omega (arith, first, at 1, at 2, at 3, at 4, at 5, at 6, at 7)
