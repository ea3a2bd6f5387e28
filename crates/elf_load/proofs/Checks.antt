-- What the checks of a file come to, by the headers that place something.
use Rattle.std.proofs.Common.{◌≡◌, refl, sym, ℕ, ◌%◌, List, [], ◌∷◌, ◌++◌, map, Some, None, Option, Ok, Err, true, false, Bool, not, ap, ◌∙◌}
use Rattle.std.specs.Prelude.{if◌then◌else◌, length}
use Rattle.std.proofs.lemmas.Bool.{eq-eqb}
use Rattle.elf_load.specs.declared.image.BadImage.{BadImage}
use Rattle.elf_load.specs.declared.image.BadImage.TheVariants.{EntryOutside, Overlap}
use Rattle.elf_load.specs.Loaded.{Loaded}
use Rattle.elf_load.specs.Header.{Header, e_entry}
use Rattle.elf_load.specs.ImageOf.{Check, check, first_failed, head_checks, all_place_checks, placed, overlaps}
use Rattle.elf_load.specs.ImageOf.{start_among, is_bad_start, start_or_zero, part_of, read_image, answer_to, image_of}

abbrev pub first_or : Option BadImage → Option BadImage → Option BadImage
first_or None p = p
first_or (Some k) p = Some k

pub failed_append : (xs ys : List Check) → first_failed (xs ++ ys) ≡ first_or (first_failed xs) (first_failed ys)
failed_append [] ys = refl
failed_append (x ∷ xs) ys = by_test x.fails x.kind (first_failed (xs ++ ys)) (first_failed xs) (first_failed ys) (failed_append xs ys)
  where
    by_test : (b : Bool) (k : BadImage) (p q r : Option BadImage) → p ≡ first_or q r → (if b then Some k else p) ≡ first_or (if b then Some k else q) r
    by_test true k p q r e = refl
    by_test false k p q r e = e

pub both_pass : (o p : Option BadImage) → first_or o p ≡ None → (o ≡ None) × (p ≡ None)
both_pass None p e = (refl, e)
both_pass (Some k) p e = cc

first_or_assoc : (o p q : Option BadImage) → first_or (first_or o p) q ≡ first_or o (first_or p q)
first_or_assoc None p q = refl
first_or_assoc (Some k) p q = refl

-- the fault of the last two checks
abbrev last_fault : (entry : ℕ) → List Header → Option BadImage
last_fault entry hs = if overlaps hs then Some Overlap else if is_bad_start (start_among entry hs) then Some EntryOutside else None

abbrev loaded_by_headers : List ℕ → List Header → Loaded
loaded_by_headers file hs = record { start = start_or_zero (start_among (e_entry file) hs); parts = map part_of hs }

-- the image by the headers that place something
image_by : (file : List ℕ) (pages : ℕ) (hs : List Header) → hs ≡ placed file
    → image_of file pages
    ≡ answer_to (first_or (first_failed (head_checks file)) (first_or (first_failed (all_place_checks (length file) pages hs)) (last_fault (e_entry file) hs)))
    (loaded_by_headers file hs)
unfolding image_of
image_by file pages hs same =
    let last : List Header → List Check = λ hs. check (overlaps hs) Overlap ∷ check (is_bad_start (start_among (e_entry file) hs)) EntryOutside ∷ [] in
    let split : first_failed ((head_checks file ++ all_place_checks (length file) pages (placed file)) ++ last (placed file))
    ≡ first_or (first_failed (head_checks file)) (first_or (first_failed (all_place_checks (length file) pages (placed file))) (last_fault (e_entry file) (placed file)))
    = failed_append (head_checks file ++ all_place_checks (length file) pages (placed file)) (last (placed file))
    ∙ ap (λ o. first_or o (last_fault (e_entry file) (placed file))) (failed_append (head_checks file) (all_place_checks (length file) pages (placed file)))
    ∙ first_or_assoc (first_failed (head_checks file)) (first_failed (all_place_checks (length file) pages (placed file))) (last_fault (e_entry file) (placed file)) in
    ap (λ o. answer_to o (read_image file)) split
    ∙ ap (λ hs. answer_to (first_or (first_failed (head_checks file)) (first_or (first_failed (all_place_checks (length file) pages hs)) (last_fault (e_entry file) hs))) (loaded_by_headers file hs)) (sym same)

-- the answers, one by one
by_head : (o p : Option BadImage) (l : Loaded) (kind : BadImage) → o ≡ Some kind → answer_to (first_or o p) l ≡ Err kind
by_head o p l kind e = ap (λ x. answer_to (first_or x p) l) e

by_place : (o p q : Option BadImage) (l : Loaded) (kind : BadImage) → o ≡ None → p ≡ Some kind → answer_to (first_or o (first_or p q)) l ≡ Err kind
by_place o p q l kind e f = ap (λ x. answer_to (first_or x (first_or p q)) l) e ∙ by_head p q l kind f

by_last : (o p : Option BadImage) (b c : Bool) (l : Loaded) → o ≡ None → p ≡ None
    → answer_to (first_or o (first_or p (if b then Some Overlap else if c then Some EntryOutside else None))) l ≡ answer_to (if b then Some Overlap else if c then Some EntryOutside else None) l
by_last o p b c l e f =
    ap (λ x. answer_to (first_or x (first_or p (if b then Some Overlap else if c then Some EntryOutside else None))) l) e
    ∙ ap (λ x. answer_to (first_or x (if b then Some Overlap else if c then Some EntryOutside else None)) l) f

pub refused_head : (file : List ℕ) (pages : ℕ) (kind : BadImage) → first_failed (head_checks file) ≡ Some kind → image_of file pages ≡ Err kind
refused_head file pages kind head = image_by file pages (placed file) refl ∙ by_head _ _ _ kind head

pub refused_place : (file : List ℕ) (pages : ℕ) (hs : List Header) (kind : BadImage) → hs ≡ placed file → first_failed (head_checks file) ≡ None
    → first_failed (all_place_checks (length file) pages hs) ≡ Some kind → image_of file pages ≡ Err kind
refused_place file pages hs kind same head place = image_by file pages hs same ∙ by_place _ _ _ _ kind head place

pub refused_overlap : (file : List ℕ) (pages : ℕ) (hs : List Header) → hs ≡ placed file → first_failed (head_checks file) ≡ None
    → first_failed (all_place_checks (length file) pages hs) ≡ None → overlaps hs ≡ true → image_of file pages ≡ Err Overlap
refused_overlap file pages hs same head place over =
    let l : Loaded = loaded_by_headers file hs in
    image_by file pages hs same ∙ by_last _ _ _ _ _ head place
    ∙ ap (λ b. answer_to (if b then Some Overlap else if is_bad_start (start_among (e_entry file) hs) then Some EntryOutside else None) l) over

pub refused_start : (file : List ℕ) (pages : ℕ) (hs : List Header) → hs ≡ placed file → first_failed (head_checks file) ≡ None
    → first_failed (all_place_checks (length file) pages hs) ≡ None → overlaps hs ≡ false → is_bad_start (start_among (e_entry file) hs) ≡ true → image_of file pages ≡ Err EntryOutside
refused_start file pages hs same head place apart bad =
    let l : Loaded = loaded_by_headers file hs in
    image_by file pages hs same ∙ by_last _ _ _ _ _ head place
    ∙ ap (λ b. answer_to (if b then Some Overlap else if is_bad_start (start_among (e_entry file) hs) then Some EntryOutside else None) l) apart
    ∙ ap (λ b. answer_to (if b then Some EntryOutside else None) l) bad

pub accepted : (file : List ℕ) (pages : ℕ) (hs : List Header) (start : ℕ) → hs ≡ placed file → first_failed (head_checks file) ≡ None
    → first_failed (all_place_checks (length file) pages hs) ≡ None → overlaps hs ≡ false → start_among (e_entry file) hs ≡ Some start → start % 4 ≡ 0
    → image_of file pages ≡ Ok (record { start = start; parts = map part_of hs })
accepted file pages hs start same head place apart begins aligned =
    let l : Loaded = loaded_by_headers file hs in
    image_by file pages hs same ∙ by_last _ _ _ _ _ head place
    ∙ ap (λ b. answer_to (if b then Some Overlap else if is_bad_start (start_among (e_entry file) hs) then Some EntryOutside else None) l) apart
    ∙ ap (λ s. answer_to (if is_bad_start s then Some EntryOutside else None) (record { start = start_or_zero s; parts = map part_of hs })) begins
    ∙ ap (λ b. answer_to (if not b then Some EntryOutside else None) (record { start = start; parts = map part_of hs })) (eq-eqb (start % 4) 0 aligned)
