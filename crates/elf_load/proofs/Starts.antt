-- An accepted program starts at a multiple of 4.
use Rattle.std.proofs.Common.{◌≡◌, refl, ℕ, ◌%◌, List, [], ◌∷◌, ◌++◌, Some, None, Option, Ok, true, false, Bool, not, sym, ◌∙◌, subst}
use Rattle.std.specs.Prelude.{◌==◌, length}
use Rattle.std.proofs.lemmas.Bool.{eqb-true}
use Rattle.elf_load.specs.declared.image.BadImage.{BadImage}
use Rattle.elf_load.specs.declared.image.BadImage.TheVariants.{EntryOutside, Overlap}
use Rattle.elf_load.specs.Loaded.{Loaded}
use Rattle.elf_load.specs.ImageOf.{Check, check, first_failed, head_checks, all_place_checks, checks, placed, overlaps, start_of, is_bad_start}
use Rattle.elf_load.specs.ImageOf.{start_or_zero, read_image, answer_to, image_of, IsImageOf}
use Rattle.elf_load.proofs.Checks.{failed_append, both_pass}

answered : (o : Option BadImage) (l image : Loaded) → answer_to o l ≡ Ok image → (o ≡ None) × (l ≡ image)
answered None l image e = (refl, cc)
answered (Some k) l image e = cc

last_passes : (a b : Bool) → first_failed (check a Overlap ∷ check b EntryOutside ∷ []) ≡ None → b ≡ false
last_passes true b e = cc
last_passes false true e = cc
last_passes false false e = refl

good_start : (o : Option ℕ) → is_bad_start o ≡ false → start_or_zero o % 4 ≡ 0
good_start None e = cc
good_start (Some s) e = eqb-true (s % 4) 0 (flip (s % 4 == 0) e)
  where
    flip : (b : Bool) → not b ≡ false → b ≡ true
    flip true e = refl
    flip false e = cc

pub start_aligned : (file : List ℕ) (pages : ℕ) (image : Loaded) → IsImageOf file pages image → image.start % 4 ≡ 0
unfolding image_of
start_aligned file pages image of =
    let both = answered (first_failed (checks file of.read_for)) (read_image file) image of.is_image in
    let tail : List Check = check (overlaps (placed file)) Overlap ∷ check (is_bad_start (start_of file)) EntryOutside ∷ [] in
    let rest : first_failed tail ≡ None
    = (both_pass (first_failed (head_checks file ++ all_place_checks (length file) of.read_for (placed file))) (first_failed tail)
    (sym (failed_append (head_checks file ++ all_place_checks (length file) of.read_for (placed file)) tail) ∙ both.0)).1 in
    subst (λ (l : Loaded). l.start % 4 ≡ 0) both.1 (good_start (start_of file) (last_passes (overlaps (placed file)) (is_bad_start (start_of file)) rest))
