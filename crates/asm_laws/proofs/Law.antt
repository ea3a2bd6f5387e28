-- A listing's text gives the bytes that the listing is of.
use Rattle.std.proofs.Common.{◌≡◌, refl, sym, subst, ℕ, ◌+◌, ◌-◌, ◌<◌, ◌≤◌, List, [], ◌∷◌, ◌++◌, length, arith}
use Rattle.std.specs.Prelude.{◌^◌, Ok, codes, slice_range, All}
use Rattle.std.proofs.lemmas.List.{append-nil}
use Rattle.elf_load.specs.declared.image.Part.{Part}
use Rattle.elf_load.specs.Header.{number_at}
use Rattle.rv_asm.specs.Listing.{address, hex, instr_text, word_line, rest_line, numbers_text, IsListed, IsListing}
use Rattle.rv_asm.specs.Listing.{nothing as no_bytes, rest as some_bytes, word as four_bytes, none as no_part, part as one_part}
use Rattle.rv_asm.specs.Lists.{IsInFile, AreInFile}
use Rattle.rv_asm.proofs.InFile.{parts_in_file}
use Rattle.rv_asm.specs.Assembly.{bytes_of, first_place, last_place, file_of, assembly_of, image_of_text}
use Rattle.asm_laws.specs.Texts.{listed_text, ListsBack}
use Rattle.asm_laws.proofs.Slices.{length_slice, bytes_back, number_below}
use Rattle.asm_laws.proofs.Listings.{Gives, rest_gives, instr_gives, text_of_word, text_of_rest, Listed, listed_then, none_listed, slice_bytes, word_line_is, rest_line_is, word_line_all, rest_line_all, address_all}

-- Each listing gives the bytes that it lists.
listed : (file : List ℕ) (at len place : ℕ) (listing : List ℕ) → All (λ byte. byte < 256) file → at + len ≤ length file → 2 ^ 31 ≤ place → place + len ≤ last_place
    → IsListed file at len place listing → Listed file at len place listing
listed file _ _ _ _ bytes in_file above below (no_bytes at place) = none_listed file at place
listed file _ _ _ _ bytes in_file above below (some_bytes at len place some few) =
    let these : List ℕ = slice_range file at (at + len) in
    let size : length these ≡ len = length_slice file at len in_file in
    let g : Gives place (codes ".byte " ++ numbers_text these) these = rest_gives place these (slice_bytes file at len bytes in_file) (omega (arith, size, some)) (omega (arith, size, few)) in
    let line : List ℕ = address place ++ 58 ∷ 32 ∷ (codes ".byte " ++ numbers_text these) in
    let same : len + 0 ≡ len = omega arith in
    let l : Listed file at (len + 0) place (line ++ 10 ∷ []) = listed_then file at len 0 place line (codes ".byte " ++ numbers_text these) [] (omega (arith, in_file)) below
    (rest_line_all place (codes ".byte " ++ numbers_text these) g.plain) (text_of_rest (address place) (numbers_text these) (address_all place)) g (none_listed file (at + len) (place + len)) in
    subst (λ n. Listed file at n place (rest_line place these)) same (subst (λ t. Listed file at (len + 0) place t) (sym (rest_line_is place these)) l)
listed file _ _ _ _ bytes in_file above below (four_bytes at len place instr text decodes four more_of) =
    let number : ℕ = number_at file at 4 in
    let few : number < 2 ^ 32 = number_below file at bytes (omega (arith, in_file, four)) in
    let said : List ℕ = instr_text place number instr in
    let low : place ≤ 2 ^ 32 = omega (arith, below) in
    let back : bytes_of 4 number ≡ slice_range file at (at + 4) = bytes_back file at 4 bytes (omega (arith, in_file, four)) in
    let g : Gives place said (slice_range file at (at + 4)) = subst (λ b. Gives place said b) back (instr_gives place number instr above low few decodes) in
    let line : List ℕ = address place ++ 58 ∷ 32 ∷ (hex 8 number ++ 32 ∷ said) in
    let same : 4 + (len - 4) ≡ len = omega (arith, four) in
    let later : Listed file (at + 4) (len - 4) (place + 4) text = listed file (at + 4) (len - 4) (place + 4) text bytes (omega (arith, in_file, four)) (omega (arith, above)) (omega (arith, below, four)) more_of in
    let l : Listed file at (4 + (len - 4)) place (line ++ 10 ∷ text) = listed_then file at 4 (len - 4) place line said text (omega (arith, in_file, four)) (omega (arith, below, four))
    (word_line_all place number said g.plain) (text_of_word (address place) said number (address_all place)) g later in
    subst (λ n. Listed file at n place (word_line place number instr ++ text)) same (subst (λ t. Listed file at (4 + (len - 4)) place t) (sym (word_line_is place number instr text)) l)

-- THE LAW

only_part : (file text : List ℕ) (p : Part) → IsListing file (p ∷ []) text → IsListed file p.at p.len p.place text
only_part file _ p (one_part _ _ text _ l no_part) = subst (λ t. IsListed file p.at p.len p.place t) (sym (append-nil text)) l

listing_back : (file listing : List ℕ) (at len : ℕ) → Listed file at len first_place listing → assembly_of (listed_text listing) ≡ Ok (file_of (slice_range file at (at + len)))
unfolding assembly_of image_of_text
listing_back file listing at len l = rw (l.are, l.fed, l.sets, l.gives 1) refl

pub lists_back : ListsBack
lists_back file listing image p bytes is parts first l =
    let in_file : IsInFile file p = (subst (λ ps. AreInFile file ps) parts (parts_in_file file image (record { read_for = 4096; no_more = omega arith; is_image = is }))).0 in
    let lines : IsListed file p.at p.len first_place listing = subst (λ place. IsListed file p.at p.len place listing) first (only_part file listing p l) in
    let below : first_place + p.len ≤ last_place = omega (arith, first, in_file.below) in
    listing_back file listing p.at p.len (listed file p.at p.len first_place listing bytes in_file.in_file (omega arith) below lines)
