-- Texts to which lines were added, one line or one part after another.
use Rattle.std.proofs.Common.{◌≡◌, ◌∙◌, ◌<◌, ◌≤◌, ◌+◌, ◌-◌, ℕ, List, [], ◌∷◌, ◌++◌, append_assoc, ap, sym, subst, length, drop, get_or, add-one, drop-cons}
use Rattle.std.proofs.lemmas.List.{append-nil}
use Rattle.std.specs.Prelude.{Option, slice_range}
use Rattle.elf_load.specs.declared.image.Part.{Part}
use Rattle.elf_load.specs.Header.{number_at}
use Rattle.rv64_decode.specs.declared.instruction.Instr.{Instr}
use Rattle.rv64_decode.specs.Encoding.{Decodes}
use Rattle.rv_asm.specs.Listing.{word_line, rest_line, IsListed, IsListing}
use Rattle.rv_asm.specs.Lists.{Lists, ListsParts, AreInFile}

-- whatever lists the bytes that are left lists all of them
abbrev pub LeadsTo : List ℕ → (at len place : ℕ) → (now : List ℕ) → (at' len' place' : ℕ) → (now' : List ℕ) → Type 0
LeadsTo file at len place now at' len' place' now' = (new : List ℕ) → Lists file at' len' place' now' new → Lists file at len place now new

pub lists_word : (file : List ℕ) (at len place : ℕ) (instr : Option Instr) (now now' new : List ℕ) → Decodes (number_at file at 4) instr → 4 ≤ len
    → now' ≡ now ++ word_line place (number_at file at 4) instr → Lists file (at + 4) (len - 4) (place + 4) now' new → Lists file at len place now new
lists_word file at len place instr now now' new decodes more is behind = record {
  lines = word_line place (number_at file at 4) instr ++ behind.lines;
  is_listed = IsListed.word at len place instr behind.lines decodes more behind.is_listed;
  is_new = behind.is_new ∙ ap (λ x. x ++ behind.lines) is ∙ append_assoc now (word_line place (number_at file at 4) instr) behind.lines;
}

pub lists_rest : (file : List ℕ) (at len place : ℕ) (now new : List ℕ) → 0 < len → len < 4 → new ≡ now ++ rest_line place (slice_range file at (at + len)) → Lists file at len place now new
lists_rest file at len place now new some few is = record {
  lines = rest_line place (slice_range file at (at + len));
  is_listed = IsListed.rest at len place some few;
  is_new = is;
}

pub lists_nothing : (file : List ℕ) (at place : ℕ) (now : List ℕ) → Lists file at 0 place now now
lists_nothing file at place now = record { lines = []; is_listed = IsListed.nothing at place; is_new = sym (append-nil now) }

abbrev pub LeadsToParts : List ℕ → (parts : List Part) → (now : List ℕ) → (parts' : List Part) → (now' : List ℕ) → Type 0
LeadsToParts file parts now parts' now' = (new : List ℕ) → ListsParts file parts' now' new → ListsParts file parts now new

pub lists_part : (file : List ℕ) (p : Part) (parts : List Part) (now now' new : List ℕ) → Lists file p.at p.len p.place now now' → ListsParts file parts now' new → ListsParts file (p ∷ parts) now new
lists_part file p parts now now' new first behind = record {
  lines = first.lines ++ behind.lines;
  is_listing = IsListing.part p parts first.lines behind.lines first.is_listed behind.is_listing;
  is_new = behind.is_new ∙ ap (λ x. x ++ behind.lines) first.is_new ∙ append_assoc now first.lines behind.lines;
}

pub lists_no_part : (file now : List ℕ) → ListsParts file [] now now
lists_no_part file now = record { lines = []; is_listing = IsListing.none; is_new = sym (append-nil now) }

-- the next part of a list
pub next_part : (file : List ℕ) (parts : List Part) (i : ℕ) (d : Part) (old now now' : List ℕ) → i < length parts
    → Lists file (get_or parts i d).at (get_or parts i d).len (get_or parts i d).place now now'
    → AreInFile file (drop i parts) → LeadsToParts file parts old (drop i parts) now
    → AreInFile file (drop (i + 1) parts) × LeadsToParts file parts old (drop (i + 1) parts) now'
next_part file parts i d old now now' inside first in_file leads =
    let at : drop i parts ≡ get_or parts i d ∷ drop (i + 1) parts = rw (add-one, drop-cons parts i d inside) in
    let both = subst (λ (ps : List Part). AreInFile file ps) at in_file in
    (both.1, λ new behind. leads new (subst (λ (ps : List Part). ListsParts file ps now new) (sym at) (lists_part file (get_or parts i d) (drop (i + 1) parts) now now' new first behind)))
