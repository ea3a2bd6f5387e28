-- The words that a part puts into memory, and those that it leaves.
use Rattle.std.proofs.Common.{◌≡◌, sym, ℕ, ◌+◌, ◌-◌, ◌*◌, ◌^◌, ◌≤◌, ◌<◌, List, ◌∷◌, true, false, ap, ◌∙◌, arith}
use Rattle.std.specs.Prelude.{if◌then◌else◌, slice_index}
use Rattle.std.proofs.lemmas.Bool.Decides.{nat_tests}
use Rattle.elf_load.specs.declared.image.Part.{Part}
use Rattle.elf_load.specs.Contents.{is_in_part, part_byte, contents, contents_word}
use Rattle.elf_load.specs.Header.{number_at}

is_in : (p : Part) (pa : ℕ) → p.place ≤ pa → pa < p.place + p.len + p.zeros → is_in_part pa p ≡ true
is_in p pa low high = grind (arith, nat_tests)

is_before : (p : Part) (pa : ℕ) → pa < p.place → is_in_part pa p ≡ false
is_before p pa low = grind (arith, nat_tests)

is_behind : (p : Part) (pa : ℕ) → p.place + p.len + p.zeros ≤ pa → is_in_part pa p ≡ false
is_behind p pa high = grind (arith, nat_tests)

-- the word of eight bytes from a place on
abbrev word_of : (ℕ → ℕ) → (place : ℕ) → ℕ
word_of f p = f p + 2 ^ 8 * f (p + 1) + 2 ^ 16 * f (p + 2) + 2 ^ 24 * f (p + 3) + 2 ^ 32 * f (p + 4) + 2 ^ 40 * f (p + 5) + 2 ^ 48 * f (p + 6) + 2 ^ 56 * f (p + 7)

-- is the word of the same bytes from another place on
same_word : (f g : ℕ → ℕ) (p q : ℕ) → ((a b : ℕ) → a + q ≡ b + p → p ≤ a → a < p + 8 → f a ≡ g b) → word_of f p ≡ word_of g q
same_word f g p q same =
    let e0 : f p ≡ g q = same p q (omega arith) (omega arith) (omega arith) in
    let e1 : f (p + 1) ≡ g (q + 1) = same (p + 1) (q + 1) (omega arith) (omega arith) (omega arith) in
    let e2 : f (p + 2) ≡ g (q + 2) = same (p + 2) (q + 2) (omega arith) (omega arith) (omega arith) in
    let e3 : f (p + 3) ≡ g (q + 3) = same (p + 3) (q + 3) (omega arith) (omega arith) (omega arith) in
    let e4 : f (p + 4) ≡ g (q + 4) = same (p + 4) (q + 4) (omega arith) (omega arith) (omega arith) in
    let e5 : f (p + 5) ≡ g (q + 5) = same (p + 5) (q + 5) (omega arith) (omega arith) (omega arith) in
    let e6 : f (p + 6) ≡ g (q + 6) = same (p + 6) (q + 6) (omega arith) (omega arith) (omega arith) in
    let e7 : f (p + 7) ≡ g (q + 7) = same (p + 7) (q + 7) (omega arith) (omega arith) (omega arith) in
    cc

byte_in : (file : List ℕ) (p : Part) (ps : List Part) (pa : ℕ) → is_in_part pa p ≡ true → contents file (p ∷ ps) pa ≡ part_byte file pa p
byte_in file p ps pa is = ap (λ b. if b then part_byte file pa p else contents file ps pa) is

byte_out : (file : List ℕ) (p : Part) (ps : List Part) (pa : ℕ) → is_in_part pa p ≡ false → contents file (p ∷ ps) pa ≡ contents file ps pa
byte_out file p ps pa is = ap (λ b. if b then part_byte file pa p else contents file ps pa) is

-- the words that the part leaves
word_out : (file : List ℕ) (p : Part) (ps : List Part) (pa : ℕ) → ((a : ℕ) → pa ≤ a → a < pa + 8 → is_in_part a p ≡ false) → contents_word file (p ∷ ps) pa ≡ contents_word file ps pa
word_out file p ps pa out =
    same_word (λ a. contents file (p ∷ ps) a) (λ a. contents file ps a) pa pa
    (λ a b same from to. byte_out file p ps a (out a from to) ∙ (let e : a ≡ b = omega arith in ap (λ n. contents file ps n) e))

pub word_before : (file : List ℕ) (p : Part) (ps : List Part) (pa : ℕ) → pa + 8 ≤ p.place → contents_word file (p ∷ ps) pa ≡ contents_word file ps pa
word_before file p ps pa low = word_out file p ps pa (λ a from to. is_before p a (omega (arith, to, low)))

pub word_behind : (file : List ℕ) (p : Part) (ps : List Part) (pa : ℕ) → p.place + p.len + p.zeros ≤ pa → contents_word file (p ∷ ps) pa ≡ contents_word file ps pa
word_behind file p ps pa high = word_out file p ps pa (λ a from to. is_behind p a (omega (arith, from, high)))

-- a word of zeros
zero_byte : (file : List ℕ) (p : Part) (pa : ℕ) → p.place + p.len ≤ pa → part_byte file pa p ≡ 0
zero_byte file p pa low = grind (arith, nat_tests)

pub word_of_zeros : (file : List ℕ) (p : Part) (ps : List Part) (pa : ℕ) → p.place + p.len ≤ pa → pa + 8 ≤ p.place + p.len + p.zeros → contents_word file (p ∷ ps) pa ≡ 0
word_of_zeros file p ps pa low high =
    same_word (λ a. contents file (p ∷ ps) a) (λ a. 0) pa pa
    (λ a b same from to. byte_in file p ps a (is_in p a (omega (arith, from, low)) (omega (arith, to, high))) ∙ zero_byte file p a (omega (arith, from, low)))

-- a word of the file
file_byte : (file : List ℕ) (p : Part) (pa : ℕ) → p.place ≤ pa → pa < p.place + p.len → part_byte file pa p ≡ slice_index file (p.at + (pa - p.place))
file_byte file p pa low high = grind (arith, nat_tests)

word_number : (file : List ℕ) (at : ℕ) → word_of (λ a. slice_index file a) at ≡ number_at file at 8
word_number file at =
    let s : ℕ → ℕ = λ a. slice_index file a in
    let e2 : s (at + 2) ≡ s (at + 1 + 1) = let i : at + 2 ≡ at + 1 + 1 = omega arith in ap s i in
    let e3 : s (at + 3) ≡ s (at + 1 + 1 + 1) = let i : at + 3 ≡ at + 1 + 1 + 1 = omega arith in ap s i in
    let e4 : s (at + 4) ≡ s (at + 1 + 1 + 1 + 1) = let i : at + 4 ≡ at + 1 + 1 + 1 + 1 = omega arith in ap s i in
    let e5 : s (at + 5) ≡ s (at + 1 + 1 + 1 + 1 + 1) = let i : at + 5 ≡ at + 1 + 1 + 1 + 1 + 1 = omega arith in ap s i in
    let e6 : s (at + 6) ≡ s (at + 1 + 1 + 1 + 1 + 1 + 1) = let i : at + 6 ≡ at + 1 + 1 + 1 + 1 + 1 + 1 = omega arith in ap s i in
    let e7 : s (at + 7) ≡ s (at + 1 + 1 + 1 + 1 + 1 + 1 + 1) = let i : at + 7 ≡ at + 1 + 1 + 1 + 1 + 1 + 1 + 1 = omega arith in ap s i in
    omega arith

pub word_of_file : (file : List ℕ) (p : Part) (ps : List Part) (pa at : ℕ) → at ≡ p.at + (pa - p.place) → p.place ≤ pa → pa + 8 ≤ p.place + p.len → number_at file at 8 ≡ contents_word file (p ∷ ps) pa
word_of_file file p ps pa at is low high =
    sym (same_word (λ a. contents file (p ∷ ps) a) (λ a. slice_index file a) pa at
    (λ a b same from to. byte_in file p ps a (is_in p a (omega (arith, from, low)) (omega (arith, to, high)))
    ∙ file_byte file p a (omega (arith, from, low)) (omega (arith, to, high))
    ∙ (let e : p.at + (a - p.place) ≡ b = omega (arith, is, same, from, low) in ap (λ n. slice_index file n) e))
    ∙ word_number file at)
