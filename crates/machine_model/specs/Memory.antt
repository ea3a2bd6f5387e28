-- Memory: the image's, with the store entries written.
use Rattle.std.specs.Prelude.{ℕ, ◌+◌, ◌*◌, ◌/◌, ◌%◌, ◌^◌, ◌==◌, nat_le, if◌then◌else◌, List, [], ◌∷◌, fold}

-- the machine's words by number
abbrev pub Memory : Type 0
Memory = ℕ → ℕ

-- one word gets a value
pub record Write : Type 0 where
  pub word : ℕ
  pub value : ℕ

-- a store entry: one write, or the two of a crossing store
abbrev pub StoreEntry : Type 0
StoreEntry = List Write

abbrev pub write : Memory → Write → Memory
write m w = λ word. if word == w.word then w.value else m word

abbrev pub with_entry : Memory → StoreEntry → Memory
with_entry m e = fold write m e

-- after all entries, the newest of which is first
abbrev pub written : Memory → List StoreEntry → Memory
written image [] = image
written image (e ∷ es) = with_entry (written image es) e

-- Bytes of one word, or of two that an access touches in turn: the first byte's offset in its word, and how many.
pub data Span : Type 0 where
  One : (word offset width : ℕ) → Span
  Two : (first second offset width : ℕ) → Span

-- the bytes from an offset in a word on, which go on in a second word where they pass the first one's end
abbrev pub span_over : (first second offset width : ℕ) → Span
span_over first second offset width =
    if nat_le (offset + width) 8 then One first offset width else Two first second offset width

-- two words as one number
abbrev pub both_words : Memory → (first second : ℕ) → ℕ
both_words m first second = m first + 2 ^ 64 * m second

-- the little-endian number of so many bytes of a number, from an offset on
abbrev pub number_in : (whole offset width : ℕ) → ℕ
number_in whole offset width = whole / 256 ^ offset % 256 ^ width

-- the number in a span
abbrev pub read : Memory → Span → ℕ
read m (One word offset width) = number_in (m word) offset width
read m (Two first second offset width) = number_in (both_words m first second) offset width

-- a number with so many bytes replaced from an offset on
abbrev pub replaced : (old offset width value : ℕ) → ℕ
replaced old offset width value =
    old % 256 ^ offset + 256 ^ offset * (value % 256 ^ width) + 256 ^ (offset + width) * (old / 256 ^ (offset + width))

abbrev pub write_of : ℕ → ℕ → Write
write_of word value = record { word = word; value = value }

-- the entry of a store: one write, or two where the span crosses
abbrev pub store_entry : Memory → Span → ℕ → StoreEntry
store_entry m (One word offset width) value = write_of word (replaced (m word) offset width value) ∷ []
store_entry m (Two first second offset width) value =
    let new = replaced (both_words m first second) offset width value in
    write_of first (new % 2 ^ 64) ∷ write_of second (new / 2 ^ 64) ∷ []

-- a span's first word, and the offset in it
abbrev pub first_word : Span → ℕ
first_word (One word offset width) = word
first_word (Two first second offset width) = first

abbrev pub first_offset : Span → ℕ
first_offset (One word offset width) = offset
first_offset (Two first second offset width) = offset
