-- What a hart's record keeps of its own TLB. Lists of steps are newest first.
use Rattle.std.specs.Prelude.{ℕ, ◌+◌, ◌*◌, ◌/◌, ◌%◌, ◌==◌, ◌&&◌, Bool, nat_lt, if◌then◌else◌, List, [], ◌∷◌}
use Rattle.step_laws.specs.declared.map.TlbField.{TlbField}
use Rattle.step_laws.specs.declared.map.TlbField.TheVariants.{Read, Write, Code, Page}
use Rattle.step_laws.specs.declared.steps.Step.{Step}
use Rattle.step_laws.specs.declared.steps.WordOp.{WordOp}
use Rattle.step_laws.specs.declared.steps.WordOp.TheVariants.{Store}
use Rattle.step_laws.specs.Words.{main_slots}
use Rattle.step_laws.specs.Map.{Word, Size, Tlb, name_of, same, same_field}
use Rattle.step_laws.specs.Fields.{invalid_bit}
use Rattle.step_laws.specs.Tables.{table_boot, table_word, size_of}

-- a word without bit 1 of a WRITE word, which comes and goes with the mark of its page
abbrev pub kept_word : TlbField → ℕ → ℕ
kept_word Write n = n / 4 * 4 + n % 2
kept_word f n = n

-- a word of the hart's table as its last store left it, the loader's where it made none, but for that bit
abbrev pub kept : (hart slot : ℕ) → TlbField → List Step → ℕ
kept a j f r = kept_word f (table_word (Tlb a j f) r)

abbrev pub word_before_next : Word → Word → WordOp → (held before : ℕ) → ℕ
word_before_next w v Store held n = if same w v then held else n
word_before_next w v op held n = n

-- what a word of the own table held before its last store, and the loader's where there is none
abbrev pub word_before : Word → List Step → ℕ
word_before w [] = table_boot w
word_before w (s ∷ r) = word_before_next w (name_of s.word) s.op (table_word w r) (word_before w r)

-- the three compare words of a slot are invalid
abbrev pub is_free : (hart slot : ℕ) → List Step → Bool
is_free a j r = (invalid_bit (table_word (Tlb a j Read) r) == 1) && ((invalid_bit (table_word (Tlb a j Write) r) == 1) && (invalid_bit (table_word (Tlb a j Code) r) == 1))

-- Behind the store that makes the WRITE word of a slot invalid, with which an entry is put there: its three compare words were invalid
-- before the put
abbrev pub was_free : (hart slot : ℕ) → List Step → Bool
was_free a j r = (invalid_bit (table_word (Tlb a j Read) r) == 1) && ((invalid_bit (word_before (Tlb a j Write) r) == 1) && (invalid_bit (table_word (Tlb a j Code) r) == 1))

-- one more, at most the size
abbrev pub counted : (free : Bool) (size used : ℕ) → ℕ
counted free size n = if free && nat_lt n size then n + 1 else n

abbrev pub used_next : (hart : ℕ) → Word → WordOp → (free : ℕ → Bool) → (size used : ℕ) → ℕ
used_next a (Size h) Store free size n = if h == a then 0 else n
used_next a (Tlb h j f) Store free size n = if same_field f Page && ((h == a) && nat_lt j main_slots) then counted (free j) size n else n
used_next a _ _ free size n = n

-- how many entries were put into main slots that were free, since SIZE was stored last, which is a full flush; at most the size. Each
-- put stores PAGE once
abbrev pub used_of : (hart : ℕ) → List Step → ℕ
used_of a [] = 0
used_of a (s ∷ r) = used_next a (name_of s.word) s.op (λ j. was_free a j r) (size_of a r) (used_of a r)
