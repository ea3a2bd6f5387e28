-- Words that were decoded.
use Rattle.std.specs.Prelude.{◌≡◌, ℕ, ◌<◌, List, Option, Some, length, replicate, slice_index, slice_index_or}
use Rattle.rv64_decode.specs.declared.instruction.Instr.{Instr}
use Rattle.rv64_decode.specs.declared.instruction.Instr.TheVariants.{Ecall}
use Rattle.rv64_decode.specs.Encoding.{Decodes, IsInRange, encoding_of}
use Rattle.word_cache.specs.declared.cache.WordCache.TheInside.{Inside}

-- a word decodes so, and in no other way
pub record DecodesOnly (word : ℕ) (found : Option Instr) : Type 0 where
  pub decodes : Decodes word found
  pub only : (i : Instr) → IsInRange i → encoding_of i ≡ word → found ≡ Some i

-- words and their instructions
pub record Entries : Type 0 where
  pub words : List ℕ
  pub instrs : List Instr

-- each word is that of ECALL
abbrev pub first_entries : Entries
first_entries = record { words = replicate 256 0x73; instrs = replicate 256 Ecall }

-- each word decodes as its instruction
abbrev pub AreDecoded : List ℕ → List Instr → Type 0
AreDecoded words instrs = (i : ℕ) → i < length words → DecodesOnly (slice_index words i) (Some (slice_index_or instrs i Ecall))

abbrev pub words_view : Inside → Entries
words_view m = record { words = m.words; instrs = m.instrs }

pub record IsCache (m : Inside) : Type 0 where
  pub entries : AreDecoded m.words m.instrs
