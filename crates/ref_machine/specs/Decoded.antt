-- Words that were decoded.
use Rattle.std.specs.Prelude.{◌≡◌, ℕ, ◌<◌, List, Option, Some, length, slice_index_or, vec_len}
use Rattle.rv64_decode.specs.declared.instruction.Instr.{Instr}
use Rattle.rv64_decode.specs.declared.instruction.Instr.TheVariants.{Ecall}
use Rattle.rv64_decode.specs.Encoding.{Decodes, IsInRange, encoding_of}
use Rattle.ref_machine.specs.declared.decoder.DecodedWord.{DecodedWord}
use Rattle.ref_machine.specs.declared.decoder.Decoder.TheInside.{Inside}

-- a word decodes so, and in no other way
pub record DecodesOnly (word : ℕ) (found : Option Instr) : Type 0 where
  pub decodes : Decodes word found
  pub only : (i : Instr) → IsInRange i → encoding_of i ≡ word → found ≡ Some i

-- a word and its instruction
abbrev pub IsDecodedWord : DecodedWord → Type 0
IsDecodedWord e = DecodesOnly e.word (Some e.instr)

abbrev pub entry_at : List DecodedWord → ℕ → DecodedWord
entry_at entries i = slice_index_or entries i (record { word = 0x73; instr = Ecall })

abbrev pub AreDecodedWords : List DecodedWord → Type 0
AreDecodedWords entries = (i : ℕ) → i < length entries → IsDecodedWord (entry_at entries i)

abbrev pub words_view : Inside → List DecodedWord
words_view m = m.entries.items

pub record IsCache (m : Inside) : Type 0 where
  pub size : vec_len m.entries ≡ 1024
  pub entries : AreDecodedWords m.entries.items
