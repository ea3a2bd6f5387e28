-- Entries of words that were decoded.
use Rattle.std.proofs.Common.{ℕ, ◌<◌, List, length, length-set, sym, subst}
use Rattle.std.specs.Prelude.{replicate, slice_set}
use Rattle.std.proofs.lemmas.List.{get_or-replicate, length-replicate}
use Rattle.rv64_decode.specs.declared.instruction.Instr.TheVariants.{Ecall}
use Rattle.ref_machine.specs.declared.decoder.DecodedWord.{DecodedWord}
use Rattle.ref_machine.specs.Decoded.{IsDecodedWord, AreDecodedWords}
use Rattle.ref_machine.proofs.Lists.{set_at}

pub entries_first : (n : ℕ) (e : DecodedWord) → IsDecodedWord e → AreDecodedWords (replicate n e)
entries_first n e k i lt = subst IsDecodedWord (sym (get_or-replicate n i e (record { word = 0x73; instr = Ecall }) (subst (λ m. i < m) (length-replicate n e) lt))) k

pub entries_set : (entries : List DecodedWord) (a : ℕ) (e : DecodedWord) → AreDecodedWords entries → IsDecodedWord e → AreDecodedWords (slice_set entries a e)
entries_set entries a e all k i lt =
    let here : i < length entries = subst (λ n. i < n) (length-set entries a e) lt in
    set_at (record { word = 0x73; instr = Ecall }) IsDecodedWord entries a i e here k (λ ne. all i here)
