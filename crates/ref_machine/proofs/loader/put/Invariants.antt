-- The words so far have the part; those from here on have what lies behind it.
use Rattle.std.proofs.Common.{◌≡◌, ℕ, ◌+◌, ◌*◌, ◌^◌, ◌<◌, ◌≤◌, ◌∷◌, length, get_or}
use Rattle.elf_load.specs.Contents.{contents_word}
use Rattle.ref_machine.proofs.loader.put.Given as goal

abbrev pub invariant-loop-i : goal.invariant-loop-i
invariant-loop-i l = record {
  done : (k : ℕ) → k < l.i → k < length l.ram → get_or l.ram k 0 ≡ contents_word l.file (l.part ∷ l.rest) (2 ^ 31 + 8 * k);
  left : (k : ℕ) → l.i ≤ k → k < length l.ram → get_or l.ram k 0 ≡ contents_word l.file l.rest (2 ^ 31 + 8 * k);
}
